-- What an exported function of the shelf hands back: the number that it returns, and what it leaves in the places that it is given.
-- Assumes nothing.
use Rattle.std.specs.Prelude.{ℕ}
use Rattle.shelf_rules.specs.Exported.{Found, FirstFit}

abbrev pub found_is : ℕ → ℕ → ℕ → Found
found_is n p l = record { refusal = n; place = p; length = l }

abbrev pub fit_is : ℕ → ℕ → ℕ → FirstFit
fit_is n f c = record { refusal = n; found = f; code = c }
