-- How much is put for a range.
-- Assumes nothing.
use Rattle.std.specs.Prelude.{ℕ, Result, Ok, Err}

-- no byte where the range is read
abbrev pub length_put : {A : Type 0} → Result A ℕ → ℕ
length_put (Ok a) = 0
length_put (Err len) = len
