-- What an exported function hands back: the number that it returns, and what it leaves in the places that it is given.
-- Assumes nothing.
use Rattle.std.specs.Prelude.{ℕ, Result, Ok, Err}
use Rattle.rules.specs.Answers.{Outcome, Length}
use Rattle.rules.specs.Exported.{Verdict, Span}
use Rattle.refusals.specs.Views.{number_of}
use Rattle.refusals.specs.declared.Refusal.{Refusal}

-- 0, or the number of the refusal
abbrev pub refusal_in : {A : Type 0} → Result A Refusal → ℕ
refusal_in (Ok a) = 0
refusal_in (Err r) = number_of r

abbrev pub outcome : ℕ → ℕ → ℕ → ℕ → Outcome
outcome n a b c = record { refusal = n; ranges = a; comparators = b; identifiers = c }

abbrev pub length_is : ℕ → ℕ → Length
length_is n l = record { refusal = n; length = l }

abbrev pub verdict_is : ℕ → ℕ → Verdict
verdict_is n a = record { refusal = n; yes = a }

abbrev pub part_is : ℕ → ℕ → Span
part_is a k = record { from = a; size = k }
