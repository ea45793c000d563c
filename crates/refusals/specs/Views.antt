-- The number of a refusal, and what a call of the code answers as the rules have it.
-- Assumes nothing.
use Rattle.std.specs.Prelude.{ℕ, List, Result, Ok, Err}
use Rattle.std.specs.Fmt.{decimal}
use Rattle.rules.specs.Answers.{Answer, accepted, refused}
use Rattle.refusals.specs.declared.Refusal.{Refusal}

-- the numbers in 01, and from 10 on in 02
abbrev pub number_of : Refusal → ℕ
number_of Refusal.TooLong = 1
number_of Refusal.NoReading = 2
number_of Refusal.TooLarge = 3
number_of Refusal.Over = 4
number_of Refusal.ComparatorsShort = 5
number_of Refusal.IdentifiersShort = 6
number_of Refusal.BytesShort = 7
number_of Refusal.NoVersion = 8
number_of Refusal.VersionTooLarge = 9
number_of Refusal.NotShelf = 10
number_of Refusal.Full = 11
number_of Refusal.Code = 12

-- the number as a refusal prints itself
abbrev pub number_text : Refusal → List ℕ
number_text r = decimal (number_of r)

-- what is handed back, or 01's number
abbrev pub answer_of : {A : Type 0} → Result A Refusal → Answer A
answer_of (Ok a) = accepted a
answer_of (Err r) = refused (number_of r)
