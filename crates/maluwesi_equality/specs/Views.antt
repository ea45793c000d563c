-- The modes of a call that takes two, and what a call that reads a normal text again hands back.
-- Assumes nothing.
use Rattle.rules.specs.Answers.{Answer, accepted, refused}
use Rattle.std.specs.Prelude.{ℕ, Result, Ok, Err}
use Rattle.rules.specs.Expansion as E
use Rattle.rules.specs.Exported.{RereadNumbers}
use Rattle.numbers.specs.Views.{outcome}
use Rattle.range.specs.Views.{compat_of}
use Rattle.range.specs.declared.Compat.{Compat}
use Rattle.range.specs.declared.UnknownMode.{UnknownMode}

-- both modes, or none where a number is no mode's
abbrev pub modes_are : Result (Compat × Compat) UnknownMode → Answer (E.Compat × E.Compat)
modes_are (Ok ms) = accepted (compat_of ms.0, compat_of ms.1)
modes_are (Err e) = refused 255

-- the number of the refusal, the counts, and 1 where it is the normal text that is refused
abbrev pub reread_is : ℕ → ℕ → ℕ → ℕ → ℕ → RereadNumbers
reread_is n z a b c = record { outcome = outcome n a b c; normal = z }
