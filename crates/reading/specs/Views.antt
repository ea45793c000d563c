-- What a call answers that reads a text, by the text's counts.
-- Assumes nothing.
use Rattle.std.specs.Prelude.{◌≡◌, ℕ, List, Result, Ok}
use Rattle.rules.specs.Expansion.{Compat}
use Rattle.rules.specs.Answers.{reading, reading_call, reading_outcome}
use Rattle.refusals.specs.declared.Refusal.{Refusal}
use Rattle.rangeset.specs.declared.Counts.{Counts}
use Rattle.rangeset.specs.Views.{outcome_of}

-- Each call answers r that reads a text with these counts, where so many words are lent.
pub record CallsAnswer (c : Counts) (words ids : ℕ) (r : Result Counts Refusal) : Type 0 where
  pub is : (m : Compat) (s : List ℕ) → outcome_of (Ok c) ≡ reading_outcome (reading m s) → outcome_of r ≡ reading_outcome (reading_call m s words ids)
