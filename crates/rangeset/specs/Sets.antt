-- What the code hands back of a range set that was read.
-- Assumes nothing.
use Rattle.std.specs.Prelude.{◌≡◌, ℕ, List, Result, Ok, Err}
use Rattle.std.specs.Borrow.{Bor}
use Rattle.rules.specs.Answers.{Outcome}
use Rattle.range.specs.declared.Compat.{Compat}
use Rattle.refusals.specs.declared.Refusal.{Refusal}
use Rattle.rangeset.specs.declared.RangeSet.{RangeSet}
use Rattle.rangeset.specs.Views.{outcome_of}

-- 01's number and counts, as of the counts alone
abbrev pub set_outcome : Result RangeSet Refusal → Outcome
set_outcome (Ok set) = outcome_of (Ok set.counts)
set_outcome (Err r) = outcome_of (Err r)

-- the range set was read of the text s under the mode m
abbrev pub IsSetOf : Bor (List ℕ) → Compat → RangeSet → Type 0
IsSetOf s m set = (set.text ≡ s) × (set.compat ≡ m)
