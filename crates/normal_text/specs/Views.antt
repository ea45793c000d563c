-- What the code of the normal text knows of what stands between comparators, and what it hands back.
-- Assumes nothing.
use Rattle.std.specs.Prelude.{ℕ, List, [], ◌++◌, Option, Some, None, Result, Ok, Err}
use Rattle.std.specs.Borrow.{Bor}
use Rattle.rules.specs.Bytes.{bytes}
use Rattle.rules.specs.Answers.{Length}
use Rattle.rules.specs.Walk as W
use Rattle.refusals.specs.declared.Refusal.{Refusal}
use Rattle.refusals.specs.Views.{number_of}
use Rattle.rangeset.specs.declared.RangeSet.{RangeSet}
use Rattle.normal_text.specs.declared.Gap.{Gap}

-- ---- between comparators

-- the rules' gap for the code's
abbrev pub gap_of : Gap → W.Gap
gap_of Gap.Start = W.start
gap_of Gap.Blank = W.blank
gap_of Gap.Bars = W.bars

-- where the step at this stage begins
abbrev pub gap_to : W.Stage → W.Gap → W.Gap
gap_to W.range g = W.bars
gap_to W.item g = g
gap_to W.right g = g
gap_to W.only g = g
gap_to W.end g = g
gap_to W.bad g = g

-- ---- identifiers

-- the bytes of identifiers behind their sign, if there are any
abbrev pub signed : Option (Bor (List ℕ)) → List ℕ
signed None = []
signed (Some w) = bytes "-" ++ w.now

-- ---- the answer

-- 01's number, and the length that is handed back
abbrev pub length_of : Result ℕ Refusal → Length
length_of (Ok n) = record { refusal = 0; length = n }
length_of (Err r) = record { refusal = number_of r; length = 0 }

-- with the range set that the text is
abbrev pub length_with : Result (RangeSet × ℕ) Refusal → Length
length_with (Ok x) = length_of (Ok x.1)
length_with (Err r) = length_of (Err r)
