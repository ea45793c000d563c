-- What the code hands back of a text's tally and of its reading.
-- Assumes nothing.
use Rattle.std.specs.Prelude as Std
use Rattle.std.specs.Prelude.{ℕ, List, Some, None, Result, Ok, Err}
use Rattle.std.proofs.Math.Option.{Option, none, some}
use Rattle.rules.specs.Expansion.{Piece}
use Rattle.rules.specs.Answers.{Outcome}
use Rattle.rules.specs.Walk as W
use Rattle.rules.specs.Walk.{tally}
use Rattle.rangeset.specs.declared.Tally.{Tally}
use Rattle.rangeset.specs.declared.Counts.{Counts}
use Rattle.refusals.specs.declared.Refusal.{Refusal}
use Rattle.refusals.specs.Views.{number_of}

-- ---- the measure

-- the rules' tally, as the code has it
abbrev pub counted : W.Tally → Tally
counted t =
    record {
      counts = record { ranges = t.ranges; comparators = t.comparators; identifiers = t.identifiers };
      large = t.large;
      over = t.over;
    }

-- none where the text has no reading
unfoldable pub tally_of : Option (List (List Piece)) → Std.Option Tally
unfolding tally
tally_of none = None
tally_of (some rs) = Some (counted (tally rs))

-- how many ranges a step at this stage begins
abbrev pub opened : W.Stage → ℕ
opened W.item = 0
opened W.range = 1
opened W.right = 0
opened W.only = 0
opened W.end = 0
opened W.bad = 0

-- ---- the answer

-- 01's number and counts: "A refused call hands back its number and zero counts"
abbrev pub outcome_of : Result Counts Refusal → Outcome
outcome_of (Ok c) = record { refusal = 0; ranges = c.ranges; comparators = c.comparators; identifiers = c.identifiers }
outcome_of (Err r) = record { refusal = number_of r; ranges = 0; comparators = 0; identifiers = 0 }
