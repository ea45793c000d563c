-- What a reading call hands back, as a user of the crate sees it.
-- Assumes nothing.
use Rattle.std.specs.Prelude.{ℕ, ◌/◌, ◌≤◌, List, eqb}
use Rattle.rules.specs.Bytes.{pick}
use Rattle.rules.specs.Expansion.{Reading}
use Rattle.rules.specs.Rows.{comparator_width}
use Rattle.rules.specs.Answers.{Answer, accepted, refused, comparator_rows, identifier_rows, Outcome}
use Rattle.rules.specs.Equality.{handed_back}
use Rattle.reference.specs.RangeSet.{Returned, Ok, Err, panicked, endless}
use Rattle.reference.specs.Seen.{seen}

-- by its number and counts, and by the words of the two slices after the call: 01's answer to the text t
unfoldable pub answer_in : List ℕ → Outcome → List ℕ → List ℕ → Answer Reading
answer_in t o words ids = pick (eqb o.refusal 0) (accepted (handed_back t o words ids)) (refused o.refusal)

unfoldable pub handed : List ℕ → Outcome → List ℕ → List ℕ → Returned
handed t o words ids = seen (answer_in t o words ids)

-- The rows of what the crate returns fit so many lent words.
abbrev pub RowsFit : Returned → ℕ → ℕ → Type 0
RowsFit (Ok ranges) cw iw = (comparator_rows ranges ≤ cw / comparator_width) × (identifier_rows ranges ≤ iw / 3)
RowsFit Err cw iw = Unit {0}
RowsFit panicked cw iw = Unit {0}
RowsFit endless cw iw = Unit {0}
