-- What the calls hand back.
-- Assumes nothing.
use Rattle.std.specs.Prelude.{ℕ, Result, Ok, Err}
use Rattle.rules.specs.Answers.{Answer, accepted, refused}
use Rattle.refusals.specs.Views.{number_of}
use Rattle.refusals.specs.declared.Refusal.{Refusal}
use Rattle.shelf_rules.specs.Shelf as S
use Rattle.entries.specs.Views.{part_of}
use Rattle.entries.specs.declared.entries.Part.{Part}

-- 02's number of a change; 0 where it is done
abbrev pub change_of : Result (Unit {0}) Refusal → ℕ
change_of (Ok u) = 0
change_of (Err r) = number_of r

abbrev pub listing_of : Result Part Refusal → Answer S.Part
listing_of (Ok p) = accepted (part_of p)
listing_of (Err r) = refused (number_of r)
