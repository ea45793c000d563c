-- 01's answers as a user of the crate sees them.
-- Assumes nothing.
use Rattle.std.specs.Prelude.{eqb}
use Rattle.rules.specs.Bytes.{pick}
use Rattle.rules.specs.Expansion as E
use Rattle.rules.specs.Expansion.{Reading}
use Rattle.rules.specs.Rows.{placeless_reading}
use Rattle.rules.specs.Answers.{Answer, accepted, refused}
use Rattle.reference.specs.Range.{Compat, Cargo, Npm}
use Rattle.reference.specs.RangeSet.{Returned, Ok, Err, panicked}

-- 01's mode for the crate's
abbrev pub mode : Compat → E.Compat
mode Cargo = E.cargo
mode Npm = E.npm

-- Accepted is `Ok` with the same comparators, whose identifiers have no places; 2 is `Err`; 3 and 4 are a panic. The crate has no limit like 1's, and the
-- theorems speak of no text beyond it.
unfoldable pub seen : Answer Reading → Returned
seen (accepted rs) = Ok (placeless_reading rs)
seen (refused n) = pick (eqb n 2) Err panicked
