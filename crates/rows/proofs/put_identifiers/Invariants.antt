use Rattle.std.proofs.Common.{length}
use Rattle.rows.proofs.Storing.{Storing}
use Rattle.rows.proofs.put_identifiers.Given as goal

abbrev pub invariant-loop-identifier : goal.invariant-loop-identifier
invariant-loop-identifier l = Storing l.s l.len l.initial.ids l.ids l.left l.at

abbrev pub decreases-loop-identifier : goal.decreases-loop-identifier
decreases-loop-identifier l = length l.left
