use Rattle.std.proofs.Common.{length}
use Rattle.precedence.proofs.Comparing.{Comparing}
use Rattle.precedence.proofs.compare_identifiers.Given as goal

abbrev pub invariant-loop-a : goal.invariant-loop-a
invariant-loop-a l = Comparing l.fn.v l.fn.s l.v_left l.s_left

abbrev pub decreases-loop-a : goal.decreases-loop-a
decreases-loop-a l = length l.v_left
