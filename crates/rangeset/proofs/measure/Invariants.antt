use Rattle.rangeset.proofs.Measuring.{Measured}
use Rattle.passes.proofs.Turn.{ahead}
use Rattle.range.specs.Views.{compat_of}
use Rattle.walk.specs.Views.{next_is}
use Rattle.rangeset.proofs.measure.Given as goal

abbrev pub invariant-loop-at : goal.invariant-loop-at
invariant-loop-at l = Measured (compat_of l.compat) l.s l.t (next_is l.at)

abbrev pub decreases-loop-at : goal.decreases-loop-at
decreases-loop-at l = ahead (next_is l.at)
