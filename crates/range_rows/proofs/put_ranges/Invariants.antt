use lib.ListN.{length}
use Prim.Native.Nat.{◌-◌}
use Rattle.range.specs.Views.{compat_of}
use Rattle.walk.specs.Views.{step_is}
use Rattle.range_rows.proofs.Ranges.{Putting}
use Rattle.range_rows.proofs.put_ranges.Given as goal

abbrev pub invariant-loop-stage : goal.invariant-loop-stage
invariant-loop-stage l = Putting (compat_of l.set.compat) l.set.text.now l.initial.words l.initial.ids l.words l.ids l.range l.written.words l.written.ids (step_is l.x)

abbrev pub decreases-loop-stage : goal.decreases-loop-stage
decreases-loop-stage l = length l.set.text.now - l.range
