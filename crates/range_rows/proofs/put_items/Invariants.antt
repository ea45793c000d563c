use Rattle.range_rows.proofs.Items.{Listing}
use Rattle.passes.proofs.Turn.{ahead}
use Rattle.range.specs.Views.{compat_of}
use Rattle.walk.specs.Views.{next_is, step_is}
use Rattle.range_rows.proofs.put_items.Given as goal

abbrev pub invariant-loop-left : goal.invariant-loop-left
invariant-loop-left l = Listing (compat_of l.set.compat) l.set.text.now l.range l.initial.words l.initial.ids l.words l.ids l.written.words l.written.ids (step_is l.x)

abbrev pub decreases-loop-left : goal.decreases-loop-left
decreases-loop-left l = ahead (next_is l.x.next)
