use Rattle.normal_text.proofs.Texts.{Putting, steps_ahead}
use Rattle.range.specs.Views.{compat_of}
use Rattle.walk.specs.Views.{step_in}
use Rattle.passes.proofs.Due.{Awaited}
use Rattle.normal_text.specs.Views.{gap_of}
use Rattle.normal_text.proofs.put_text.Given as goal

abbrev pub invariant-loop-step : goal.invariant-loop-step
invariant-loop-step l = Awaited (compat_of l.set.compat) (Putting (compat_of l.set.compat) l.set.text.now l.initial.out l.out l.end (gap_of l.gap)) (step_in l.step)

abbrev pub decreases-loop-step : goal.decreases-loop-step
decreases-loop-step l = steps_ahead (step_in l.step)
