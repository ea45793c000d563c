use Rattle.normal_text.proofs.Texts.{Counting, steps_ahead}
use Rattle.range.specs.Views.{compat_of}
use Rattle.walk.specs.Views.{step_in}
use Rattle.passes.proofs.Due.{Awaited}
use Rattle.normal_text.specs.Views.{gap_of}
use Rattle.normal_text.proofs.text_len.Given as goal

abbrev pub invariant-loop-step : goal.invariant-loop-step
invariant-loop-step l = Awaited (compat_of l.set.compat) (Counting (compat_of l.set.compat) l.set.text.now l.len (gap_of l.gap)) (step_in l.step)

abbrev pub decreases-loop-step : goal.decreases-loop-step
decreases-loop-step l = steps_ahead (step_in l.step)
