use Rattle.passes.proofs.Due.{ahead_in}
use Rattle.range.specs.Views.{compat_of}
use Rattle.walk.specs.Views.{step_in}
use Rattle.version.specs.Views.{version_is}
use Rattle.admission.proofs.Admitting.{Admitting-awaited}
use Rattle.admission.proofs.admits.Given as goal

abbrev pub invariant-loop-step : goal.invariant-loop-step
invariant-loop-step l = Admitting-awaited (compat_of l.set.compat) l.set.text.now (version_is l.v) l.all (step_in l.step)

abbrev pub decreases-loop-step : goal.decreases-loop-step
decreases-loop-step l = ahead_in (step_in l.step)
