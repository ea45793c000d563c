use Rattle.passes.proofs.Due.{ahead_in}
use Rattle.range.specs.Views.{compat_of}
use Rattle.walk.specs.Views.{step_in}
use Rattle.triples.specs.Views.{bounds_is}
use Rattle.bounds.proofs.Bounding.{Bounding-awaited}
use Rattle.bounds.proofs.bounds_of.Given as goal

abbrev pub invariant-loop-step : goal.invariant-loop-step
invariant-loop-step l = Bounding-awaited (compat_of l.set.compat) l.set.text.now (bounds_is l.all) (bounds_is l.range) (step_in l.step)

abbrev pub decreases-loop-step : goal.decreases-loop-step
decreases-loop-step l = ahead_in (step_in l.step)
