-- Not found by the check with these laws named on the function.
use Rattle.std.proofs.Common.{ap, sym}
use Rattle.walk.specs.Views.{step_is, step_in}
use Rattle.bounds.proofs.Bounding.{bounding_start, bounding_fewer, bounding_ended, bounding_within}
use Rattle.bounds.proofs.bounds_of.Goals.{then-ends_range, else-ends_range}
use Rattle.bounds.proofs.bounds_of.Goals as goal

pub loop-step-init : goal.loop-step-init
loop-step-init c = let set = c.args.set.now in bounding_start _ _ set.counts set.counted (step_is set.first) set.starts

pub loop-step-smaller : goal.loop-step-smaller
loop-step-smaller c = bounding_fewer _ _ _ _ _ (step_is c.in-Some.x) c.loop-step.invariant (ap step_in (sym c.in-Some.is)) _ c.following-step.ensures.answer

pub loop-step-preserved : goal.loop-step-preserved
loop-step-preserved c =
    elim c.if-ends_range.branch [
      | then-ends_range w ↦
          rw (w.all-is, w.range-is, w.joined-all.ensures)
          (bounding_ended _ _ _ _ _ (step_is c.in-Some.x) c.loop-step.invariant (ap step_in (sym c.in-Some.is)) _ c.following-step.ensures.answer _ c.with_step-range.ensures
          (sym w.if-ends_range.ensures))
      | else-ends_range w ↦
          rw (w.all-is, w.range-is)
          (bounding_within _ _ _ _ _ (step_is c.in-Some.x) c.loop-step.invariant (ap step_in (sym c.in-Some.is)) _ c.following-step.ensures.answer _ c.with_step-range.ensures
          (sym w.if-ends_range.ensures))
    ]
