use Rattle.std.proofs.Common.{sym}
use Rattle.walk.specs.Views.{step_is}
use Rattle.admission.proofs.Admitting.{admitting_start, admits_some, admits_fewer, admits_ended, admits_within}
use Rattle.admission.proofs.admits.Goals.{then-ends_range+else-all, else-ends_range}
use Rattle.admission.proofs.admits.Goals as goal

pub loop-step-init : goal.loop-step-init
loop-step-init c = let set = c.args.set.now in admitting_start _ _ _ set.counts set.counted (step_is set.first) set.starts

pub returns-then-all : goal.returns-then-all
returns-then-all c = admits_some _ _ _ _ _ c.in-Some.x c.loop-step.invariant c.in-Some.is _ c.meets_step-all.ensures (sym c.if-ends_range.ensures) c.if-all.true

pub loop-step-smaller : goal.loop-step-smaller
loop-step-smaller c = admits_fewer _ _ _ _ _ c.in-Some.x c.loop-step.invariant c.in-Some.is _ c.following-step.ensures.answer

pub loop-step-preserved : goal.loop-step-preserved
loop-step-preserved c =
    elim c.if-ends_range.branch [
      | then-ends_range+else-all w ↦
          rw w.all-is
          (admits_ended _ _ _ _ _ c.in-Some.x c.loop-step.invariant c.in-Some.is _ c.following-step.ensures.answer _ c.meets_step-all.ensures (sym w.if-ends_range.ensures) w.if-all.false)
      | else-ends_range w ↦
          rw w.all-is
          (admits_within _ _ _ _ _ c.in-Some.x c.loop-step.invariant c.in-Some.is _ c.following-step.ensures.answer _ c.meets_step-all.ensures (sym w.if-ends_range.ensures))
    ]
