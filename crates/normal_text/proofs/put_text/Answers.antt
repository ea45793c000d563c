-- Not found by the check without, nor with the laws named on the function.
use Rattle.std.proofs.Common.{sym, ap}
use Rattle.walk.specs.Views.{step_in}
use Rattle.normal_text.proofs.Texts.{putting_room, putting_fewer, putting_step, putting_end, none_is}
use Rattle.normal_text.proofs.put_text.Goals as goal

pub put_step-end-requires : goal.put_step-end-requires
put_step-end-requires c = putting_room c.loop-step.invariant (ap step_in (sym c.in-Some.is))

pub loop-step-smaller : goal.loop-step-smaller
loop-step-smaller c = putting_fewer c.loop-step.invariant (ap step_in (sym c.in-Some.is)) c.following-step.ensures.answer

pub loop-step-preserved : goal.loop-step-preserved
loop-step-preserved c =
    putting_step c.loop-step.invariant (ap step_in (sym c.in-Some.is)) c.following-step.ensures.answer c.put_step-end.ensures c.after_step-gap.ensures

pub returns : goal.returns
returns c = putting_end c.loop-step.invariant (none_is _ c.in_default.not-Some)
