-- Not found by the check without, nor with the laws named on the function.
use Rattle.std.proofs.Common.{sym, ap, arith}
use Rattle.walk.specs.Views.{step_in}
use Rattle.normal_text.proofs.Texts.{counting_room, counting_fits, counting_fewer, counting_step, counting_end, none_is}
use Rattle.normal_text.proofs.text_len.Goals as goal

pub step_len-len-requires : goal.step_len-len-requires
step_len-len-requires c = counting_room c.loop-step.invariant (ap step_in (sym c.in-Some.is))

pub overflow_add-len : goal.overflow_add-len
overflow_add-len c = omega (arith, counting_fits c.loop-step.invariant (ap step_in (sym c.in-Some.is)) c.step_len-len.ensures)

pub loop-step-smaller : goal.loop-step-smaller
loop-step-smaller c = counting_fewer c.loop-step.invariant (ap step_in (sym c.in-Some.is)) c.following-step.ensures.answer

pub loop-step-preserved : goal.loop-step-preserved
loop-step-preserved c =
    counting_step c.loop-step.invariant (ap step_in (sym c.in-Some.is)) c.following-step.ensures.answer c.step_len-len.ensures c.after_step-gap.ensures

pub returns : goal.returns
returns c = counting_end c.loop-step.invariant (none_is _ c.in_default.not-Some)
