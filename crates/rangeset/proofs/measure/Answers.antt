use Rattle.std.proofs.Common.{◌∙◌, ap, sym, arith}
use Rattle.walk.specs.Views.{step_in}
use Rattle.rangeset.proofs.Measuring.{measured_first, code_step, code_few, code_fewer, code_stuck}
use Rattle.rangeset.proofs.measure.Goals as goal

pub loop-at-init : goal.loop-at-init
loop-at-init c = measured_first _ _ c.requires.first_value _ _ c.comparator_count.ensures.value c.comparator_count.ensures.small c.is_over.ensures

pub returns-in_err-x : goal.returns-in_err-x
returns-in_err-x c = c.from_residual.ensures ∙ code_stuck c.loop-at.invariant c.in-Some.is (ap step_in (sym c.in_err-x.was) ∙ c.next.ensures.answer)

pub overflow_add-t-in-Some-2 : goal.overflow_add-t-in-Some-2
overflow_add-t-in-Some-2 c = let k = code_few c.loop-at.invariant c.in-Some.is c.in_ok-x.ensures.answer in let l = c.requires.s_len_bound in omega arith

pub loop-at-smaller : goal.loop-at-smaller
loop-at-smaller c = code_fewer c.loop-at.invariant c.in-Some.is c.in_ok-x.ensures.answer

pub loop-at-preserved : goal.loop-at-preserved
loop-at-preserved c =
    code_step c.loop-at.invariant c.in-Some.is c.in_ok-x.ensures.answer c.opened.ensures.value c.opened.ensures.small c.comparator_count-in-Some.ensures.value
    c.comparator_count-in-Some.ensures.small c.is_over-in-Some.ensures
