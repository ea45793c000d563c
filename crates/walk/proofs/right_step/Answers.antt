-- Not found by the check with these laws named on the function.
use Rattle.walk.proofs.Steps.{right_lem}
use Rattle.walk.proofs.right_step.Goals as goal

pub returns-clause-answer : goal.returns-clause-answer
returns-clause-answer c = right_lem c.args.left _ _ c.in_ok-closed.closed _ c.hyphen_right-e.result _ c.in_ok-partial.ensures.answer c.hyphen_right-e.ensures c.next_range.ensures c.in_ok-closed.ensures
