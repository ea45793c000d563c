-- Not found by the check without, nor with the laws named on the function.
use Rattle.normal_text.proofs.Spelled.{step_put}
use Rattle.normal_text.proofs.put_step.Goals as goal

pub returns : goal.returns
returns c = step_put _ _ c.as_read-c.ensures.answer c.after_comparator.ensures c.raised.ensures.answer c.put_after-i.ensures c.put_after.ensures
