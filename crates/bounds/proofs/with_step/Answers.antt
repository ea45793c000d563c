-- Not found by the check with these laws named on the function.
use Rattle.bounds.proofs.Bounding.{step_ranged_by}
use Rattle.bounds.proofs.with_step.Goals as goal

pub returns : goal.returns
returns c = step_ranged_by _ _ _ _ _ _ c.as_read.ensures.answer c.raised.ensures.answer c.with_optional.ensures c.with_optional-2.ensures
