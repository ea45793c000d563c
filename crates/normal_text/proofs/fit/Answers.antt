-- Not found by the check without, nor with the laws named on the function.
use Rattle.normal_text.proofs.Calls.{fit_short, fit_whole}
use Rattle.normal_text.proofs.fit.Goals as goal

pub returns-then-len-lent-clause-answer : goal.returns-then-len-lent-clause-answer
returns-then-len-lent-clause-answer c = fit_short _ _ _ c.in-Ok.set c.in-Ok.ensures.of _ c.text_len-len.ensures c.if-len-lent.true

pub returns-clause-answer : goal.returns-clause-answer
returns-clause-answer c = fit_whole _ _ _ c.in-Ok.set c.in-Ok.ensures.of _ c.text_len-len.ensures c.if-len-lent.false
