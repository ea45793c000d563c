-- Not found by the check without, with the laws named on the function.
use Rattle.precedence.proofs.Orders.{digits_compared}
use Rattle.precedence.proofs.compare_digits.Goals as goal

pub returns : goal.returns
returns c = digits_compared _ _ _ _ _ c.cmp.ensures c.cmp-2.ensures c.then.ensures
