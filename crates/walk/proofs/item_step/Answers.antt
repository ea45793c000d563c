-- Not found by the check with these laws named on the function.
use Rattle.walk.proofs.Steps.{taken_lem, bare_is}
use Rattle.walk.proofs.item_step.Goals as goal

pub returns-clause-answer : goal.returns-clause-answer
returns-clause-answer c p e =
    taken_lem _ _ p _ _ _ c.in_ok-behind.behind _ c.expanded-e.result _ e c.expanded-e.ensures c.next_at.ensures
    (rw (bare_is c.args.item.now.prefix c.is_none.result c.is_none.ensures) at c.in_ok-behind.ensures)
