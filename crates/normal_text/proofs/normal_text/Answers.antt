-- Not found by the check without, nor with the laws named on the function.
use Rattle.normal_text.proofs.Calls.{call-refused, set_room, set_bytes}
use Rattle.normal_text.proofs.normal_text.Goals as goal

pub returns-in_err-set-clause-bytes : goal.returns-in_err-set-clause-bytes
returns-in_err-set-clause-bytes c = call-refused _ _ _ _ c.in_err-set.ensures.answer

pub put_text-requires : goal.put_text-requires
put_text-requires c = set_room _ _ c.in_ok-set.set c.in_ok-set.ensures.of _ _ c.in_ok-set.ensures.answer

pub returns-clause-bytes : goal.returns-clause-bytes
returns-clause-bytes c = set_bytes _ _ c.in_ok-set.set c.in_ok-set.ensures.of _ _ c.in_ok-set.ensures.answer _ c.put_text.ensures
