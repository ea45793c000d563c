-- Not found by the check without, nor with the laws named on the function.
use Rattle.normal_text.proofs.Spelled.{one_put}
use Rattle.normal_text.proofs.put_after.Goals as goal

pub returns : goal.returns
returns c = one_put _ _ c.in-Some.is c.spelling.ensures c.put_bytes-i.ensures c.put_comparator-j.ensures c.put_identifiers.ensures
