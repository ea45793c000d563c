-- With the laws of triples named on the function, the check finds the rooms, and not this one.
use Rattle.spelling.proofs.Triples.{triple-put}
use Rattle.spelling.proofs.put_comparator.Goals as goal

pub returns : goal.returns
returns c = triple-put c.args.c.now c.args.out.now c.args.at c.put_bytes-i.new.out c.put_bytes-i.result (rw c.spelling.ensures at c.put_bytes-i.ensures) _ _ c.put_triple.ensures
