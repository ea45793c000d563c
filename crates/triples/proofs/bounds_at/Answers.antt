-- With this law named on the function, the check does not find this.
use Rattle.triples.proofs.TripleBytes.{bounds_read}
use Rattle.triples.proofs.bounds_at.Goals as goal

pub returns : goal.returns
returns c = bounds_read c.args.s.now c.args.at _ _ c.triple_at-low.ensures c.triple_at-high.ensures
