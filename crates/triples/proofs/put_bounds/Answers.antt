-- With this law named on the function, rt check --margin does not find this: its search gives up at a limit.
use Rattle.std.proofs.Common.{rules}
use Rattle.triples.proofs.TripleBytes.{bounds_puts}
use Rattle.triples.proofs.put_bounds.Goals as goal

pub returns : goal.returns
returns c = search (bounds_puts, rules)
