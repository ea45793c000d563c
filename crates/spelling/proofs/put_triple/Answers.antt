-- With these laws named on the function, the check finds the rooms of the three numbers, and not this one.
use Rattle.spelling.proofs.Triples.{dottings}
use borrow.Author.Rules.{rules}
use Rattle.spelling.proofs.put_triple.Goals as goal

pub returns : goal.returns
returns c = search (dottings, rules)
