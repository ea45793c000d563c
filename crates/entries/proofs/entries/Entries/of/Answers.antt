-- The check does not find the second with of_shelf named on the function; the first is there for it, and the others the check finds by the laws named.
use Rattle.std.proofs.Common.{rules, refl}
use Rattle.entries.proofs.Counting.{countings, of_shelf}
use Rattle.entries.proofs.entries.Entries.of.Goals as goal

pub returns-clause-answer : goal.returns-clause-answer
returns-clause-answer c = search (countings, rules)

pub returns-clause-shelf : goal.returns-clause-shelf
returns-clause-shelf c = of_shelf c.args.shelf.now _ (returns-clause-answer c) _ refl
