-- With these laws named on the function, the check finds neither; the search of each answer does.
use Rattle.plain.proofs.Lines.{programs}
use borrow.Author.Rules.{rules}
use Rattle.plain.proofs.plainform.Goals as goal

pub returns-then-text-gt4096-clause-put : goal.returns-then-text-gt4096-clause-put
returns-then-text-gt4096-clause-put c = search (programs, rules)

pub returns-clause-put : goal.returns-clause-put
returns-clause-put c = search (programs, rules)
