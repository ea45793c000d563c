-- With these laws named on the function, the check finds neither; the search of each answer does.
use Rattle.verdicts.proofs.Lines.{verdicts}
use borrow.Author.Rules.{rules}
use Rattle.verdicts.proofs.put_verdict.Goals as goal

pub returns-then-line-gt-LONGEST-clause-put : goal.returns-then-line-gt-LONGEST-clause-put
returns-then-line-gt-LONGEST-clause-put c = search (verdicts, rules)

pub returns-clause-put : goal.returns-clause-put
returns-clause-put c = search (verdicts, rules)
