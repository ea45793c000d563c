-- With these laws named on the function, the check does not find this; the search of the answer does.
use Rattle.verdicts.proofs.Lines.{lines}
use borrow.Author.Rules.{rules}
use Rattle.verdicts.proofs.put_line.Goals as goal

pub returns : goal.returns
returns c = search (lines, rules)
