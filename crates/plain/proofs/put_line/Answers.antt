-- With these laws named on the function, the check finds neither; the search of each answer does.
use Rattle.plain.proofs.Lines.{lines}
use borrow.Author.Rules.{rules}
use Rattle.plain.proofs.put_line.Goals as goal

pub put_mode-i-requires : goal.put_mode-i-requires
put_mode-i-requires c = search (lines, rules)

pub returns : goal.returns
returns c = search (lines, rules)
