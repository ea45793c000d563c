-- With these laws named on the function, the check finds the rooms of both lines, and not this one.
use Rattle.plain.proofs.Lines.{both_lines}
use borrow.Author.Rules.{rules}
use Rattle.plain.proofs.put_lines.Goals as goal

pub returns : goal.returns
returns c = search (both_lines, rules)
