-- Not found by the check with these laws named on the function.
use Rattle.maluwesi_equality.proofs.Exporting.{both}
use borrow.Author.Rules.{rules}
use Rattle.maluwesi_equality.proofs.maluwesi_read_normal_text.Goals as goal

pub returns : goal.returns
returns c = search (both, c.in-Ok.ensures, rules)
