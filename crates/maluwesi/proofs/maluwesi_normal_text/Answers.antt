use Rattle.maluwesi.proofs.Exporting.{known}
use borrow.Author.Rules.{rules}
use Rattle.maluwesi.proofs.maluwesi_normal_text.Goals as goal

pub returns : goal.returns
returns c = search (known, c.in-Ok.ensures, rules)
