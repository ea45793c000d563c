use Rattle.shelf.proofs.ListLaws.{text_refused}
use Rattle.shelf.proofs.text.Goals as goal

pub returns-in-Err : goal.returns-in-Err
returns-in-Err c = text_refused c.args.shelf.now c.args.code c.list.result c.list.ensures _ c.in-Err.is
