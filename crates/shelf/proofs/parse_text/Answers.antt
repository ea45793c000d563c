use Rattle.range.specs.Views.{compat_of}
use Rattle.shelf.proofs.AddLaws.{text_short}
use Rattle.shelf.proofs.parse_text.Goals as goal

pub returns-clause-answer : goal.returns-clause-answer
returns-clause-answer c = rw (text_short (compat_of c.args.compat) c.args.text.now c.if-text-gt-TEXT_BYTES.false) c.parse.ensures.answer
