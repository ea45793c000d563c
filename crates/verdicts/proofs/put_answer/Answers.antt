-- The check finds none of these without an answer; each gives the search a clause of its arm besides the laws.
use Rattle.verdicts.proofs.Answering.{answers}
use borrow.Author.Rules.{rules}
use Rattle.verdicts.proofs.put_answer.Goals as goal

pub put_bytes-requires : goal.put_bytes-requires
put_bytes-requires c = search (answers, c.in-Ok-true.field-0-test, rules)

pub put_bytes-requires-in-Ok-false : goal.put_bytes-requires-in-Ok-false
put_bytes-requires-in-Ok-false c = search (answers, c.in-Ok-false.field-0-test, rules)

pub put_refused-requires : goal.put_refused-requires
put_refused-requires c = search (answers, c.from.ensures, rules)

pub returns-in-Ok-true : goal.returns-in-Ok-true
returns-in-Ok-true c = search (answers, c.in-Ok-true.field-0-test, rules)

pub returns-in-Ok-false : goal.returns-in-Ok-false
returns-in-Ok-false c = search (answers, c.in-Ok-false.field-0-test, rules)

pub returns-in-Err : goal.returns-in-Err
returns-in-Err c = search (answers, c.from.ensures, rules)
