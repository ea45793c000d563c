-- The check does not find the first two with these laws named on the function; the other two give the search one clause more.
use Rattle.plain.proofs.Answering.{answers}
use borrow.Author.Rules.{rules}
use Rattle.plain.proofs.put_answer.Goals as goal

pub overflow_add-result : goal.overflow_add-result
overflow_add-result c = search (answers, rules)

pub returns-in-Ok : goal.returns-in-Ok
returns-in-Ok c = search (answers, rules)

pub put_refused-requires : goal.put_refused-requires
put_refused-requires c = search (answers, c.from.ensures, rules)

pub returns-in-Err : goal.returns-in-Err
returns-in-Err c = search (answers, c.from.ensures, rules)
