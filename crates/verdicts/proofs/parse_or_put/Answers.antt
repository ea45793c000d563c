-- With ranges named on the function, the check finds none of these; each gives the search clauses besides.
use borrow.Author.Rules.{rules}
use Rattle.verdicts.proofs.Ranges.{ranges}
use Rattle.verdicts.proofs.parse_or_put.Goals as goal

pub put_refused-end-requires : goal.put_refused-end-requires
put_refused-end-requires c = search (ranges, c.in-Err.ensures.answer, c.from.ensures, rules)

pub put_bytes-requires : goal.put_bytes-requires
put_bytes-requires c = search (ranges, c.in-Err.ensures.answer, c.from.ensures, rules)

pub returns-in-Ok-clause-put : goal.returns-in-Ok-clause-put
returns-in-Ok-clause-put c = search (ranges, c.in-Ok.ensures.answer, rules)

pub returns-in-Err-clause-put : goal.returns-in-Err-clause-put
returns-in-Err-clause-put c = search (ranges, c.in-Err.ensures.answer, c.from.ensures, rules)

pub returns-in-Err-clause-within : goal.returns-in-Err-clause-within
returns-in-Err-clause-within c = search (ranges, c.in-Err.ensures.answer, c.from.ensures, rules)
