-- The check finds none of these four with outcomes named on the function alone.
use Rattle.std.proofs.Common.{rules}
use Rattle.reading.proofs.Outcomes.{outcomes, read_words, read_ids}
use Rattle.reading.proofs.read.Goals as goal

pub returns-in_err-set-clause-words : goal.returns-in_err-set-clause-words
returns-in_err-set-clause-words c = let e = c.in_err-set.ensures.answer in search (outcomes, e, rules)

pub returns-in_err-set-clause-ids : goal.returns-in_err-set-clause-ids
returns-in_err-set-clause-ids c = let e = c.in_err-set.ensures.answer in search (outcomes, e, rules)

pub returns-clause-words : goal.returns-clause-words
returns-clause-words c =
    read_words c.args.s c.args.compat _ _ c.in_ok-set.set c.in_ok-set.ensures.of c.in_ok-set.ensures.answer c.in_ok-counts.ensures.room _ (search rules)

pub returns-clause-ids : goal.returns-clause-ids
returns-clause-ids c =
    read_ids c.args.s c.args.compat _ _ c.in_ok-set.set c.in_ok-set.ensures.of c.in_ok-set.ensures.answer c.in_ok-counts.ensures.room _ (search rules)
