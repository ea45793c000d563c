-- The check finds none of these three: space-refused and space-1 are named on the function, in the ruleset deciding, and space-answer joins two of its laws.
use Rattle.std.proofs.lemmas.Result.{err_from_is_err_and}
use Rattle.equality.proofs.Rereading.{space-refused, space-1, space-answer}
use Rattle.equality.proofs.decide.Goals as goal

pub returns-in_err-len : goal.returns-in_err-len
returns-in_err-len c =
    let p = err_from_is_err_and c.from_residual-in_err-len.result c.from_residual-in_err-len.ensures.1 in
    rw (p.1, p.2) (space-refused _ _ _ _ _ _ c.in_ok-counts.ensures _ c.normal_text_len.ensures _ c.in_err-len.was)

pub returns-then-len-gt-LONGEST : goal.returns-then-len-gt-LONGEST
returns-then-len-gt-LONGEST c = space-1 _ _ _ _ _ _ c.in_ok-counts.ensures _ c.normal_text_len.ensures _ c.in_ok-len.was c.if-len-gt-LONGEST.true

pub returns : goal.returns
returns c =
    space-answer _ _ _ _ _ _ c.in_ok-counts.ensures _ c.normal_text_len.ensures _ c.in_ok-len.was c.if-len-gt-LONGEST.false _ c.counts_within.ensures.answer
    c.counts_within.ensures.room _ c.map_err.ensures.cases
