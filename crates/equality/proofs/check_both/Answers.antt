-- The check does not find these with the three laws of Comparing named on the function.
use Rattle.std.proofs.lemmas.Result.{err_from_is_err_and}
use Rattle.equality.proofs.Comparing.{first-refused, second-refused, second-accepted}
use Rattle.equality.proofs.check_both.Goals as goal

pub returns-in_err-normal_text_len : goal.returns-in_err-normal_text_len
returns-in_err-normal_text_len c =
    let p = err_from_is_err_and c.from_residual.result c.from_residual.ensures.1 in
    rw (p.1, p.2) (first-refused _ _ _ _ _ _ _ c.normal_text_len.ensures _ c.in_err-normal_text_len.was)

pub returns-in_err-normal_text_len-2 : goal.returns-in_err-normal_text_len-2
returns-in_err-normal_text_len-2 c =
    let p = err_from_is_err_and c.from_residual-in_err-normal_text_len-2.result c.from_residual-in_err-normal_text_len-2.ensures.1 in
    rw (p.1, p.2)
    (second-refused _ _ _ _ _ _ _ c.normal_text_len.ensures _ c.in_ok-normal_text_len.was _ c.normal_text_len-2.ensures _ c.in_err-normal_text_len-2.was)

pub returns : goal.returns
returns c =
    second-accepted _ _ _ _ _ _ _ c.normal_text_len.ensures _ c.in_ok-normal_text_len.was _ c.normal_text_len-2.ensures _ c.in_ok-normal_text_len-2.was
