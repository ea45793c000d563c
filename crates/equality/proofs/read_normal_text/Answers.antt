-- Of this refusal the check finds one clause of the five, the answer.
use Rattle.std.proofs.lemmas.Result.{err_from_is_err_and}
use Rattle.equality.proofs.Rereading.{refused-result, refused-bytes, refused-words, refused-ids, refused-equal}
use Rattle.equality.proofs.read_normal_text.Goals as goal

pub returns-in_err-counts : goal.returns-in_err-counts
returns-in_err-counts c =
    let p = err_from_is_err_and c.from_residual.result c.from_residual.ensures.1 in
    let e = c.in_err-counts.was in
    rw (p.1, p.2)
    (record {
      answer = refused-result _ _ _ _ _ _ c.decide.ensures _ e _;
      bytes = refused-bytes _ _ _ _ _ _ c.decide.ensures _ e _;
      words = refused-words _ _ _ _ _ _ c.decide.ensures _ e _;
      ids = refused-ids _ _ _ _ _ _ c.decide.ensures _ e _;
      equal = refused-equal _ _ _ _ _ _ c.decide.ensures _ e;
    })
