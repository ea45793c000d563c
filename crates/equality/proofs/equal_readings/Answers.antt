-- The check finds neither: not the refusal with the clauses of written_ways, which are named on the function, nor the two requirements of compare.
use Rattle.std.proofs.lemmas.Result.{err_from_is_err_and}
use Rattle.equality.proofs.Comparing.{refused-result, refused-first, refused-second, refused-tells, writes-first, writes-second}
use Rattle.equality.proofs.equal_readings.Goals as goal

pub returns-in_err-check_both : goal.returns-in_err-check_both
returns-in_err-check_both c =
    let p = err_from_is_err_and c.from_residual.result c.from_residual.ensures.1 in
    let e = c.in_err-check_both.ensures in
    rw (p.1, p.2)
    (record {
      answer = refused-result _ _ _ _ _ _ _ e;
      first = refused-first _ _ _ _ _ _ _ e;
      second = refused-second _ _ _ _ _ _ _ e;
      equal = refused-tells _ _ _ _ _ _ _ e;
    })

pub compare-requires : goal.compare-requires
compare-requires c =
    let x = c.in_ok-check_both.ensures in
    record { fits = writes-first _ _ _ _ _ _ x; fits_2 = writes-second _ _ _ _ _ _ x }
