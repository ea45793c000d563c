use Rattle.std.proofs.lemmas.Result.{err_from_is_err_and}
use Rattle.entries.proofs.Counting.{shelf_counted}
use Rattle.shelf.proofs.ChangeLaws.{not_removed, missing, below, removed}
use Rattle.shelf.proofs.remove.Goals as goal

pub returns-in_err-entries : goal.returns-in_err-entries
returns-in_err-entries c =
    let p = err_from_is_err_and c.from_residual.result c.from_residual.ensures.1 in
    let q = not_removed c.args.shelf.now c.args.code c.of.result c.of.ensures.answer _ c.in_err-entries.was in
    record { answer = rw (p.1, p.2, q); bytes = rw q }

pub returns-in_err-k : goal.returns-in_err-k
returns-in_err-k c =
    let e = c.in_ok-entries.entries in
    let p = err_from_is_err_and c.from_residual-in_err-k.result c.from_residual-in_err-k.ensures.1 in
    let q = missing c.args.shelf.now c.args.code e c.in_ok-entries.ensures.shelf c.find_code.result c.find_code.ensures _ c.in_err-k.ensures.value in
    record { answer = rw (p.1, p.2, q); bytes = rw q }

pub remove_at-requires : goal.remove_at-requires
remove_at-requires c =
    let e = c.in_ok-entries.entries in
    record { counted = shelf_counted c.args.shelf.now e c.in_ok-entries.ensures.shelf; k_lt_n = below c.args.shelf.now c.args.code e c.in_ok-entries.ensures.shelf c.find_code.result c.find_code.ensures c.in_ok-k.k c.in_ok-k.ensures.value }

pub returns : goal.returns
returns c =
    let e = c.in_ok-entries.entries in
    let q = removed c.args.shelf.now c.args.code e c.in_ok-entries.ensures.shelf c.find_code.result c.find_code.ensures c.in_ok-k.k c.in_ok-k.ensures.value in
    record { answer = rw q; bytes = rw q c.remove_at.ensures }
