use Rattle.std.proofs.lemmas.Result.{err_from_is_err_and}
use Rattle.shelf.proofs.ListLaws.{missing, within, listed}
use Rattle.shelf.proofs.list.Goals as goal

pub returns-in_err-k : goal.returns-in_err-k
returns-in_err-k c =
    let e = c.in_ok-entries.entries in
    let p = err_from_is_err_and c.from_residual-in_err-k.result c.from_residual-in_err-k.ensures.1 in
    rw (p.1, p.2) (missing c.args.shelf.now c.args.code e c.in_ok-entries.ensures.shelf c.find_code.result c.find_code.ensures c.in_err-k.field-0.0 c.in_err-k.ensures.value)

pub part_at-requires : goal.part_at-requires
part_at-requires c =
    let e = c.in_ok-entries.entries in
    within c.args.shelf.now c.args.code e c.in_ok-entries.ensures.shelf c.find_code.result c.find_code.ensures c.in_ok-k.k c.in_ok-k.ensures.value

pub returns : goal.returns
returns c =
    let e = c.in_ok-entries.entries in
    listed c.args.shelf.now c.args.code e c.in_ok-entries.ensures.shelf c.find_code.result c.find_code.ensures c.in_ok-k.k c.in_ok-k.ensures.value c.part_at.result c.part_at.ensures
