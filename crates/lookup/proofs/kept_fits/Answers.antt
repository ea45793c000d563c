use Rattle.entries.specs.Views.{row_at, kept_at}
use Rattle.lookup.proofs.LookupLaws.{kept_as}
use Rattle.lookup.proofs.kept_fits.Goals as goal

pub returns-then-encloses : goal.returns-then-encloses
returns-then-encloses c =
    let l = c.args.entries.bytes.now in
    let e = kept_as (row_at c.args.k l) (kept_at c.args.k l) c.args.v.now c.kept.result c.kept.ensures c.new-triple.result c.new-triple.ensures in
    rw (e, ← c.encloses.ensures, c.if-encloses.true, ← c.row.ensures.bytes) c.entry_fits.ensures

pub returns-else-encloses : goal.returns-else-encloses
returns-else-encloses c =
    let l = c.args.entries.bytes.now in
    let e = kept_as (row_at c.args.k l) (kept_at c.args.k l) c.args.v.now c.kept.result c.kept.ensures c.new-triple.result c.new-triple.ensures in
    rw (e, ← c.encloses.ensures, c.if-encloses.false)
