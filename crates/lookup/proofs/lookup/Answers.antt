use Rattle.std.proofs.Common.{rules}
use Rattle.std.proofs.lemmas.Result.{err_from_is_err_and}
use Rattle.rules.specs.Admission.{admits}
use Rattle.version.specs.Views.{version_is}
use Rattle.version.proofs.VersionLaws.{version_held, version_refused}
use Rattle.shelf_rules.specs.Lookup.{kept_fits}
use Rattle.entries.specs.Views.{row_at, kept_at}
use Rattle.lookup.proofs.LookupLaws.{not_looked, no_version, entry_room, kept_room, looked}
use Rattle.lookup.proofs.lookup.Goals as goal

pub returns-in_err-entries : goal.returns-in_err-entries
returns-in_err-entries c =
    let p = err_from_is_err_and c.from_residual.result c.from_residual.ensures.1 in
    rw (p.1, p.2) (not_looked c.args.shelf.now c.args.t.now c.of.result c.of.ensures.answer _ c.in_err-entries.was)

pub returns-in_err-v : goal.returns-in_err-v
returns-in_err-v c =
    let e = c.in_ok-entries.entries in
    let p = err_from_is_err_and c.from_residual-in_err-v.result c.from_residual-in_err-v.ensures.1 in
    rw (p.1, p.2) (no_version c.args.shelf.now c.args.t.now e c.in_ok-entries.ensures.shelf _ (version_refused c.args.t.now c.read_version.result c.read_version.ensures.answer _ c.in_err-v.was))

pub first-requires : goal.first-requires
first-requires c = λ k i.
    let e = c.in_ok-entries.entries in
    let g = version_held c.args.t.now c.read_version.result c.read_version.ensures.answer c.in_ok-v.v c.in_ok-v.was in
    let a = entry_room c.args.shelf.now c.args.t.now e c.in_ok-entries.ensures.shelf k i in
    let b = kept_room c.args.shelf.now c.args.t.now e c.in_ok-entries.ensures.shelf k i in
    search rules

pub returns : goal.returns
returns c =
    let e = c.in_ok-entries.entries in
    let g = version_held c.args.t.now c.read_version.result c.read_version.ensures.answer c.in_ok-v.v c.in_ok-v.was in
    looked c.args.shelf.now c.args.t.now e c.in_ok-entries.ensures.shelf c.in_ok-v.v g c.first.result
    (c.first.ensures (λ k. kept_fits admits (version_is c.in_ok-v.v) (row_at k e.bytes.now) (kept_at k e.bytes.now)) (λ k b i q. search rules))
