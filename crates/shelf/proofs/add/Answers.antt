use Rattle.std.proofs.lemmas.Result.{err_from_is_err_and}
use Rattle.range.specs.Views.{compat_of}
use Rattle.entries.proofs.Counting.{shelf_counted}
use Rattle.shelf.proofs.AddLaws.{Enterable, enterable, text_within, not_added, unread, there, full, room, added}
use Rattle.shelf.proofs.add.Goals as goal

pub returns-in_err-entries : goal.returns-in_err-entries
returns-in_err-entries c =
    let p = err_from_is_err_and c.from_residual.result c.from_residual.ensures.1 in
    let q = not_added c.args.code (compat_of c.args.compat) c.args.text.now c.args.shelf.now c.of.result c.of.ensures.answer _ c.in_err-entries.was in
    record { answer = rw (p.1, p.2, q); bytes = rw q }

pub returns-in_err-set : goal.returns-in_err-set
returns-in_err-set c =
    let e = c.in_ok-entries.entries in
    let p = err_from_is_err_and c.from_residual-in_err-set.result c.from_residual-in_err-set.ensures.1 in
    let q = unread c.args.code (compat_of c.args.compat) c.args.text.now c.args.shelf.now e c.in_ok-entries.ensures.shelf _ c.in_err-set.ensures.answer in
    record { answer = rw (p.1, p.2, q); bytes = rw q }

pub returns-then-is_some : goal.returns-then-is_some
returns-then-is_some c =
    let e = c.in_ok-entries.entries in
    let r : Enterable (compat_of c.args.compat) c.args.text.now = enterable (compat_of c.args.compat) c.args.text.now c.in_ok-set.set.counts c.in_ok-set.ensures.answer in
    let q = there c.args.code (compat_of c.args.compat) c.args.text.now c.args.shelf.now e c.in_ok-entries.ensures.shelf r c.find_code.result c.find_code.ensures c.is_some.result c.is_some.ensures c.if-is_some.true in
    record { answer = rw q; bytes = rw q }

pub returns-then-entries-eq-CAPACITY : goal.returns-then-entries-eq-CAPACITY
returns-then-entries-eq-CAPACITY c =
    let e = c.in_ok-entries.entries in
    let r : Enterable (compat_of c.args.compat) c.args.text.now = enterable (compat_of c.args.compat) c.args.text.now c.in_ok-set.set.counts c.in_ok-set.ensures.answer in
    let q = full c.args.code (compat_of c.args.compat) c.args.text.now c.args.shelf.now e c.in_ok-entries.ensures.shelf r c.find_code.result c.find_code.ensures c.is_some.result c.is_some.ensures c.if-is_some.false c.if-entries-eq-CAPACITY.true in
    record { answer = rw q; bytes = rw q }

pub add_at-requires : goal.add_at-requires
add_at-requires c =
    let e = c.in_ok-entries.entries in
    let r : Enterable (compat_of c.args.compat) c.args.text.now = enterable (compat_of c.args.compat) c.args.text.now c.in_ok-set.set.counts c.in_ok-set.ensures.answer in
    record {
      counted = shelf_counted c.args.shelf.now e c.in_ok-entries.ensures.shelf;
      n_lt_capacity = room c.args.code (compat_of c.args.compat) c.args.text.now c.args.shelf.now e c.in_ok-entries.ensures.shelf r c.find_code.result c.find_code.ensures c.is_some.result c.is_some.ensures c.if-is_some.false c.if-entries-eq-CAPACITY.false;
      text_len_bound = text_within (compat_of c.args.compat) c.args.text.now r;
    }

pub returns : goal.returns
returns c =
    let e = c.in_ok-entries.entries in
    let r : Enterable (compat_of c.args.compat) c.args.text.now = enterable (compat_of c.args.compat) c.args.text.now c.in_ok-set.set.counts c.in_ok-set.ensures.answer in
    let q = added c.args.code (compat_of c.args.compat) c.args.text.now c.args.shelf.now e c.in_ok-entries.ensures.shelf r c.find_code.result c.find_code.ensures c.is_some.result c.is_some.ensures c.if-is_some.false c.if-entries-eq-CAPACITY.false c.bounds_of.result (rw (c.in_ok-set.ensures.of.0, c.in_ok-set.ensures.of.1) at c.bounds_of.ensures) in
    record { answer = rw q; bytes = rw q c.add_at.ensures }
