use Rattle.shelf.proofs.ChangeLaws.{is_emptied, not_emptied, zeros}
use Rattle.shelf.proofs.make_empty.Goals as goal

pub returns-then-n-ne-SHELF_BYTES : goal.returns-then-n-ne-SHELF_BYTES
returns-then-n-ne-SHELF_BYTES c = let e = not_emptied c.args.shelf.now c.if-n-ne-SHELF_BYTES.true in record { answer = rw e; bytes = rw e }

pub returns : goal.returns
returns c =
    let e = is_emptied c.args.shelf.now c.if-n-ne-SHELF_BYTES.false in
    record { answer = rw e; bytes = rw e (zeros c.args.shelf.now c.if-n-ne-SHELF_BYTES.false c.clear.new.s c.clear.ensures) }
