-- The check does not find this with entry_removed named on the function, whose count is read from two bytes.
use Rattle.std.proofs.Common.{◌∙◌}
use Rattle.entries.proofs.Changing.{entry_removed}
use Rattle.entries.proofs.remove_at.Goals as goal

pub returns : goal.returns
returns c =
    let e = c.from-n.ensures ∙ c.two_at.ensures in
    c.put_two.ensures
    ∙ entry_removed c.args.shelf.now c.from-n.result c.args.k (rw e c.requires.counted) (rw e c.requires.k_lt_n) _ c.remove_row.ensures _ c.remove_row-2.ensures
