use Rattle.step_rows.proofs.Writing.{step_raised, step_put}
use Rattle.step_rows.proofs.put_comparators.Goals as goal

pub put_row-requires : goal.put_row-requires
put_row-requires c =
    step_raised _ _ _ c.requires c.as_read.result c.as_read.ensures.answer c.as_read.ensures.count _ _ c.put_row-at.ensures c.raised.result c.raised.ensures.answer c.raised.ensures.count

pub returns : goal.returns
returns c =
    step_put _ _ _ c.requires c.as_read.result c.as_read.ensures.answer c.as_read.ensures.count _ _ c.put_row-at.ensures c.raised.result c.raised.ensures.answer c.raised.ensures.count _ _
    c.put_row.ensures
