use Rattle.rows.proofs.Storing.{storing_more}
use Rattle.rows.proofs.put_identifiers.Goals as goal

pub loop-identifier-preserved : goal.loop-identifier-preserved
loop-identifier-preserved c =
    storing_more _ _ _ _ _ _ c.loop-identifier.invariant c.in-Some.identifier _ c.in-Some.ensures _ (rw c.saturating_sub.ensures at c.put_identifier.ensures) _ c.in-Some-skip_dot.ensures
