use Rattle.admission.proofs.Admitting.{held_refused}
use Rattle.admission.proofs.admits_held.Goals as goal

pub returns-in-Err : goal.returns-in-Err
returns-in-Err c = held_refused _ _ _ c.in-Err.ensures.answer _
