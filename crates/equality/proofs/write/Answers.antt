-- With this law named on the function, in the ruleset writing, the check does not find this.
use Rattle.equality.proofs.Fitting.{write-length}
use Rattle.equality.proofs.write.Goals as goal

pub returns-clause-value : goal.returns-clause-value
returns-clause-value c = write-length _ _ _ c.requires _ c.normal_text.ensures.answer _ c.unwrap.ensures
