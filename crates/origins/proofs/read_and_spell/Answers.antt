-- What was written lies within the lent bytes.
use Rattle.origins.proofs.Within.{within}
use Rattle.origins.proofs.read_and_spell.Goals as goal

pub returns : goal.returns
returns c = within _ _ _ _ _ c.normal_text.ensures.answer c.normal_text.ensures.bytes
