use Rattle.memory.proofs.Padding.{padded}
use Rattle.memory.proofs.put_padded.Goals as goal

pub returns : goal.returns
returns c = padded _ _ _ _ _ _ _ c.requires.w_len_bound c.requires.size_in_bounds c.put_bytes-end.ensures c.clear.ensures
