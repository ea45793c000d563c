use Rattle.std.proofs.Common.{length}
use Rattle.data_rows.proofs.replay.Given as goal

abbrev pub decreases-loop-rest : goal.decreases-loop-rest
decreases-loop-rest g l = length l.rest.bytes.now
