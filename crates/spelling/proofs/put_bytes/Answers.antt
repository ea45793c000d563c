use Rattle.std.proofs.Common.{arith, length-set}
use Rattle.spelling.proofs.Copying.{copied_more}
use Rattle.spelling.proofs.put_bytes.Goals as goal

pub loop-i-preserved : goal.loop-i-preserved
loop-i-preserved c =
    record { put = copied_more _ _ _ _ _ c.loop-i.invariant.put (omega (arith, c.loop-i-test.true)); same = simp length-set c.loop-i.invariant.same }
