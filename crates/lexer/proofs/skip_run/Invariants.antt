use Rattle.std.proofs.Common.{◌≡◌, length}
use Rattle.lexer.specs.Views.{rest}
use Rattle.lexer.proofs.skip_run.Given as goal

abbrev pub invariant-loop-left : goal.invariant-loop-left
invariant-loop-left g l = rest g.C.Class.class l.fn.s ≡ rest g.C.Class.class l.left

abbrev pub decreases-loop-left : goal.decreases-loop-left
decreases-loop-left g l = length l.left
