use Rattle.std.proofs.Common.{◌≡◌, ◌+◌, length}
use Rattle.lexer.specs.Views.{rest}
use Rattle.lexer.proofs.skip_part.Given as goal

abbrev pub invariant-loop-n : goal.invariant-loop-n
invariant-loop-n g l = record {
  left : rest g.C.Class.class l.fn.s ≡ rest g.C.Class.class l.left;
  size : l.n + length l.left ≡ length l.fn.s;
}
