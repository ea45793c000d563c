use Rattle.std.proofs.Common.{◌≡◌, length}
use Rattle.rules.specs.Bytes.{is_digit}
use Rattle.lexer.specs.Views.{rest, digits_after}
use Rattle.lexer.proofs.Numbers.{digits_behind}
use Rattle.lexer.proofs.read_digits.Given as goal

abbrev pub invariant-loop-left : goal.invariant-loop-left
invariant-loop-left l = record {
  value : digits_after l.fn.start l.fn.s ≡ digits_behind l.value l.left;
  left : rest is_digit l.fn.s ≡ rest is_digit l.left;
}

abbrev pub decreases-loop-left : goal.decreases-loop-left
decreases-loop-left l = length l.left
