use Rattle.std.proofs.Common.{◌≡◌, length}
use Rattle.rules.specs.Parse.{skip}
use Rattle.lexer.proofs.skip_further_spaces.Given as goal

abbrev pub invariant-loop-left : goal.invariant-loop-left
invariant-loop-left l = skip l.fn.s ≡ skip l.left

abbrev pub decreases-loop-left : goal.decreases-loop-left
decreases-loop-left l = length l.left
