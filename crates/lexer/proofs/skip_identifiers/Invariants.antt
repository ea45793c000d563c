use Rattle.std.proofs.Common.{◌≡◌, ◌+◌, ◌≤◌, length}
use Rattle.rules.specs.Parse.{all}
use Rattle.rules.specs.Version.{read_after_dot}
use Rattle.lexer.specs.Views.{read_series}
use Rattle.lexer.proofs.Series.{counted, plus}
use Rattle.lexer.proofs.skip_identifiers.Given as goal

abbrev pub invariant-loop-behind : goal.invariant-loop-behind
invariant-loop-behind g l = record {
  is : counted (read_series g.R.Reader.reads l.fn.s) ≡ plus l.count (counted (all (read_after_dot g.R.Reader.reads) l.left));
  few : l.count + length l.left ≤ length l.fn.s;
}

abbrev pub decreases-loop-behind : goal.decreases-loop-behind
decreases-loop-behind g l = length l.left
