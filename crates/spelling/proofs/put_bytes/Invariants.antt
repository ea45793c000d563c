use Rattle.std.proofs.Common.{◌+◌, length, take, ◌≡◌}
use Rattle.rows.specs.Put.{Put}
use Rattle.spelling.proofs.put_bytes.Given as goal

abbrev pub invariant-loop-i : goal.invariant-loop-i
invariant-loop-i l = record {
  put : Put l.initial.out l.at (take l.i l.w) l.out (l.at + l.i);
  same : length l.out ≡ length l.initial.out;
}
