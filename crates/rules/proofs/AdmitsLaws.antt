-- The program `admits`: the line for a version, by its length.
-- Assumes nothing.
use mathlib.Core.Path.{◌≡◌}
use Prim.Native.Nat.{ℕ, ◌≤◌, ◌<◌}
use mathlib.Core.List.{List}
use lib.ListN.{length}
use borrow.Author.Tests.{le-leb, lt-leb}
use Rattle.rules.specs.Bytes.{bytes}
use Rattle.rules.specs.Expansion.{Compat}
use Rattle.rules.specs.Answers.{longest}
use Rattle.rules.specs.Admission.{admission_call}
use Rattle.rules.specs.Admits.{verdict_line, answer_line}

module _ (m : Compat) (t s : List ℕ) where
  pub long-line : longest < length s → answer_line m t s ≡ bytes "refused 8\n"
  unfolding answer_line
  long-line h = rw (lt-leb (length s) longest h)

  pub short-line : length s ≤ longest → answer_line m t s ≡ verdict_line s (admission_call m t s)
  unfolding answer_line
  short-line h = rw (le-leb (length s) longest h)
