-- The bytes that the code writes for a comparator, by what it knows of it.
-- Assumes nothing.
use Rattle.std.specs.Prelude.{ℕ, List, ◌++◌}
use Rattle.rules.specs.Bytes.{bytes}
use Rattle.rules.specs.NormalText.{decimal, spell_op}
use Rattle.partial.specs.Views.{op_of}
use Rattle.partial.specs.declared.Comparator.{Comparator}

-- "major, minor, patch in decimal without leading zeros, dots between" (01, "Normal text")
unfoldable pub dotted : ℕ → ℕ → ℕ → List ℕ
dotted a b c = decimal a ++ bytes "." ++ decimal b ++ bytes "." ++ decimal c

-- "Per comparator: `<`, `<=`, `>`, `>=` or `=`, then major, minor, patch in decimal without leading zeros, dots between": a
-- comparator without its identifiers
unfoldable pub spelled_triple : Comparator → List ℕ
spelled_triple c = spell_op (op_of c.op) ++ decimal c.major ++ bytes "." ++ decimal c.minor ++ bytes "." ++ decimal c.patch
