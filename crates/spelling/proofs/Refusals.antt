-- The writer of a refusal: a law for each of its ways.
-- Assumes nothing.
use Prim.Native.Nat.{ℕ, ◌+◌, ◌≤◌}
use mathlib.Core.Path.{◌≡◌}
use mathlib.Core.List.{List}
use native.Mathlib.Omega.{arith}
use lib.ListN.{length, length-append}
use Rattle.rules.specs.Bytes.{bytes}
use Rattle.rules.specs.NormalText.{decimal}
use Rattle.rules.specs.Plainform.{spell_refusal}
use Rattle.rows.specs.Put.{Put}
use Rattle.rows.proofs.Puts.{put_then, put_same}

-- ---- put_refused

module _ (l : List ℕ) (at n : ℕ) (h : at + length (spell_refusal n) ≤ length l) where
  refusal-length : length (spell_refusal n) ≡ 8 + length (decimal n)
  refusal-length = length-append (bytes "refused ") (decimal n)

  pub refused-room : at + 8 ≤ length l
  refused-room = omega (arith, refusal-length)

  module _ (m : List ℕ) (i : ℕ) (p : Put l at (bytes "refused ") m i) where
    pub number-room : i + length (decimal n) ≤ length m
    number-room = omega (arith, refusal-length, put_same p, p.place)

    pub number_put : (y : List ℕ) (k : ℕ) → Put m i (decimal n) y k → Put l at (spell_refusal n) y k
    number_put y k q = put_then p q

pub ruleset refusals = (refused-room, number-room, number_put)
