-- The writers of three numbers with dots between, and of a comparator: a law for each of their ways.
-- Assumes nothing.
use Prim.Native.Nat.{ℕ, ◌+◌, ◌≤◌}
use mathlib.Core.Path.{◌≡◌, refl, ap, ◌∙◌}
use mathlib.Core.List.{List, ◌++◌, append_assoc}
use native.Mathlib.Omega.{arith}
use lib.ListN.{length, set, length-append, length-set}
use Rattle.rules.specs.Bytes.{bytes}
use Rattle.rules.specs.Syntax.{Identifier}
use Rattle.rules.specs.Expansion.{comparator}
use Rattle.rules.specs.NormalText.{decimal, spell_op, spell_identifiers, spell_comparator}
use Rattle.partial.specs.Views.{op_of}
use Rattle.partial.specs.declared.Comparator.{Comparator}
use Rattle.rows.specs.Put.{Put}
use Rattle.rows.proofs.Puts.{put_one, put_then, put_same}
use Rattle.spelling.specs.Views.{dotted, spelled_triple}

-- ---- put_dot_decimal

module _ (l : List ℕ) (at d n : ℕ) where
  pub dot-room : at + length (bytes "." ++ decimal n) ≤ length l → at + 1 + length (decimal n) ≤ length (set l at d)
  dot-room room = simp length-set (omega arith)

  pub dot-same : (m : List ℕ) (r : ℕ) → Put (set l at d) (at + 1) (decimal n) m r → length m ≡ length l
  dot-same m r p = put_same p ∙ length-set l at d

pub dot-put : (l m : List ℕ) (at n r : ℕ) → Put (set l at 46) (at + 1) (decimal n) m r → Put l at (bytes "." ++ decimal n) m r
dot-put l m at n r p = put_then (put_one l at 46) p

pub ruleset dots = (dot-room, dot-same, dot-put)

-- ---- put_triple

module _ (a b c : ℕ) where
  dotted-length : length (dotted a b c) ≡ length (decimal a) + 1 + length (decimal b) + 1 + length (decimal c)
  unfolding dotted
  dotted-length = simp length-append

  module _ (l : List ℕ) (at : ℕ) where
    pub major-room : at + length (dotted a b c) ≤ length l → at + length (decimal a) ≤ length l
    major-room room = omega (arith, dotted-length)

    module _ (m : List ℕ) (i : ℕ) where
      pub minor-room : Put l at (decimal a) m i → at + length (dotted a b c) ≤ length l → i + length (bytes "." ++ decimal b) ≤ length m
      minor-room p room = omega (arith, dotted-length, put_same p)

      module _ (n : List ℕ) (j : ℕ) where
        pub patch-room : Put m i (bytes "." ++ decimal b) n j → Put l at (decimal a) m i → at + length (dotted a b c) ≤ length l
            → j + length (bytes "." ++ decimal c) ≤ length n
        patch-room q p room = omega (arith, dotted-length, put_same p, put_same q)

        pub dotted-put : (y : List ℕ) (k : ℕ) → Put n j (bytes "." ++ decimal c) y k → Put m i (bytes "." ++ decimal b) n j → Put l at (decimal a) m i
            → Put l at (dotted a b c) y k
        unfolding dotted
        dotted-put y k r q p = simp append_assoc (put_then p (put_then q r))

pub ruleset dottings = (major-room, minor-room, patch-room, dotted-put)

-- ---- comparator_len, put_comparator

module _ (c : Comparator) where
  triple-split : spelled_triple c ≡ spell_op (op_of c.op) ++ dotted c.major c.minor c.patch
  unfolding spelled_triple dotted
  triple-split = simp append_assoc

  triple-length : length (spelled_triple c) ≡ length (spell_op (op_of c.op)) + length (dotted c.major c.minor c.patch)
  triple-length = ap length triple-split ∙ length-append (spell_op (op_of c.op)) (dotted c.major c.minor c.patch)

  module _ (o a b d : ℕ) (e : o ≡ length (spell_op (op_of c.op))) (f : a ≡ length (decimal c.major)) (g : b ≡ length (decimal c.minor))
      (h : d ≡ length (decimal c.patch)) where
    pub triple-sum : o + a + 1 + b + 1 + d ≡ length (spelled_triple c)
    triple-sum = omega (arith, triple-length, dotted-length c.major c.minor c.patch)

  module _ (l : List ℕ) (at : ℕ) where
    pub triple-first : at + length (spelled_triple c) ≤ length l → at + length (spell_op (op_of c.op)) ≤ length l
    triple-first room = omega (arith, triple-length)

    module _ (m : List ℕ) (i : ℕ) (p : Put l at (spell_op (op_of c.op)) m i) where
      pub triple-room : at + length (spelled_triple c) ≤ length l → i + length (dotted c.major c.minor c.patch) ≤ length m
      triple-room room = omega (arith, triple-length, put_same p)

      pub triple-put : (y : List ℕ) (k : ℕ) → Put m i (dotted c.major c.minor c.patch) y k → Put l at (spelled_triple c) y k
      triple-put y k q = rw triple-split (put_then p q)

pub ruleset triples = (triple-sum, triple-first, triple-room, triple-put)

-- ---- for callers

-- the identifiers follow
pub comparator-spelled : (c : Comparator) (is : List Identifier)
    → spell_comparator (comparator (op_of c.op) c.major c.minor c.patch is) ≡ spelled_triple c ++ spell_identifiers is
unfolding spell_comparator spelled_triple
comparator-spelled c is = refl
