-- The writers of a line: a law for each of their ways.
-- Assumes nothing.
use Prim.Native.Nat.{ℕ, ◌+◌, ◌<◌, ◌≤◌}
use mathlib.Core.Bool.{Bool}
use mathlib.Core.Path.{◌≡◌}
use mathlib.Core.List.{List, [], ◌∷◌}
use native.Mathlib.Omega.{arith}
use borrow.Author.Tests.{le-leb, lt-leb}
use lib.ListN.{length, length-append}
use Rattle.rules.specs.Bytes.{bytes}
use Rattle.rules.specs.Expansion.{Compat}
use Rattle.rules.specs.Answers.{Answer, longest}
use Rattle.rules.specs.Plainform.{newline}
use Rattle.rules.specs.Admission.{admission_call}
use Rattle.rules.specs.Admits.{spell_verdict, verdict_line, answer_line, verdict_room}
use Rattle.rows.specs.Put.{Put}
use Rattle.rows.proofs.Puts.{put_then, put_same}
use Rattle.std.specs.Prelude.{Bool, Result}
use Rattle.refusals.specs.declared.Refusal.{Refusal}
use Rattle.refusals.specs.Views.{answer_of}
use Rattle.verdicts.proofs.Answering.{answer-short}

line-length : (s : List ℕ) (a : Answer Bool) → length (verdict_line s a) ≡ length s + (1 + (length (spell_verdict a) + 1))
unfolding verdict_line
line-length s a = simp length-append (omega arith)

-- ---- put_line

module _ (s l : List ℕ) (a : Result Bool Refusal) (h : length (verdict_line s (answer_of a)) ≤ length l) where
  pub version-room : 0 + length s ≤ length l
  version-room = omega (arith, line-length s (answer_of a))

  module _ (k : List ℕ) (i : ℕ) (p : Put l 0 s k i) where
    pub blank-room : i + 1 ≤ length k
    blank-room = omega (arith, line-length s (answer_of a), put_same p, p.place)

    module _ (x : List ℕ) (j : ℕ) (b : Put k i (bytes " ") x j) where
      pub answer-room : j + length (spell_verdict (answer_of a)) ≤ length x
      answer-room = omega (arith, line-length s (answer_of a), put_same p, p.place, put_same b, b.place)

      module _ (y : List ℕ) (e : ℕ) (q : Put x j (spell_verdict (answer_of a)) y e) where
        pub end-room : e + 1 ≤ length y
        end-room = omega (arith, line-length s (answer_of a), put_same p, p.place, put_same b, b.place, put_same q, q.place)

        pub line-put : (z : List ℕ) (n : ℕ) → Put y e (newline ∷ []) z n → Put l 0 (verdict_line s (answer_of a)) z n
        unfolding verdict_line
        line-put z n r = put_then p (put_then b (put_then q r))

pub ruleset lines = (version-room, blank-room, answer-room, end-room, line-put)

-- ---- put_verdict

module _ (s l : List ℕ) where
  module _ (y : List ℕ) (k : ℕ) (p : Put l 0 (bytes "refused 8\n") y k) where
    pub long-put : (m : Compat) (t : List ℕ) → longest < length s → Put l 0 (answer_line m t s) y k
    unfolding answer_line
    long-put m t h = rw (lt-leb (length s) longest h) p

  module _ (a : Result Bool Refusal) (h : length s ≤ longest) where
    pub short-room : verdict_room ≤ length l → length (verdict_line s (answer_of a)) ≤ length l
    short-room r = omega (arith, line-length s (answer_of a), answer-short a)

    module _ (y : List ℕ) (k : ℕ) (p : Put l 0 (verdict_line s (answer_of a)) y k) where
      pub short-put : (m : Compat) (t : List ℕ) → answer_of a ≡ admission_call m t s → Put l 0 (answer_line m t s) y k
      unfolding answer_line
      short-put m t e = rw (← e, le-leb (length s) longest h) p

pub ruleset verdicts = (long-put, short-room, short-put)
