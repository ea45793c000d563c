-- The writer of an answer: a law for each of its ways, and how many bytes it writes at most.
-- Assumes nothing.
use Prim.Native.Nat.{ℕ, ◌+◌, ◌≤◌}
use mathlib.Core.Path.{◌≡◌, sym, subst}
use mathlib.Core.List.{List}
use native.Mathlib.Omega.{arith}
use lib.ListN.{length}
use Rattle.rules.specs.Bytes.{bytes}
use Rattle.rules.specs.NormalText.{decimal, decimal_to}
use Rattle.rules.specs.Plainform.{spell_refusal}
use Rattle.rules.specs.Admits.{spell_verdict}
use Rattle.rows.specs.Put.{Put}
use Rattle.std.specs.Prelude.{Bool, true, false, Result, Ok, Err}
use Rattle.refusals.specs.Views.{number_of, answer_of}
use Rattle.refusals.specs.declared.Refusal.{Refusal}
use Rattle.refusals.specs.declared.Refusal.TheVariants as R

-- ---- put_answer

module _ (a : Result Bool Refusal) where
  module _ (b : Bool) (f : b ≡ true) (e : a ≡ Ok b) where
    pub yes-room : (n at : ℕ) → at + length (spell_verdict (answer_of a)) ≤ n → at + 3 ≤ n
    unfolding spell_verdict
    yes-room n at h = rw (e, f) at h

    pub yes-put : (l k : List ℕ) (at n : ℕ) → Put l at (bytes "yes") k n → Put l at (spell_verdict (answer_of a)) k n
    unfolding spell_verdict
    yes-put l k at n p = rw (e, f) p

  module _ (b : Bool) (f : b ≡ false) (e : a ≡ Ok b) where
    pub no_room : (n at : ℕ) → at + length (spell_verdict (answer_of a)) ≤ n → at + 2 ≤ n
    unfolding spell_verdict
    no_room n at h = rw (e, f) at h

    pub no-put : (l k : List ℕ) (at n : ℕ) → Put l at (bytes "no") k n → Put l at (spell_verdict (answer_of a)) k n
    unfolding spell_verdict
    no-put l k at n p = rw (e, f) p

  module _ (x : Refusal) (e : a ≡ Err x) (n : ℕ) (f : n ≡ number_of x) where
    pub refused-room : (l : List ℕ) (at : ℕ) → at + length (spell_verdict (answer_of a)) ≤ length l → at + length (spell_refusal n) ≤ length l
    unfolding spell_verdict
    refused-room l at h = subst (λ k. at + length (spell_refusal k) ≤ length l) (sym f) (rw e at h)

    pub refused-put : (l k : List ℕ) (at i : ℕ) → Put l at (spell_refusal n) k i → Put l at (spell_verdict (answer_of a)) k i
    unfolding spell_verdict
    refused-put l k at i p = rw e (subst (λ j. Put l at (spell_refusal j) k i) f p)

pub ruleset answers = (yes-room, yes-put, no_room, no-put, refused-room, refused-put)

-- ---- how long an answer is

-- a number of at most two digits
pub refusal-short : (x : Refusal) → length (spell_refusal (number_of x)) ≤ 10
unfolding decimal decimal_to
refusal-short R.TooLong = omega arith
refusal-short R.NoReading = omega arith
refusal-short R.TooLarge = omega arith
refusal-short R.Over = omega arith
refusal-short R.ComparatorsShort = omega arith
refusal-short R.IdentifiersShort = omega arith
refusal-short R.BytesShort = omega arith
refusal-short R.NoVersion = omega arith
refusal-short R.VersionTooLarge = omega arith
refusal-short R.NotShelf = omega arith
refusal-short R.Full = omega arith
refusal-short R.Code = omega arith

pub answer-short : (a : Result Bool Refusal) → length (spell_verdict (answer_of a)) ≤ 10
unfolding spell_verdict
answer-short (Ok true) = omega arith
answer-short (Ok false) = omega arith
answer-short (Err x) = refusal-short x
