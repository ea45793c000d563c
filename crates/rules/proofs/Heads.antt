-- Readers on a text of which the first byte is known, as code tests it.
-- Assumes nothing.
use mathlib.Core.Path.{◌≡◌, refl, sym, ap, ◌∙◌}
use Prim.Native.Nat.{ℕ, suc, ◌-◌}
use native.Mathlib.Omega.{arith}
use mathlib.Core.Bool.{Bool, true, false}
use mathlib.Core.List.{List, [], ◌∷◌}
use borrow.Author.Tests.{eq-eqb, ne_eqb}
use lib.ListN.{length, take, drop, get_or, length-drop}
use Rattle.rules.specs.Parse.{Result, fail, ok, ◌then◌, one_of, count, literal, left_of}
use Rattle.rules.proofs.Results.{Gives}
use Rattle.rules.proofs.Left.{Behind, rest_in, took, failed}

-- ---- a byte of a class

pub one-empty : (p : ℕ → Bool) (s : List ℕ) → length s ≡ 0 → one_of p s ≡ fail
unfolding one_of
one-empty p [] h = refl
one-empty p (c ∷ s) h = absurd (omega arith)

pub one-yes : (p : ℕ → Bool) (s : List ℕ) → (length s ≡ 0 → ⊥) → p (get_or s 0 0) ≡ true → one_of p s ≡ ok (get_or s 0 0) (drop 1 s)
unfolding one_of
one-yes p [] h e = absurd (h refl)
one-yes p (c ∷ s) h e = rw e

pub one-not : (p : ℕ → Bool) (s : List ℕ) → (length s ≡ 0 → ⊥) → p (get_or s 0 0) ≡ false → one_of p s ≡ fail
unfolding one_of
one-not p [] h e = absurd (h refl)
one-not p (c ∷ s) h e = rw e

pub count_head : (p : ℕ → Bool) (s : List ℕ) → (length s ≡ 0 → ⊥) → p (get_or s 0 0) ≡ true → count p s ≡ suc (count p (drop 1 s))
unfolding count
count_head p [] h e = absurd (h refl)
count_head p (c ∷ s) h e = rw e

-- ---- a fixed byte

pub byte-empty : (b : ℕ) (w s : List ℕ) → length s ≡ 0 → literal (b ∷ w) s ≡ fail
unfolding literal
byte-empty b w [] h = refl
byte-empty b w (c ∷ s) h = absurd (omega arith)

pub byte-yes : (b : ℕ) (s : List ℕ) → (length s ≡ 0 → ⊥) → get_or s 0 0 ≡ b → literal (b ∷ []) s ≡ ok tt (drop 1 s)
unfolding literal
byte-yes b [] h e = absurd (h refl)
byte-yes b (c ∷ s) h e = rw (eq-eqb c b e)

pub byte-not : (b : ℕ) (w s : List ℕ) → (length s ≡ 0 → ⊥) → (get_or s 0 0 ≡ b → ⊥) → literal (b ∷ w) s ≡ fail
unfolding literal
byte-not b w [] h e = absurd (h refl)
byte-not b w (c ∷ s) h e = rw (ne_eqb c b e)

-- ---- a fixed byte, and a reader behind it: how many bytes are left

module _ {A : Type 0} (b : ℕ) (f : List ℕ → Result A) (behind : (s : List ℕ) → Gives (λ a. Behind 1 s) (f s)) (s : List ℕ) where
  pub lead-empty : length s ≡ 0 → 0 ≡ left_of s (literal (b ∷ []) s then λ u t. f t)
  unfolding ◌then◌
  lead-empty h = rw (byte-empty b [] s h, h)

  module _ (h : length s ≡ 0 → ⊥) where
    pub lead-not : (get_or s 0 0 ≡ b → ⊥) → length s ≡ left_of s (literal (b ∷ []) s then λ u t. f t)
    unfolding ◌then◌
    lead-not e = rw (byte-not b [] s h e)

    module _ (e : get_or s 0 0 ≡ b) (n : ℕ) (q : n ≡ left_of (take (length s - 1) (drop 1 s)) (f (take (length s - 1) (drop 1 s)))) where
      is-left : n ≡ left_of (drop 1 s) (f (drop 1 s))
      is-left = rw (rest_in s 1) at q

      pub lead-none : n ≡ length s - 1 → length s ≡ left_of s (literal (b ∷ []) s then λ u t. f t)
      unfolding ◌then◌
      lead-none z = rw (byte-yes b s h e, failed (behind (drop 1 s)) n is-left (z ∙ sym (length-drop 1 s)))

      pub lead-some : (n ≡ length s - 1 → ⊥) → n ≡ left_of s (literal (b ∷ []) s then λ u t. f t)
      unfolding ◌then◌
      lead-some z =
          let t = took (behind (drop 1 s)) n is-left (λ k. z (k ∙ length-drop 1 s)) in
          rw (byte-yes b s h e, t.is) (is-left ∙ ap (left_of (drop 1 s)) t.is)
