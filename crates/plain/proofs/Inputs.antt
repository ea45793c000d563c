-- The input without its final 0A: a law for each way out.
-- Assumes nothing.
use Prim.Native.Nat.{ℕ, ◌-◌}
use mathlib.Core.Path.{◌≡◌, refl, ap}
use mathlib.Core.List.{List, [], ◌∷◌}
use native.Mathlib.Numerals.{unary_clauses}
use native.Mathlib.Omega.{arith}
use borrow.Author.Tests.{eq-eqb, ne_eqb}
use lib.ListN.{length, get_or, take, length-take}
use Rattle.rules.specs.Plainform.{newline, without_newline}

pub empty-input : (s : List ℕ) → length s ≡ 0 → s ≡ without_newline s
unfolding without_newline
empty-input [] e = refl
empty-input (c ∷ s) e = absurd (omega arith)

pub but_last : (s : List ℕ) → length (take (length s - 1) s) ≡ length s - 1
but_last s = rw length-take (omega arith)

pub newline-last : (s : List ℕ) → (length s ≡ 0 → ⊥) → get_or s (length s - 1) 0 ≡ newline → take (length s - 1) s ≡ without_newline s
unfolding without_newline
newline-last [] z e = absurd (z refl)
newline-last (c ∷ []) z e = rw (eq-eqb c newline e) refl
newline-last (c ∷ d ∷ s) z e =
    let k = newline-last (d ∷ s) (λ q. omega arith) (simp unary_clauses (simp unary_clauses at e)) in
    simp unary_clauses (simp unary_clauses at (ap (λ t. c ∷ t) k))

pub other_last : (s : List ℕ) → (length s ≡ 0 → ⊥) → (get_or s (length s - 1) 0 ≡ newline → ⊥) → s ≡ without_newline s
unfolding without_newline
other_last [] z q = absurd (z refl)
other_last (c ∷ []) z q = rw (ne_eqb c newline q) refl
other_last (c ∷ d ∷ s) z q = ap (λ t. c ∷ t) (other_last (d ∷ s) (λ e. omega arith) (simp unary_clauses (simp unary_clauses at q)))

pub ruleset inputs = (empty-input, but_last, newline-last, other_last)
