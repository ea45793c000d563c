-- A reader as often as it succeeds is the reader once, and then as often as it succeeds from there: for a reader that takes a byte at least.
-- Assumes nothing.
use mathlib.Core.Path.{◌≡◌, refl, sym, ◌∙◌}
use Prim.Native.Nat.{ℕ, zero, suc, ◌≤◌, ◌<◌}
use native.Mathlib.Omega.{arith}
use mathlib.Core.List.{List, [], ◌∷◌}
use lib.ListN.{length}
use Rattle.rules.specs.Parse.{Result, fail, ok, ◌then◌, choose, many, all}
use Rattle.rules.proofs.Results.{Gives, gives}
use Rattle.rules.proofs.Left.{Behind, behind-left}

module _ {A : Type 0} (f : List ℕ → Result A) (behind : (s : List ℕ) → Gives (λ a. Behind 1 s) (f s)) where
  -- the reader once, and g from there
  abbrev once : (List ℕ → Result (List A)) → List ℕ → Result (List A)
  once g s = choose (f s) (λ a t. g t then λ l r. ok (a ∷ l) r) (ok [] s)

  -- only texts that are shorter matter to it
  once-same : (g h : List ℕ → Result (List A)) (s : List ℕ) → ((t : List ℕ) → length t < length s → g t ≡ h t) → once g s ≡ once h s
  unfolding choose
  once-same g h s e = go (f s) (behind s)
    where
      go : (x : Result A) → Gives (λ a. Behind 1 s) x
          → choose x (λ a t. g t then λ l r. ok (a ∷ l) r) (ok [] s) ≡ choose x (λ a t. h t then λ l r. ok (a ∷ l) r) (ok [] s)
      go fail b = refl
      go (ok a t) (gives b) = rw (e t (omega (arith, behind-left b)))

  many-end : (k : ℕ) (s : List ℕ) → length s ≡ 0 → many f k s ≡ ok [] s
  unfolding many choose
  many-end zero s h = refl
  many-end (suc k) s h = go (f s) (behind s)
    where
      go : (x : Result A) → Gives (λ a. Behind 1 s) x → choose x (λ a t. many f k t then λ l r. ok (a ∷ l) r) (ok [] s) ≡ ok [] s
      go fail b = refl
      go (ok a t) (gives b) = absurd (omega (arith, behind-left b))

  -- bounds that the length does not pass
  many-enough : (j k : ℕ) (s : List ℕ) → length s ≤ j → length s ≤ k → many f j s ≡ many f k s
  unfolding many
  many-enough zero k s h l = sym (many-end k s (omega arith))
  many-enough (suc j) zero s h l = many-end (suc j) s (omega arith)
  many-enough (suc j) (suc k) s h l = once-same (many f j) (many f k) s λ t m. many-enough j k t (omega arith) (omega arith)

  pub all-step : (s : List ℕ) → all f s ≡ choose (f s) (λ a t. all f t then λ l r. ok (a ∷ l) r) (ok [] s)
  unfolding many
  all-step s =
      many-enough (length s) (suc (length s)) s (omega arith) (omega arith)
      ∙ once-same (many f (length s)) (λ t. all f t) s λ t m. many-enough (length s) (length t) t (omega arith) (omega arith)
