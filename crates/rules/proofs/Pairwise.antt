-- What holds of each element of a list that has one at least, and of the elements of two lists in turn.
-- Assumes nothing.
use mathlib.Core.Path.{◌≡◌, refl, ap₂}
use mathlib.Core.Bool.{Bool, ◌&&◌}
use mathlib.Core.List.{List, [], ◌∷◌, map}
use Rattle.rules.specs.Lists.{each, All, all∷}
use Rattle.rules.proofs.Nonempty.{Nonempty, nonempty}

pub data All₁ {A : Type 0} (P : A → Type 0) : List A → Type 0 where
  all₁ : {a : A} {l : List A} → P a → All P l → All₁ P (a ∷ l)

pub data Pairwise {A B : Type 0} (R : A → B → Type 0) : List A → List B → Type 0 where
  pairs[] : Pairwise R [] []
  pairs∷ : {a : A} {b : B} {l : List A} {k : List B} → R a b → Pairwise R l k → Pairwise R (a ∷ l) (b ∷ k)

-- ---- laws

pub some-all : {A : Type 0} {P : A → Type 0} {l : List A} → Nonempty l → All P l → All₁ P l
some-all nonempty (all∷ h k) = all₁ h k

pub each_map : {A B : Type 0} (p : B → Bool) (q : A → Bool) (f : A → B) → ((a : A) → p (f a) ≡ q a) → (l : List A) → each p (map f l) ≡ each q l
each_map p q f h [] = refl
each_map p q f h (a ∷ l) = ap₂ ◌&&◌ (h a) (each_map p q f h l)

pub pairwise_map : {A B C : Type 0} {R : A → B → Type 0} (f : A → C) (g : B → C) → ((a : A) (b : B) → R a b → f a ≡ g b)
    → {l : List A} {k : List B} → Pairwise R l k → map f l ≡ map g k
pairwise_map f g h pairs[] = refl
pairwise_map f g h (pairs∷ {a} {b} r k) = ap₂ (λ c l. c ∷ l) (h a b r) (pairwise_map f g h k)

pub pairwise-each : {A B : Type 0} {R : A → B → Type 0} (p : A → Bool) (q : B → Bool) → ((a : A) (b : B) → R a b → p a ≡ q b)
    → {l : List A} {k : List B} → Pairwise R l k → each p l ≡ each q k
pairwise-each p q h pairs[] = refl
pairwise-each p q h (pairs∷ {a} {b} r k) = ap₂ ◌&&◌ (h a b r) (pairwise-each p q h k)
