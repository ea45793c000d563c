-- Laws of what holds of each element of a list, of some element, and of tests of each.
-- Assumes nothing.
use mathlib.Core.Path.{◌≡◌, refl, sym, ap, ◌∙◌}
use Prim.Native.Nat.{ℕ}
use native.Mathlib.Omega.{arith}
use mathlib.Core.Bool.{Bool, true, false, ◌&&◌}
use mathlib.Core.List.{List, [], ◌∷◌, ◌++◌, map}
use Rattle.rules.specs.Lists.{concat, each, All, all[], all∷, Some, here, there}
use Rattle.rules.proofs.Follows.{both}

module _ {A : Type 0} {P : A → Type 0} where
  pub all-weaken : {Q : A → Type 0} {l : List A} → ((a : A) → P a → Q a) → All P l → All Q l
  all-weaken f all[] = all[]
  all-weaken f (all∷ {a} h k) = all∷ (f a h) (all-weaken f k)

  -- ---- of the parts, so of the whole

  pub all_append : {k l : List A} → All P k → All P l → All P (k ++ l)
  all_append all[] h = h
  all_append (all∷ p k) h = all∷ p (all_append k h)

  pub all-concat : {ls : List (List A)} → All (All P) ls → All P (concat ls)
  all-concat all[] = all[]
  all-concat (all∷ h k) = all_append h (all-concat k)

  pub all_map : {B : Type 0} (f : B → A) {l : List B} → All (λ b. P (f b)) l → All P (map f l)
  all_map f all[] = all[]
  all_map f (all∷ h k) = all∷ h (all_map f k)

  -- ---- of the whole, so of the parts

  pub append-all : (k : List A) {l : List A} → All P (k ++ l) → All P k × All P l
  append-all [] h = (all[], h)
  append-all (a ∷ k) (all∷ p h) = let (x, y) = append-all k h in (all∷ p x, y)

  pub concat-map-all : {B : Type 0} (f : B → List A) (l : List B) → All P (concat (map f l)) → All (λ b. All P (f b)) l
  concat-map-all f [] h = all[]
  concat-map-all f (b ∷ l) h = let (x, y) = append-all (f b) h in all∷ x (concat-map-all f l y)

-- ---- tests

module _ {A : Type 0} (p : A → Bool) where
  pub each_all : (l : List A) → each p l ≡ true → All (λ a. p a ≡ true) l
  each_all [] e = all[]
  each_all (a ∷ l) e = let (x, y) = both (p a) (each p l) e in all∷ x (each_all l y)

  and_assoc : (a b c : Bool) → ((a && b) && c) ≡ (a && (b && c))
  and_assoc true b c = refl
  and_assoc false b c = refl

  pub each_append : (k l : List A) → each p (k ++ l) ≡ (each p k && each p l)
  each_append [] l = refl
  each_append (a ∷ k) l = ap (◌&&◌ (p a)) (each_append k l) ∙ sym (and_assoc (p a) (each p k) (each p l))

  pub each-concat-map : {B : Type 0} (f : B → List A) (l : List B) → each p (concat (map f l)) ≡ each (λ b. each p (f b)) l
  each-concat-map f [] = refl
  each-concat-map f (b ∷ l) = each_append (f b) (concat (map f l)) ∙ ap (◌&&◌ (each p (f b))) (each-concat-map f l)

  -- a test that does not pass at each element fails at some
  pub each-some : (l : List A) → each p l ≡ false → Some (λ a. p a ≡ false) l
  each-some [] e = let z : ◌≡◌ {A = ℕ} 0 1 = cc in absurd (omega arith)
  each-some (a ∷ l) e = go (p a) refl (each-some l)
    where
      go : (b : Bool) → p a ≡ b → (each p l ≡ false → Some (λ a. p a ≡ false) l) → Some (λ a. p a ≡ false) (a ∷ l)
      go true q k = there (k (rw q at e))
      go false q k = here q

  pub some-each : {l : List A} → Some (λ a. p a ≡ false) l → each p l ≡ false
  some-each (here e) = rw e
  some-each (there {a} k) = rw (some-each k) (go (p a))
    where
      go : (b : Bool) → (b && false) ≡ false
      go true = refl
      go false = refl

-- what holds of each, and of some: both of some
pub some_with : {A : Type 0} {P Q R : A → Type 0} {l : List A} → ((a : A) → P a → Q a → R a) → All P l → Some Q l → Some R l
some_with f all[] q = elim q [ ]
some_with f (all∷ {a} h k) (here q) = here (f a h q)
some_with f (all∷ h k) (there q) = there (some_with f k q)
