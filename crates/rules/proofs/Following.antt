-- What stands behind an item, by its first bytes: what the walk does there, and which of the function's readers succeed there.
-- Assumes nothing.
use mathlib.Core.Path.{◌≡◌, refl}
use Prim.Native.Nat.{ℕ}
use native.Mathlib.Omega.{arith}
use mathlib.Core.Bool.{Bool, true, false, ◌&&◌}
use mathlib.Core.List.{List, [], ◌∷◌}
use borrow.Author.Tests.{eqb-true, lt-ltb, le-ltb}
use lib.Dec.{eqb, ltb}
use lib.ListN.{length}
use Rattle.rules.specs.Bytes.{bytes, pick, is_space, is_nonzero}
use Rattle.rules.specs.Parse.{Result, fail, ok, ◌then◌, choose, one_of, count, literal, skip, spaces₁, read_number, read_component, read_partial, read_prefix, read_item, read_gap, read_next, read_dash}
use Rattle.rules.specs.Walk.{item, right, Behind, behind, answer, nowhere, after_range, continues, follow}
use Rattle.rules.proofs.Follows.{two-stops}
use Rattle.rules.proofs.Complete.{end-item, bar-item}
use Rattle.rules.proofs.Left.{behind-left}
use Rattle.rules.proofs.LeftItems.{skip-behind}

-- The range closes there, or the text is wrong there; or an item may follow, behind the gap; or a dash stands there behind spaces.
pub data Following (t : List ℕ) : Type 0 where
  closing : read_next t ≡ fail → read_dash t ≡ fail → ((dashed : Bool) → follow dashed t ≡ after_range t) → Following t
  listing : (v : List ℕ) → after_range t ≡ nowhere → read_gap t ≡ ok tt v → read_dash t ≡ fail → ((dashed : Bool) → follow dashed t ≡ behind item v)
      → Following t
  dashing : (u : List ℕ) → after_range t ≡ nowhere → read_gap t ≡ ok tt (45 ∷ u) → read_dash t ≡ spaces₁ u → follow false t ≡ behind item (45 ∷ u)
      → follow true t ≡ answer (spaces₁ u) (λ x r. behind right r) nowhere → Following t

-- no item begins with a dash
pub dash-item : (s : List ℕ) → read_item (45 ∷ s) ≡ fail
unfolding read_item read_prefix read_partial read_component read_number one_of literal ◌then◌ choose is_nonzero
dash-item s = refl

-- ---- by the first bytes

-- behind spaces
spaced : (t v : List ℕ) → skip t ≡ v → read_gap t ≡ ok tt v → read_dash t ≡ (literal (bytes "-") v then λ x u. spaces₁ u)
    → ((dashed : Bool) → follow dashed t ≡ continues dashed true v) → Following t
unfolding read_next ◌then◌ literal
spaced t [] e g d f = closing (rw (g, end-item)) d λ b. rw (f b, e)
spaced t (c ∷ s) e g d f = bar (eqb c 124) refl
  where
    never : (b : Bool) (x y : Behind) → pick (b && false) x y ≡ y
    never true x y = refl
    never false x y = refl

    dash : eqb c 124 ≡ false → (b : Bool) → eqb c 45 ≡ b → Following t
    dash n true y = dashing s (rw (e, n)) (rw (← eqb-true c 45 y, g)) (rw (d, y)) (rw (f false, n, ← eqb-true c 45 y)) (rw (f true, n, y))
    dash n false y = listing (c ∷ s) (rw (e, n)) g (rw (d, y)) λ b. rw (f b, n, y) (never b _ _)

    bar : (b : Bool) → eqb c 124 ≡ b → Following t
    bar true y = closing (rw (g, eqb-true c 124 y, bar-item s)) (rw (d, eqb-true c 124 y)) λ b. rw (f b, e, y)
    bar false n = dash n (eqb c 45) refl

-- where no space stands
unspaced : (c : ℕ) (s : List ℕ) → is_space c ≡ false → Following (c ∷ s)
unfolding follow read_next read_gap read_dash spaces₁ one_of literal count ◌then◌ choose
unspaced c s n = bar (eqb c 124) refl
  where
    none-less : ltb (length (c ∷ s)) (length (c ∷ s)) ≡ false
    none-less = le-ltb (length (c ∷ s)) (length (c ∷ s)) (omega arith)

    gap : eqb c 124 ≡ false → eqb c 44 ≡ true → (g : Result (Unit {0})) → spaces₁ s ≡ g → Following (c ∷ s)
    gap z y fail e = closing (rw (y, e)) (rw n) λ b. rw (n, none-less, z, y, e)
    gap z y (ok x v) e = listing v (rw (n, z)) (rw (y, e)) (rw n) λ b. rw (n, none-less, z, y, e)

    comma : eqb c 124 ≡ false → (b : Bool) → eqb c 44 ≡ b → Following (c ∷ s)
    comma z true y = gap z y (spaces₁ s) refl
    comma z false y = closing (rw (y, n)) (rw n) λ b. rw (n, none-less, z, y)

    bar : (b : Bool) → eqb c 124 ≡ b → Following (c ∷ s)
    bar true y = closing (rw (eqb-true c 124 y)) (rw n) λ b. rw (n, none-less, y)
    bar false z = comma z (eqb c 44) refl

pub following : (t : List ℕ) → Following t
unfolding follow read_next read_gap read_dash spaces₁ one_of literal count ◌then◌ choose
following [] = closing refl refl λ b. refl
following (c ∷ s) = go (is_space c) refl
  where
    go : (b : Bool) → is_space c ≡ b → Following (c ∷ s)
    go true e =
        spaced (c ∷ s) (skip s) (rw e) (rw (two-stops (λ b. eqb b 44) 32 9 c refl refl e, e)) (rw e)
        λ b. rw (e, lt-ltb (length (skip s)) (length (c ∷ s)) (omega (arith, behind-left (skip-behind s))))
    go false e = unspaced c s e
