-- Refusal 3, as 01 says it: a component that is read exceeds the largest number.
-- Assumes nothing.
use mathlib.Core.Logic.{◌↔◌}
use mathlib.Core.Path.{◌≡◌, refl, sym, ap, ap₂, ◌∙◌}
use Prim.Native.Nat.{ℕ, ◌≤◌, ◌<◌}
use native.Mathlib.Omega.{arith}
use mathlib.Core.Bool.{Bool, true, false, ◌&&◌}
use mathlib.Core.List.{List, [], ◌∷◌, map}
use lib.ListN.{length}
use borrow.Author.Tests.{leb-false, lt-leb}
use Rattle.rules.specs.Lists.{concat, each, Some, here, there}
use Rattle.rules.specs.Bytes.{largest}
use Rattle.rules.specs.Syntax.{Partial, x_range_only, major_only, major_minor, major_minor_patch, components_of, Item, item, Range, nothing, items, hyphen, partial_of, partials_of, components_read}
use Rattle.rules.specs.Grammar.{ReadsText}
use Rattle.rules.specs.Expansion.{Compat, Reading}
use Rattle.rules.specs.Answers.{Answer, refused, longest, fits, partial_fits, item_fits, range_fits, reading}
use Rattle.rules.proofs.All.{each-concat-map, each-some, some-each}
use Rattle.rules.proofs.Pairwise.{each_map}
use Rattle.rules.proofs.Accepted as A
use Rattle.rules.proofs.Accepted.{Decided, decided}
use Rattle.rules.proofs.Complete.{unambiguous}

-- ---- the test of all components that are read

and-true : (a : Bool) → (a && true) ≡ a
and-true true = refl
and-true false = refl

partial-fits : (p : Partial) → each fits (components_of p) ≡ partial_fits p
unfolding partial_fits
partial-fits x_range_only = refl
partial-fits (major_only a) = refl
partial-fits (major_minor a b) = refl
partial-fits (major_minor_patch a b c is) = ap (λ x. fits a && (fits b && x)) (and-true (fits c))

range-fits : (a : Range) → each (λ p. each fits (components_of p)) (partials_of a) ≡ range_fits a
unfolding range_fits item_fits
range-fits nothing = refl
range-fits (items i is) = each_map (λ p. each fits (components_of p)) item_fits partial_of one (i ∷ is)
  where
    one : (i : Item) → each fits (components_of (partial_of i)) ≡ item_fits i
    one (item f p) = partial-fits p
range-fits (hyphen p q) = ap₂ ◌&&◌ (partial-fits p) (and-true _ ∙ partial-fits q)

all_fit : (rs : List Range) → each fits (components_read rs) ≡ each range_fits rs
all_fit rs =
    each-concat-map fits components_of (concat (map partials_of rs)) ∙ each-concat-map (λ p. each fits (components_of p)) partials_of rs ∙ go rs
  where
    go : (rs : List Range) → each (λ a. each (λ p. each fits (components_of p)) (partials_of a)) rs ≡ each range_fits rs
    go [] = refl
    go (a ∷ rs) = ap₂ ◌&&◌ (range-fits a) (go rs)

some-map : {A : Type 0} {P Q : A → Type 0} {l : List A} → ((a : A) → P a → Q a) → Some P l → Some Q l
some-map f (here {a} h) = here (f a h)
some-map f (there k) = there (some-map f k)

-- ---- the refusal

pub refused-3 : (m : Compat) (t : List ℕ) (rs : List Range) → length t ≤ longest → ReadsText t rs
    → (reading m t ≡ refused 3) ↔ Some (λ n. largest < n) (components_read rs)
refused-3 m t rs l d = (λ e. exceeding (rw e at (decided m t)), λ h. refusing (unfit h) (reading m t) refl (decided m t))
  where
    exceeding : Decided m t (refused 3) → Some (λ n. largest < n) (components_read rs)
    exceeding (A.large {rs = ss} k d' f) =
        let e : ss ≡ rs = unambiguous d' d in
        some-map (λ n h. leb-false n largest h) (each-some fits (components_read rs) (all_fit rs ∙ rw e at f))

    unfit : Some (λ n. largest < n) (components_read rs) → each range_fits rs ≡ false
    unfit h = sym (all_fit rs) ∙ some-each fits (some-map (λ n k. lt-leb n largest k) h)

    refusing : each range_fits rs ≡ false → (a : Answer Reading) → reading m t ≡ a → Decided m t a → reading m t ≡ refused 3
    refusing h a e (A.long k) = absurd (omega arith)
    refusing h a e (A.underivable k u) = absurd (u rs d)
    refusing h a e (A.large k d' f) = e
    refusing h a e (A.raised {rs = ss} k d' f g) = let q : ss ≡ rs = unambiguous d' d in let z : true ≡ false = sym (rw q at f) ∙ h in cc
    refusing h a e (A.accepts {rs = ss} k d' f g) = let q : ss ≡ rs = unambiguous d' d in let z : true ≡ false = sym (rw q at f) ∙ h in cc
