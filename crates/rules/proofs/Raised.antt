-- Refusal 4, as 01 says it: an expansion adds one to a component equal to the largest number.
-- Assumes nothing.
use mathlib.Core.Logic.{◌↔◌}
use mathlib.Core.Path.{◌≡◌, refl, sym, ap₂, ◌∙◌}
use Prim.Native.Nat.{ℕ, suc, ◌≤◌}
use native.Mathlib.Omega.{arith}
use mathlib.Core.Bool.{Bool, true, false, not, ◌&&◌}
use mathlib.Core.Option.{Option, none, some}
use mathlib.Core.List.{List, [], ◌∷◌}
use lib.ListN.{length}
use borrow.Author.Tests.{leb-true, leb-false}
use Rattle.rules.specs.Lists.{each, All, all[], all∷, Some}
use Rattle.rules.specs.Bytes.{largest}
use Rattle.rules.specs.Syntax.{Partial, Op, Item, item, Range, nothing, items, hyphen}
use Rattle.rules.specs.Grammar.{ReadsText}
use Rattle.rules.specs.Expansion.{Compat, major_of, minor_of, Component, major, minor, patch, component_of, Piece, piece, partial_in, Adds, as_read, raised, comparators, expand_item, expand_left, expand_right, expand_range, pieces, comparators_of, Reading, expand}
use Rattle.rules.specs.Answers.{Answer, refused, longest, fits, partial_fits, item_fits, range_fits, comparator_fits, reading_fits, reading}
use Rattle.rules.specs.Walk.{over_in}
use Rattle.rules.proofs.Follows.{both}
use Rattle.rules.proofs.All.{all-weaken, all-concat, all_map, each_all, each_append, each-concat-map, each-some, some-each, some_with}
use Rattle.rules.proofs.Pieces.{gives-partial, item-gives, left-partial, right-partial}
use Rattle.rules.proofs.Accepted as A
use Rattle.rules.proofs.Accepted.{Decided, decided}
use Rattle.rules.proofs.Complete.{unambiguous}

-- the components that were read are no larger than the largest number
abbrev Fits : Piece → Type 0
Fits x = partial_fits (partial_in x) ≡ true

-- and neither are those of its comparators
piece_fits : Piece → Bool
piece_fits x = each comparator_fits (comparators x)

-- ---- one piece

true-and : (a b : Bool) → a ≡ true → (a && b) ≡ b
true-and a b e = rw e

and-true : (a : Bool) → (a && true) ≡ a
and-true true = refl
and-true false = refl

raised-fits : (c : Component) (p : Partial) → partial_fits p ≡ true → each comparator_fits (raised (some c) p) ≡ fits (suc (component_of c p))
unfolding raised comparator_fits partial_fits
raised-fits major p e = and-true _ ∙ and-true _
raised-fits minor p e = let x = both (fits (major_of p)) _ e in and-true _ ∙ true-and _ _ x.0 ∙ and-true _
raised-fits patch p e =
    let x = both (fits (major_of p)) _ e in let y = both (fits (minor_of p)) _ x.1 in and-true _ ∙ true-and _ _ x.0 ∙ true-and _ _ y.0

as_read-fits : (o : Option Op) (p : Partial) → partial_fits p ≡ true → each comparator_fits (as_read o p) ≡ true
unfolding as_read comparator_fits partial_fits
as_read-fits none p e = refl
as_read-fits (some o) p e = and-true _ ∙ e

piece-raised : (o : Option Op) (c : Option Component) (p : Partial) → partial_fits p ≡ true → piece_fits (piece o c p) ≡ each comparator_fits (raised c p)
unfolding piece_fits comparators
piece-raised o c p e = each_append comparator_fits (as_read o p) (raised c p) ∙ true-and _ _ (as_read-fits o p e)

component-fits : (c : Component) (p : Partial) → partial_fits p ≡ true → component_of c p ≤ largest
unfolding partial_fits
component-fits major p e = leb-true _ _ (both (fits (major_of p)) _ e).0
component-fits minor p e = leb-true _ _ (both (fits (minor_of p)) _ (both (fits (major_of p)) _ e).1).0
component-fits patch p e = leb-true _ _ (both (fits (minor_of p)) _ (both (fits (major_of p)) _ e).1).1

-- a comparator of the piece is too large exactly where its expansion adds one to the largest number
unfit-adds : (x : Piece) → Fits x → piece_fits x ≡ false → Adds largest x
unfolding raised
unfit-adds (piece o none p) f e = let z : true ≡ false = sym (piece-raised o none p f) ∙ e in let y : ◌≡◌ {A = ℕ} 0 1 = cc in omega arith
unfit-adds (piece o (some c) p) f e =
    let h : fits (suc (component_of c p)) ≡ false = sym (raised-fits c p f) ∙ sym (piece-raised o (some c) p f) ∙ e in
    omega (arith, component-fits c p f, leb-false (suc (component_of c p)) largest h)

adds-unfit : (x : Piece) → Fits x → Adds largest x → piece_fits x ≡ false
adds-unfit (piece o none p) f e = absurd e
adds-unfit (piece o (some c) p) f e = piece-raised o (some c) p f ∙ raised-fits c p f ∙ rw e

-- ---- the pieces of a text

expand-fits : (m : Compat) (rs : List Range) → reading_fits (expand m rs) ≡ each piece_fits (pieces m rs)
unfolding reading_fits expand pieces comparators_of piece_fits
expand-fits m [] = refl
expand-fits m (a ∷ rs) =
    ap₂ ◌&&◌ (each-concat-map comparator_fits comparators (expand_range m a)) (expand-fits m rs) ∙ sym (each_append piece_fits (expand_range m a) (pieces m rs))

range-pieces : (m : Compat) (a : Range) → range_fits a ≡ true → All Fits (expand_range m a)
unfolding range_fits expand_range item_fits partial_fits
range-pieces m nothing e = all∷ refl all[]
range-pieces m (items i is) e = all_map (expand_item m) (all-weaken one (each_all item_fits (i ∷ is) e))
  where
    one : (i : Item) → item_fits i ≡ true → Fits (expand_item m i)
    one (item f p) e = rw (gives-partial (item-gives m f p)) e
range-pieces m (hyphen p q) e =
    let x = both (partial_fits p) _ e in
    all∷ {a = expand_left p} (rw (left-partial p) x.0) (all∷ {a = expand_right p q} (rw (right-partial p q) x.1) all[])

text-pieces : (m : Compat) (rs : List Range) → each range_fits rs ≡ true → All Fits (pieces m rs)
unfolding pieces
text-pieces m rs e = all-concat (all_map (expand_range m) (all-weaken (range-pieces m) (each_all range_fits rs e)))

-- where no component that was read is too large, a comparator is exactly where a component cannot be raised
not-over : (x : Piece) → Fits x → piece_fits x ≡ not (over_in x)
unfolding raised
not-over (piece o none p) f = piece-raised o none p f
not-over (piece o (some c) p) f = piece-raised o (some c) p f ∙ raised-fits c p f ∙ sym (not-not (fits (suc (component_of c p))))
  where
    not-not : (b : Bool) → not (not b) ≡ b
    not-not true = refl
    not-not false = refl

pub expand-over : (m : Compat) (rs : List Range) → each range_fits rs ≡ true → reading_fits (expand m rs) ≡ each (λ x. not (over_in x)) (pieces m rs)
expand-over m rs e = expand-fits m rs ∙ go (text-pieces m rs e)
  where
    go : {l : List Piece} → All Fits l → each piece_fits l ≡ each (λ x. not (over_in x)) l
    go all[] = refl
    go (all∷ {a} h k) = ap₂ ◌&&◌ (not-over a h) (go k)

pub refused-4 : (m : Compat) (t : List ℕ) (rs : List Range) → length t ≤ longest → ReadsText t rs → each range_fits rs ≡ true
    → (reading m t ≡ refused 4) ↔ Some (Adds largest) (pieces m rs)
refused-4 m t rs l d f = (λ e. adding (rw e at (decided m t)), λ h. refusing (unfit h) (reading m t) refl (decided m t))
  where
    adding : Decided m t (refused 4) → Some (Adds largest) (pieces m rs)
    adding (A.raised {rs = ss} k d' f' g) =
        let e : ss ≡ rs = unambiguous d' d in
        some_with unfit-adds (text-pieces m rs f) (each-some piece_fits (pieces m rs) (sym (expand-fits m rs) ∙ rw e at g))

    unfit : Some (Adds largest) (pieces m rs) → reading_fits (expand m rs) ≡ false
    unfit h = expand-fits m rs ∙ some-each piece_fits (some_with adds-unfit (text-pieces m rs f) h)

    refusing : reading_fits (expand m rs) ≡ false → (a : Answer Reading) → reading m t ≡ a → Decided m t a → reading m t ≡ refused 4
    refusing h a e (A.long k) = absurd (omega arith)
    refusing h a e (A.underivable k u) = absurd (u rs d)
    refusing h a e (A.large {rs = ss} k d' f') = let q : ss ≡ rs = unambiguous d' d in let z : true ≡ false = sym f ∙ rw q at f' in cc
    refusing h a e (A.raised k d' f' g) = e
    refusing h a e (A.accepts {rs = ss} k d' f' g) = let q : ss ≡ rs = unambiguous d' d in let z : true ≡ false = sym (rw q at g) ∙ h in cc
