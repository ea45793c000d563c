-- What is counted of the pieces of a text is what its reading has, and the refusals 3 and 4 can be told by them.
-- Assumes nothing.
use mathlib.Core.Path.{◌≡◌, refl, sym, ap, ap₂, ◌∙◌}
use Prim.Native.Nat.{ℕ, ◌+◌}
use native.Mathlib.Omega.{arith}
use mathlib.Core.Bool.{Bool, true, false, not, ◌&&◌, ◌||◌}
use mathlib.Core.Option.{Option, none, some}
use mathlib.Core.List.{List, [], ◌∷◌, ◌++◌, map}
use lib.ListN.{length, length-append}
use Rattle.rules.specs.Lists.{concat, each, some_of, All, all[], all∷}
use Rattle.rules.specs.Syntax.{Partial, x_range_only, major_only, major_minor, major_minor_patch, identifiers_of, Item, item, Range, nothing, items, hyphen}
use Rattle.rules.specs.Expansion.{Compat, Component, major, minor, patch, Piece, piece, partial_in, Comparator, as_read, raised, comparators, expand_item, expand_left, expand_right, expand_range, pieces, comparators_of, expand}
use Rattle.rules.specs.Rows.{identifiers_in, all_identifiers}
use Rattle.rules.specs.Answers.{partial_fits, item_fits, range_fits, reading_fits, comparator_rows, identifier_rows}
use Rattle.rules.specs.Walk.{total, comparator_count, identifier_count, large_in, over_in}
use Rattle.rules.proofs.All.{all_map, each_append}
use Rattle.rules.proofs.Pieces.{Gives, given_as_read, raises, gives-partial, item-gives, left-partial, right-partial}
use Rattle.rules.proofs.Pairwise.{each_map}
use Rattle.rules.proofs.Raised.{expand-over}

-- ---- sums and tests over lists of lists

pub total-append : {A : Type 0} (f : A → ℕ) (k l : List A) → total f (k ++ l) ≡ total f k + total f l
total-append f [] l = omega arith
total-append f (a ∷ k) l = omega (arith, total-append f k l)

pub length-concat-map : {A B : Type 0} (f : A → List B) (l : List A) → length (concat (map f l)) ≡ total (λ a. length (f a)) l
length-concat-map f [] = refl
length-concat-map f (a ∷ l) = length-append (f a) (concat (map f l)) ∙ ap (λ n. length (f a) + n) (length-concat-map f l)

not-each : {A : Type 0} (p : A → Bool) (l : List A) → not (each p l) ≡ some_of (λ a. not (p a)) l
not-each p [] = refl
not-each p (a ∷ l) = go (p a) (not-each p l)
  where
    go : (b : Bool) → not (each p l) ≡ some_of (λ a. not (p a)) l → not (b && each p l) ≡ (not b || some_of (λ a. not (p a)) l)
    go true h = h
    go false h = refl

-- ---- rows

range-rows : (ps : List Piece) → length (comparators_of ps) ≡ total comparator_count ps
unfolding comparators_of
range-rows ps = length-concat-map comparators ps

pub expand-rows : (m : Compat) (rs : List Range) → comparator_rows (expand m rs) ≡ total comparator_count (pieces m rs)
unfolding expand pieces
expand-rows m [] = refl
expand-rows m (a ∷ rs) =
    omega (
      arith,
      length-append (comparators_of (expand_range m a)) (concat (expand m rs)),
      range-rows (expand_range m a),
      expand-rows m rs,
      total-append comparator_count (expand_range m a) (pieces m rs),
    )

-- ---- identifiers

-- the comparators of a piece have the identifiers of its partial
abbrev pub Named : Piece → Type 0
Named (piece none c p) = identifiers_of p ≡ []
Named (piece (some o) c p) = Unit {0}

item-named : (m : Compat) (i : Item) → Named (expand_item m i)
item-named m (item f p) = go (item-gives m f p)
  where
    go : {x : Piece} → Gives p x → Named x
    go given_as_read = tt
    go (raises e) = e

left-named : (p : Partial) → Named (expand_left p)
unfolding expand_left
left-named x_range_only = refl
left-named (major_only a) = tt
left-named (major_minor a b) = tt
left-named (major_minor_patch a b c is) = tt

right-named : (p q : Partial) → Named (expand_right p q)
unfolding expand_right
right-named p (major_only a) = refl
right-named p (major_minor a b) = refl
right-named p (major_minor_patch a b c is) = tt
right-named x_range_only x_range_only = tt
right-named (major_only a) x_range_only = refl
right-named (major_minor a b) x_range_only = refl
right-named (major_minor_patch a b c is) x_range_only = refl

pub range-named : (m : Compat) (a : Range) → All Named (expand_range m a)
unfolding expand_range
range-named m nothing = all∷ tt all[]
range-named m (items i is) = all_map (expand_item m) (every (i ∷ is))
  where
    every : (l : List Item) → All (λ i. Named (expand_item m i)) l
    every [] = all[]
    every (j ∷ l) = all∷ (item-named m j) (every l)
range-named m (hyphen p q) = all∷ {a = expand_left p} (left-named p) (all∷ {a = expand_right p q} (right-named p q) all[])

-- how many identifiers comparators have
abbrev names : List Comparator → ℕ
names cs = total (λ c. length (identifiers_in c)) cs

raised-names : (c : Option Component) (p : Partial) → names (raised c p) ≡ 0
unfolding raised
raised-names none p = refl
raised-names (some major) p = refl
raised-names (some minor) p = refl
raised-names (some patch) p = refl

piece-names : (x : Piece) → Named x → names (comparators x) ≡ identifier_count x
unfolding comparators as_read
piece-names (piece none c p) e = raised-names c p ∙ sym (ap length e)
piece-names (piece (some o) c p) e = omega (arith, raised-names c p)

range-names : {ps : List Piece} → All Named ps → names (comparators_of ps) ≡ total identifier_count ps
unfolding comparators_of
range-names all[] = refl
range-names (all∷ {a = x} {l = ps} h k) =
    omega (arith, total-append (λ c. length (identifiers_in c)) (comparators x) (comparators_of ps), piece-names x h, range-names k)

expanded-names : (m : Compat) (rs : List Range) → names (concat (expand m rs)) ≡ total identifier_count (pieces m rs)
unfolding expand pieces
expanded-names m [] = refl
expanded-names m (a ∷ rs) =
    omega (
      arith,
      total-append (λ c. length (identifiers_in c)) (comparators_of (expand_range m a)) (concat (expand m rs)),
      range-names (range-named m a),
      expanded-names m rs,
      total-append identifier_count (expand_range m a) (pieces m rs),
    )

pub expand-names : (m : Compat) (rs : List Range) → identifier_rows (expand m rs) ≡ total identifier_count (pieces m rs)
unfolding identifier_rows all_identifiers
expand-names m rs = length-concat-map identifiers_in (concat (expand m rs)) ∙ expanded-names m rs

-- ---- refusal 3

-- the partial of a piece fits
abbrev piece_fits : Piece → Bool
piece_fits x = partial_fits (partial_in x)

item-fits : (m : Compat) (i : Item) → piece_fits (expand_item m i) ≡ item_fits i
unfolding item_fits
item-fits m (item f p) = ap partial_fits (gives-partial (item-gives m f p))

and-true : (a : Bool) → (a && true) ≡ a
and-true true = refl
and-true false = refl

range-fits : (m : Compat) (a : Range) → each piece_fits (expand_range m a) ≡ range_fits a
unfolding range_fits expand_range partial_fits
range-fits m nothing = refl
range-fits m (items i is) = each_map piece_fits item_fits (expand_item m) (item-fits m) (i ∷ is)
range-fits m (hyphen p q) = ap₂ ◌&&◌ (ap partial_fits (left-partial p)) (and-true _ ∙ ap partial_fits (right-partial p q))

text-fits : (m : Compat) (rs : List Range) → each piece_fits (pieces m rs) ≡ each range_fits rs
unfolding pieces
text-fits m [] = refl
text-fits m (a ∷ rs) = each_append piece_fits (expand_range m a) (pieces m rs) ∙ ap₂ ◌&&◌ (range-fits m a) (text-fits m rs)

large_is : (l : List Piece) → some_of (λ x. not (piece_fits x)) l ≡ some_of large_in l
large_is [] = refl
large_is (piece o c p ∷ l) = ap (◌||◌ (not (partial_fits p))) (large_is l)

pub expand-large : (m : Compat) (rs : List Range) → not (each range_fits rs) ≡ some_of large_in (pieces m rs)
expand-large m rs = ap not (sym (text-fits m rs)) ∙ not-each piece_fits (pieces m rs) ∙ large_is (pieces m rs)

-- ---- refusal 4

over-is : (l : List Piece) → some_of (λ x. not (not (over_in x))) l ≡ some_of over_in l
over-is [] = refl
over-is (x ∷ l) = ap₂ ◌||◌ (twice (over_in x)) (over-is l)
  where
    twice : (b : Bool) → not (not b) ≡ b
    twice true = refl
    twice false = refl

pub expand-raised : (m : Compat) (rs : List Range) → each range_fits rs ≡ true → not (reading_fits (expand m rs)) ≡ some_of over_in (pieces m rs)
expand-raised m rs e = ap not (expand-over m rs e) ∙ not-each (λ x. not (over_in x)) (pieces m rs) ∙ over-is (pieces m rs)
