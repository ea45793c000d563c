-- An expansion keeps identifiers of what it expands, and adds none.
-- Assumes nothing.
use mathlib.Core.Option.{Option, none, some}
use mathlib.Core.List.{List, [], ◌∷◌, ◌++◌, map}
use Rattle.rules.specs.Lists.{concat, All, all[], all∷}
use Rattle.rules.specs.Syntax.{Identifier, Partial, identifiers_of, Item, item, Range, nothing, items, hyphen}
use Rattle.rules.specs.Expansion.{Compat, Comparator, Component, major, minor, patch, Piece, piece, partial_in, everything, as_read, raised, comparators, expand_item, expand_left, expand_right, expand_range, comparators_of, expand}
use Rattle.rules.specs.Rows.{identifiers_in, all_identifiers}
use Rattle.rules.proofs.All.{all-weaken, all-concat, all_map, append-all, concat-map-all}
use Rattle.rules.proofs.Pieces.{gives-partial, item-gives, left-partial, right-partial}

abbrev pub identifiers_of_item : Item → List Identifier
identifiers_of_item (item f p) = identifiers_of p

abbrev pub identifiers_of_range : Range → List Identifier
identifiers_of_range nothing = []
identifiers_of_range (items i is) = concat (map identifiers_of_item (i ∷ is))
identifiers_of_range (hyphen p q) = identifiers_of p ++ identifiers_of q

module _ (P : Identifier → Type 0) where
  -- each identifier of the comparator has the property
  abbrev Kept : Comparator → Type 0
  Kept c = All P (identifiers_in c)

  raised-kept : (c : Option Component) (p : Partial) → All Kept (raised c p)
  unfolding raised
  raised-kept none p = all[]
  raised-kept (some major) p = all∷ all[] all[]
  raised-kept (some minor) p = all∷ all[] all[]
  raised-kept (some patch) p = all∷ all[] all[]

  piece-kept : (x : Piece) → All P (identifiers_of (partial_in x)) → All Kept (comparators x)
  unfolding comparators as_read
  piece-kept (piece none c p) h = raised-kept c p
  piece-kept (piece (some o) c p) h = all∷ h (raised-kept c p)

  item-kept : (m : Compat) (i : Item) → All P (identifiers_of_item i) → All Kept (comparators (expand_item m i))
  item-kept m (item f p) h = piece-kept (expand_item m (item f p)) (rw (gives-partial (item-gives m f p)) h)

  range-kept : (m : Compat) (a : Range) → All P (identifiers_of_range a) → All Kept (comparators_of (expand_range m a))
  unfolding comparators_of expand_range
  range-kept m nothing h = piece-kept everything all[]
  range-kept m (items i is) h =
      all-concat (all_map comparators (all_map (expand_item m) (all-weaken (item-kept m) (concat-map-all identifiers_of_item (i ∷ is) h))))
  range-kept m (hyphen p q) h =
      let (x, y) = append-all (identifiers_of p) h in
      all-concat (all∷ (piece-kept (expand_left p) (rw (left-partial p) x)) (all∷ (piece-kept (expand_right p q) (rw (right-partial p q) y)) all[]))

  pub expand-kept : (m : Compat) (rs : List Range) → All P (concat (map identifiers_of_range rs)) → All P (all_identifiers (expand m rs))
  unfolding all_identifiers expand
  expand-kept m rs h =
      let k = all-weaken (range-kept m) (concat-map-all identifiers_of_range rs h) in
      all-concat (all_map identifiers_in (all-concat (all_map (λ a. comparators_of (expand_range m a)) k)))
