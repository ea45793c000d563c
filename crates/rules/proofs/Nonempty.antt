-- Every range gives a comparator at least.
-- Assumes nothing.
use mathlib.Core.List.{List, [], ◌∷◌, ◌++◌}
use Rattle.rules.specs.Lists.{All, all[], all∷}
use Rattle.rules.specs.Syntax.{Partial, x_range_only, major_only, major_minor, major_minor_patch, item, Range, nothing, items, hyphen}
use Rattle.rules.specs.Expansion.{Compat, major, minor, patch, Piece, as_read, raised, comparators, expand_left, expand_right, expand_range, comparators_of, expand}
use Rattle.rules.proofs.Pieces.{Gives, given_as_read, raises, item-gives}

-- a list that has a first element
pub data Nonempty {A : Type 0} : List A → Type 0 where
  nonempty : {a : A} {l : List A} → Nonempty (a ∷ l)

nonempty-append : {A : Type 0} {k : List A} (l : List A) → Nonempty k → Nonempty (k ++ l)
nonempty-append l nonempty = nonempty

gives-nonempty : {p : Partial} {x : Piece} → Gives p x → Nonempty (comparators x)
unfolding comparators as_read raised
gives-nonempty given_as_read = nonempty
gives-nonempty (raises {c = major} e) = nonempty
gives-nonempty (raises {c = minor} e) = nonempty
gives-nonempty (raises {c = patch} e) = nonempty

-- the left partial gives one, or else the right one does
hyphen-nonempty : (p q : Partial) → Nonempty (comparators (expand_left p) ++ (comparators (expand_right p q) ++ []))
unfolding comparators as_read raised expand_left expand_right
hyphen-nonempty x_range_only x_range_only = nonempty
hyphen-nonempty x_range_only (major_only a) = nonempty
hyphen-nonempty x_range_only (major_minor a b) = nonempty
hyphen-nonempty x_range_only (major_minor_patch a b c is) = nonempty
hyphen-nonempty (major_only a) q = nonempty
hyphen-nonempty (major_minor a b) q = nonempty
hyphen-nonempty (major_minor_patch a b c is) q = nonempty

pub range_nonempty : (m : Compat) (a : Range) → Nonempty (comparators_of (expand_range m a))
unfolding comparators_of expand_range comparators as_read
range_nonempty m nothing = nonempty
range_nonempty m (items (item f p) is) = nonempty-append _ (gives-nonempty (item-gives m f p))
range_nonempty m (hyphen p q) = hyphen-nonempty p q

pub expand-nonempty : (m : Compat) (rs : List Range) → All Nonempty (expand m rs)
unfolding expand
expand-nonempty m [] = all[]
expand-nonempty m (a ∷ rs) = all∷ (range_nonempty m a) (expand-nonempty m rs)
