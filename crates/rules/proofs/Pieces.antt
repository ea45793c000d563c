-- Which piece an expansion rule gives: one of the very partial that it expands; an item's gives a comparator at least.
-- Assumes nothing.
use mathlib.Core.Path.{◌≡◌, refl}
use mathlib.Core.Option.{Option, none, some}
use mathlib.Core.List.{[]}
use Rattle.rules.specs.Syntax.{identifiers_of, Partial, x_range_only, major_only, major_minor, major_minor_patch, Op, lt, lte, gt, gte, eq, Prefix, bare, tilde, caret, op, item}
use Rattle.rules.specs.Expansion.{Compat, cargo, npm, Component, Piece, piece, partial_in, expand_eq, expand_caret, expand_tilde, expand_bare, expand_lte, expand_op, expand_item, expand_left, expand_right}

-- ---- items

-- a piece of the partial p that gives a comparator: p as read, perhaps an Lt too; or, of a partial without identifiers, an Lt alone
pub data Gives (p : Partial) : Piece → Type 0 where
  given_as_read : {o : Op} {c : Option Component} → Gives p (piece (some o) c p)
  raises : {c : Component} → identifiers_of p ≡ [] → Gives p (piece none (some c) p)

pub item-gives : (m : Compat) (f : Prefix) (p : Partial) → Gives p (expand_item m (item f p))
unfolding expand_item expand_bare expand_eq expand_tilde expand_caret expand_op expand_lte
item-gives m bare x_range_only = given_as_read
item-gives m bare (major_only a) = given_as_read
item-gives m bare (major_minor a b) = given_as_read
item-gives npm bare (major_minor_patch a b c is) = given_as_read
item-gives cargo bare (major_minor_patch a b c is) = given_as_read
item-gives m tilde x_range_only = given_as_read
item-gives m tilde (major_only a) = given_as_read
item-gives m tilde (major_minor a b) = given_as_read
item-gives m tilde (major_minor_patch a b c is) = given_as_read
item-gives m caret p = given_as_read
item-gives m (op lt) p = given_as_read
item-gives m (op gt) x_range_only = given_as_read
item-gives m (op gt) (major_only a) = given_as_read
item-gives m (op gt) (major_minor a b) = given_as_read
item-gives m (op gt) (major_minor_patch a b c is) = given_as_read
item-gives m (op gte) p = given_as_read
item-gives m (op lte) x_range_only = given_as_read
item-gives m (op lte) (major_only a) = raises refl
item-gives m (op lte) (major_minor a b) = raises refl
item-gives m (op lte) (major_minor_patch a b c is) = given_as_read
item-gives m (op eq) x_range_only = given_as_read
item-gives m (op eq) (major_only a) = given_as_read
item-gives m (op eq) (major_minor a b) = given_as_read
item-gives m (op eq) (major_minor_patch a b c is) = given_as_read

pub gives-partial : {p : Partial} {x : Piece} → Gives p x → partial_in x ≡ p
gives-partial given_as_read = refl
gives-partial (raises e) = refl

-- ---- hyphen ranges

pub left-partial : (p : Partial) → partial_in (expand_left p) ≡ p
unfolding expand_left
left-partial x_range_only = refl
left-partial (major_only a) = refl
left-partial (major_minor a b) = refl
left-partial (major_minor_patch a b c is) = refl

pub right-partial : (p q : Partial) → partial_in (expand_right p q) ≡ q
unfolding expand_right
right-partial p (major_only a) = refl
right-partial p (major_minor a b) = refl
right-partial p (major_minor_patch a b c is) = refl
right-partial x_range_only x_range_only = refl
right-partial (major_only a) x_range_only = refl
right-partial (major_minor a b) x_range_only = refl
right-partial (major_minor_patch a b c is) x_range_only = refl
