-- An expansion depends on the partial's shape only: on its kind, and for a caret on which of its numbers are zero. So code that holds a
-- partial by its kind and its numbers, as 64 bits hold them, expands it as the rules do.
-- Assumes nothing.
use Prim.Native.Nat.{ℕ, zero, suc, ◌-◌}
use native.Mathlib.Omega.{arith}
use mathlib.Core.Path.{◌≡◌, refl}
use mathlib.Core.List.{List, []}
use mathlib.Core.Bool.{Bool, true, false}
use lib.Dec.{leb}
use Rattle.rules.specs.Bytes.{pick, largest}
use Rattle.rules.specs.Syntax as S
use Rattle.rules.specs.Expansion as E
use Rattle.rules.specs.Expansion.{cargo, npm, major_of, minor_of, Piece, caret_raises, expand_eq, expand_caret, expand_tilde, expand_bare, expand_op, expand_item, expand_left, expand_right}
use Rattle.partial.specs.declared.PartialKind.{PartialKind}
use Rattle.partial.specs.declared.PartialKind.TheVariants.{XRangeOnly, MajorOnly, MajorMinor, MajorMinorPatch}
use Rattle.partial.specs.Views.{kind_of, saturated}
use Rattle.range.specs.Views.{expansion_of, shape_of}

-- ---- on the kind alone

abbrev pub ByKind : (S.Partial → Piece) → Type 0
ByKind f = (p : S.Partial) (a b : ℕ) → expansion_of (f p) ≡ expansion_of (f (shape_of (kind_of p) a b))

kind-by-kind : (f : S.Partial → Piece)
    → ((c a : ℕ) → expansion_of (f (S.major_only c)) ≡ expansion_of (f (S.major_only a)))
    → ((c d a b : ℕ) → expansion_of (f (S.major_minor c d)) ≡ expansion_of (f (S.major_minor a b)))
    → ((c d e : ℕ) (is : List S.Identifier) (a b : ℕ) → expansion_of (f (S.major_minor_patch c d e is)) ≡ expansion_of (f (S.major_minor_patch a b 0 [])))
    → ByKind f
kind-by-kind f h k l S.x_range_only a b = refl
kind-by-kind f h k l (S.major_only c) a b = h c a
kind-by-kind f h k l (S.major_minor c d) a b = k c d a b
kind-by-kind f h k l (S.major_minor_patch c d e is) a b = l c d e is a b

pub eq-shape : ByKind expand_eq
unfolding expand_eq
eq-shape = kind-by-kind expand_eq (λ c a. refl) (λ c d a b. refl) (λ c d e is a b. refl)

pub tilde-shape : ByKind expand_tilde
unfolding expand_tilde
tilde-shape = kind-by-kind expand_tilde (λ c a. refl) (λ c d a b. refl) (λ c d e is a b. refl)

pub op-shape : (o : S.Op) → ByKind (expand_op o)
unfolding expand_op
op-shape S.lt = λ p a b. refl
op-shape S.lte = kind-by-kind (expand_op S.lte) (λ c a. refl) (λ c d a b. refl) (λ c d e is a b. refl)
op-shape S.gt = kind-by-kind (expand_op S.gt) (λ c a. refl) (λ c d a b. refl) (λ c d e is a b. refl)
op-shape S.gte = λ p a b. refl
op-shape S.eq = eq-shape

pub left-shape : ByKind expand_left
unfolding expand_left
left-shape = kind-by-kind expand_left (λ c a. refl) (λ c d a b. refl) (λ c d e is a b. refl)

-- whatever the numbers
pub numbers : (f : S.Partial → Piece) → ByKind f → (k : PartialKind) (a b : ℕ) → expansion_of (f (shape_of k 0 0)) ≡ expansion_of (f (shape_of k a b))
numbers f h XRangeOnly a b = refl
numbers f h MajorOnly a b = h (S.major_only 0) a b
numbers f h MajorMinor a b = h (S.major_minor 0 0) a b
numbers f h MajorMinorPatch a b = h (S.major_minor_patch 0 0 0 []) a b

-- ---- on the kind, and on which numbers are zero

-- zero stays zero, and what is not zero does not become it
kept-nonzero : (a : ℕ) → saturated (suc a) ≡ suc (saturated (suc a) - 1)
kept-nonzero a = go (leb (suc a) largest)
  where
    go : (b : Bool) → pick b (suc a) largest ≡ suc (pick b (suc a) largest - 1)
    go true = omega arith
    go false = refl

abbrev pub ByShape : (S.Partial → Piece) → Type 0
ByShape f = (p : S.Partial) → expansion_of (f p) ≡ expansion_of (f (shape_of (kind_of p) (saturated (major_of p)) (saturated (minor_of p))))

caret-shape : ByShape expand_caret
unfolding expand_caret caret_raises
caret-shape S.x_range_only = refl
caret-shape (S.major_only a) = refl
caret-shape (S.major_minor zero b) = refl
caret-shape (S.major_minor (suc a) b) = rw (kept-nonzero a)
caret-shape (S.major_minor_patch zero zero c is) = refl
caret-shape (S.major_minor_patch zero (suc b) c is) = rw (kept-nonzero b)
caret-shape (S.major_minor_patch (suc a) b c is) = rw (kept-nonzero a)

bare-shape : (m : E.Compat) → ByShape (expand_bare m)
unfolding expand_bare
bare-shape m S.x_range_only = refl
bare-shape m (S.major_only a) = refl
bare-shape m (S.major_minor a b) = refl
bare-shape npm (S.major_minor_patch a b c is) = refl
bare-shape cargo (S.major_minor_patch a b c is) = caret-shape (S.major_minor_patch a b c is)

pub item-shape : (m : E.Compat) (f : S.Prefix) → ByShape (λ p. expand_item m (S.item f p))
unfolding expand_item
item-shape m S.bare p = bare-shape m p
item-shape m S.tilde p = tilde-shape p _ _
item-shape m S.caret p = caret-shape p
item-shape m (S.op o) p = op-shape o p _ _
