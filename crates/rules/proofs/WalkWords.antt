-- The identifier words of a reading are those of its pieces, one after another.
-- Assumes nothing.
use mathlib.Core.Path.{◌≡◌, refl, sym, ap, ap₂, ◌∙◌}
use Prim.Native.Nat.{ℕ}
use mathlib.Core.Option.{Option, none, some}
use mathlib.Core.List.{List, [], ◌∷◌, ◌++◌, map, append_assoc, append-nil}
use Rattle.rules.specs.Lists.{concat, All, all[], all∷}
use Rattle.rules.specs.Syntax.{Partial, identifiers_of, Identifier, Range}
use Rattle.rules.specs.Expansion.{Compat, Component, major, minor, patch, Piece, piece, Comparator, as_read, raised, comparators, expand_range, pieces, comparators_of, expand}
use Rattle.rules.specs.Rows.{identifiers_in, identifier_row, all_identifiers, identifier_words}
use Rattle.rules.specs.Walk.{piece_identifier_words, walk_identifier_words}
use Rattle.rules.proofs.Tallies.{Named, range-named}

-- ---- lists of lists

concat-append : {A : Type 0} (k l : List (List A)) → concat (k ++ l) ≡ concat k ++ concat l
concat-append [] l = refl
concat-append (a ∷ k) l = ap (λ x. a ++ x) (concat-append k l) ∙ sym (append_assoc a (concat k) (concat l))

map-append : {A B : Type 0} (f : A → B) (k l : List A) → map f (k ++ l) ≡ map f k ++ map f l
map-append f [] l = refl
map-append f (a ∷ k) l = ap (λ x. f a ∷ x) (map-append f k l)

pub concat-map-append : {A B : Type 0} (f : A → List B) (k l : List A) → concat (map f (k ++ l)) ≡ concat (map f k) ++ concat (map f l)
concat-map-append f k l = ap concat (map-append f k l) ∙ concat-append (map f k) (map f l)

-- ---- identifier words

-- the identifiers of comparators
abbrev identifiers_all : List Comparator → List Identifier
identifiers_all cs = concat (map identifiers_in cs)

raised-none : (c : Option Component) (p : Partial) → identifiers_all (raised c p) ≡ []
unfolding raised
raised-none none p = refl
raised-none (some major) p = refl
raised-none (some minor) p = refl
raised-none (some patch) p = refl

abbrev identifiers_of_piece : Piece → List Identifier
identifiers_of_piece (piece o c p) = identifiers_of p

piece-identifiers : (x : Piece) → Named x → identifiers_all (comparators x) ≡ identifiers_of_piece x
unfolding comparators as_read
piece-identifiers (piece none c p) e = raised-none c p ∙ sym e
piece-identifiers (piece (some o) c p) e = ap (λ l. identifiers_of p ++ l) (raised-none c p) ∙ append-nil (identifiers_of p)

range-identifiers : {ps : List Piece} → All Named ps → identifiers_all (comparators_of ps) ≡ concat (map identifiers_of_piece ps)
unfolding comparators_of
range-identifiers all[] = refl
range-identifiers (all∷ {a = x} {l = ps} h k) =
    concat-map-append identifiers_in (comparators x) (comparators_of ps) ∙ ap₂ ◌++◌ (piece-identifiers x h) (range-identifiers k)

text-identifiers : (m : Compat) (rs : List Range) → identifiers_all (concat (expand m rs)) ≡ concat (map identifiers_of_piece (pieces m rs))
unfolding expand pieces
text-identifiers m [] = refl
text-identifiers m (a ∷ rs) =
    concat-map-append identifiers_in (comparators_of (expand_range m a)) (concat (expand m rs))
    ∙ ap₂ ◌++◌ (range-identifiers (range-named m a)) (text-identifiers m rs)
    ∙ sym (concat-map-append identifiers_of_piece (expand_range m a) (pieces m rs))

names-rows : (n : ℕ) (ps : List Piece) → concat (map (identifier_row n) (concat (map identifiers_of_piece ps))) ≡ concat (map (piece_identifier_words n) ps)
unfolding piece_identifier_words
names-rows n [] = refl
names-rows n (piece o c p ∷ ps) =
    concat-map-append (identifier_row n) (identifiers_of p) (concat (map identifiers_of_piece ps)) ∙ ap (λ w. concat (map (identifier_row n) (identifiers_of p)) ++ w) (names-rows n ps)

pub expand-names-words : (m : Compat) (n : ℕ) (rs : List Range) → identifier_words n (expand m rs) ≡ walk_identifier_words n (map (expand_range m) rs)
unfolding identifier_words all_identifiers walk_identifier_words pieces
expand-names-words m n rs = ap (λ l. concat (map (identifier_row n) l)) (text-identifiers m rs) ∙ names-rows n (pieces m rs)
