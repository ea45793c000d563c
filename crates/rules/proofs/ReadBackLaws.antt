-- Theorem 7: from the text and the words of the rows, the reading is had back.
-- Assumes nothing.
use mathlib.Core.Path.{◌≡◌, refl, sym, ap, ap₂, ◌∙◌}
use Prim.Native.Nat.{ℕ, suc, ◌-◌}
use native.Mathlib.Omega.{arith}
use mathlib.Core.List.{List, [], ◌∷◌, ◌++◌, map, foldr, append_assoc}
use lib.ListN.{length}
use lib.Seq.{take-append_seam, drop-append_seam}
use borrow.Author.Tests.{eq-eqb, ne_eqb}
use Rattle.rules.specs.Lists.{concat, All, all[], all∷}
use Rattle.rules.specs.Syntax.{Identifier, number, text, Op, lt, lte, gt, gte, eq, Range}
use Rattle.rules.specs.Parse.{list_of}
use Rattle.rules.specs.Expansion.{Compat, Comparator, comparator, Piece, comparators, expand_range, comparators_of, Reading, expand}
use Rattle.rules.specs.Extents.{Extent, extent, text_extents}
use Rattle.rules.specs.Rows.{op_code, identifiers_in, comparator_row, piece_rows, range_rows, rows_from, comparator_words, identifier_row, all_identifiers, identifier_words, InText}
use Rattle.rules.specs.ReadBack.{identifier_from, identifiers_from, op_from, Group, group, comparators_in, before, groups_from, read_back}
use Rattle.rules.specs.Answers.{accepted, reading}
use Rattle.rules.proofs.Places.{places}
use Rattle.rules.proofs.Nonempty.{Nonempty, nonempty, range_nonempty}
use Rattle.rules.proofs.RowsLaws.{Ranges, ranges-of, first_of, later_of}

-- ---- identifiers

identifiers-back : (t : List ℕ) {is : List Identifier} → All (InText t) is → identifiers_from t (concat (map (identifier_row (length t)) is)) ≡ is
unfolding identifiers_from identifier_from identifier_row
identifiers-back t all[] = refl
identifiers-back t (all∷ {a = number v} {l} h k) = ap (◌∷◌ (number v)) (identifiers-back t k)
identifiers-back t (all∷ {a = text left w} {l} (b, n, e) k) = let d : length t - (length t - left) ≡ left = omega arith in rw (d, e, identifiers-back t k)

-- ---- comparators

op-back : (o : Op) → op_from (op_code o) ≡ o
unfolding op_from
op-back lt = refl
op-back lte = refl
op-back gt = refl
op-back gte = refl
op-back eq = refl

-- the comparators of a piece of range k, and the groups that follow
piece_back : (n k : ℕ) (e : Extent) (cs ds : List Comparator) (ws : List ℕ)
    → groups_from (concat (map identifiers_in (cs ++ ds))) (concat (map (comparator_row n k e) cs) ++ ws)
    ≡ foldr (before k) (groups_from (concat (map identifiers_in ds)) ws) cs
unfolding groups_from comparator_row
piece_back n k e [] ds ws = refl
piece_back n k (extent l z) (comparator o a b c is ∷ cs) ds ws = rw (op-back o, take-append_seam, drop-append_seam, piece_back n k (extent l z) cs ds ws)

foldr-append : {A B : Type 0} (f : A → B → B) (b : B) (k l : List A) → foldr f b (k ++ l) ≡ foldr f (foldr f b l) k
foldr-append f b [] l = refl
foldr-append f b (a ∷ k) l = ap (f a) (foldr-append f b k l)

-- of its pieces
range_back : (n k : ℕ) (ps : List Piece) (es : List Extent) → length ps ≡ length es → (ds : List Comparator) (ws : List ℕ)
    → groups_from (concat (map identifiers_in (comparators_of ps ++ ds))) (range_rows n k ps es ++ ws)
    ≡ foldr (before k) (groups_from (concat (map identifiers_in ds)) ws) (comparators_of ps)
unfolding range_rows piece_rows comparators_of
range_back n k [] es h ds ws = refl
range_back n k (x ∷ ps) [] h ds ws = absurd (omega arith)
range_back n k (x ∷ ps) (e ∷ es) h ds ws =
    ap₂ (λ is w. groups_from (concat (map identifiers_in is)) w)
    (append_assoc (comparators x) (comparators_of ps) ds) (append_assoc (concat (map (comparator_row n k e) (comparators x))) (range_rows n k ps es) ws)
    ∙ piece_back n k e (comparators x) (comparators_of ps ++ ds) (range_rows n k ps es ++ ws)
    ∙ ap (λ g. foldr (before k) g (comparators x)) (range_back n k ps es (omega arith) ds ws)
    ∙ sym (foldr-append (before k) (groups_from (concat (map identifiers_in ds)) ws) (comparators x) (comparators_of ps))

-- the ranges from number k on, each with its number
abbrev numbered : ℕ → Reading → List Group
numbered k [] = []
numbered k (cs ∷ rs) = group k cs ∷ numbered (suc k) rs

numbered-back : (k : ℕ) (rs : Reading) → map comparators_in (numbered k rs) ≡ rs
numbered-back k [] = refl
numbered-back k (cs ∷ rs) = ap (◌∷◌ cs) (numbered-back (suc k) rs)

-- the comparators of range k make one group before those of the next
grouped : (k : ℕ) (c : Comparator) (cs : List Comparator) (rs : Reading)
    → foldr (before k) (numbered (suc k) rs) (c ∷ cs) ≡ group k (c ∷ cs) ∷ numbered (suc k) rs
unfolding before
grouped k c [] [] = refl
grouped k c [] (ds ∷ rs) = rw (ne_eqb k (suc k) (omega arith))
grouped k c (d ∷ cs) rs = rw (grouped k d cs rs, eq-eqb k k refl)

-- the comparators of a range are its own group
own-group : (k : ℕ) {cs : List Comparator} → Nonempty cs → (rs : Reading) → foldr (before k) (numbered (suc k) rs) cs ≡ group k cs ∷ numbered (suc k) rs
own-group k (nonempty {a = c} {l = cs}) rs = grouped k c cs rs

groups-back : (m : Compat) (n k : ℕ) (qs : List Range) (es : List (List Extent)) → map length (map (expand_range m) qs) ≡ map length es
    → groups_from (all_identifiers (expand m qs)) (rows_from n k (map (expand_range m) qs) es) ≡ numbered k (expand m qs)
unfolding all_identifiers rows_from groups_from expand
groups-back m n k [] es h = refl
groups-back m n k (a ∷ qs) [] h = let z : ◌≡◌ {A = ℕ} 0 1 = cc in absurd (omega arith)
groups-back m n k (a ∷ qs) (e ∷ es) h =
    range_back n k (expand_range m a) e (ap first_of h) (concat (expand m qs)) (rows_from n (suc k) (map (expand_range m) qs) es)
    ∙ ap (λ g. foldr (before k) g (comparators_of (expand_range m a))) (groups-back m n (suc k) qs es (ap later_of h))
    ∙ own-group k (range_nonempty m a) (expand m qs)

-- ---- the reading

pub read_back_lem : (m : Compat) (t : List ℕ) (rs : Reading) → reading m t ≡ accepted rs → read_back t (comparator_words m t) (identifier_words (length t) rs) ≡ rs
unfolding read_back comparator_words identifier_words
read_back_lem m t rs e =
    ap₂ (λ is w. map comparators_in (groups_from is w)) (identifiers-back t (places m t rs e)) rows ∙ ap (map comparators_in) groups ∙ numbered-back 0 rs
  where
    g : Ranges m t rs
    g = ranges-of m t rs e

    rows : comparator_words m t ≡ rows_from (length t) 0 (map (expand_range m) g.ranges) (list_of (text_extents t))
    rows = ap (λ x. rows_from (length t) 0 (map (expand_range m) (list_of x)) (list_of (text_extents t))) g.reads

    groups : groups_from (all_identifiers rs) (rows_from (length t) 0 (map (expand_range m) g.ranges) (list_of (text_extents t))) ≡ numbered 0 rs
    groups =
        ap (λ x. groups_from (all_identifiers x) (rows_from (length t) 0 (map (expand_range m) g.ranges) (list_of (text_extents t)))) g.is
        ∙ groups-back m (length t) 0 g.ranges (list_of (text_extents t)) g.extents
        ∙ ap (numbered 0) (sym g.is)
