-- Each piece of a text has its extent; and how many words the rows of an accepted text have.
-- Assumes nothing.
use Prim.Native.Nat.{ℕ, suc, ◌*◌}
use native.Mathlib.Nat.{mul-zero, mul-suc}
use native.Mathlib.Omega.{arith}
use mathlib.Core.Path.{◌≡◌, refl, sym, ap, ◌∙◌}
use mathlib.Core.Option.{Option, some}
use mathlib.Core.List.{List, [], ◌∷◌, map}
use lib.ListN.{length, length-append}
use Rattle.rules.specs.Lists.{concat}
use Rattle.rules.specs.Syntax.{Identifier, number, text, Range}
use Rattle.rules.specs.Parse.{Result, fail, ok, list_of, read_text}
use Rattle.rules.specs.Expansion.{Compat, Comparator, comparator, Piece, comparators, expand_range, comparators_of, Reading, expand}
use Rattle.rules.specs.Extents.{Extent, extent, text_extents}
use Rattle.rules.specs.Rows.{comparator_width, comparator_row, piece_rows, range_rows, rows_from, comparator_words, identifier_row, all_identifiers, identifier_words}
use Rattle.rules.specs.Answers.{accepted, reading, comparator_rows, identifier_rows}
use Rattle.rules.specs.Walk.{map_option, walk_of}
use Rattle.rules.proofs.Accepted.{Accepted, reads, reading-accepted}
use Rattle.rules.proofs.Complete.{complete}
use Rattle.rules.proofs.WalkLaws.{text-walk}
use Rattle.rules.proofs.ExtentLaws.{found, text-extents}
use Rattle.rules.proofs.ExtentSteps.{AsMany, extents-count}

-- ---- the ranges of an accepted text, and their extents

pub record Ranges (m : Compat) (t : List ℕ) (rs : Reading) : Type 0 where
  pub ranges : List Range
  pub reads : read_text t ≡ ok ranges []
  pub is : rs ≡ expand m ranges
  pub extents : map length (map (expand_range m) ranges) ≡ map length (list_of (text_extents t))

abbrev pub later_of : List ℕ → List ℕ
later_of [] = []
later_of (n ∷ ns) = ns

abbrev pub first_of : List ℕ → ℕ
first_of [] = 0
first_of (n ∷ ns) = n

many-of : (m : Compat) (rs : List Range) (g : Result (List (List Extent)))
    → AsMany (some ([] ∷ map (expand_range m) rs)) (map_option (λ es. [] ∷ es) (found g)) → map length (map (expand_range m) rs) ≡ map length (list_of g)
many-of m rs fail h = absurd h
many-of m rs (ok es r) h = ap later_of h

many-text : (m : Compat) (g : Result (List Range)) (o : Option (List (List Extent)))
    → AsMany (map_option (λ rs. [] ∷ rs) (walk_of m g)) o → (rs : List Range) (r : List ℕ) → g ≡ ok rs r → AsMany (some ([] ∷ map (expand_range m) rs)) o
many-text m g o h rs r e = rw e at h

-- as many extents as pieces, in each range
text-many : (m : Compat) (t : List ℕ) (rs : List Range) (r : List ℕ) → read_text t ≡ ok rs r → map length (map (expand_range m) rs) ≡ map length (list_of (text_extents t))
text-many m t rs r e =
    many-of m rs (text_extents t)
    (many-text m (read_text t) (map_option (λ es. [] ∷ es) (found (text_extents t))) (extents-count (text-walk m t) (text-extents m 0 t)) rs r e)

accepted-ranges : {m : Compat} {t : List ℕ} {rs : Reading} → Accepted m t rs → Ranges m t rs
accepted-ranges {m} {t} (reads {rs = qs} l d f g) = let e = complete d in record { ranges = qs; reads = e; is = refl; extents = text-many m t qs [] e }

pub ranges-of : (m : Compat) (t : List ℕ) (rs : Reading) → reading m t ≡ accepted rs → Ranges m t rs
ranges-of m t rs e = accepted-ranges (reading-accepted m t rs e)

-- ---- how many words

-- rows of one width
rows-length : {A : Type 0} (n : ℕ) (f : A → List ℕ) → ((a : A) → length (f a) ≡ n) → (l : List A) → length (concat (map f l)) ≡ n * length l
rows-length n f h [] = rw mul-zero
rows-length n f h (a ∷ l) = omega (arith, length-append (f a) (concat (map f l)), h a, rows-length n f h l, mul-suc n (length l))

row-width : (n k : ℕ) (e : Extent) (c : Comparator) → length (comparator_row n k e c) ≡ comparator_width
unfolding comparator_row
row-width n k (extent l z) (comparator o a b c is) = refl

row-three : (n : ℕ) (i : Identifier) → length (identifier_row n i) ≡ 3
unfolding identifier_row
row-three n (number v) = refl
row-three n (text left w) = refl

range_length : (n k : ℕ) (ps : List Piece) (es : List Extent) → length ps ≡ length es → length (range_rows n k ps es) ≡ comparator_width * length (comparators_of ps)
unfolding range_rows piece_rows comparators_of
range_length n k [] es h = refl
range_length n k (x ∷ ps) [] h = absurd (omega arith)
range_length n k (x ∷ ps) (e ∷ es) h =
    omega (
      arith,
      length-append (concat (map (comparator_row n k e) (comparators x))) (range_rows n k ps es),
      rows-length comparator_width (comparator_row n k e) (row-width n k e) (comparators x),
      range_length n k ps es (omega arith),
      length-append (comparators x) (comparators_of ps),
    )

ranges-length : (m : Compat) (n k : ℕ) (rs : List Range) (es : List (List Extent)) → map length (map (expand_range m) rs) ≡ map length es
    → length (rows_from n k (map (expand_range m) rs) es) ≡ comparator_width * comparator_rows (expand m rs)
unfolding rows_from expand
ranges-length m n k [] es h = refl
ranges-length m n k (a ∷ rs) [] h = let z : ◌≡◌ {A = ℕ} 0 1 = cc in absurd (omega arith)
ranges-length m n k (a ∷ rs) (e ∷ es) h =
    omega (
      arith,
      length-append (range_rows n k (expand_range m a) e) (rows_from n (suc k) (map (expand_range m) rs) es),
      range_length n k (expand_range m a) e (ap first_of h),
      ranges-length m n (suc k) rs es (ap later_of h),
      length-append (comparators_of (expand_range m a)) (concat (expand m rs)),
    )

pub words-length : (m : Compat) (t : List ℕ) (rs : Reading) → reading m t ≡ accepted rs → length (comparator_words m t) ≡ comparator_width * comparator_rows rs
unfolding comparator_words
words-length m t rs e =
    let g = ranges-of m t rs e in
    ap (λ x. length (rows_from (length t) 0 (map (expand_range m) (list_of x)) (list_of (text_extents t)))) g.reads
    ∙ ranges-length m (length t) 0 g.ranges (list_of (text_extents t)) g.extents ∙ ap (λ x. comparator_width * comparator_rows x) (sym g.is)

pub names-length : (n : ℕ) (rs : Reading) → length (identifier_words n rs) ≡ 3 * identifier_rows rs
unfolding identifier_words identifier_rows
names-length n rs = rows-length 3 (identifier_row n) (row-three n) (all_identifiers rs)
