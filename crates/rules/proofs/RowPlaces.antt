-- Theorem 17: the place and the length of each comparator row lie in the text. Each item of a derivation begins within the text.
-- Assumes nothing.
use mathlib.Core.Path.{◌≡◌, refl}
use Prim.Native.Nat.{ℕ, suc, ◌-◌, ◌≤◌}
use native.Mathlib.Omega.{arith}
use mathlib.Core.List.{List, [], ◌∷◌, ◌++◌, map, append_assoc}
use lib.ListN.{length}
use Rattle.rules.specs.Lists.{concat, All, all[], all∷}
use Rattle.rules.specs.Syntax.{Item, Range}
use Rattle.rules.specs.Grammar as G
use Rattle.rules.specs.Grammar.{Many, ReadsNext, ReadsRange, ReadsFurther, ReadsText}
use Rattle.rules.specs.Parse.{Result, fail, ok, skip, list_of, read_text}
use Rattle.rules.specs.Expansion.{Compat, Comparator, comparator, Piece, comparators, expand_range}
use Rattle.rules.specs.Extents.{Extent, extent, up_to, text_extents}
use Rattle.rules.specs.DerivedExtents.{next_extents, extents_in, further_in, extents_of}
use Rattle.rules.specs.Rows.{comparator_row, piece_rows, range_rows, rows_from, comparator_words, RowsInText, no_row, row}
use Rattle.rules.proofs.Sound.{sound}
use Rattle.rules.proofs.Complete.{literal-left, spaces-left, gap-left, item-left, range-left, skip-left}
use Rattle.rules.proofs.DerivedExtentsLaws.{grammar-extents}

-- ---- the extents of a derivation

-- it begins within n bytes, and ends there
abbrev Within : ℕ → Extent → Type 0
Within n (extent left size) = (left ≤ n) × (size ≤ left)

item-within : (n : ℕ) (s r : List ℕ) → length s ≤ n → Within n (up_to s r)
item-within n s r h = (h, omega arith)

next-within : (n : ℕ) {s r : List ℕ} {is : List Item} (k : Many ReadsNext s is r) → length s ≤ n → All (Within n) (next_extents k)
unfolding next_extents
next-within n Many.stop h = all[]
next-within n (Many.more (G.next {t} {r} g i) k) h =
    let x = gap-left g in let y = item-left i in all∷ (item-within n t r (omega arith)) (next-within n k (omega arith))

range-within : (n : ℕ) {s r : List ℕ} {a : Range} (d : ReadsRange s a r) → length s ≤ n → All (Within n) (extents_in d)
unfolding extents_in
range-within n (G.hyphened {s} {r} p d q) h = let x = item-within n s r h in all∷ x (all∷ x all[])
range-within n (G.listed {s} {t} i k) h = let x = item-left i in all∷ (item-within n s t h) (next-within n k (omega arith))
range-within n (G.empty {s}) h = let x = skip-left s in all∷ {a = extent (length (skip s)) 0} (omega arith, omega arith) all[]

further-within : (n : ℕ) {s r : List ℕ} {l : List Range} (k : Many ReadsFurther s l r) → length s ≤ n → All (All (Within n)) (further_in k)
unfolding further_in
further-within n Many.stop h = all[]
further-within n (Many.more (G.further (G.separator j b l) a) k) h =
    let x = spaces-left j in let y = literal-left b in let z = spaces-left l in let u = range-left a in
    all∷ (range-within n a (omega arith)) (further-within n k (omega arith))

text-within : {t : List ℕ} {rs : List Range} (d : ReadsText t rs) → All (All (Within (length t))) (extents_of d)
unfolding extents_of
text-within {t} (G.whole k a l e) =
    let x = spaces-left k in let y = range-left a in
    all∷ (range-within (length t) a (omega arith)) (further-within (length t) l (omega arith))

-- ---- the rows

piece-in : (n k : ℕ) (e : Extent) (cs : List Comparator) {ws : List ℕ} → Within n e → RowsInText n ws → RowsInText n (concat (map (comparator_row n k e) cs) ++ ws)
unfolding comparator_row
piece-in n k e [] h w = w
piece-in n k (extent left size) (comparator o a b c is ∷ cs) (h, j) w = row {place = n - left} {size = size} (omega arith) (piece-in n k (extent left size) cs (h, j) w)

range-in : (n k : ℕ) (ps : List Piece) (es : List Extent) {ws : List ℕ} → All (Within n) es → RowsInText n ws → RowsInText n (range_rows n k ps es ++ ws)
unfolding range_rows piece_rows
range-in n k [] es h w = w
range-in n k (x ∷ ps) [] h w = w
range-in n k (x ∷ ps) (e ∷ es) {ws} (all∷ h hs) w =
    rw (append_assoc (concat (map (comparator_row n k e) (comparators x))) (range_rows n k ps es) ws) (piece-in n k e (comparators x) h (range-in n k ps es hs w))

ranges_in : (n k : ℕ) (rs : List (List Piece)) (es : List (List Extent)) → All (All (Within n)) es → RowsInText n (rows_from n k rs es)
unfolding rows_from
ranges_in n k [] es h = no_row
ranges_in n k (ps ∷ rs) [] h = no_row
ranges_in n k (ps ∷ rs) (e ∷ es) (all∷ h hs) = range-in n k ps e h (ranges_in n (suc k) rs es hs)

pub rows-in-text : (m : Compat) (t : List ℕ) → RowsInText (length t) (comparator_words m t)
unfolding comparator_words rows_from
rows-in-text m t = go (read_text t) refl
  where
    go : (x : Result (List Range)) → read_text t ≡ x → RowsInText (length t) (rows_from (length t) 0 (map (expand_range m) (list_of x)) (list_of (text_extents t)))
    go fail e = no_row
    go (ok rs r) e =
        let d = sound t rs r e in rw (grammar-extents d) (ranges_in (length t) 0 (map (expand_range m) rs) (extents_of d) (text-within d))
