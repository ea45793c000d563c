-- An entry put behind the others, and one removed: a law for each of the code's ways.
-- Assumes nothing.
use Prim.Native.Nat.{ℕ, suc, ◌+◌, ◌*◌, ◌-◌, ◌≤◌, ◌<◌}
use mathlib.Core.Path.{◌≡◌, refl, sym, ap, ap₂, ◌∙◌}
use mathlib.Core.List.{List, [], ◌∷◌, ◌++◌, append-nil, append_assoc}
use native.Mathlib.Omega.{arith}
use native.Mathlib.Nat.{mul-suc, add-suc}
use native.Mathlib.Numerals.{add-one}
use lib.ListN.{length, take, drop, set, replicate, length-append, length-take, length-drop, drop_of_length-le, length-set, take-append-drop}
use lib.Seq.{sets, sets-eq, set-append_left, take-append-add, drop-append-add, take_at, drop_at, drop-drop, drop-set-add, length-take-le, length-sets}
use borrow.Rule.Slice.PartMut.{put_mid}
use Rattle.rules.specs.Lists.{concat}
use Rattle.rules.specs.Expansion.{Compat, mode_number}
use Rattle.rules.proofs.Left.{rest_in}
use Rattle.rows.specs.Put.{Put}
use Rattle.rows.proofs.Stores.{part-back}
use Rattle.shelf_rules.specs.Table.{low_first, row_added, row_removed}
use Rattle.shelf_rules.specs.Triples.{Bounds}
use Rattle.shelf_rules.specs.Shelf.{entry_row, kept_row, entry_places, with_entry, without_entry}
use Rattle.shelf_rules.proofs.TableLaws.{rows-concat, removed-length}
use Rattle.shelf_rules.proofs.KeptLaws.{kept-length}
use Rattle.shelf_rules.proofs.EntryLaws.{entry_length}
use Rattle.entries.specs.Counted.{Counted}

-- ---- put_entry

module _ (e : List ℕ) (h : 100 ≤ length e) (code : ℕ) (y : List ℕ) (p : y ≡ low_first 2 code ++ drop 2 e) where
  code_put : y ≡ sets e 0 (low_first 2 code)
  unfolding low_first
  code_put = p ∙ sym (sets-eq (low_first 2 code) e 0 (omega arith))

  pub entry_stored : (m : Compat) (t : List ℕ) (k : ℕ) → k ≡ mode_number m → (z : List ℕ)
      → z ≡ sets (set (set y 2 k) 3 (length t)) 4 (t ++ replicate (96 - length t) 0) → z ≡ sets e 0 (entry_row code m t)
  unfolding entry_row low_first
  entry_stored m t k q z r = r ∙ rw (code_put, q)

-- ---- a row stored is a row added

concat-snoc : (es : List (List ℕ)) (e : List ℕ) → concat (es ++ (e ∷ [])) ≡ concat es ++ e
concat-snoc [] e = append-nil e
concat-snoc (x ∷ es) e = rw (concat-snoc es e) (sym (append_assoc x (concat es) e))

row-set : (w n : ℕ) (e b : List ℕ) → length e ≡ w → w * suc n ≤ length b → sets b (w * n) e ≡ row_added w n e b
unfolding row_added
row-set w n e b q h =
    let m : w * suc n ≡ w * n + w = mul-suc w n in
    sets-eq e b (w * n) (omega arith) ∙ rw (q, concat-snoc, rows-concat, m)

-- behind the first a places
drop-sets : (b : List ℕ) (a i : ℕ) (e : List ℕ) → drop a (sets b (a + i) e) ≡ sets (drop a b) i e
drop-sets b a i [] = refl
drop-sets b a i (x ∷ e) =
    let r : drop a (sets (set b (a + i) x) (a + suc i) e) ≡ sets (drop a (set b (a + i) x)) (suc i) e = drop-sets (set b (a + i) x) a (suc i) e in
    rw (add-suc, drop-set-add) at r

-- in a list of two parts
sets-left : (t k : List ℕ) (i : ℕ) (e : List ℕ) → i + length e ≤ length t → sets (t ++ k) i e ≡ sets t i e ++ k
sets-left t k i [] h = refl
sets-left t k i (x ∷ e) h =
    ap (λ r. sets r (suc i) e) (set-append_left t k i x (omega arith)) ∙ sets-left (set t i x) k (suc i) e (omega (arith, length-set t i x))

sets-right : (t k : List ℕ) (j : ℕ) (e : List ℕ) → j + length e ≤ length k → sets (t ++ k) (length t + j) e ≡ t ++ sets k j e
sets-right t k j e h =
    let q : length t + j + length e ≡ length t + (j + length e) = omega arith in
    let a : drop (length t + j + length e) (t ++ k) ≡ drop (j + length e) k = ap (λ i. drop i (t ++ k)) q ∙ drop-append-add t k (j + length e) in
    sets-eq e (t ++ k) (length t + j) (omega (arith, length-append t k))
    ∙ rw (take-append-add, a, sets-eq e k j h)
    (append_assoc (t ++ take j k) e (drop (j + length e) k) ∙ append_assoc t (take j k) (e ++ drop (j + length e) k)
    ∙ ap (λ r. t ++ r) (sym (append_assoc (take j k) e (drop (j + length e) k))))

-- ---- add_at

module _ (l : List ℕ) (n : ℕ) (c : Counted l n) (h : n < 256) where
  module _ (e y : List ℕ) (p : y ≡ sets (take (length l - (2 + 100 * n)) (drop (2 + 100 * n) l)) 0 e) where
    entry-stored : put_mid (2 + 100 * n) (length l - (2 + 100 * n)) l y ≡ sets l (2 + 100 * n) e
    entry-stored = part-back l (2 + 100 * n) e p

  pub entry_added : (code : ℕ) (m : Compat) (x y r : List ℕ) (b : Bounds) (i : ℕ) → length x ≤ 96
      → y ≡ sets (take (length l - (2 + 100 * n)) (drop (2 + 100 * n) l)) 0 (entry_row code m x)
      → Put (put_mid (2 + 100 * n) (length l - (2 + 100 * n)) l y) (25602 + 48 * n) (kept_row b) r i
      → low_first 2 (n + 1) ++ drop 2 r ≡ with_entry (entry_row code m x) (kept_row b) l
  unfolding with_entry
  entry_added code m x y r b i k p q =
      let s = c.sized in
      let e = entry_row code m x in
      let w = kept_row b in
      let d = drop 2 l in
      let en : length e ≡ 100 = entry_length code m x k in
      let wn : length w ≡ 48 = kept-length b in
      let dn : length d ≡ 37888 = length-drop 2 l ∙ omega arith in
      let tn : length (entry_places l) ≡ 25600 = length-take-le 25600 d (omega arith) in
      let kept : drop 25600 d ≡ drop 25602 l = drop-drop 25600 2 l in
      let kn : length (drop 25602 l) ≡ 12288 = length-drop 25602 l ∙ omega arith in
      let parts : d ≡ entry_places l ++ drop 25602 l = sym (take-append-drop 25600 d) ∙ ap (λ z. entry_places l ++ z) kept in
      let an : length (sets (entry_places l) (100 * n) e) ≡ 25600 = length-sets (entry_places l) (100 * n) e ∙ tn in
      let at : 25602 + 48 * n ≡ 2 + (25600 + 48 * n) = omega arith in
      let both : drop 2 r ≡ row_added 100 n e (entry_places l) ++ row_added 48 n w (drop 25602 l)
      = ap (drop 2) (q.stored ∙ ap (λ z. sets z (25602 + 48 * n) w) (entry-stored e y p) ∙ ap (λ z. sets (sets l (2 + 100 * n) e) z w) at)
      ∙ drop-sets (sets l (2 + 100 * n) e) 2 (25600 + 48 * n) w
      ∙ ap (λ z. sets z (25600 + 48 * n) w)
      (drop-sets l 2 (100 * n) e ∙ ap (λ z. sets z (100 * n) e) parts ∙ sets-left (entry_places l) (drop 25602 l) (100 * n) e (omega arith))
      ∙ ap (λ z. sets (sets (entry_places l) (100 * n) e ++ drop 25602 l) (z + 48 * n) w) (sym an)
      ∙ sets-right (sets (entry_places l) (100 * n) e) (drop 25602 l) (48 * n) w (omega arith)
      ∙ ap₂ ◌++◌ (row-set 100 n e (entry_places l) en (omega arith)) (row-set 48 n w (drop 25602 l) wn (omega arith)) in
      ap₂ (λ i z. low_first 2 i ++ z) (add-one n) both
      ∙ ap (λ i. low_first 2 (suc i) ++ (row_added 100 i e (entry_places l) ++ row_added 48 i w (drop 25602 l))) (sym c.is)

-- ---- remove_at

-- a list whose part from a up to c becomes y, and then what stands from c on becomes z
module _ (l y : List ℕ) (a c : ℕ) (ac : a ≤ c) (h : c ≤ length l) (e : length y ≡ c - a) where
  abbrev once : List ℕ
  once = put_mid a (c - a) l y

  front : length (take a l ++ y) ≡ c
  front = omega (arith, length-append (take a l) y, length-take-le a l (omega arith))

  once_is : once ≡ (take a l ++ y) ++ drop c l
  once_is =
      let d : a + (c - a) ≡ c = omega arith in
      let p : drop (c - a) (drop a l) ≡ drop c l = drop-drop (c - a) a l ∙ ap (λ i. drop i l) d in
      ap (λ r. take a l ++ (y ++ r)) p ∙ sym (append_assoc (take a l) y (drop c l))

  once-length : length once ≡ length l
  once-length = ap length once_is ∙ length-append (take a l ++ y) (drop c l) ∙ omega (arith, front, length-drop c l)

  once-rest : take (length once - c) (drop c once) ≡ drop c l
  once-rest = rest_in once c ∙ ap (drop c) once_is ∙ drop_at (take a l ++ y) (drop c l) c front

  twice-is : (z : List ℕ) → put_mid c (length once - c) once z ≡ (take a l ++ y) ++ z
  twice-is z =
      let p : drop (length once - c) (drop c once) ≡ [] = drop_of_length-le (drop c once) {i = length once - c} (omega (arith, length-drop c once)) in
      let q : take c once ≡ take a l ++ y = ap (take c) once_is ∙ take_at (take a l ++ y) (drop c l) c front in
      ap (λ r. take c once ++ (z ++ r)) p ∙ rw (append-nil, q)

  twice-drop : (z : List ℕ) → drop a (put_mid c (length once - c) once z) ≡ y ++ z
  twice-drop z =
      ap (drop a) (twice-is z ∙ append_assoc (take a l) y z) ∙ drop_at (take a l) (y ++ z) a (length-take-le a l (omega arith))

module _ (l : List ℕ) (n k : ℕ) (c : Counted l n) (h : k < n) where
  rows-room : 100 * n ≤ length (take (25602 - 2) (drop 2 l))
  rows-room = let s = c.sized in let f = c.few in simp (length-take, length-drop) (omega arith)

  module _ (y : List ℕ) (p : y ≡ row_removed 100 n k (take (25602 - 2) (drop 2 l))) where
    same : length y ≡ 25602 - 2
    same =
        let s = c.sized in
        let t : length (take (25602 - 2) (drop 2 l)) ≡ 25602 - 2 = length-take-le (25602 - 2) (drop 2 l) (simp length-drop (omega arith)) in
        ap length p ∙ removed-length 100 n k (take (25602 - 2) (drop 2 l)) h rows-room ∙ t

    inside : 25602 ≤ length l
    inside = let s = c.sized in omega arith

    pub entry_removed : (z : List ℕ) → z ≡ row_removed 48 n k (take (length (put_mid 2 (25602 - 2) l y) - 25602) (drop 25602 (put_mid 2 (25602 - 2) l y)))
        → low_first 2 (n - 1) ++ drop 2 (put_mid 25602 (length (put_mid 2 (25602 - 2) l y) - 25602) (put_mid 2 (25602 - 2) l y) z) ≡ without_entry k l
    unfolding without_entry
    entry_removed z q =
        ap (λ r. low_first 2 (n - 1) ++ r)
        (twice-drop l y 2 25602 (omega arith) inside same z ∙ ap₂ ◌++◌ p (q ∙ ap (row_removed 48 n k) (once-rest l y 2 25602 (omega arith) inside same)))
        ∙ ap (λ i. low_first 2 (i - 1) ++ (row_removed 100 i k (entry_places l) ++ row_removed 48 i k (drop 25602 l))) (sym c.is)
