-- Laws of the bytes in which triples are kept: how many they are, and that the triples of an accepted text are had back from them.
-- Assumes nothing.
use Prim.Native.Nat.{ℕ, ◌+◌, ◌≤◌}
use mathlib.Core.Path.{◌≡◌, sym, ap, ap₂, ◌∙◌}
use mathlib.Core.Bool.{Bool, true, false, ◌&&◌}
use mathlib.Core.List.{List, [], ◌∷◌, ◌++◌, append_assoc, append-nil}
use native.Mathlib.Omega.{arith}
use lib.ListN.{length, take, drop, length-append}
use lib.Seq.{take_at, drop_at, drop-drop}
use borrow.Author.Tests.{leb-true}
use Rattle.rules.specs.Lists.{each}
use Rattle.rules.specs.Bytes.{pick, largest}
use Rattle.rules.specs.Expansion.{Compat, Comparator, comparator, Reading, expand}
use Rattle.rules.specs.Answers.{Answer, accepted, fits, comparator_fits, reading_fits, reading}
use Rattle.rules.proofs.Follows.{both}
use Rattle.rules.proofs.Accepted as A
use Rattle.shelf_rules.specs.Table.{low_first, number_in}
use Rattle.shelf_rules.specs.Triples.{Triple, triple, at_most, larger, smaller, lowest, highest, is_lower, is_upper, low_with, high_with, low_from, high_from, low_triple, high_triple, least_from, greatest_from, Bounds, bounds_of}
use Rattle.shelf_rules.specs.Shelf.{triple_row, kept_row, triple_in, bounds_in}
use Rattle.shelf_rules.proofs.TableLaws.{low-length, low-back, take-inside}

-- ---- how many bytes

pub triple-length : (t : Triple) → length (triple_row t) ≡ 24
unfolding triple_row
triple-length t =
    length-append (low_first 8 t.major) (low_first 8 t.minor ++ low_first 8 t.patch)
    ∙ omega (arith, length-append (low_first 8 t.minor) (low_first 8 t.patch), low-length 8 t.major, low-length 8 t.minor, low-length 8 t.patch)

pub kept-length : (b : Bounds) → length (kept_row b) ≡ 48
unfolding kept_row
kept-length b =
    length-append (triple_row b.low) (triple_row b.high) ∙ omega (arith, triple-length b.low, triple-length b.high)

-- ---- numbers of 64 bits

record Small (t : Triple) : Type 0 where
  pub major : t.major ≤ largest
  pub minor : t.minor ≤ largest
  pub patch : t.patch ≤ largest

small : (a b c : ℕ) → fits a && (fits b && fits c) ≡ true → Small (triple a b c)
small a b c h =
    let (x, k) = both (fits a) (fits b && fits c) h in
    let (y, z) = both (fits b) (fits c) k in
    record { major = leb-true a largest x; minor = leb-true b largest y; patch = leb-true c largest z }

lowest-small : Small lowest
lowest-small = record { major = omega arith; minor = omega arith; patch = omega arith }

highest-small : Small highest
highest-small = record { major = omega arith; minor = omega arith; patch = omega arith }

pick_small : {t u : Triple} (b : Bool) → Small t → Small u → Small (pick b t u)
pick_small true x y = x
pick_small false x y = y

low_small : (cs : List Comparator) (t : Triple) → Small t → each comparator_fits cs ≡ true → Small (low_from t cs)
unfolding low_from comparator_fits
low_small [] t k h = k
low_small (comparator o a b c is ∷ cs) t k h =
    let (x, y) = both (fits a && (fits b && fits c)) (each comparator_fits cs) h in
    low_small cs (low_with t (comparator o a b c is)) (pick_small (is_lower o) (pick_small (at_most t (triple a b c)) (small a b c x) k) k) y

high_small : (cs : List Comparator) (t : Triple) → Small t → each comparator_fits cs ≡ true → Small (high_from t cs)
unfolding high_from comparator_fits
high_small [] t k h = k
high_small (comparator o a b c is ∷ cs) t k h =
    let (x, y) = both (fits a && (fits b && fits c)) (each comparator_fits cs) h in
    high_small cs (high_with t (comparator o a b c is)) (pick_small (is_upper o) (pick_small (at_most t (triple a b c)) k (small a b c x)) k) y

least-small : (rs : Reading) (t : Triple) → Small t → each (each comparator_fits) rs ≡ true → Small (least_from t rs)
unfolding least_from
least-small [] t k h = k
least-small (cs ∷ rs) t k h =
    let (x, y) = both (each comparator_fits cs) (each (each comparator_fits) rs) h in
    least-small rs (smaller t (low_triple cs)) (pick_small (at_most t (low_triple cs)) k (low_small cs lowest lowest-small x)) y

greatest-small : (rs : Reading) (t : Triple) → Small t → each (each comparator_fits) rs ≡ true → Small (greatest_from t rs)
unfolding greatest_from
greatest-small [] t k h = k
greatest-small (cs ∷ rs) t k h =
    let (x, y) = both (each comparator_fits cs) (each (each comparator_fits) rs) h in
    greatest-small rs (larger t (high_triple cs)) (pick_small (at_most t (high_triple cs)) (high_small cs highest highest-small x) k) y

reading-fits : (m : Compat) (t : List ℕ) (rs : Reading) → reading m t ≡ accepted rs → reading_fits rs ≡ true
reading-fits m t rs q = go (A.decided m t) q
  where
    go : {a : Answer Reading} → A.Decided m t a → a ≡ accepted rs → reading_fits rs ≡ true
    go (A.long l) p = let z : ◌≡◌ {A = ℕ} 0 1 = cc in absurd (omega arith)
    go (A.underivable l u) p = let z : ◌≡◌ {A = ℕ} 0 1 = cc in absurd (omega arith)
    go (A.large l d f) p = let z : ◌≡◌ {A = ℕ} 0 1 = cc in absurd (omega arith)
    go (A.raised l d f g) p = let z : ◌≡◌ {A = ℕ} 0 1 = cc in absurd (omega arith)
    go (A.accepts {rs = xs} l d f g) p = let e : expand m xs ≡ rs = cc in rw e at g

-- ---- had back from their bytes

number-back : (n : ℕ) (r : List ℕ) → n ≤ largest → number_in (take 8 (low_first 8 n ++ r)) ≡ n
number-back n r h = ap number_in (take_at (low_first 8 n) r 8 (low-length 8 n)) ∙ low-back 8 n (omega arith)

number-rest : (n : ℕ) (r : List ℕ) → drop 8 (low_first 8 n ++ r) ≡ r
number-rest n r = drop_at (low_first 8 n) r 8 (low-length 8 n)

-- three numbers, and other bytes behind them
triple-back : (t : Triple) (r : List ℕ) → Small t → triple_in (triple_row t ++ r) ≡ t
unfolding triple_row
triple-back t r s =
    let x = low_first 8 t.major in let y = low_first 8 t.minor in let z = low_first 8 t.patch in
    let a : (x ++ (y ++ z)) ++ r ≡ x ++ (y ++ (z ++ r)) = append_assoc x (y ++ z) r ∙ ap (λ k. x ++ k) (append_assoc y z r) in
    let i : drop 8 ((x ++ (y ++ z)) ++ r) ≡ y ++ (z ++ r) = ap (drop 8) a ∙ number-rest t.major (y ++ (z ++ r)) in
    let j : drop 16 ((x ++ (y ++ z)) ++ r) ≡ z ++ r
    = sym (drop-drop 8 8 ((x ++ (y ++ z)) ++ r)) ∙ ap (drop 8) i ∙ number-rest t.minor (z ++ r) in
    let e = ap number a ∙ number-back t.major (y ++ (z ++ r)) s.major in
    let f = ap number i ∙ number-back t.minor (z ++ r) s.minor in
    let g = ap number j ∙ number-back t.patch r s.patch in
    ap₂ (λ a b. triple a b (number (drop 16 ((x ++ (y ++ z)) ++ r)))) e f ∙ ap (triple t.major t.minor) g
  where
    number : List ℕ → ℕ
    number k = number_in (take 8 k)

kept_back : (b : Bounds) → Small b.low → Small b.high → bounds_in (kept_row b) ≡ b
unfolding kept_row
kept_back b s u =
    let h : drop 24 (triple_row b.low ++ triple_row b.high) ≡ triple_row b.high
    = drop_at (triple_row b.low) (triple_row b.high) 24 (triple-length b.low) in
    let e : triple_in (triple_row b.high) ≡ b.high = ap triple_in (sym (append-nil (triple_row b.high))) ∙ triple-back b.high [] u in
    ap₂ (λ l h. record { low = l; high = h }) (triple-back b.low (triple_row b.high) s) (ap triple_in h ∙ e)

pub bounds-back : (m : Compat) (t : List ℕ) (rs : Reading) → reading m t ≡ accepted rs → bounds_in (kept_row (bounds_of rs)) ≡ bounds_of rs
unfolding bounds_of reading_fits
bounds-back m t rs q =
    let f = reading-fits m t rs q in kept_back (bounds_of rs) (least-small rs highest highest-small f) (greatest-small rs lowest lowest-small f)

-- ---- where they stand in more bytes

module _ (w : ℕ) (z : List ℕ) where
  triple-inside : (a : ℕ) → a + 24 ≤ w → triple_in (drop a (take w z)) ≡ triple_in (drop a z)
  triple-inside a h =
      ap₂ (λ x y. triple x y (number_in (take 8 (drop 16 (drop a (take w z)))))) (ap number_in (take-inside a 8 w z (omega arith))) (number 8 (omega arith))
      ∙ ap (triple (number_in (take 8 (drop a z))) (number_in (take 8 (drop 8 (drop a z))))) (number 16 (omega arith))
    where
      number : (i : ℕ) → i + 8 ≤ 24 → number_in (take 8 (drop i (drop a (take w z)))) ≡ number_in (take 8 (drop i (drop a z)))
      number i k =
          ap (λ r. number_in (take 8 r)) (drop-drop i a (take w z)) ∙ ap number_in (take-inside (a + i) 8 w z (omega arith))
          ∙ sym (ap (λ r. number_in (take 8 r)) (drop-drop i a z))

  pub bounds-inside : 48 ≤ w → bounds_in (take w z) ≡ bounds_in z
  bounds-inside h = ap₂ (λ l h. record { low = l; high = h }) (triple-inside 0 (omega arith)) (triple-inside 24 (omega arith))
