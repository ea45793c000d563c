-- Laws of rows of one width, of numbers in bytes, and of lists changed at one place.
-- Assumes nothing.
use Prim.Native.Nat.{ℕ, zero, suc, ◌+◌, ◌*◌, ◌-◌, ◌/◌, ◌^◌, ◌≤◌, ◌<◌}
use mathlib.Core.Path.{◌≡◌, refl, sym, ap, ◌∙◌}
use mathlib.Core.List.{List, [], ◌∷◌, ◌++◌, map, append_assoc}
use native.Mathlib.Omega.{arith}
use native.Mathlib.Nat.{mul-zero, mul-suc, mul-add, mod-add-div, div-lt_iff_lt-mul, pow-zero, pow-suc}
use lib.ListN.{length, take, drop, get_or, replicate, length-append, length-drop, length-replicate, replicate-append-replicate}
use lib.Seq.{take-add, take-take, drop-drop, take_at, drop_at, length-take-le}
use Rattle.rules.specs.Lists.{concat, All, all[], all∷}
use Rattle.shelf_rules.specs.Table.{rows_of, without, low_first, number_in, row_added, row_removed, table}

-- ---- rows

more : (w n : ℕ) → w * suc n ≡ w + w * n
more w n = omega (arith, mul-suc w n)

pub rows-length : (w n : ℕ) (b : List ℕ) → length (rows_of w n b) ≡ n
unfolding rows_of
rows-length w zero b = refl
rows-length w (suc n) b = ap suc (rows-length w n (drop w b))

-- the rows, one behind another, are the bytes
pub rows-concat : (w n : ℕ) (b : List ℕ) → concat (rows_of w n b) ≡ take (w * n) b
unfolding rows_of
rows-concat w zero b = rw mul-zero
rows-concat w (suc n) b = rw (rows-concat w n (drop w b), more w n, take-add)

-- the row at k
pub rows_at : (w n k : ℕ) (b : List ℕ) → k < n → get_or (rows_of w n b) k [] ≡ take w (drop (w * k) b)
unfolding rows_of
rows_at w zero k b l = absurd (omega arith)
rows_at w (suc n) zero b l = rw mul-zero
rows_at w (suc n) (suc k) b l = rw (rows_at w n k (drop w b) (omega arith), drop-drop, more w k)

-- the rows without the one at k
pub rows-without : (w n k : ℕ) (b : List ℕ) → k < n
    → concat (without k (rows_of w n b)) ≡ take (w * k) b ++ take (w * (n - suc k)) (drop (w * suc k) b)
unfolding rows_of without
rows-without w zero k b l = absurd (omega arith)
rows-without w (suc n) zero b l =
    let e : w * suc zero ≡ w = omega (arith, mul-suc w zero, mul-zero w) in
    let d : suc n - suc zero ≡ n = omega arith in
    rw (rows-concat w n (drop w b), d, e, mul-zero)
rows-without w (suc n) (suc k) b l =
    let d : suc n - suc (suc k) ≡ n - suc k = omega arith in
    rw (rows-without w n k (drop w b) (omega arith), d, more w (suc k), more w k, take-add, drop-drop)
    (sym (append_assoc (take w b) (take (w * k) (drop w b)) (take (w * (n - suc k)) (drop (w + (w + w * k)) b))))

pub without-length : {A : Type 0} (k : ℕ) (l : List A) → k < length l → length (without k l) ≡ length l - 1
unfolding without
without-length k [] h = absurd (omega arith)
without-length zero (a ∷ l) h = omega arith
without-length (suc k) (a ∷ l) h = let i = without-length k l (omega arith) in omega arith

-- rows that were put together are had back
pub rows-of : (w : ℕ) (es : List (List ℕ)) (r : List ℕ) → All (λ e. length e ≡ w) es → rows_of w (length es) (concat es ++ r) ≡ es
unfolding rows_of
rows-of w [] r all[] = refl
rows-of w (e ∷ es) r (all∷ h hs) =
    let a = append_assoc e (concat es) r in
    rw (a, take_at e (concat es ++ r) w h, drop_at e (concat es ++ r) w h, rows-of w es r hs)

-- ---- numbers, low bytes first

pub low-length : (n v : ℕ) → length (low_first n v) ≡ n
unfolding low_first
low-length zero v = refl
low-length (suc n) v = ap suc (low-length n (v / 256))

-- ---- the rows after a change

-- each of n rows has the width, where the bytes are enough
pub rows-wide : (w n : ℕ) (b : List ℕ) → w * n ≤ length b → All (λ e. length e ≡ w) (rows_of w n b)
unfolding rows_of
rows-wide w zero b h = all[]
rows-wide w (suc n) b h =
    let m = more w n in
    all∷ (length-take-le w b (omega arith)) (rows-wide w n (drop w b) (simp length-drop (omega arith)))

pub all_snoc : {A : Type 0} {P : A → Type 0} {l : List A} {a : A} → All P l → P a → All P (l ++ (a ∷ []))
all_snoc all[] p = all∷ p all[]
all_snoc (all∷ h hs) p = all∷ h (all_snoc hs p)

pub all_without : {A : Type 0} {P : A → Type 0} (k : ℕ) {l : List A} → All P l → All P (without k l)
unfolding without
all_without k all[] = all[]
all_without zero (all∷ h hs) = hs
all_without (suc k) (all∷ h hs) = all∷ h (all_without k hs)

pub concat-length : (w : ℕ) (es : List (List ℕ)) → All (λ e. length e ≡ w) es → length (concat es) ≡ w * length es
concat-length w [] all[] = sym (mul-zero w)
concat-length w (e ∷ es) (all∷ h hs) = length-append e (concat es) ∙ omega (arith, h, concat-length w es hs, more w (length es))

-- as many bytes as before
pub removed-length : (w n k : ℕ) (b : List ℕ) → k < n → w * n ≤ length b → length (row_removed w n k b) ≡ length b
unfolding row_removed
removed-length w n k b l h =
    let r = rows-length w n b in
    let s : length (without k (rows_of w n b)) ≡ n - 1 = without-length k (rows_of w n b) (omega arith) ∙ rw r in
    let c : length (concat (without k (rows_of w n b))) ≡ w * (n - 1) = concat-length w (without k (rows_of w n b)) (all_without k (rows-wide w n b h)) ∙ ap (λ i. w * i) s in
    let i : suc (n - 1) ≡ n = omega arith in
    let m : w * n ≡ w + w * (n - 1) = rw i at (more w (n - 1)) in
    let z : List ℕ = replicate w 0 in
    length-append (concat (without k (rows_of w n b))) (z ++ drop (w * n) b)
    ∙ omega (arith, c, m, length-append z (drop (w * n) b), length-replicate {A = ℕ} w 0, length-drop (w * n) b)

-- ---- a number is had back from its bytes

pub low-back : (n v : ℕ) → v < 256 ^ n → number_in (low_first n v) ≡ v
unfolding low_first number_in
low-back zero v h = omega (arith, rw pow-zero at h)
low-back (suc n) v h =
    let q : v / 256 < 256 ^ n = (div-lt_iff_lt-mul {k = 256} {x = v} {y = 256 ^ n} (omega arith)).1 (rw pow-suc at h) in
    rw (low-back n (v / 256) q) (mod-add-div v 256)

-- ---- a table of c places

more_left : (w c n : ℕ) → n < c → w * (c - n) ≡ w + w * (c - suc n)
more_left w c n h = let e : c - n ≡ suc (c - suc n) = omega arith in ap (λ k. w * k) e ∙ more w (c - suc n)

drop-zeros : (w m : ℕ) → drop {A = ℕ} w (replicate (w + m) 0) ≡ replicate m 0
drop-zeros w m = rw (← replicate-append-replicate) (drop_at (replicate w 0) (replicate m 0) w (length-replicate {A = ℕ} w 0))

module _ (w c : ℕ) (es : List (List ℕ)) (h : All (λ e. length e ≡ w) es) where
  pub table-rows : rows_of w (length es) (table w c es) ≡ es
  unfolding table
  table-rows = rows-of w es (replicate (w * (c - length es)) 0) h

  table-zeros : drop (w * length es) (table w c es) ≡ replicate (w * (c - length es)) 0
  unfolding table
  table-zeros = drop_at (concat es) (replicate (w * (c - length es)) 0) (w * length es) (concat-length w es h)

  pub table-length : length es ≤ c → length (table w c es) ≡ w * c
  unfolding table
  table-length l =
      let e : length es + (c - length es) ≡ c = omega arith in
      length-append (concat es) (replicate (w * (c - length es)) 0)
      ∙ rw (concat-length w es h, length-replicate) (sym (mul-add w (length es) (c - length es)) ∙ ap (λ k. w * k) e)

  pub table-added : (e : List ℕ) → length es < c → row_added w (length es) e (table w c es) ≡ table w c (es ++ (e ∷ []))
  unfolding row_added table
  table-added e l =
      let n : length (es ++ (e ∷ [])) ≡ suc (length es) = omega (arith, length-append es (e ∷ [])) in
      let m : w * suc (length es) ≡ w * length es + w = mul-suc w (length es) in
      let d : drop (w * suc (length es)) (table w c es) ≡ replicate (w * (c - suc (length es))) 0
      = rw (m, ← drop-drop, table-zeros, more_left w c (length es) l) (drop-zeros w (w * (c - suc (length es)))) in
      rw (table-rows, d, n)

  pub table-removed : (k : ℕ) → k < length es → length es ≤ c → row_removed w (length es) k (table w c es) ≡ table w c (without k es)
  unfolding row_removed table
  table-removed k l f =
      let n : length (without k es) ≡ length es - 1 = without-length k es l in
      let j : length es - 1 < c = omega arith in
      let i : suc (length es - 1) ≡ length es = omega arith in
      let z : w * (c - (length es - 1)) ≡ w + w * (c - length es) = rw i at (more_left w c (length es - 1) j) in
      rw (table-rows, table-zeros, n, z, ← replicate-append-replicate)

  -- other bytes behind it
  pub table-rows-then : (r : List ℕ) → rows_of w (length es) (table w c es ++ r) ≡ es
  unfolding table
  table-rows-then r = rw append_assoc (rows-of w es (replicate (w * (c - length es)) 0 ++ r) h)

-- ---- lists

-- a part of a row is a part of the bytes
pub take-inside : (a n w : ℕ) (b : List ℕ) → a + n ≤ w → take n (drop a (take w b)) ≡ take n (drop a b)
take-inside zero n w b h = take-take n w b (omega arith)
take-inside (suc a) n zero b h = absurd (omega arith)
take-inside (suc a) n (suc w) [] h = refl
take-inside (suc a) n (suc w) (x ∷ b) h = take-inside a n w b (omega arith)

module _ {A B : Type 0} (f : A → B) where
  pub map_snoc : (l : List A) (a : A) → map f (l ++ (a ∷ [])) ≡ map f l ++ (f a ∷ [])
  map_snoc [] a = refl
  map_snoc (x ∷ l) a = ap (λ r. f x ∷ r) (map_snoc l a)

  pub map-without : (k : ℕ) (l : List A) → map f (without k l) ≡ without k (map f l)
  unfolding without
  map-without k [] = refl
  map-without zero (x ∷ l) = refl
  map-without (suc k) (x ∷ l) = ap (λ r. f x ∷ r) (map-without k l)

  pub map-length : (l : List A) → length (map f l) ≡ length l
  map-length [] = refl
  map-length (x ∷ l) = ap suc (map-length l)
