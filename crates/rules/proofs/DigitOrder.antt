-- Identifiers of digits stand as the numbers that they spell, at any length, and below all others (Semantic Versioning 2.0.0, rule 11; 02, N4).
-- Assumes nothing.
use mathlib.Core.Path.{◌≡◌, refl, sym}
use Prim.Native.Nat.{ℕ, suc, ◌+◌, ◌*◌, ◌-◌, ◌≤◌, ◌<◌}
use native.Mathlib.Omega.{arith}
use native.Mathlib.Decide.{dec_le}
use mathlib.Core.Bool.{Bool, true, false}
use mathlib.Core.List.{List, [], ◌∷◌}
use borrow.Author.Tests.{leb-true, leb-false}
use lib.Dec.{leb}
use lib.ListN.{length}
use Rattle.rules.specs.Lists.{each}
use Rattle.rules.specs.Bytes.{pick, is_digit, is_nonzero, value, value_from, largest}
use Rattle.rules.specs.Syntax.{number, text, of_digits}
use Rattle.rules.specs.Grammar as G
use Rattle.rules.specs.Grammar.{OneOf, ReadsNumber}
use Rattle.rules.specs.Precedence.{Order, less, ◌or_else◌, lexicographic, compare_numbers, compare_bytes, compare_digits, compare_texts, compare_identifiers}
use Rattle.rules.proofs.Follows.{both}
use Rattle.rules.proofs.VersionComplete.{number_digits}
use Rattle.rules.proofs.PrecedenceLaws.{Stands, below, level, above, numbers-stand, stand-numbers}

-- ---- values of digits

digit-bounds : (c : ℕ) → is_digit c ≡ true → (48 ≤ c) × (c ≤ 57)
unfolding is_digit
digit-bounds c e = let (x, y) = both (leb 48 c) (leb c 57) e in (leb-true 48 c x, leb-true c 57 y)

-- as many digits or more behind a larger value make a larger one
value-larger : (a b : ℕ) (w v : List ℕ) → each is_digit w ≡ true → a < b → length w ≤ length v → value_from a w < value_from b v
unfolding value_from
value-larger a b [] [] h l e = l
value-larger a b (c ∷ w) [] h l e = absurd (omega arith)
value-larger a b [] (d ∷ v) h l e = value-larger a (b * 10 + (d - 48)) [] v h (omega arith) (omega arith)
value-larger a b (c ∷ w) (d ∷ v) h l e =
    let (x, y) = both (is_digit c) (each is_digit w) h in
    let (low, high) = digit-bounds c x in
    elim (dec_le (suc (length w)) (length v)) [ yes m ↦ value-larger a (b * 10 + (d - 48)) (c ∷ w) v h (omega arith) m | no m ↦ value-larger (a * 10 + (c - 48)) (b * 10 + (d - 48)) w v y (omega arith) (omega arith) ]

-- as many digits behind the same value stand as their bytes do
value-bytes : (a : ℕ) (w v : List ℕ) → each is_digit w ≡ true → each is_digit v ≡ true → length w ≡ length v
    → compare_numbers (value_from a w) (value_from a v) ≡ compare_bytes w v
unfolding value_from compare_bytes lexicographic
value-bytes a [] [] h k e = stand-numbers {a = a} (level refl)
value-bytes a [] (d ∷ v) h k e = absurd (omega arith)
value-bytes a (c ∷ w) [] h k e = absurd (omega arith)
value-bytes a (c ∷ w) (d ∷ v) h k e =
    let (x, y) = both (is_digit c) (each is_digit w) h in
    let (p, q) = both (is_digit d) (each is_digit v) k in
    let (low, high) = digit-bounds c x in
    let (low', high') = digit-bounds d p in
    go (numbers-stand c d) low low' y q (value-bytes (a * 10 + (c - 48)) w v y q (omega arith))
  where
    go : {o : Order} → Stands c d o → 48 ≤ c → 48 ≤ d → each is_digit w ≡ true → each is_digit v ≡ true
        → compare_numbers (value_from (a * 10 + (c - 48)) w) (value_from (a * 10 + (c - 48)) v) ≡ lexicographic compare_numbers w v
        → compare_numbers (value_from (a * 10 + (c - 48)) w) (value_from (a * 10 + (d - 48)) v) ≡ (o or_else lexicographic compare_numbers w v)
    go (below l) m n y q i = stand-numbers (below (value-larger (a * 10 + (c - 48)) (a * 10 + (d - 48)) w v y (omega arith) (omega arith)))
    go (level l) m n y q i = rw (← l) i
    go (above l) m n y q i = stand-numbers (above (value-larger (a * 10 + (d - 48)) (a * 10 + (c - 48)) v w q (omega arith) (omega arith)))

-- ---- identifiers of digits

-- of two that are read, the longer is larger
number-longer : {s w r s' v r' : List ℕ} → ReadsNumber s w r → ReadsNumber s' v r' → length w < length v → value w < value v
unfolding value value_from is_nonzero
number-longer (G.zero k) (G.zero l) e = absurd (omega arith)
number-longer (G.digits o k) (G.zero l) e = absurd (omega arith)
number-longer {w} h (G.digits {w = v} (OneOf.one {c} e) k) l =
    let m = leb-true 49 c (both (leb 49 c) (leb c 57) e).0 in
    value-larger 0 (0 * 10 + (c - 48)) w v (number_digits h) (omega arith) (omega arith)

digits_value : {s w r s' v r' : List ℕ} → ReadsNumber s w r → ReadsNumber s' v r' → compare_digits w v ≡ compare_numbers (value w) (value v)
unfolding compare_digits ◌or_else◌ value
digits_value {w} {v} h k = go (numbers-stand (length w) (length v))
  where
    go : {o : Order} → Stands (length w) (length v) o → (o or_else compare_bytes w v) ≡ compare_numbers (value w) (value v)
    go (below l) = sym (stand-numbers (below (number-longer h k l)))
    go (level l) = sym (value-bytes 0 w v (number_digits h) (number_digits k) l)
    go (above l) = sym (stand-numbers (above (number-longer k h l)))

pub digits-by-number : {s w r s' v r' : List ℕ} → ReadsNumber s w r → ReadsNumber s' v r' → (left left' : ℕ)
    → compare_identifiers (of_digits left w) (of_digits left' v) ≡ compare_numbers (value w) (value v)
unfolding of_digits compare_identifiers compare_texts
digits-by-number {w} {v} h k left left' = go (leb (value w) largest) refl (leb (value v) largest) refl
  where
    go : (x : Bool) → leb (value w) largest ≡ x → (y : Bool) → leb (value v) largest ≡ y
        → compare_identifiers (pick x (number (value w)) (text left w)) (pick y (number (value v)) (text left' v)) ≡ compare_numbers (value w) (value v)
    go true e true f = refl
    go true e false f = sym (stand-numbers {a = value w} {b = value v} (below (omega (arith, leb-true (value w) largest e, leb-false (value v) largest f))))
    go false e true f = sym (stand-numbers {a = value w} {b = value v} (above (omega (arith, leb-false (value w) largest e, leb-true (value v) largest f))))
    go false e false f = rw (number_digits h, number_digits k) (digits_value h k)

pub digits-below : {s w r : List ℕ} → ReadsNumber s w r → (v : List ℕ) → each is_digit v ≡ false → (left left' : ℕ)
    → compare_identifiers (of_digits left w) (text left' v) ≡ less
unfolding of_digits compare_identifiers compare_texts
digits-below {w} h v e left left' = go (leb (value w) largest)
  where
    go : (x : Bool) → compare_identifiers (pick x (number (value w)) (text left w)) (text left' v) ≡ less
    go true = refl
    go false = rw (number_digits h, e)
