-- The decimal digits of a number are read as that number, and digits that are read as a number are its decimal digits.
-- Assumes nothing.
use mathlib.Core.Path.{◌≡◌, refl, ap, ap₂, ◌∙◌}
use Prim.Native.Nat.{ℕ, zero, suc, ◌+◌, ◌*◌, ◌-◌, ◌/◌, ◌%◌, ◌≤◌, ◌<◌}
use native.Mathlib.Omega.{arith}
use mathlib.Core.Bool.{Bool, true, false}
use mathlib.Core.Option.{some}
use mathlib.Core.List.{List, [], ◌∷◌, ◌++◌, append-nil}
use lib.Dec.{leb, ltb}
use lib.ListN.{length}
use borrow.Author.Tests.{ltb-true, ltb-false, lt-ltb, le-ltb, leb-true, le-leb}
use Rattle.rules.specs.Bytes.{is_digit, is_nonzero, value, value_from}
use Rattle.rules.specs.Grammar as G
use Rattle.rules.specs.Grammar.{OneOf, Run, byte, done, ReadsNumber, ReadsComponent}
use Rattle.rules.specs.NormalText.{decimal_to, decimal}
use Rattle.rules.proofs.Follows.{both}

-- ---- decimal digits are read as the number

digit-is : (n : ℕ) → n < 10 → is_digit (48 + n) ≡ true
unfolding is_digit
digit-is n h = rw (le-leb 48 (48 + n) (omega arith), le-leb (48 + n) 57 (omega arith))

nonzero-is : (n : ℕ) → 0 < n → n < 10 → is_nonzero (48 + n) ≡ true
unfolding is_nonzero
nonzero-is n z h = rw (le-leb 49 (48 + n) (omega arith), le-leb (48 + n) 57 (omega arith))

decimal_to-number : (f n : ℕ) (ds r : List ℕ) → n < f → 0 < n → Run is_digit (ds ++ r) ds r → ReadsNumber (decimal_to f n ds ++ r) (decimal_to f n ds) r
unfolding decimal_to
decimal_to-number zero n ds r h z k = absurd (omega arith)
decimal_to-number (suc f) n ds r h z k =
    go (ltb n 10) refl (λ l. decimal_to-number f (n / 10) ((48 + n % 10) ∷ ds) r (omega arith) (omega arith) (Run.more (digit-is (n % 10) (omega arith)) k))
  where
    ds' : List ℕ
    ds' = (48 + n % 10) ∷ ds

    go : (b : Bool) → ltb n 10 ≡ b → (10 ≤ n → ReadsNumber (decimal_to f (n / 10) ds' ++ r) (decimal_to f (n / 10) ds') r)
        → ReadsNumber (decimal_to (suc f) n ds ++ r) (decimal_to (suc f) n ds) r
    go true e j = rw (e, decimal_to) (G.digits (OneOf.one (nonzero-is n z (ltb-true n 10 e))) k)
    go false e j = rw (e, decimal_to) (j (ltb-false n 10 e))

decimal_to-value : (f n : ℕ) (ds : List ℕ) → n < f → value (decimal_to f n ds) ≡ value_from n ds
unfolding decimal_to value value_from
decimal_to-value zero n ds h = absurd (omega arith)
decimal_to-value (suc f) n ds h = go (ltb n 10) refl (λ l. decimal_to-value f (n / 10) ((48 + n % 10) ∷ ds) (omega arith))
  where
    ds' : List ℕ
    ds' = (48 + n % 10) ∷ ds

    go : (b : Bool) → ltb n 10 ≡ b → (10 ≤ n → value (decimal_to f (n / 10) ds') ≡ value_from (n / 10) ds') → value (decimal_to (suc f) n ds) ≡ value_from n ds
    go true e j = rw (e, decimal_to) (ap (λ x. value_from x ds) (omega arith))
    go false e j = rw (e, decimal_to) (j (ltb-false n 10 e) ∙ ap (λ x. value_from x ds) (omega arith))

pub decimal-number : (n : ℕ) (r : List ℕ) → ReadsNumber (decimal n ++ r) (decimal n) r
unfolding decimal
decimal-number zero r = G.zero (byte done)
decimal-number (suc n) r = decimal_to-number (suc (suc n)) (suc n) [] r (omega arith) (omega arith) Run.stop

pub decimal-value : (n : ℕ) → value (decimal n) ≡ n
unfolding decimal value_from
decimal-value n = decimal_to-value (suc n) n [] (omega arith)

pub decimal-component : (n : ℕ) (r : List ℕ) → ReadsComponent (decimal n ++ r) (some n) r
decimal-component n r = rw (decimal-value n) at (ReadsComponent.number (decimal-number n r))

-- ---- digits that are read are the decimal digits of their value

pub first-digit : (f n : ℕ) (ds : List ℕ) → n < 10 → decimal_to (suc f) n ds ≡ (48 + n) ∷ ds
unfolding decimal_to
first-digit f n ds h = rw (decimal_to, lt-ltb n 10 h)

pub further-digits : (f n : ℕ) (ds : List ℕ) → 10 ≤ n → decimal_to (suc f) n ds ≡ decimal_to f (n / 10) ((48 + n % 10) ∷ ds)
unfolding decimal_to
further-digits f n ds h = rw (decimal_to, le-ltb n 10 h)

-- The last digit of a number comes off and stands before the digits ds; then all of its digits but the first do.
digit-step : (f a c : ℕ) (ds : List ℕ) → 0 < a → is_digit c ≡ true → decimal_to (suc f) (a * 10 + (c - 48)) ds ≡ decimal_to f a (c ∷ ds)
unfolding is_digit
digit-step f a c ds z e =
    let x = both (leb 48 c) (leb c 57) e in
    let l = leb-true 48 c x.0 in let h = leb-true c 57 x.1 in
    further-digits f (a * 10 + (c - 48)) ds (omega arith) ∙ ap₂ (λ n d. decimal_to f n (d ∷ ds)) (omega arith) (omega arith)

digits_step : (f a : ℕ) (ds : List ℕ) {s w r : List ℕ} → 0 < a → Run is_digit s w r → decimal_to (length w + f) (value_from a w) ds ≡ decimal_to f a (w ++ ds)
unfolding value_from
digits_step f a ds z Run.stop = ap (λ n. decimal_to n a ds) (omega arith)
digits_step f a ds z (Run.more {c} {w} e k) =
    let v = value_from (a * 10 + (c - 48)) w in
    ap (λ n. decimal_to n v ds) (omega arith) ∙ digits_step (suc f) (a * 10 + (c - 48)) ds (omega arith) k ∙ digit-step f a c (w ++ ds) z e

-- behind a first digit that is not 0 there are fewer digits than the value: the bound that `decimal` sets is enough for them
value_from-length : (a : ℕ) (w : List ℕ) → 0 < a → a + length w ≤ value_from a w
unfolding value_from
value_from-length a [] z = omega arith
value_from-length a (c ∷ w) z = let h = value_from-length (a * 10 + (c - 48)) w (omega arith) in omega arith

pub value-decimal : {s w r : List ℕ} → ReadsNumber s w r → decimal (value w) ≡ w
unfolding decimal decimal_to value value_from is_nonzero
value-decimal (G.zero l) = refl
value-decimal (G.digits {c} {w} (OneOf.one e) k) =
    let x = both (leb 49 c) (leb c 57) e in
    let l = leb-true 49 c x.0 in let h = leb-true c 57 x.1 in
    let a = 0 * 10 + (c - 48) in
    let v = value_from a w in
    let b = value_from-length a w (omega arith) in
    let f = v - length w in
    let n : suc v ≡ length w + suc f = omega arith in
    let d : 48 + a ≡ c = omega arith in
    ap (λ n. decimal_to n v []) n ∙ digits_step (suc f) a [] (omega arith) k ∙ first-digit f a (w ++ []) (omega arith) ∙ ap₂ ◌∷◌ d (append-nil w)
