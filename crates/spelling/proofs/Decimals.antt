-- The rules' digits of a number are the library's, and how many they are.
-- Assumes nothing.
use Rattle.std.specs.Fmt as F
use Rattle.std.specs.Prelude.{Option, Some, None, IfNone, IfSome, unwrap_or}
use Rattle.std.proofs.Common.{◌≡◌, ℕ, zero, suc, ◌+◌, ◌*◌, ◌/◌, ◌%◌, ◌^◌, ◌<◌, ◌≤◌, List, [], ◌∷◌, ◌++◌, length, take, drop, refl, sym, ap, ◌∙◌, arith, length-append}
use mathlib.Core.List.{append_assoc, append-nil}
use borrow.Author.Tests.{lt-ltb, le-ltb}
use Rattle.std.proofs.Math.Nat.{pow-succ', one-le-pow}
use Rattle.std.proofs.lemmas.Fmt.{PrependsLastDigit, decimal_from_prepends, decimal_digit, decimal_step, length-decimal-le_succ}
use Rattle.std.proofs.lemmas.List.{take-append-drop}
use Rattle.std.proofs.lemmas.List.Edits.{sets-eq}
use Rattle.rules.specs.NormalText.{decimal_to, decimal}
use Rattle.rows.specs.Put.{Put}

-- ---- the rules' digits are the library's

prepends : PrependsLastDigit decimal_to
unfolding decimal_to
prepends = record { one = λ k n ds h. rw (lt-ltb n 10 h, decimal_to); more = λ k n ds h. rw (le-ltb n 10 h, decimal_to) }

pub decimal_is : (n : ℕ) → n < 2 ^ 64 → decimal n ≡ F.decimal n
unfolding decimal
decimal_is n h = decimal_from_prepends decimal_to prepends (suc n) n [] h (omega (arith, length-decimal-le_succ n h)) ∙ append-nil (F.decimal n)

-- ---- how many they are

power-length : (k n : ℕ) → 10 ^ k ≤ n → n < 10 * 10 ^ k → n < 2 ^ 64 → length (decimal n) ≡ k + 1
power-length zero n p q h = rw (decimal_is n h) (ap length (decimal_digit n (omega arith)))
power-length (suc k) n p q h =
    let s = pow-succ' 10 k in
    let m = power-length k (n / 10) (omega arith) (omega arith) (omega arith) in
    rw (decimal_is n h, decimal_step n (omega (arith, one-le-pow 10 k)) h) (omega (arith, length-append (F.decimal (n / 10)) ((48 + n % 10) ∷ []), m, ap length (decimal_is (n / 10) (omega arith))))

pub one_digit : (n : ℕ) → n < 10 → 1 ≡ length (decimal n)
one_digit n h = rw (decimal_is n (omega arith)) (ap length (sym (decimal_digit n h)))

-- by the library's power of ten, and 0 for none
pub len_is : (n : ℕ) (o : Option ℕ) → IfNone o (n ≡ 0) → IfSome o (λ k. 10 ^ k ≤ n) → IfSome o (λ k. n < 10 * 10 ^ k) → n < 2 ^ 64
    → unwrap_or o 0 + 1 ≡ length (decimal n)
len_is n (Some k) z p q h = sym (power-length k n p q h)
len_is n None z p q h = rw (decimal_is n h) (ap length (sym (decimal_digit n (omega (arith, z)))))

pub ruleset lengths = (one_digit, len_is)

-- ---- stored

pub digits_length : (n : ℕ) → n < 2 ^ 64 → length (F.decimal n) ≡ length (decimal n)
digits_length n h = ap length (sym (decimal_is n h))

pub digits_put : (l m : List ℕ) (at n r end : ℕ) → n < 2 ^ 64 → end ≡ at + length (decimal n) → r + length (F.decimal n) ≡ end
    → drop r m ≡ F.decimal n ++ drop end l → take r m ≡ take r l → end ≤ length l → Put l at (decimal n) m end
digits_put l m at n r end h e p d t room =
    let k : r ≡ at = omega (arith, e, digits_length n h) in
    record {
      stored = sym (take-append-drop at m) ∙ rw (← k) (rw (t, d, ← decimal_is n h, e, k) refl)
          ∙ sym (append_assoc (take at l) (decimal n) (drop (at + length (decimal n)) l)) ∙ sym (sets-eq (decimal n) l at (omega (arith, e)));
      place = e;
    }
