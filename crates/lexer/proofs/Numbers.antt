-- The value of digits, where it may be too large: the digits that are to come, behind those whose value is known.
-- Assumes nothing.
use Rattle.std.proofs.Common.{ℕ, suc, ◌≡◌, ◌+◌, ◌-◌, ◌*◌, ◌≤◌, ◌∙◌, Bool, true, false, List, [], ◌∷◌, take, refl, arith, Option, Some}
use native.Mathlib.Decide.{dec_le}
use borrow.Author.Tests.{lt-leb, le-leb}
use Rattle.rules.specs.Bytes.{is_digit, value_from, largest, pick}
use Rattle.rules.specs.Parse.{count}
use Rattle.lexer.specs.Views.{fitting, pushed, digits_after}

abbrev pub digits_behind : Option ℕ → List ℕ → Option ℕ
digits_behind o [] = o
digits_behind o (c ∷ s) = pick (is_digit c) (digits_behind (pushed o c) s) o

-- a digit behind a value that is too large is too large again
pushed_fitting : (v c : ℕ) → pushed (fitting v) c ≡ fitting (v * 10 + (c - 48))
pushed_fitting v c =
    elim (dec_le v largest) [ yes h ↦ rw (le-leb v largest h) | no h ↦ rw (lt-leb v largest (omega arith), lt-leb (v * 10 + (c - 48)) largest (omega arith)) ]

digits_from : (v : ℕ) (s : List ℕ) → digits_after v s ≡ digits_behind (fitting v) s
unfolding value_from count
digits_from v [] = refl
digits_from v (c ∷ s) = go (is_digit c) (digits_from (v * 10 + (c - 48)) s)
  where
    go : (b : Bool) → fitting (value_from (v * 10 + (c - 48)) (take (count is_digit s) s)) ≡ digits_behind (fitting (v * 10 + (c - 48))) s
        → fitting (value_from v (take (pick b (suc (count is_digit s)) 0) (c ∷ s))) ≡ pick b (digits_behind (pushed (fitting v) c) s) (fitting v)
    go true h = rw (pushed_fitting v c) h
    go false h = refl

pub digits_first : (v : ℕ) (s : List ℕ) → v ≤ largest → digits_after v s ≡ digits_behind (Some v) s
digits_first v s h = digits_from v s ∙ rw (le-leb v largest h) refl

pub ruleset digits = (digits_first)
