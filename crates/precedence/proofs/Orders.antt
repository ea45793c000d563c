-- The code's orders are the rules': of numbers, of texts, of identifiers; and what an operator says of them.
-- Assumes nothing.
use Rattle.std.proofs.Common.{ℕ, ◌≡◌, refl, ◌∙◌, Bool, true, false, cond, eqb, ltb, List, [], ◌∷◌, length}
use Rattle.std.specs.declared.cmp.Ordering.{Ordering}
use Rattle.std.specs.declared.cmp.Ordering.TheVariants.{Less, Equal, Greater}
use Rattle.std.specs.Ordering.{is_lt, is_le, is_gt, is_ge, is_eq, ordering_then, nat_cmp}
use Rattle.std.specs.Cmp.Lexicographic.{slice_cmp}
use Rattle.rules.specs.Lists.{each}
use Rattle.rules.specs.Bytes.{is_digit, pick}
use Rattle.rules.specs.Syntax as S
use Rattle.rules.specs.Precedence as P
use Rattle.rules.specs.Precedence.{◌or_else◌, lexicographic, compare_numbers, compare_bytes, compare_digits, compare_texts, compare_identifiers}
use Rattle.rules.specs.Admission as Admission
use Rattle.std.specs.Borrow.{Bor}
use Rattle.lexer.specs.Views.{rest}
use Rattle.lexer.specs.declared.Identifier.{Identifier}
use Rattle.partial.specs.declared.Op.{Op}
use Rattle.partial.specs.declared.Op.TheVariants.{Lt, Lte, Gt, Gte, Eq}
use Rattle.partial.specs.Views.{op_of}
use Rattle.version.proofs.Words.{digits-all}
use Rattle.precedence.specs.Views.{order_of, known}

then-is : (x y : Ordering) → order_of (ordering_then x y) ≡ (order_of x or_else order_of y)
unfolding ◌or_else◌
then-is Less y = refl
then-is Equal y = refl
then-is Greater y = refl

numbers-are : (a b : ℕ) → order_of (nat_cmp a b) ≡ compare_numbers a b
unfolding compare_numbers
numbers-are a b = go (ltb a b) (eqb a b)
  where
    go : (x y : Bool) → order_of (cond x Less (cond y Equal Greater)) ≡ pick x P.less (pick y P.equal P.greater)
    go true y = refl
    go false true = refl
    go false false = refl

bytes-are : (a b : List ℕ) → order_of (slice_cmp nat_cmp a b) ≡ compare_bytes a b
unfolding compare_bytes lexicographic
bytes-are [] [] = refl
bytes-are [] (y ∷ b) = refl
bytes-are (x ∷ a) [] = refl
bytes-are (x ∷ a) (y ∷ b) = then-is (nat_cmp x y) (slice_cmp nat_cmp a b) ∙ rw (numbers-are x y, bytes-are a b)

-- ---- what an operator says

module _ (op : Op) (o : Ordering) (x : Bool) where
  pub holds_lt : op ≡ Lt → x ≡ is_lt o → x ≡ Admission.holds (op_of op) (order_of o)
  unfolding Admission.holds
  holds_lt e q = rw (e, q) (go o)
    where
      go : (o : Ordering) → is_lt o ≡ Admission.holds S.lt (order_of o)
      go Less = refl
      go Equal = refl
      go Greater = refl

  pub holds_lte : op ≡ Lte → x ≡ is_le o → x ≡ Admission.holds (op_of op) (order_of o)
  unfolding Admission.holds
  holds_lte e q = rw (e, q) (go o)
    where
      go : (o : Ordering) → is_le o ≡ Admission.holds S.lte (order_of o)
      go Less = refl
      go Equal = refl
      go Greater = refl

  pub holds_gt : op ≡ Gt → x ≡ is_gt o → x ≡ Admission.holds (op_of op) (order_of o)
  unfolding Admission.holds
  holds_gt e q = rw (e, q) (go o)
    where
      go : (o : Ordering) → is_gt o ≡ Admission.holds S.gt (order_of o)
      go Less = refl
      go Equal = refl
      go Greater = refl

  pub holds_gte : op ≡ Gte → x ≡ is_ge o → x ≡ Admission.holds (op_of op) (order_of o)
  unfolding Admission.holds
  holds_gte e q = rw (e, q) (go o)
    where
      go : (o : Ordering) → is_ge o ≡ Admission.holds S.gte (order_of o)
      go Less = refl
      go Equal = refl
      go Greater = refl

  pub holds_eq : op ≡ Eq → x ≡ is_eq o → x ≡ Admission.holds (op_of op) (order_of o)
  unfolding Admission.holds
  holds_eq e q = rw (e, q) (go o)
    where
      go : (o : Ordering) → is_eq o ≡ Admission.holds S.eq (order_of o)
      go Less = refl
      go Equal = refl
      go Greater = refl

pub ruleset operators = (holds_lt, holds_lte, holds_gt, holds_gte, holds_eq)

-- ---- numbers

pub triples_are : (a b c d e f : ℕ) (r : Ordering) → r ≡ ordering_then (ordering_then (nat_cmp a d) (nat_cmp b e)) (nat_cmp c f)
    → order_of r ≡ (compare_numbers a d or_else compare_numbers b e or_else compare_numbers c f)
unfolding ◌or_else◌
triples_are a b c d e f r q = rw (q, ← numbers-are a d, ← numbers-are b e, ← numbers-are c f) (go (nat_cmp a d) (nat_cmp b e) (nat_cmp c f))
  where
    go : (x y z : Ordering) → order_of (ordering_then (ordering_then x y) z) ≡ (order_of x or_else order_of y or_else order_of z)
    go Less y z = refl
    go Equal y z = then-is y z
    go Greater y z = refl

-- ---- texts

pub digits_are : (w r : List ℕ) (x : Bool) → r ≡ rest is_digit w → x ≡ eqb (length r) 0 → x ≡ each is_digit w
digits_are w r x e q = q ∙ rw e (digits-all w)

pub ruleset digits = (digits_are)

module _ (a b : List ℕ) where
  pub digits_compared : (x y r : Ordering) → x ≡ nat_cmp (length a) (length b) → y ≡ slice_cmp nat_cmp a b → r ≡ ordering_then x y → order_of r ≡ compare_digits a b
  unfolding compare_digits
  digits_compared x y r p q e = rw (e, p, q) (then-is (nat_cmp (length a) (length b)) (slice_cmp nat_cmp a b) ∙ rw (numbers-are (length a) (length b), bytes-are a b))

  module _ (x y : Bool) (p : x ≡ each is_digit a) (q : y ≡ each is_digit b) where
    pub texts_both : x ≡ true → y ≡ true → (r : Ordering) → order_of r ≡ compare_digits a b → order_of r ≡ compare_texts a b
    unfolding compare_texts
    texts_both h k r e = rw (← p, ← q, h, k) e

    pub texts_first : x ≡ true → y ≡ false → P.less ≡ compare_texts a b
    unfolding compare_texts
    texts_first h k = rw (← p, ← q, h, k)

    pub texts_second : x ≡ false → y ≡ true → P.greater ≡ compare_texts a b
    unfolding compare_texts
    texts_second h k = rw (← p, ← q, h, k)

    pub texts_neither : x ≡ false → y ≡ false → (r : Ordering) → r ≡ slice_cmp nat_cmp a b → order_of r ≡ compare_texts a b
    unfolding compare_texts
    texts_neither h k r e = rw (← p, ← q, h, k, e) (bytes-are a b)

-- ---- identifiers

module _ (i j : Identifier) where
  pub numbers_compared : (a b : ℕ) → i ≡ Identifier.Number a → j ≡ Identifier.Number b → (r : Ordering) → r ≡ nat_cmp a b → order_of r ≡ compare_identifiers (known i) (known j)
  unfolding compare_identifiers
  numbers_compared a b p q r e = rw (p, q, e) (numbers-are a b)

  pub number_text : (a : ℕ) (w : Bor (List ℕ)) → i ≡ Identifier.Number a → j ≡ Identifier.Text w → P.less ≡ compare_identifiers (known i) (known j)
  unfolding compare_identifiers
  number_text a w p q = rw (p, q)

  pub text_number : (w : Bor (List ℕ)) (b : ℕ) → i ≡ Identifier.Text w → j ≡ Identifier.Number b → P.greater ≡ compare_identifiers (known i) (known j)
  unfolding compare_identifiers
  text_number w b p q = rw (p, q)

  pub texts_compared : (v w : Bor (List ℕ)) → i ≡ Identifier.Text v → j ≡ Identifier.Text w → (r : Ordering) → order_of r ≡ compare_texts v.now w.now
      → order_of r ≡ compare_identifiers (known i) (known j)
  unfolding compare_identifiers
  texts_compared v w p q r e = rw (p, q) e

pub ruleset orders = (triples_are, digits_compared, texts_both, texts_first, texts_second, texts_neither, numbers_compared, number_text, text_number, texts_compared)
