-- Identifiers by their first byte: a letter, or a number.
-- Assumes nothing.
use Rattle.std.proofs.Common.{ℕ, suc, subst, ◌++◌, ◌≡◌, ◌+◌, ◌-◌, ◌≤◌, Bool, true, false, List, [], ◌∷◌, length, take, drop, refl, arith, Some, None, ◌∙◌, ap, sym, get_or}
use lib.ListN.{length-take, length-drop, length-append}
use lib.Seq.{take_at}
use lib.Dec.{leb}
use Rattle.rules.specs.Bytes.{is_letter, is_word, value, largest, pick}
use Rattle.rules.specs.Syntax as S
use Rattle.rules.specs.Syntax.{of_digits}
use Rattle.rules.specs.Grammar.{OneOf, ReadsNumber}
use Rattle.rules.specs.Parse.{Result, fail, ok, ◌then◌, choose, one_of, count, run, read_number, read_identifier}
use Rattle.rules.proofs.Complete.{letter-number}
use Rattle.rules.proofs.Left.{Behind, behind-left, number_behind, rest_in, count-within}
use Rattle.rules.proofs.Results.{Gives, given}
use Rattle.rules.proofs.Sound.{number-sound}
use Rattle.rules.proofs.ReadIn.{number-literal}
use Rattle.rules.proofs.Source.{literal-bytes}
use Rattle.lexer.specs.Views.{rest, before, number_of}

before-length : (s r : List ℕ) → length r ≤ length s → length (before s r) + length r ≡ length s
before-length s r h = simp length-take (omega arith)

-- the first byte, and those of a class behind it
before_run : (p : ℕ → Bool) (c : ℕ) (s : List ℕ) → before (c ∷ s) (rest p s) ≡ c ∷ take (count p s) s
before_run p c s =
    let l = count-within p s in
    let k : suc (length s) - length (rest p s) ≡ suc (count p s) = omega (arith, length-drop (count p s) s) in
    rw k

-- a word
word_is : (s : List ℕ) → 1 ≤ length s → is_letter (get_or s 0 0) ≡ true
    → read_identifier s ≡ ok (S.text (length s) (before s (rest is_word (drop 1 s)))) (rest is_word (drop 1 s))
unfolding read_identifier choose ◌then◌ one_of run
word_is [] h e = absurd (omega arith)
word_is (c ∷ s) h e =
    let n : read_number (c ∷ s) ≡ fail = letter-number {t = s} {c = c} (OneOf.one e) in
    rw (n, e) (ap (λ w. ok (S.text (length (c ∷ s)) w) (rest is_word s)) (sym (before_run is_word c s)))

module _ (s r : List ℕ) (h : 1 ≤ length s) (b : Bool) (q : b ≡ is_letter (get_or s 0 0)) (e : b ≡ true) (k : r ≡ rest is_word (take (length s - 1) (drop 1 s))) where
  pub word_lem : (w : List ℕ) → w ≡ before s r → ok (S.text (length w + length r) w) r ≡ read_identifier s
  word_lem w j =
      let i : r ≡ rest is_word (drop 1 s) = rw (rest_in s 1) at k in
      let l : length r ≤ length s = omega (arith, ap length i, length-drop (count is_word (drop 1 s)) (drop 1 s), length-drop 1 s) in
      let n : length w + length r ≡ length s = rw j (before-length s r l) in
      rw (n, j, i) (sym (word_is s h (sym q ∙ e)))

-- a number, or its digits
pub number_lem : (s : List ℕ) (v : ℕ) (r : List ℕ) → ok (Some v) r ≡ number_of (read_number s) → ok (S.number v) r ≡ read_identifier s
unfolding read_identifier choose of_digits
number_lem s v r e = go (read_number s) refl e
  where
    go : (g : Result (List ℕ)) → read_number s ≡ g → ok (Some v) r ≡ number_of g → ok (S.number v) r ≡ read_identifier s
    go fail k e = cc
    go (ok w t) k e = rw k (fits (leb (value w) largest) refl e)
      where
        fits : (b : Bool) → leb (value w) largest ≡ b → ok (Some v) r ≡ ok (pick b (Some (value w)) None) t → ok (S.number v) r ≡ ok (pick b (S.number (value w)) (S.text (length s) w)) t
        fits true x e = cc
        fits false x e = cc

-- digits stand before what is left
digits_before : (s w t : List ℕ) → read_number s ≡ ok w t → w ≡ before s t
digits_before s w t k =
    let e : s ≡ w ++ t = literal-bytes (number-literal (given (subst (Gives (ReadsNumber s)) k (number-sound s)))) in
    rw e (sym (take_at w t (length (w ++ t) - length t) (omega (arith, length-append w t))))

pub digits_lem : (s r w : List ℕ) → ok None r ≡ number_of (read_number s) → w ≡ before s r → ok (S.text (length w + length r) w) r ≡ read_identifier s
unfolding read_identifier choose of_digits
digits_lem s r w e j = go (read_number s) refl e
  where
    go : (g : Result (List ℕ)) → read_number s ≡ g → ok None r ≡ number_of g → ok (S.text (length w + length r) w) r ≡ read_identifier s
    go fail k e = cc
    go (ok d t) k e = rw k (large (leb (value d) largest) refl e)
      where
        large : (b : Bool) → leb (value d) largest ≡ b → ok None r ≡ ok (pick b (Some (value d)) None) t
            → ok (S.text (length w + length r) w) r ≡ ok (pick b (S.number (value d)) (S.text (length s) d)) t
        large true x e = cc
        large false x e =
            let l : length t ≤ length s = omega (arith, behind-left (given (subst (Gives (λ w. Behind 1 s)) k (number_behind s)))) in
            let i : r ≡ t = cc in
            let f : d ≡ before s t = digits_before s d t k in
            let g : w ≡ before s t = cc in
            let n : length w + length r ≡ length s = rw (g, i) (before-length s t l) in
            cc

pub ruleset identifiers = (word_lem, number_lem, digits_lem)
