-- A word, and an identifier of a version: a word whose digits alone do not lead with a zero.
-- Assumes nothing.
use Rattle.std.proofs.Common.{ℕ, zero, suc, ◌<◌, ◌≡◌, ◌-◌, ◌≤◌, Bool, true, false, ◌&&◌, eqb, get_or, List, [], ◌∷◌, length, take, drop, refl, sym, ap, ◌∙◌, arith, Some, None}
use lib.ListN.{length-drop}
use borrow.Author.Tests.{eq-eqb, ne_eqb}
use Rattle.rules.specs.Lists.{each}
use Rattle.rules.specs.Bytes.{pick, is_digit, is_word}
use Rattle.rules.specs.Syntax.{of_digits, text}
use Rattle.rules.specs.Parse.{Result, fail, ok, ◌then◌, one_of, count, run}
use Rattle.rules.specs.Version.{read_word, leads_zero, read_version_identifier}
use Rattle.rules.proofs.Left.{count-within}
use Rattle.lexer.specs.Views.{rest, rest_of, before}
use Rattle.version.specs.Views.{padded}

-- ---- leading zeros

-- nothing is left behind the digits of a text of digits
pub digits-all : (s : List ℕ) → eqb (length (rest is_digit s)) 0 ≡ each is_digit s
unfolding count
digits-all [] = refl
digits-all (c ∷ s) = go (is_digit c) (digits-all s)
  where
    go : (b : Bool) → eqb (length (rest is_digit s)) 0 ≡ each is_digit s → eqb (length (drop (pick b (suc (count is_digit s)) 0) (c ∷ s))) 0 ≡ (b && each is_digit s)
    go true h = h
    go false h = ne_eqb (suc (length s)) 0 (λ z. omega arith)

and-false : (b : Bool) → (b && false) ≡ false
and-false true = refl
and-false false = refl

and-true : (b : Bool) → (b && true) ≡ b
and-true true = refl
and-true false = refl

pub padded_zero : (w r : List ℕ) (b : Bool) → 2 ≤ length w → get_or w 0 0 ≡ 48 → r ≡ rest is_digit w → b ≡ eqb (length r) 0 → b ≡ padded w
unfolding padded
padded_zero [] r b l e h k = absurd (omega arith)
padded_zero (c ∷ []) r b l e h k = absurd (omega arith)
padded_zero (c ∷ d ∷ w) r b l e h k = k ∙ rw (h, digits-all (c ∷ d ∷ w), eq-eqb c 48 e, and-true (each is_digit (c ∷ d ∷ w)))

pub padded_short : (w : List ℕ) → length w < 2 → false ≡ padded w
unfolding padded
padded_short [] l = refl
padded_short (c ∷ []) l = sym (and-false (is_digit c && true))
padded_short (c ∷ d ∷ w) l = absurd (omega arith)

pub padded_other : (w : List ℕ) → 2 ≤ length w → (get_or w 0 0 ≡ 48 → ⊥) → false ≡ padded w
unfolding padded
padded_other [] l e = absurd (omega arith)
padded_other (c ∷ []) l e = absurd (omega arith)
padded_other (c ∷ d ∷ w) l e = rw (ne_eqb c 48 e, and-false (each is_digit (c ∷ d ∷ w)))

pub ruleset paddings = (padded_zero, padded_short, padded_other)

-- ---- identifiers

-- the word of so many bytes, if that is any
abbrev word_of : List ℕ → ℕ → Result (List ℕ)
word_of s zero = fail
word_of s (suc k) = ok (take (suc k) s) (drop (suc k) s)

-- a word is all bytes of its class
word-is : (s : List ℕ) → read_word s ≡ word_of s (count is_word s)
unfolding read_word one_of run count ◌then◌
word-is [] = refl
word-is (c ∷ t) = go (is_word c)
  where
    go : (b : Bool) → (pick b (ok c t) fail then λ c t. run is_word t then λ w r. ok (c ∷ w) r) ≡ word_of (c ∷ t) (pick b (suc (count is_word t)) 0)
    go true = refl
    go false = refl

-- it stands before what is left
pub word_before : (s w r : List ℕ) → read_word s ≡ ok w r → (w ≡ before s r) × (length r ≤ length s)
word_before s w r e = go (count is_word s) (count-within is_word s) (sym (word-is s) ∙ e)
  where
    go : (k : ℕ) → k ≤ length s → word_of s k ≡ ok w r → (w ≡ before s r) × (length r ≤ length s)
    go zero l e = cc
    go (suc k) l e =
        let i : take (suc k) s ≡ w = cc in
        let j : drop (suc k) s ≡ r = cc in
        let m : length s - length (drop (suc k) s) ≡ suc k = omega (arith, length-drop (suc k) s) in
        rw (← i, ← j) (rw m, omega (arith, length-drop (suc k) s))

pub identifier_none : (s : List ℕ) → None ≡ rest_of (read_word s) → None ≡ rest_of (read_version_identifier s)
unfolding read_version_identifier ◌then◌
identifier_none s e = go (read_word s) e
  where
    go : (g : Result (List ℕ)) → None ≡ rest_of g
        → None ≡ rest_of (g then λ w r. pick (each is_digit w) (pick (leads_zero w) fail (ok (of_digits (length s) w) r)) (ok (text (length s) w) r))
    go fail e = refl
    go (ok w r) e = cc

module _ (s r : List ℕ) (e : Some r ≡ rest_of (read_word s)) where
  read : (w : List ℕ) × (read_word s ≡ ok w r)
  read = go (read_word s) refl e
    where
      go : (g : Result (List ℕ)) → read_word s ≡ g → Some r ≡ rest_of g → (w : List ℕ) × (read_word s ≡ ok w r)
      go fail q e = cc
      go (ok w t) q e = let k : t ≡ r = cc in (w, q ∙ ap (ok w) k)

  pub identifier_within : length r ≤ length s
  identifier_within = let (w, q) = read in (word_before s w r q).1

  module _ (w : List ℕ) (j : w ≡ before s r) (b : Bool) (p : b ≡ padded w) where
    -- what is left is that of the word, or nothing
    identifier-rest : rest_of (read_version_identifier s) ≡ pick b None (Some r)
    unfolding read_version_identifier padded ◌then◌
    identifier-rest =
        let (d, q) = read in
        let i : d ≡ w = (word_before s d r q).0 ∙ sym j in
        rw (q, i, p) (go (each is_digit w) (leads_zero w))
      where
        go : (d z : Bool) → rest_of (pick d (pick z fail (ok (of_digits (length s) w) r)) (ok (text (length s) w) r)) ≡ pick (d && z) None (Some r)
        go true true = refl
        go true false = refl
        go false z = refl

    pub identifier_padded : b ≡ true → None ≡ rest_of (read_version_identifier s)
    identifier_padded e = sym (identifier-rest ∙ rw e)

    pub identifier_plain : b ≡ false → Some r ≡ rest_of (read_version_identifier s)
    identifier_plain e = sym (identifier-rest ∙ rw e)

pub ruleset identifiers = (identifier_none, identifier_within, identifier_padded, identifier_plain)
