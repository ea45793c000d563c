-- A reader as often as it succeeds, counted: for every reader that takes a byte at least.
-- Assumes nothing.
use Rattle.std.proofs.Common.{ℕ, zero, suc, ◌≡◌, get_or, ◌+◌, ◌-◌, ◌≤◌, true, false, List, [], ◌∷◌, length, take, drop, refl, arith, Some, None, ap, ◌∙◌}
use Rattle.rules.specs.Syntax.{Identifier}
use Rattle.rules.specs.Parse.{Result, fail, ok, ◌then◌, choose, one_of, many, all, read_identifier, read_dot_identifier, literal, read_number, read_identifiers, read_qualifier, list_of, found_in}
use Rattle.rules.specs.Version.{read_after_dot}
use Rattle.rules.proofs.Left.{Behind, behind-left, literal-behind, behind-both, rest_in}
use Rattle.rules.proofs.Results.{Gives, given, gives_then, gives-map}
use Rattle.lexer.specs.Views.{Takes, rest_of, read_series, series_of, found_by, read_signed, begun}
use Rattle.rules.specs.Bytes.{bytes, is_sign}

-- how many there are
abbrev pub counted : {A : Type 0} → Result (List A) → Result ℕ
counted fail = fail
counted (ok l r) = ok (length l) r

-- so many were read before
abbrev pub plus : ℕ → Result ℕ → Result ℕ
plus k fail = fail
plus k (ok n r) = ok (k + n) r

module _ {A : Type 0} (f : List ℕ → Result A) (takes : Takes f) where
  -- how often is bounded by the length, so a larger bound changes nothing
  many_same : (j k : ℕ) (s : List ℕ) → length s ≤ j → length s ≤ k → many f j s ≡ many f k s
  unfolding many choose
  many_same zero zero s a b = refl
  many_same zero (suc k) s a b = go (f s) refl (takes s)
    where
      go : (g : Result A) → f s ≡ g → Gives (λ a. Behind 1 s) g → ok [] s ≡ choose g (λ x t. many f k t then λ l r. ok (x ∷ l) r) (ok [] s)
      go fail q h = refl
      go (ok x t) q h = absurd (omega (arith, behind-left (given h)))
  many_same (suc j) zero s a b = go (f s) refl (takes s)
    where
      go : (g : Result A) → f s ≡ g → Gives (λ a. Behind 1 s) g → choose g (λ x t. many f j t then λ l r. ok (x ∷ l) r) (ok [] s) ≡ ok [] s
      go fail q h = refl
      go (ok x t) q h = absurd (omega (arith, behind-left (given h)))
  many_same (suc j) (suc k) s a b = go (f s) (takes s) (λ t c d. many_same j k t c d)
    where
      go : (g : Result A) → Gives (λ a. Behind 1 s) g → ((t : List ℕ) → length t ≤ j → length t ≤ k → many f j t ≡ many f k t)
          → choose g (λ x t. many f j t then λ l r. ok (x ∷ l) r) (ok [] s) ≡ choose g (λ x t. many f k t then λ l r. ok (x ∷ l) r) (ok [] s)
      go fail h same = refl
      go (ok x t) h same = rw (same t (omega (arith, behind-left (given h))) (omega (arith, behind-left (given h))))

  pub repeat_stop : (s : List ℕ) → None ≡ rest_of (f s) → counted (all f s) ≡ ok 0 s
  unfolding many choose
  repeat_stop s e = go (length s) (f s) refl e
    where
      go : (k : ℕ) (g : Result A) → f s ≡ g → None ≡ rest_of g → counted (many f k s) ≡ ok 0 s
      go zero g q e = refl
      go (suc k) fail q e = rw q
      go (suc k) (ok a t) q e = cc

  pub repeat_fewer : (s t : List ℕ) → Some t ≡ rest_of (f s) → 1 + length t ≤ length s
  repeat_fewer s t e = go (f s) (takes s) e
    where
      go : (g : Result A) → Gives (λ a. Behind 1 s) g → Some t ≡ rest_of g → 1 + length t ≤ length s
      go fail h e = cc
      go (ok a r) h e = let k : t ≡ r = cc in rw k (behind-left (given h))

  pub repeat_more : (s t : List ℕ) → Some t ≡ rest_of (f s) → counted (all f s) ≡ plus 1 (counted (all f t))
  unfolding many choose ◌then◌
  repeat_more s t e = go (length s) (f s) refl e (repeat_fewer s t e)
    where
      go : (k : ℕ) (g : Result A) → f s ≡ g → Some t ≡ rest_of g → 1 + length t ≤ k → counted (many f k s) ≡ plus 1 (counted (all f t))
      go zero g q e l = absurd (omega arith)
      go (suc k) fail q e l = cc
      go (suc k) (ok a r) q e l = let x : r ≡ t = cc in rw (q, x, many_same k (length t) t (omega arith) (omega arith)) (one a (all f t))
        where
          one : (a : A) (g : Result (List A)) → counted (g then λ l r. ok (a ∷ l) r) ≡ plus 1 (counted g)
          one a fail = refl
          one a (ok l r) = ap (λ x. ok x r) (omega arith)

pub plus_plus : (j k : ℕ) (g : Result ℕ) → plus j (plus k g) ≡ plus (j + k) g
plus_plus j k fail = refl
plus_plus j k (ok n r) = ap (λ x. ok x r) (omega arith)

pub dot_takes : {A : Type 0} (f : List ℕ → Result A) → Takes f → Takes (read_after_dot f)
unfolding read_after_dot
dot_takes f h s = gives_then (literal-behind (bytes ".") s) λ u t b. gives-map (h t) λ a r k. behind-both b k (omega arith)

pub series_none : {A : Type 0} (f : List ℕ → Result A) (s : List ℕ) → None ≡ rest_of (f s) → fail ≡ series_of (read_series f s)
unfolding read_series ◌then◌
series_none {A} f s e = go (f s) e
  where
    go : (g : Result A) → None ≡ rest_of g → fail ≡ series_of (g then λ a t. all (read_after_dot f) t then λ l r. ok (a ∷ l) r)
    go fail e = refl
    go (ok a r) e = cc

-- the first one, and those that follow
pub series_first : {A : Type 0} (f : List ℕ → Result A) (s t : List ℕ) → Some t ≡ rest_of (f s) → counted (read_series f s) ≡ plus 1 (counted (all (read_after_dot f) t))
unfolding read_series ◌then◌
series_first {A} f s t e = go (f s) e
  where
    more : (a : A) (g : Result (List A)) → counted (g then λ l r. ok (a ∷ l) r) ≡ plus 1 (counted g)
    more a fail = refl
    more a (ok l r) = ap (λ x. ok x r) (omega arith)

    go : (g : Result A) → Some t ≡ rest_of g → counted (g then λ a t. all (read_after_dot f) t then λ l r. ok (a ∷ l) r) ≡ plus 1 (counted (all (read_after_dot f) t))
    go fail e = cc
    go (ok a u) e = let x : t ≡ u = cc in rw x (more a (all (read_after_dot f) u))

-- a further one
pub series_more : {A : Type 0} (f : List ℕ → Result A) (s t u : List ℕ) (n : ℕ) → Takes f → counted (read_series f s) ≡ plus n (counted (all (read_after_dot f) t))
    → Some u ≡ rest_of (read_after_dot f t) → counted (read_series f s) ≡ plus (n + 1) (counted (all (read_after_dot f) u))
series_more f s t u n h e k = e ∙ ap (plus n) (repeat_more (read_after_dot f) (dot_takes f h) t u k) ∙ plus_plus n 1 _

pub series_end : {A : Type 0} (f : List ℕ → Result A) (s t : List ℕ) (n : ℕ) → Takes f → counted (read_series f s) ≡ plus n (counted (all (read_after_dot f) t))
    → None ≡ rest_of (read_after_dot f t) → ok (n, found_by f s) t ≡ series_of (read_series f s)
series_end {A} f s t n h e k = go (read_series f s) (rw (repeat_stop (read_after_dot f) (dot_takes f h) t k) at e)
  where
    go : (g : Result (List A)) → counted g ≡ ok (n + 0) t → ok (n, list_of g) t ≡ series_of g
    go fail e = cc
    go (ok l r) e = let i : length l ≡ n + 0 = cc in let j : r ≡ t = cc in rw (i, j) (ap (λ x. ok (x, l) t) (omega arith))

pub ruleset series = (series_none, series_first, series_more, series_end, repeat_fewer, dot_takes)

-- the identifiers that a text begins with
pub found_is : (s : List ℕ) → found_in s ≡ list_of (read_series read_identifier s)
unfolding found_in read_series read_identifiers read_dot_identifier read_after_dot
found_is s = refl

pub found_none : found_in [] ≡ []
unfolding found_in read_identifiers read_identifier read_number ◌then◌ choose one_of literal
found_none = refl

-- behind a sign
module _ (s : List ℕ) (h : 1 ≤ length s) (e : is_sign (get_or s 0 0) ≡ true) where
  read_behind : read_signed s ≡ read_series read_identifier (take (length s - 1) (drop 1 s))
  unfolding read_signed ◌then◌ one_of
  read_behind = go s h e
    where
      go : (s : List ℕ) → 1 ≤ length s → is_sign (get_or s 0 0) ≡ true → read_signed s ≡ read_series read_identifier (take (length s - 1) (drop 1 s))
      go [] h e = absurd (omega arith)
      go (c ∷ s) h e = rw (e, rest_in (c ∷ s) 1)

  pub signed_is : (o : Result (ℕ × List Identifier)) → o ≡ series_of (read_series read_identifier (take (length s - 1) (drop 1 s))) → o ≡ series_of (read_signed s)
  signed_is o k = rw read_behind k

pub signed_no : (s : List ℕ) → (1 ≤ length s → is_sign (get_or s 0 0) ≡ false) → fail ≡ series_of (read_signed s)
unfolding read_signed ◌then◌ one_of
signed_no [] h = refl
signed_no (c ∷ s) h = rw (h (omega arith))

pub signed_text : (s : List ℕ) → take (length s - 1) (drop 1 s) ≡ drop 1 s
signed_text s = rest_in s 1

pub ruleset signed = (signed_is, signed_no, signed_text, found_is)

-- a qualifier is what stands behind a sign, or nothing
qualifier_read : (s : List ℕ) → read_qualifier s ≡ choose (read_signed s) (λ is r. ok is r) (ok [] s)
unfolding read_qualifier read_signed read_series read_identifiers read_dot_identifier read_after_dot
qualifier_read s = refl

pub qualifier_some : (s : List ℕ) (n : ℕ) (is : List Identifier) (r : List ℕ) → ok (n, is) r ≡ series_of (read_signed s) → ok (n, is) r ≡ series_of (read_qualifier s)
unfolding choose
qualifier_some s n is r e = rw (qualifier_read s) (go (read_signed s) e)
  where
    go : (g : Result (List Identifier)) → ok (n, is) r ≡ series_of g → ok (n, is) r ≡ series_of (choose g (λ is r. ok is r) (ok [] s))
    go fail e = cc
    go (ok l t) e = e

pub qualifier_none : (s : List ℕ) → fail ≡ series_of (read_signed s) → ok (0, found_in []) s ≡ series_of (read_qualifier s)
unfolding choose
qualifier_none s e = rw (qualifier_read s, found_none) (go (read_signed s) e)
  where
    go : (g : Result (List Identifier)) → fail ≡ series_of g → ok (0, []) s ≡ series_of (choose g (λ is r. ok is r) (ok [] s))
    go fail e = refl
    go (ok l t) e = cc

-- what is behind a sign begins with an identifier
pub begun_some : (s : List ℕ) (n : ℕ) (is : List Identifier) (r t : List ℕ) → ok (n, is) r ≡ series_of (read_signed s) → t ≡ begun (list_of (read_qualifier s)) t
unfolding choose read_signed read_series ◌then◌
begun_some s n is r t e = rw (qualifier_read s) (sign (one_of is_sign s) e)
  where
    all_of : (i : Identifier) (g : Result (List Identifier)) → ok (n, is) r ≡ series_of (g then λ l r. ok (i ∷ l) r)
        → t ≡ begun (list_of (choose (g then λ l r. ok (i ∷ l) r) (λ is r. ok is r) (ok [] s))) t
    all_of i fail e = cc
    all_of i (ok l r) e = refl

    first : (g : Result Identifier) → ok (n, is) r ≡ series_of (g then λ a t. all (read_after_dot read_identifier) t then λ l r. ok (a ∷ l) r)
        → t ≡ begun (list_of (choose (g then λ a t. all (read_after_dot read_identifier) t then λ l r. ok (a ∷ l) r) (λ is r. ok is r) (ok [] s))) t
    first fail e = cc
    first (ok a u) e = all_of a (all (read_after_dot read_identifier) u) e

    sign : (g : Result ℕ) → ok (n, is) r ≡ series_of (g then λ c t. read_series read_identifier t)
        → t ≡ begun (list_of (choose (g then λ c t. read_series read_identifier t) (λ is r. ok is r) (ok [] s))) t
    sign fail e = cc
    sign (ok c u) e = first (read_identifier u) e

pub begun_none : (s t : List ℕ) → fail ≡ series_of (read_signed s) → [] ≡ begun (list_of (read_qualifier s)) t
unfolding choose
begun_none s t e = rw (qualifier_read s) (go (read_signed s) e)
  where
    go : (g : Result (List Identifier)) → fail ≡ series_of g → [] ≡ begun (list_of (choose g (λ is r. ok is r) (ok [] s))) t
    go fail e = refl
    go (ok l r) e = cc

pub ruleset qualifiers = (qualifier_some, qualifier_none, begun_some, begun_none)
