-- What follows the numbers of a version: identifiers behind a sign, and both parts to the end of the text.
-- Assumes nothing.
use Rattle.std.proofs.Common.{ℕ, ◌≡◌, ◌-◌, ◌≤◌, get_or, List, [], ◌∷◌, length, take, drop, refl, ap, arith, Option, Some, None, IfSome, Bor}
use borrow.Author.Tests.{eq-eqb, ne_eqb}
use Rattle.rules.specs.Parse.{Result, fail, ok, ◌then◌, choose, all, literal, at_end, list_of}
use Rattle.rules.specs.Version.{read_word, read_version_identifier, read_after_dot, read_series, version_identifiers_in}
use Rattle.rules.proofs.Results.{Gives, given}
use Rattle.rules.proofs.Left.{Behind, behind-left, rest_in}
use Rattle.lexer.specs.Views as L
use Rattle.lexer.specs.Views.{Takes, found_by, series_of, series_in, begun}
use Rattle.lexer.specs.declared.Identifiers.{Identifiers}
use Rattle.version.specs.Views.{read_tail, tail_of}

-- ---- identifiers behind a sign

module _ {A : Type 0} (f : List ℕ → Result A) (sign : ℕ) (s : List ℕ) where
  module _ (h : 1 ≤ length s) (e : get_or s 0 0 ≡ sign) where
    signed_is : read_series (sign ∷ []) f s ≡ L.read_series f (take (length s - 1) (drop 1 s))
    unfolding L.read_series read_series choose literal
    signed_is = go s h e
      where
        go : (s : List ℕ) → 1 ≤ length s → get_or s 0 0 ≡ sign → read_series (sign ∷ []) f s ≡ L.read_series f (take (length s - 1) (drop 1 s))
        go [] h e = absurd (omega arith)
        go (c ∷ s) h e = rw (eq-eqb c sign e, rest_in (c ∷ s) 1)

    pub series_behind : (o : Option Identifiers) → series_in f o ≡ series_of (L.read_series f (take (length s - 1) (drop 1 s)))
        → series_in f o ≡ series_of (read_series (sign ∷ []) f s)
    series_behind o k = rw signed_is k

    -- where there are identifiers, their text is what stands behind the sign
    pub series_text : (o : Option Identifiers) (t : Bor (List ℕ)) → t.now ≡ take (length s - 1) (drop 1 s)
        → series_in f o ≡ series_of (L.read_series f t.now) → IfSome o (λ x. x.text ≡ t)
        → IfSome o (λ x. x.text.now ≡ begun (list_of (read_series (sign ∷ []) f s)) (drop 1 s))
    unfolding L.read_series ◌then◌
    series_text None t i k q = q
    series_text (Some x) t i k q = rw (q, i, signed_is, rest_in s 1) (first (f (drop 1 s)) (rw (i, rest_in s 1) at k))
      where
        further : (a : A) (g : Result (List A)) → series_in f (Some x) ≡ series_of (g then λ l r. ok (a ∷ l) r)
            → drop 1 s ≡ begun (list_of (g then λ l r. ok (a ∷ l) r)) (drop 1 s)
        further a fail k = cc
        further a (ok l r) k = refl

        first : (g : Result A) → series_in f (Some x) ≡ series_of (g then λ a t. all (read_after_dot f) t then λ l r. ok (a ∷ l) r)
            → drop 1 s ≡ begun (list_of (g then λ a t. all (read_after_dot f) t then λ l r. ok (a ∷ l) r)) (drop 1 s)
        first fail k = cc
        first (ok a u) k = further a (all (read_after_dot f) u) k

  found_none : Takes f → found_by f [] ≡ []
  unfolding L.read_series ◌then◌
  found_none takes = go (f []) refl (takes [])
    where
      go : (g : Result A) → f [] ≡ g → Gives (λ a. Behind 1 []) g → found_by f [] ≡ []
      go fail q h = rw q
      go (ok a r) q h = absurd (omega (arith, behind-left (given h)))

  pub series_none : Takes f → (1 ≤ length s → get_or s 0 0 ≡ sign → ⊥) → ok (0, found_by f []) s ≡ series_of (read_series (sign ∷ []) f s)
  unfolding read_series choose literal
  series_none takes h = rw (found_none takes) (go s h)
    where
      go : (s : List ℕ) → (1 ≤ length s → get_or s 0 0 ≡ sign → ⊥) → ok (0, []) s ≡ series_of (read_series (sign ∷ []) f s)
      go [] h = refl
      go (c ∷ s) h = rw (ne_eqb c sign (h (omega arith)))

  pub series_unsigned : (1 ≤ length s → get_or s 0 0 ≡ sign → ⊥) → (t : List ℕ) → [] ≡ begun (list_of (read_series (sign ∷ []) f s)) t
  unfolding read_series choose literal
  series_unsigned h t = go s h
    where
      go : (s : List ℕ) → (1 ≤ length s → get_or s 0 0 ≡ sign → ⊥) → [] ≡ begun (list_of (read_series (sign ∷ []) f s)) t
      go [] h = refl
      go (c ∷ s) h = rw (ne_eqb c sign (h (omega arith)))

pub ruleset series = (series_behind, series_text, series_none, series_unsigned)

-- ---- to the end of the text

series_is : {A : Type 0} (g : Result (List A)) (n : ℕ) (l : List A) (r : List ℕ) → ok (n, l) r ≡ series_of g → (g ≡ ok l r) × (n ≡ length l)
series_is fail n l r e = cc
series_is {A} (ok m t) n l r e =
    let k : r ≡ t = cc in
    let p : ◌≡◌ {A = ℕ × List A} (n, l) (length m, m) = cc in
    let j : l ≡ m = ap (λ x. x.1) p in
    (rw (j, k), rw j (ap (λ x. x.0) p))

no_series : {A : Type 0} (g : Result (List A)) → fail ≡ series_of g → g ≡ fail
no_series fail e = refl
no_series (ok l r) e = cc

module _ (s : List ℕ) where
  pub tail_unread : fail ≡ series_of (read_series (45 ∷ []) read_version_identifier s) → None ≡ tail_of (read_tail s)
  unfolding read_tail ◌then◌
  tail_unread e = rw (no_series _ e)

  module _ (n : ℕ) (t r : List ℕ) (e : ok (n, found_by read_version_identifier t) r ≡ series_of (read_series (45 ∷ []) read_version_identifier s)) where
    pub tail_unbuilt : fail ≡ series_of (read_series (43 ∷ []) read_word r) → None ≡ tail_of (read_tail s)
    unfolding read_tail ◌then◌
    tail_unbuilt k = rw ((series_is _ _ _ _ e).0, no_series _ k)

    module _ (m : ℕ) (l : List (List ℕ)) (v : List ℕ) (k : ok (m, l) v ≡ series_of (read_series (43 ∷ []) read_word r)) where
      pub tail_whole : length v ≡ 0 → Some (n, version_identifiers_in t) ≡ tail_of (read_tail s)
      unfolding read_tail ◌then◌ at_end version_identifiers_in L.read_series
      tail_whole z = let (i, j) = series_is _ _ _ _ e in rw (i, j, (series_is _ _ _ _ k).0) (go v z)
        where
          go : (v : List ℕ) → length v ≡ 0 → Some (length (version_identifiers_in t), version_identifiers_in t) ≡ tail_of (at_end v then λ u e. ok (version_identifiers_in t) e)
          go [] z = refl
          go (c ∷ v) z = absurd (omega arith)

      pub tail_text : length v ≡ 0 → list_of (read_series (45 ∷ []) read_version_identifier s) ≡ list_of (read_tail s)
      unfolding read_tail ◌then◌ at_end
      tail_text z = rw ((series_is _ _ _ _ e).0, (series_is _ _ _ _ k).0) (go v z)
        where
          go : (v : List ℕ) → length v ≡ 0 → found_by read_version_identifier t ≡ list_of (at_end v then λ u e. ok (found_by read_version_identifier t) e)
          go [] z = refl
          go (c ∷ v) z = absurd (omega arith)

      pub tail_more : (length v ≡ 0 → ⊥) → None ≡ tail_of (read_tail s)
      unfolding read_tail ◌then◌ at_end
      tail_more z = rw ((series_is _ _ _ _ e).0, (series_is _ _ _ _ k).0) (go v z)
        where
          go : (v : List ℕ) → (length v ≡ 0 → ⊥) → None ≡ tail_of (at_end v then λ u e. ok (found_by read_version_identifier t) e)
          go [] z = absurd (z refl)
          go (c ∷ v) z = refl

pub ruleset tails = (tail_unread, tail_unbuilt, tail_whole, tail_text, tail_more)
