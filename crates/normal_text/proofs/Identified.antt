-- The identifiers of a comparator are spelled by their bytes in the text.
-- Assumes nothing.
use Rattle.std.proofs.Common.{ℕ, ◌≡◌, List, [], ◌∷◌, ◌++◌, length, refl, sym, ap, ◌∙◌, arith}
use Rattle.rules.specs.Bytes.{bytes}
use Rattle.rules.specs.Syntax.{Identifier}
use Rattle.rules.specs.Parse.{Result, fail, ok, ◌then◌, all, read_identifier, read_dot_identifier, read_identifiers, list_of, found_in}
use Rattle.rules.specs.NormalText.{spell_identifiers}
use Rattle.rules.specs.Version.{read_after_dot}
use Rattle.rules.proofs.Source.{identifiers-taken}
use Rattle.lexer.specs.Views.{before, series_of, read_series}
use Rattle.lexer.proofs.Series.{found_none}

module _ (s : List ℕ) where
  series_is : read_series read_identifier s ≡ read_identifiers s
  unfolding read_series read_identifiers read_dot_identifier read_after_dot
  series_is = refl

  found : (g : Result (List Identifier)) → read_identifiers s ≡ g → found_in s ≡ list_of g
  unfolding found_in
  found g q = ap list_of q

  pub unnamed : fail ≡ series_of (read_series read_identifier s) → [] ≡ spell_identifiers (found_in s)
  unfolding spell_identifiers
  unnamed e = go (read_identifiers s) refl (rw series_is at e)
    where
      go : (g : Result (List Identifier)) → read_identifiers s ≡ g → fail ≡ series_of g → [] ≡ spell_identifiers (found_in s)
      go fail q e = rw (found fail q)
      go (ok is r) q e = cc

  pub named : (n : ℕ × List Identifier) (r : List ℕ) → ok n r ≡ series_of (read_series read_identifier s) → bytes "-" ++ before s r ≡ spell_identifiers (found_in s)
  unfolding spell_identifiers read_series ◌then◌
  named n r e = go (read_identifier s) refl
    where
      spelled : (i : Identifier) (is : List Identifier) (t : List ℕ) → read_series read_identifier s ≡ ok (i ∷ is) t → bytes "-" ++ before s r ≡ spell_identifiers (found_in s)
      spelled i is t q =
          let k : read_identifiers s ≡ ok (i ∷ is) t = sym series_is ∙ q in
          let j : ok n r ≡ series_of (ok (i ∷ is) t) = e ∙ ap series_of q in
          let w : r ≡ t = cc in
          rw (w, found (ok (i ∷ is) t) k, identifiers-taken s (i ∷ is) t k)

      further : (i : Identifier) (t : List ℕ) → read_identifier s ≡ ok i t → (g : Result (List Identifier)) → all (read_after_dot read_identifier) t ≡ g
          → bytes "-" ++ before s r ≡ spell_identifiers (found_in s)
      further i t q fail p = let k : read_series read_identifier s ≡ fail = rw (q, p) in let z : ok n r ≡ fail = e ∙ ap series_of k in cc
      further i t q (ok is u) p = spelled i is u (rw (q, p))

      go : (g : Result Identifier) → read_identifier s ≡ g → bytes "-" ++ before s r ≡ spell_identifiers (found_in s)
      go fail q = let k : read_series read_identifier s ≡ fail = rw q in let z : ok n r ≡ fail = e ∙ ap series_of k in cc
      go (ok i t) q = further i t q (all (read_after_dot read_identifier) t) refl

-- an empty text has none
pub empty : (s : List ℕ) → length s ≡ 0 → [] ≡ spell_identifiers (found_in s)
unfolding spell_identifiers
empty [] e = rw found_none refl
empty (c ∷ s) e = absurd (omega (arith, e))

pub ruleset identified = (unnamed, named, empty)
