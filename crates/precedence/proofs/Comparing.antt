-- The loop over the identifiers of two texts: what it knows, and what each of its ways gives.
-- Assumes nothing.
use Rattle.std.proofs.Common.{ℕ, ◌+◌, ◌<◌, ◌≤◌, ◌≡◌, refl, sym, ap, ◌∙◌, List, [], ◌∷◌, length, arith, Option, Some, None}
use Rattle.std.specs.declared.cmp.Ordering.{Ordering}
use Rattle.std.specs.declared.cmp.Ordering.TheVariants.{Less, Equal, Greater}
use Rattle.rules.specs.Bytes.{bytes}
use Rattle.rules.specs.Syntax as S
use Rattle.rules.specs.Parse.{Result, fail, ok, literal, list_of, read_identifier}
use Rattle.rules.specs.Version.{read_version_identifier, version_identifiers_in}
use Rattle.rules.specs.Precedence as P
use Rattle.rules.specs.Precedence.{◌or_else◌, lexicographic, compare_texts, compare_identifiers}
use Rattle.rules.proofs.Results.{Gives, given}
use Rattle.rules.proofs.Left.{Behind, behind-left, literal-behind, identifier-behind}
use Rattle.lexer.specs.Views.{Takes, rest_of, identifier_is, read_series}
use Rattle.lexer.specs.declared.Identifier.{Identifier}
use Rattle.version.specs.Takes.{identifier-takes}
use Rattle.rows.proofs.Found.{found-series, series_none, series_last, series_more}
use Rattle.precedence.specs.Views.{order_of, known, or_nothing, behind_dot, compared}

-- The identifiers before what is left are the same.
pub record Comparing (v s v-left s-left : List ℕ) : Type 0 where
  pub is : compared v s ≡ compared v-left s-left

pub comparing_start : (v s : List ℕ) → Comparing v s v s
comparing_start v s = record { is = refl }

-- ---- the first identifier, and those behind a dot

pub version-series : (v : List ℕ) → version_identifiers_in v ≡ list_of (read_series read_version_identifier v)
unfolding version_identifiers_in read_series
version-series v = refl

module _ {A : Type 0} (f : List ℕ → Result A) (takes : Takes f) where
  empty : f [] ≡ fail
  empty = go (f []) (takes [])
    where
      go : (g : Result A) → Gives (λ a. Behind 1 []) g → g ≡ fail
      go fail h = refl
      go (ok a r) h = absurd (omega (arith, behind-left (given h)))

  pub series-behind : (s : List ℕ) (a : A) (r : List ℕ) → f s ≡ ok a r → list_of (read_series f s) ≡ a ∷ list_of (read_series f (behind_dot r))
  series-behind s a r e = go (rest_of (literal (bytes ".") r)) refl
    where
      go : (o : Option (List ℕ)) → rest_of (literal (bytes ".") r) ≡ o → list_of (read_series f s) ≡ a ∷ list_of (read_series f (or_nothing o))
      go None q = series_last f takes s a r e (sym q) ∙ ap (λ l. a ∷ l) (sym (series_none f [] empty))
      go (Some t) q = series_more f takes s a r e t (sym q)

  behind-fewer : (s : List ℕ) (a : A) (r : List ℕ) → f s ≡ ok a r → length (behind_dot r) < length s
  behind-fewer s a r e = go (literal (bytes ".") r) (literal-behind (bytes ".") r)
    where
      first : 1 + length r ≤ length s
      first = behind-left (given (rw e at (takes s)))

      go : (g : Result (Unit {0})) → Gives (λ u. Behind 1 r) g → length (or_nothing (rest_of g)) < length s
      go fail h = omega (arith, first)
      go (ok u t) h = omega (arith, first, behind-left (given h))

-- places make no difference
places : (a b : Identifier) (u t : List ℕ) → compare_identifiers (identifier_is a u) (identifier_is b t) ≡ compare_identifiers (known a) (known b)
unfolding compare_identifiers
places (Identifier.Number x) (Identifier.Number y) u t = refl
places (Identifier.Number x) (Identifier.Text w) u t = refl
places (Identifier.Text w) (Identifier.Number y) u t = refl
places (Identifier.Text w) (Identifier.Text z) u t = refl

-- ---- compare_identifiers

module _ (v s v-left s-left : List ℕ) (h : Comparing v s v-left s-left) where
  pub comparing_none : fail ≡ read_version_identifier v-left → fail ≡ read_identifier s-left → P.equal ≡ compared v s
  unfolding lexicographic
  comparing_none p q =
      sym (h.is ∙ rw (version-series v-left, found-series s-left, series_none read_version_identifier v-left (sym p), series_none read_identifier s-left (sym q)))

  pub comparing_fewer : (j : S.Identifier) (t : List ℕ) → fail ≡ read_version_identifier v-left → ok j t ≡ read_identifier s-left → P.less ≡ compared v s
  unfolding lexicographic
  comparing_fewer j t p q =
      sym (h.is ∙ rw (version-series v-left, found-series s-left, series_none read_version_identifier v-left (sym p), series-behind read_identifier identifier-behind s-left j t (sym q)))

  pub comparing_more : (i : S.Identifier) (u : List ℕ) → ok i u ≡ read_version_identifier v-left → fail ≡ read_identifier s-left → P.greater ≡ compared v s
  unfolding lexicographic
  comparing_more i u p q =
      sym (h.is ∙ rw (version-series v-left, found-series s-left, series-behind read_version_identifier identifier-takes v-left i u (sym p), series_none read_identifier s-left (sym q)))

  module _ (a b : Identifier) (u t : List ℕ) (p : ok (identifier_is a u) u ≡ read_version_identifier v-left) (q : ok (identifier_is b t) t ≡ read_identifier s-left)
      (o : Ordering) (e : order_of o ≡ compare_identifiers (known a) (known b)) where
    first : compared v s ≡ (order_of o or_else compared (behind_dot u) (behind_dot t))
    unfolding lexicographic
    first =
        h.is ∙ rw (
          version-series v-left,
          found-series s-left,
          series-behind read_version_identifier identifier-takes v-left (identifier_is a u) u (sym p),
          series-behind read_identifier identifier-behind s-left (identifier_is b t) t (sym q),
          places a b u t,
          ← e,
          ← version-series (behind_dot u),
          ← found-series (behind_dot t),
        )

    pub comparing_differ : (o ≡ Equal → ⊥) → order_of o ≡ compared v s
    unfolding ◌or_else◌
    comparing_differ d = go o d first
      where
        go : (o : Ordering) → (o ≡ Equal → ⊥) → compared v s ≡ (order_of o or_else compared (behind_dot u) (behind_dot t)) → order_of o ≡ compared v s
        go Less d k = sym k
        go Equal d k = absurd (d refl)
        go Greater d k = sym k

    pub comparing_same : o ≡ Equal → (x y : List ℕ) → x ≡ behind_dot u → y ≡ behind_dot t → Comparing v s x y
    unfolding ◌or_else◌
    comparing_same d x y i j = rw (i, j) (go o d first)
      where
        go : (o : Ordering) → o ≡ Equal → compared v s ≡ (order_of o or_else compared (behind_dot u) (behind_dot t)) → Comparing v s (behind_dot u) (behind_dot t)
        go Less d k = cc
        go Equal d k = record { is = k }
        go Greater d k = cc

pub comparing_less : (v u : List ℕ) (i : S.Identifier) → ok i u ≡ read_version_identifier v → length (behind_dot u) < length v
comparing_less v u i p = behind-fewer read_version_identifier identifier-takes v i u (sym p)

pub ruleset comparisons = (comparing_start, comparing_none, comparing_fewer, comparing_more, comparing_differ, comparing_same, comparing_less)
