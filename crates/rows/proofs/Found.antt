-- Identifiers with dots between, one after another: for every reader that takes a byte at least.
-- Assumes nothing.
use Rattle.std.proofs.Common.{ℕ, zero, suc, ◌+◌, ◌≤◌, ◌≡◌, refl, sym, ap, ◌∙◌, List, [], ◌∷◌, length, arith, Some, None}
use Rattle.rules.specs.Bytes.{bytes}
use Rattle.rules.specs.Parse.{Result, fail, ok, ◌then◌, choose, many, all, literal, list_of, read_identifier, read_dot_identifier, read_identifiers, found_in}
use Rattle.rules.specs.Version.{read_after_dot}
use Rattle.rules.proofs.Results.{Gives, gives, given}
use Rattle.rules.proofs.Left.{Behind, behind-left}
use Rattle.rules.proofs.Repeat.{many-answers}
use Rattle.lexer.specs.Views.{Takes, rest_of, read_series}
use Rattle.lexer.proofs.Series.{dot_takes}

-- ---- a reader as often as it succeeds: the bound does not matter

module _ {A : Type 0} (f : List ℕ → Result A) (takes : Takes f) where
  many-none : (k : ℕ) (s : List ℕ) → f s ≡ fail → many f k s ≡ ok [] s
  unfolding many choose
  many-none zero s e = refl
  many-none (suc k) s e = rw e

  none-empty : (s : List ℕ) → length s ≡ 0 → f s ≡ fail
  none-empty s z = go (f s) (takes s)
    where
      go : (g : Result A) → Gives (λ a. Behind 1 s) g → g ≡ fail
      go fail h = refl
      go (ok a r) (gives h) = absurd (omega (arith, behind-left h))

  many_more : (k : ℕ) (s t : List ℕ) (a : A) → f s ≡ ok a t → many f (suc k) s ≡ (many f k t then λ l r. ok (a ∷ l) r)
  unfolding many choose
  many_more k s t a e = rw e

  -- two bounds that are large enough
  many-same : (j k : ℕ) (s : List ℕ) → length s ≤ j → length s ≤ k → many f j s ≡ many f k s
  unfolding many
  many-same zero k s h l = sym (many-none k s (none-empty s (omega arith)))
  many-same (suc j) zero s h l = many-none (suc j) s (none-empty s (omega arith))
  many-same (suc j) (suc k) s h l = go (f s) refl (takes s) (many-same j k)
    where
      go : (g : Result A) → f s ≡ g → Gives (λ a. Behind 1 s) g → ((t : List ℕ) → length t ≤ j → length t ≤ k → many f j t ≡ many f k t) → many f (suc j) s ≡ many f (suc k) s
      go fail e b i = many-none (suc j) s e ∙ sym (many-none (suc k) s e)
      go (ok a t) e (gives b) i =
          let w = behind-left b in
          many_more j s t a e ∙ ap (λ g. g then λ l r. ok (a ∷ l) r) (i t (omega arith) (omega arith)) ∙ sym (many_more k s t a e)

  all_more : (s t : List ℕ) (a : A) → f s ≡ ok a t → Behind 1 s t → all f s ≡ (all f t then λ l r. ok (a ∷ l) r)
  all_more s t a e b = go (length s) (behind-left b)
    where
      go : (n : ℕ) → 1 + length t ≤ n → many f n s ≡ (all f t then λ l r. ok (a ∷ l) r)
      go zero h = absurd (omega arith)
      go (suc k) h = many_more k s t a e ∙ ap (λ g. g then λ l r. ok (a ∷ l) r) (many-same k (length t) t (omega arith) (omega arith))

-- ---- with dots between

-- the identifiers that a range text begins with are such
pub found-series : (s : List ℕ) → found_in s ≡ list_of (read_series read_identifier s)
unfolding found_in read_identifiers read_dot_identifier read_series read_after_dot
found-series s = refl

module _ {A : Type 0} (f : List ℕ → Result A) where
  -- the first, then those behind a dot each
  put_first : (a : A) (t : List ℕ) → list_of (all (read_after_dot f) t then λ l r. ok (a ∷ l) r) ≡ a ∷ list_of (all (read_after_dot f) t)
  unfolding ◌then◌
  put_first a t = let x = many-answers (read_after_dot f) (length t) t in rw x.2

  pub series_none : (s : List ℕ) → f s ≡ fail → list_of (read_series f s) ≡ []
  unfolding read_series ◌then◌
  series_none s e = rw e

  series-first : (s : List ℕ) (a : A) (r : List ℕ) → f s ≡ ok a r → list_of (read_series f s) ≡ a ∷ list_of (all (read_after_dot f) r)
  unfolding read_series ◌then◌
  series-first s a r e = rw e (put_first a r)

  module _ (takes : Takes f) (s : List ℕ) (a : A) (r : List ℕ) (e : f s ≡ ok a r) where
    pub series_last : None ≡ rest_of (literal (bytes ".") r) → list_of (read_series f s) ≡ a ∷ []
    unfolding read_after_dot ◌then◌
    series_last k = series-first s a r e ∙ ap (λ g. a ∷ list_of g) (many-none (read_after_dot f) (dot_takes f takes) (length r) r (none (literal (bytes ".") r) refl k))
      where
        none : (g : Result (Unit {0})) → literal (bytes ".") r ≡ g → None ≡ rest_of g → read_after_dot f r ≡ fail
        none fail q k = rw q
        none (ok u t) q k = cc

    pub series_more : (t : List ℕ) → Some t ≡ rest_of (literal (bytes ".") r) → list_of (read_series f s) ≡ a ∷ list_of (read_series f t)
    unfolding read_after_dot ◌then◌
    series_more t k = series-first s a r e ∙ ap (λ l. a ∷ l) (go (f t) refl)
      where
        dotted : (g : Result (Unit {0})) → literal (bytes ".") r ≡ g → Some t ≡ rest_of g → read_after_dot f r ≡ f t
        dotted fail q k = cc
        dotted (ok u v) q k = let x : v ≡ t = cc in rw (q, x)

        go : (g : Result A) → f t ≡ g → list_of (all (read_after_dot f) r) ≡ list_of (read_series f t)
        go fail q = ap list_of (many-none (read_after_dot f) (dot_takes f takes) (length r) r (dotted (literal (bytes ".") r) refl k ∙ q)) ∙ sym (series_none t q)
        go (ok b u) q =
            let d : read_after_dot f r ≡ ok b u = dotted (literal (bytes ".") r) refl k ∙ q in
            ap list_of (all_more (read_after_dot f) (dot_takes f takes) r u b d (given (rw d at (dot_takes f takes r)))) ∙ put_first b u ∙ sym (series-first t b u q)
