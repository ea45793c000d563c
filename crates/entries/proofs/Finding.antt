-- The first place that passes a test, and the rules' searches through the rows.
-- Assumes nothing.
use Rattle.std.specs.Prelude as Std
use Rattle.std.specs.Option.{MatchOption}
use Rattle.std.proofs.Common.{◌≡◌, refl, sym, ◌∙◌, ℕ, zero, suc, ◌≤◌, ◌<◌, Bool, true, false, List, drop, arith, eqb}
use Rattle.shelf_rules.specs.Table.{rows_of}
use Rattle.shelf_rules.specs.Shelf.{code_in, find_code, find_from, first_code}
use Rattle.shelf_rules.specs.Lookup.{first_kept}
use Rattle.entries.specs.Views.{option_of, row_at, kept_at, IsFirst}
use Rattle.entries.proofs.Rows.{no_row, next_row, next_kept}

-- what `find` over 0..n says of the place that it finds
abbrev pub Found : (ℕ → Bool) → ℕ → Std.Option ℕ → Type 0
Found q n r = MatchOption r ((k : ℕ) → 0 ≤ k → k < n → q k ≡ false) (λ i. (0 ≤ i) × (i < n) × (q i ≡ true) × ((k : ℕ) → 0 ≤ k → k < i → q k ≡ false))

module _ (l : List ℕ) (n : ℕ) where
  abbrev rows : List (List ℕ)
  rows = rows_of 100 n (drop 2 l)

  -- ---- by code

  module _ (code : ℕ) where
    passed_codes : (k : ℕ) → k ≤ n → ((j : ℕ) → j < k → eqb (code_in (row_at j l)) code ≡ false) → find_code code rows ≡ find_from k code (drop k rows)
    unfolding find_from
    passed_codes zero h f = refl
    passed_codes (suc k) h f = passed_codes k (omega arith) (λ j i. f j (omega arith)) ∙ rw (next_row l n k h, f k (omega arith))

    pub found_code : (r : Std.Option ℕ) → Found (λ k. eqb (code_in (row_at k l)) code) n r → option_of r ≡ find_code code rows
    unfolding find_from
    found_code Std.None f = sym (passed_codes n (omega arith) (λ j i. f j (omega arith) i) ∙ rw (no_row l n n (omega arith)))
    found_code (Std.Some k) (z, h, q, f) = sym (passed_codes k (omega arith) (λ j i. f j (omega arith) i) ∙ rw (next_row l n k h, q))

  -- ---- by the row

  module _ (p : List ℕ → Bool) where
    passed_rows : (k : ℕ) → k ≤ n → ((j : ℕ) → j < k → p (row_at j l) ≡ false) → first_code p rows ≡ first_code p (drop k rows)
    unfolding first_code
    passed_rows zero h f = refl
    passed_rows (suc k) h f = passed_rows k (omega arith) (λ j i. f j (omega arith)) ∙ rw (next_row l n k h, f k (omega arith))

    pub first_row : (r : Std.Option ℕ) → IsFirst (λ k. p (row_at k l)) n l r → option_of r ≡ first_code p rows
    unfolding first_code
    first_row Std.None f = sym (passed_rows n (omega arith) f ∙ rw (no_row l n n (omega arith)))
    first_row (Std.Some c) (k, h, q, f, e) = sym (passed_rows k (omega arith) f ∙ rw (next_row l n k h, q, e))

  -- ---- by the row and its triples

  module _ (p : List ℕ → List ℕ → Bool) where
    abbrev kepts : List (List ℕ)
    kepts = rows_of 48 n (drop 25602 l)

    passed_kepts : (k : ℕ) → k ≤ n → ((j : ℕ) → j < k → p (row_at j l) (kept_at j l) ≡ false) → first_kept p rows kepts ≡ first_kept p (drop k rows) (drop k kepts)
    unfolding first_kept
    passed_kepts zero h f = refl
    passed_kepts (suc k) h f = passed_kepts k (omega arith) (λ j i. f j (omega arith)) ∙ rw (next_row l n k h, next_kept l n k h, f k (omega arith))

    pub first_kept_row : (r : Std.Option ℕ) → IsFirst (λ k. p (row_at k l) (kept_at k l)) n l r → option_of r ≡ first_kept p rows kepts
    unfolding first_kept
    first_kept_row Std.None f = sym (passed_kepts n (omega arith) f ∙ rw (no_row l n n (omega arith)))
    first_kept_row (Std.Some c) (k, h, q, f, e) = sym (passed_kepts k (omega arith) f ∙ rw (next_row l n k h, next_kept l n k h, q, e))
