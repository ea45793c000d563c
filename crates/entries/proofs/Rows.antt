-- The rows of a shelf's entries and of their triples.
-- Assumes nothing.
use Rattle.std.proofs.Common.{◌≡◌, ap, ◌∙◌, ℕ, suc, ◌+◌, ◌*◌, ◌-◌, ◌≤◌, ◌<◌, List, [], ◌∷◌, take, drop, arith}
use Rattle.std.proofs.Math.ListN.{drop_of_length-le}
use Rattle.std.proofs.Math.Seq.{drop-drop, drop-cons}
use Rattle.shelf_rules.specs.Table.{rows_of}
use Rattle.shelf_rules.specs.Shelf.{bounds_in}
use Rattle.shelf_rules.proofs.TableLaws.{rows-length, rows_at}
use Rattle.shelf_rules.proofs.KeptLaws.{bounds-inside}
use Rattle.entries.specs.Views.{row_at, kept_at}

-- ---- one row

module _ (l : List ℕ) (k : ℕ) where
  pub row_is : take (2 + 100 * k + 100 - (2 + 100 * k)) (drop (2 + 100 * k) l) ≡ row_at k l
  row_is = let e : 2 + 100 * k + 100 - (2 + 100 * k) ≡ 100 = omega arith in ap (λ i. take i (drop (2 + 100 * k) l)) e ∙ rw drop-drop

  pub kept_bounds : bounds_in (kept_at k l) ≡ bounds_in (drop (25602 + 48 * k) l)
  kept_bounds = bounds-inside 48 (drop (48 * k) (drop 25602 l)) (omega arith) ∙ ap bounds_in (drop-drop (48 * k) 25602 l)

-- ---- the rows from the one at k on: none behind the last

module _ (l : List ℕ) (n k : ℕ) where
  pub no_row : n ≤ k → drop k (rows_of 100 n (drop 2 l)) ≡ []
  no_row h = drop_of_length-le (rows_of 100 n (drop 2 l)) {i = k} (omega (arith, rows-length 100 n (drop 2 l)))

  pub next_row : k < n → drop k (rows_of 100 n (drop 2 l)) ≡ row_at k l ∷ drop (suc k) (rows_of 100 n (drop 2 l))
  next_row h = drop-cons (rows_of 100 n (drop 2 l)) k [] (omega (arith, rows-length 100 n (drop 2 l))) ∙ rw (rows_at 100 n k (drop 2 l) h)

  pub next_kept : k < n → drop k (rows_of 48 n (drop 25602 l)) ≡ kept_at k l ∷ drop (suc k) (rows_of 48 n (drop 25602 l))
  next_kept h = drop-cons (rows_of 48 n (drop 25602 l)) k [] (omega (arith, rows-length 48 n (drop 25602 l))) ∙ rw (rows_at 48 n k (drop 25602 l) h)
