-- The rows of one range of a text, and where a range begins and ends.
-- Assumes nothing.
use Rattle.std.specs.Prelude.{ℕ, suc, ◌+◌, ◌≤◌, ◌≡◌, Bool, true, false, List, [], ◌∷◌, map, length, drop, Option, Some, None}
use Rattle.std.specs.Borrow.{Bor}
use Rattle.rules.specs.Bytes.{pick}
use Rattle.rules.specs.Lists.{concat}
use Rattle.rules.specs.Parse.{list_of}
use Rattle.rules.specs.Expansion.{Compat}
use Rattle.rules.specs.Extents.{text_extents}
use Rattle.rules.specs.Rows.{range_rows, text_pieces}
use Rattle.rules.specs.Walk as W
use Rattle.rules.specs.Walk.{goes_on, piece_identifier_words}
use Rattle.walk.specs.Views.{Stepped, stage_of, step_at}
use Rattle.walk.specs.declared.Stage.{Stage}
use Rattle.passes.proofs.Turn.{ahead}
use Rattle.passes.proofs.Passing.{Passing}
use Rattle.passes.proofs.Ends.{is_side}
use Rattle.passes.proofs.Extending.{Extending}

-- ---- what stands behind a step

-- a further item of the same range
abbrev pub is_listed : W.Stage → Bool
is_listed W.item = true
is_listed W.range = false
is_listed W.right = false
is_listed W.only = false
is_listed W.end = false
is_listed W.bad = false

-- where it begins
abbrev pub further_in : W.Stage × List ℕ → Option (List ℕ)
further_in n = pick (is_listed n.0) (Some n.1) None

-- where the right side of a hyphen range begins
abbrev pub side_in : W.Stage × List ℕ → Option (W.Stage × List ℕ)
side_in n = pick (is_side n.0) (Some n) None

-- a stage and what is left there, as the code has them
abbrev pub sides : Option (Stage × Bor (List ℕ)) → Option (W.Stage × List ℕ)
sides None = None
sides (Some x) = Some (stage_of x.0, x.1.now)

-- ---- the rows of a range

-- what is to come in the range that has begun, and in the further ones
abbrev pub first : {A : Type 0} → List (List A) → List A
first [] = []
first (a ∷ l) = a

abbrev pub later : {A : Type 0} → List (List A) → List (List A)
later [] = []
later (a ∷ l) = l

-- the comparator rows of the range with this number, and its identifier rows
unfoldable pub range_words : Compat → List ℕ → ℕ → List ℕ
unfolding range_rows
range_words m s k = range_rows (length s) k (first (drop k (text_pieces m s))) (first (drop k (list_of (text_extents s))))

unfoldable pub range_names : Compat → List ℕ → ℕ → List ℕ
unfolding piece_identifier_words
range_names m s k = concat (map (piece_identifier_words (length s)) (first (drop k (text_pieces m s))))

-- ---- where a range begins

-- The range with this number begins from n on, or there is none and the text ends.
pub record Here (m : Compat) (s : List ℕ) (k : ℕ) (n : W.Stage × List ℕ) : Type 0 where
  pub begin : ℕ
  pub pass : Passing m n
  pub extends : Extending m s n begin
  pub pieces : pass.coming ≡ [] ∷ drop k (text_pieces m s)
  pub extents : extends.coming ≡ [] ∷ drop k (list_of (text_extents s))
  pub begins : goes_on n.0 ≡ true → n.0 ≡ W.range
  pub few : k + ahead n ≤ suc (length s)

-- and x is its first step
pub record Beginning (m : Compat) (s : List ℕ) (k : ℕ) (x : Stepped) : Type 0 where
  pub left : List ℕ
  pub here : Here m s k (W.range, left)
  pub is : Some x ≡ step_at m W.range left

-- And its rows fit so many words. Data, as the next one, so that the prover's searches do not look into it.
pub data AtRange (m : Compat) (s : List ℕ) (k : ℕ) (x : Stepped) (words ids : ℕ) : Type 0 where
  at_range : Beginning m s k x → length (range_words m s k) ≤ words → length (range_names m s k) ≤ ids → AtRange m s k x words ids

-- behind the range with this number
pub data BehindRange (m : Compat) (s : List ℕ) (k : ℕ) (n : W.Stage × List ℕ) : Type 0 where
  behind_range : Here m s (k + 1) n → BehindRange m s k n
