-- The shelf's calls that answer with more than a number, as Rust and C make them: what is left in the places that they are given. A refusal leaves
-- zeros.
-- Assumes nothing.
use Rattle.std.specs.Prelude.{ℕ}
use Rattle.std.proofs.Math.Option.{Option, none, some}
use Rattle.rules.specs.Answers.{Answer, accepted, refused}
use Rattle.shelf_rules.specs.Shelf.{Part}

-- the listing: the number of the refusal, and where the text stands in the shelf
pub record Found : Type 0 where
  pub refusal : ℕ
  pub place : ℕ
  pub length : ℕ

unfoldable pub found_part : Answer Part → Found
found_part (accepted p) = record { refusal = 0; place = p.place; length = p.length }
found_part (refused n) = record { refusal = n; place = 0; length = 0 }

-- first fit and the lookup: the number of the refusal, and 1 with the code of the entry that fits, or 0 and 0 where none does
pub record FirstFit : Type 0 where
  pub refusal : ℕ
  pub found : ℕ
  pub code : ℕ

unfoldable pub first_fit : Answer (Option ℕ) → FirstFit
first_fit (accepted (some code)) = record { refusal = 0; found = 1; code = code }
first_fit (accepted none) = record { refusal = 0; found = 0; code = 0 }
first_fit (refused n) = record { refusal = n; found = 0; code = 0 }
