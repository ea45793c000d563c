-- What is known of a shelf's bytes.
-- Assumes nothing.
use Rattle.std.specs.Prelude.{ℕ, ◌≤◌, ◌≡◌, List, length}
use Rattle.shelf_rules.specs.Shelf.{shelf_size, capacity, count_in}

-- the bytes l are a shelf with n entries: 10 does not apply
pub record Counted (l : List ℕ) (n : ℕ) : Type 0 where
  pub sized : length l ≡ shelf_size
  pub few : n ≤ capacity
  pub is : count_in l ≡ n
