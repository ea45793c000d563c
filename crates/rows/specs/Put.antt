-- What a writer promises: `after` is `before` with the words w stored from `at` on, and `next` is the place behind them.
-- Assumes nothing.
use Rattle.std.specs.Prelude.{◌≡◌, List, ◌++◌, ℕ, ◌+◌, length, drop}
use Rattle.std.proofs.lemmas.List.Edits.{sets}

pub record Put (before : List ℕ) (at : ℕ) (w after : List ℕ) (next : ℕ) : Type 0 where
  pub stored : after ≡ sets before at w
  pub place : next ≡ at + length w

-- the words w, then what was there behind them
abbrev pub onto : List ℕ → List ℕ → List ℕ
onto w old = w ++ drop (length w) old
