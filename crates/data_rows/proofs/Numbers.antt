-- What is left behind a number is not longer than the text.
-- Assumes nothing.
use Rattle.std.proofs.Common.{ℕ, ◌≡◌, ◌≤◌, List, length, arith, Option}
use Rattle.rules.specs.Parse.{Result, fail, ok, read_number}
use Rattle.rules.proofs.Results.{Gives, given}
use Rattle.rules.proofs.Left.{Behind, behind-left, number_behind}
use Rattle.lexer.specs.Views.{number_of}

pub number_within : (s : List ℕ) (v : Option ℕ) (r : List ℕ) → ok v r ≡ number_of (read_number s) → length r ≤ length s
number_within s v r e = go (read_number s) (number_behind s) e
  where
    go : (g : Result (List ℕ)) → Gives (λ w. Behind 1 s) g → ok v r ≡ number_of g → length r ≤ length s
    go fail h e = cc
    go (ok w t) h e = let i : r ≡ t = cc in rw i (omega (arith, behind-left (given h)))
