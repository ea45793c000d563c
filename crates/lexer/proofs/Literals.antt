-- Fixed bytes at the start of a text: the library compares as many as they are.
-- Assumes nothing.
use Rattle.std.proofs.Common.{ℕ, ◌≡◌, ◌+◌, Bool, true, false, ◌&&◌, List, [], ◌∷◌, length, take, drop, refl, Option, Some, None, MatchOption, ◌∙◌, sym}
use Rattle.std.specs.Borrow.{Bor}
use Rattle.std.specs.Cmp.Lexicographic.{pointwise}
use lib.Dec.{eqb}
use Rattle.rules.specs.Bytes.{pick}
use Rattle.rules.specs.Parse.{Result, literal}
use Rattle.lexer.specs.Views.{rest_in, rest_of}

literal_is : (w s : List ℕ) → rest_of (literal w s) ≡ pick (pointwise eqb (take (length w) s) w) (Some (drop (length w) s)) None
unfolding literal
literal_is [] s = refl
literal_is (b ∷ w) [] = refl
literal_is (b ∷ w) (c ∷ s) = go (eqb c b) (literal_is w s)
  where
    go : (x : Bool) → rest_of (literal w s) ≡ pick (pointwise eqb (take (length w) s) w) (Some (drop (length w) s)) None
        → rest_of (pick x (literal w s) Result.fail) ≡ pick (x && pointwise eqb (take (length w) s) w) (Some (drop (length w) s)) None
    go true h = h
    go false h = refl

pub literal_lem : (w s : List ℕ) (o : Option (Bor (List ℕ)))
    → MatchOption o (pointwise eqb (take (length w) s) w ≡ false) (λ x. (pointwise eqb (take (length w) s) w ≡ true) × (x.now ≡ drop (length w) s) × (length x.now + length w ≡ length s))
    → rest_in o ≡ rest_of (literal w s)
literal_lem w s None h = sym (literal_is w s ∙ rw h)
literal_lem w s (Some x) h = rw (literal_is w s, h.0, h.1)
