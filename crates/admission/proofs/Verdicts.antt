-- Whether some range admits a version, found piece by piece: what is known between two pieces, and what the pieces to come make of it.
-- Assumes nothing.
use Rattle.std.proofs.Common.{◌≡◌, Bool, true, false, ◌&&◌, ◌||◌, List, [], ◌∷◌, map, refl, ap}
use Rattle.std.proofs.Math.Bool.{and-true, or-false}
use Rattle.rules.specs.Lists.{each, some_of}
use Rattle.rules.specs.Bytes.{pick}
use Rattle.rules.specs.Syntax.{Range}
use Rattle.rules.specs.Expansion.{Compat, Piece, comparators, comparators_of, expand_range, expand}
use Rattle.rules.specs.Walk.{push}
use Rattle.rules.specs.Version.{Version}
use Rattle.rules.specs.Admission.{meets, admits}
use Rattle.rules.proofs.All.{each_append}

-- Where no range has begun; in a range, whether its comparators so far are met; behind a range that admits the version.
pub data Verdict : Type 0 where
  between : Verdict
  within : Bool → Verdict
  admitted : Verdict

module _ (v : Version) where
  -- the comparators of a piece are met, and those of a range
  abbrev pub meets_piece : Piece → Bool
  meets_piece x = each (meets v) (comparators x)

  abbrev meets_range : List Piece → Bool
  meets_range ps = each (meets v) (comparators_of ps)

  -- what the pieces make of it: those of the range that has begun or begins, then those of the further ranges
  abbrev pub verdict : Verdict → List (List Piece) → Bool
  verdict between rs = some_of meets_range rs
  verdict (within a) [] = a
  verdict (within a) (ps ∷ rs) = (a && meets_range ps) || some_of meets_range rs
  verdict admitted rs = true

  -- behind a piece
  abbrev pub after : Verdict → Piece → Verdict
  after between x = within (meets_piece x)
  after (within a) x = within (a && meets_piece x)
  after admitted x = admitted

  -- behind a range
  abbrev pub ended : Verdict → Verdict
  ended between = admitted
  ended (within a) = pick a admitted between
  ended admitted = admitted

  range_more : (x : Piece) (ps : List Piece) → meets_range (x ∷ ps) ≡ meets_piece x && meets_range ps
  unfolding comparators_of
  range_more x ps = each_append (meets v) (comparators x) (comparators_of ps)

  range_none : meets_range [] ≡ true
  unfolding comparators_of
  range_none = refl

  and_assoc : (a b c : Bool) → a && (b && c) ≡ (a && b) && c
  and_assoc true b c = refl
  and_assoc false b c = refl

  pub verdict_push : (k : Verdict) (x : Piece) (rs : List (List Piece)) → verdict k (push x rs) ≡ verdict (after k x) rs
  verdict_push between x [] = rw (range_more x [], range_none, and-true (meets_piece x), or-false (meets_piece x))
  verdict_push between x (ps ∷ rs) = rw (range_more x ps)
  verdict_push (within a) x [] = rw (range_more x [], range_none, and-true (meets_piece x), or-false (a && meets_piece x))
  verdict_push (within a) x (ps ∷ rs) = rw (range_more x ps, and_assoc a (meets_piece x) (meets_range ps))
  verdict_push admitted x rs = refl

  pub verdict_open : (k : Verdict) (rs : List (List Piece)) → verdict k ([] ∷ rs) ≡ verdict (ended k) rs
  verdict_open between rs = rw range_none
  verdict_open (within true) rs = rw range_none
  verdict_open (within false) rs = refl
  verdict_open admitted rs = refl

  -- of a whole text
  pub verdict_text : (m : Compat) (rs : List Range) → verdict between (map (expand_range m) rs) ≡ admits (expand m rs) v
  unfolding admits expand
  verdict_text m [] = refl
  verdict_text m (a ∷ rs) = ap (λ b. meets_range (expand_range m a) || b) (verdict_text m rs)
