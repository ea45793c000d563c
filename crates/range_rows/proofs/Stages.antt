-- Which stages stand behind which: only the first step of a range leads to a hyphen's right side, and that side ends its range.
-- Assumes nothing.
use Rattle.std.proofs.Common.{ℕ, ◌≡◌, true, false, List, [], ◌∷◌, refl, Some, None, ◌∙◌, ap, sym}
use Rattle.rules.specs.Syntax as S
use Rattle.rules.specs.Parse.{Result, fail, ok, literal, skip, read_partial}
use Rattle.rules.specs.Expansion as E
use Rattle.rules.specs.Walk as W
use Rattle.rules.proofs.WalkLaws.{plain, follow-plain}
use Rattle.walk.specs.Views.{Stepped, step_at}
use Rattle.passes.proofs.Turn.{turned}
use Rattle.passes.proofs.Ends.{is_side}
use Rattle.range_rows.specs.Views.{is_listed, further_in, side_in}

abbrev stage_in : W.Step → W.Stage
stage_in (W.step x st r) = st

-- the step that the code holds leads to the stage of the rules' step
stage_next : (m : E.Compat) (n : W.Stage × List ℕ) (x : Stepped) → Some x ≡ step_at m n.0 n.1 → x.next.0 ≡ stage_in (W.next m n.0 n.1)
stage_next m n x e = let t = turned m n.0 n.1 x e in ap stage_in (sym t.is)

-- ---- behind an item

taken_plain : (m : E.Compat) (f : S.Prefix) (p : S.Partial) (w : W.Behind) → plain w ≡ true → is_side (stage_in (W.taken m f p w)) ≡ false
taken_plain m f p (W.behind W.item r) h = refl
taken_plain m f p (W.behind W.range r) h = refl
taken_plain m f p (W.behind W.right r) h = cc
taken_plain m f p (W.behind W.only r) h = cc
taken_plain m f p (W.behind W.end r) h = refl
taken_plain m f p (W.behind W.bad r) h = refl

item_plain : (m : E.Compat) (s : List ℕ) → is_side (stage_in (W.next m W.item s)) ≡ false
unfolding W.next W.next_item
item_plain m s = go (read_partial (W.partial_at s)) (W.prefix_at s)
  where
    go : (g : Result S.Partial) (f : S.Prefix) → is_side (stage_in (W.answer g (λ p r. W.taken m f p (W.follow false r)) W.stuck)) ≡ false
    go fail f = refl
    go (ok p r) f = taken_plain m f p (W.follow false r) (follow-plain r)

-- behind a further item of a range no right side stands
pub listed_plain : (m : E.Compat) (s : List ℕ) (x : Stepped) → Some x ≡ step_at m W.item s → is_side x.next.0 ≡ false
listed_plain m s x e = ap is_side (stage_next m (W.item, s) x e) ∙ item_plain m s

-- ---- behind a right side

-- neither a right side nor an item of the same range
pub record Closes (st : W.Stage) : Type 0 where
  pub plain : is_side st ≡ false
  pub closed : is_listed st ≡ false

closes : (x : E.Piece) (s : List ℕ) → Closes (stage_in (W.step_to x (W.after_range s)))
closes x s = go (skip s)
  where
    bars : (g : Result (Unit {0})) → Closes (stage_in (W.step_to x (W.answer g (λ u r. W.behind W.range r) W.nowhere)))
    bars fail = record { plain = refl; closed = refl }
    bars (ok u r) = record { plain = refl; closed = refl }

    go : (t : List ℕ) → Closes (stage_in (W.step_to x (W.closes t)))
    go [] = record { plain = refl; closed = refl }
    go (c ∷ t) = bars (literal (0x7C ∷ 0x7C ∷ []) (c ∷ t))

right_closes : (p : S.Partial) (s : List ℕ) → Closes (stage_in (W.next_right p s))
unfolding W.next_right
right_closes p s = go (read_partial s)
  where
    go : (g : Result S.Partial) → Closes (stage_in (W.answer g (λ q r. W.step_to (E.expand_right p q) (W.after_range r)) W.stuck))
    go fail = record { plain = refl; closed = refl }
    go (ok q r) = closes (E.expand_right p q) r

side_next : (m : E.Compat) (st : W.Stage) (s : List ℕ) → is_side st ≡ true → Closes (stage_in (W.next m st s))
unfolding W.next
side_next m W.item s i = absurd cc
side_next m W.range s i = absurd cc
side_next m W.right s i = right_closes (S.major_only 0) s
side_next m W.only s i = right_closes S.x_range_only s
side_next m W.end s i = absurd cc
side_next m W.bad s i = absurd cc

pub side_closes : (m : E.Compat) (n : W.Stage × List ℕ) (x : Stepped) → Some x ≡ step_at m n.0 n.1 → is_side n.0 ≡ true → Closes x.next.0
side_closes m n x e i = let h = stage_next m n x e in let c = side_next m n.0 n.1 i in record { plain = ap is_side h ∙ c.plain; closed = ap is_listed h ∙ c.closed }

-- ---- by cases

pub side_goes : (st : W.Stage) → is_side st ≡ true → W.goes_on st ≡ true
side_goes W.item e = cc
side_goes W.range e = cc
side_goes W.right e = refl
side_goes W.only e = refl
side_goes W.end e = cc
side_goes W.bad e = cc

-- where no range goes on, one begins, or the text ends
pub closed_range : (st : W.Stage) → Closes st → W.goes_on st ≡ true → st ≡ W.range
closed_range W.item c g = let i = c.closed in cc
closed_range W.range c g = refl
closed_range W.right c g = let i = c.plain in cc
closed_range W.only c g = let i = c.plain in cc
closed_range W.end c g = cc
closed_range W.bad c g = cc

-- what the tests of the code say
pub further_some : (n : W.Stage × List ℕ) (t : List ℕ) → Some t ≡ further_in n → n ≡ (W.item, t)
further_some (W.item, r) t e = cc
further_some (W.range, r) t e = cc
further_some (W.right, r) t e = cc
further_some (W.only, r) t e = cc
further_some (W.end, r) t e = cc
further_some (W.bad, r) t e = cc

pub further_none : (n : W.Stage × List ℕ) → None ≡ further_in n → is_listed n.0 ≡ false
further_none (W.item, r) e = cc
further_none (W.range, r) e = refl
further_none (W.right, r) e = refl
further_none (W.only, r) e = refl
further_none (W.end, r) e = refl
further_none (W.bad, r) e = refl

-- n is the right side w
pub record Side (n w : W.Stage × List ℕ) : Type 0 where
  pub is : n ≡ w
  pub side : is_side n.0 ≡ true

pub side_some : (n w : W.Stage × List ℕ) → Some w ≡ side_in n → Side n w
side_some (W.item, r) w e = absurd cc
side_some (W.range, r) w e = absurd cc
side_some (W.right, r) w e = record { is = cc; side = refl }
side_some (W.only, r) w e = record { is = cc; side = refl }
side_some (W.end, r) w e = absurd cc
side_some (W.bad, r) w e = absurd cc

pub side_none : (n : W.Stage × List ℕ) → None ≡ side_in n → is_side n.0 ≡ false
side_none (W.item, r) e = refl
side_none (W.range, r) e = refl
side_none (W.right, r) e = cc
side_none (W.only, r) e = cc
side_none (W.end, r) e = refl
side_none (W.bad, r) e = refl
