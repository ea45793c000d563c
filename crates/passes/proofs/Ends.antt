-- Where the item of a step ends (02, N2), by what the code holds of the step and of the one behind it.
-- Assumes nothing.
use Rattle.std.proofs.Common.{ℕ, ◌≡◌, Bool, true, false, ◌&&◌, List, [], ◌∷◌, length, refl, ap, ◌∙◌}
use Rattle.rules.specs.Syntax as S
use Rattle.rules.specs.Parse.{Result, fail, ok, literal, skip, read_partial}
use Rattle.rules.specs.Expansion as E
use Rattle.rules.specs.Walk as W
use Rattle.walk.specs.Views.{end_text}

-- a hyphen's right side stands here
abbrev pub is_side : W.Stage → Bool
is_side W.item = false
is_side W.range = false
is_side W.right = true
is_side W.only = true
is_side W.end = false
is_side W.bad = false

-- the item's end, by what stands behind the step; n bytes are left behind its own partial
abbrev pub ends : W.Stage → List ℕ → ℕ → ℕ
ends W.right v n = length (end_text W.right v)
ends W.only v n = length (end_text W.right v)
ends W.item v n = n
ends W.range v n = n
ends W.end v n = n
ends W.bad v n = n

abbrev ended : W.Step → ℕ → ℕ
ended (W.step x st r) n = ends st r n

-- how many bytes are left behind a reader
answer_length : {A : Type 0} (g : Result A) (s : List ℕ) → W.answer g (λ a r. length r) (length s) ≡ length (W.answer g (λ a r. r) s)
answer_length fail s = refl
answer_length (ok a r) s = refl

pub side_end : (st : W.Stage) (s : List ℕ) → is_side st ≡ true → W.end_at st s ≡ length (end_text st s)
side_end W.item s i = cc
side_end W.range s i = cc
side_end W.right s i = answer_length (read_partial s) s
side_end W.only s i = answer_length (read_partial s) s
side_end W.end s i = cc
side_end W.bad s i = cc

right_ends : (p : S.Partial) (v : List ℕ) (n : ℕ) → ends (W.right_of p) v n ≡ length (end_text W.right v)
right_ends S.x_range_only v n = refl
right_ends (S.major_only a) v n = refl
right_ends (S.major_minor a b) v n = refl
right_ends (S.major_minor_patch a b c is) v n = refl

-- an item, or a left side
taken_ends : (m : E.Compat) (f : S.Prefix) (p : S.Partial) (r : List ℕ) (w : W.Behind) → W.end_behind r w ≡ ended (W.taken m f p w) (length r)
taken_ends m f p r (W.behind W.item v) = refl
taken_ends m f p r (W.behind W.range v) = refl
taken_ends m f p r (W.behind W.right v) = rw (right_ends p v (length r)) (answer_length (read_partial v) v)
taken_ends m f p r (W.behind W.only v) = refl
taken_ends m f p r (W.behind W.end v) = refl
taken_ends m f p r (W.behind W.bad v) = refl

closes_ends : (s : List ℕ) (x : E.Piece) (n : ℕ) → n ≡ ended (W.step_to x (W.after_range s)) n
closes_ends s x n = go (skip s)
  where
    bars : (g : Result (Unit {0})) → n ≡ ended (W.step_to x (W.answer g (λ u r. W.behind W.range r) W.nowhere)) n
    bars fail = refl
    bars (ok u r) = refl

    go : (t : List ℕ) → n ≡ ended (W.step_to x (W.closes t)) n
    go [] = refl
    go (c ∷ t) = bars (literal (0x7C ∷ 0x7C ∷ []) (c ∷ t))

right_step_ends : (l : S.Partial) (s : List ℕ) → length (W.answer (read_partial s) (λ p r. r) s) ≡ ended (W.next_right l s) (length (W.answer (read_partial s) (λ p r. r) s))
unfolding W.next_right
right_step_ends l s = go (read_partial s)
  where
    go : (x : Result S.Partial) → length (W.answer x (λ p r. r) s)
        ≡ ended (W.answer x (λ q r. W.step_to (E.expand_right l q) (W.after_range r)) W.stuck) (length (W.answer x (λ p r. r) s))
    go fail = refl
    go (ok q r) = closes_ends r (E.expand_right l q) (length r)

ends_next : (m : E.Compat) (st : W.Stage) (s : List ℕ) → W.goes_on st ≡ true → W.end_at st s ≡ ended (W.next m st s) (length (end_text st s))
unfolding W.next W.next_item
ends_next m W.range s g = go (read_partial (W.partial_at (skip s))) (W.prefix_at (skip s))
  where
    go : (x : Result S.Partial) (f : S.Prefix)
        → W.answer x (λ p r. W.end_behind r (W.follow (true && W.is_bare f) r)) (length (skip s))
        ≡ ended (W.answer x (λ p r. W.taken m f p (W.follow (true && W.is_bare f) r)) (W.step_to E.everything (W.after_range (skip s)))) (length (W.answer x (λ p r. r) (skip s)))
    go fail f = closes_ends (skip s) E.everything (length (skip s))
    go (ok p r) f = taken_ends m f p r (W.follow (true && W.is_bare f) r)
ends_next m W.item s g = go (read_partial (W.partial_at s)) (W.prefix_at s)
  where
    go : (x : Result S.Partial) (f : S.Prefix)
        → W.answer x (λ p r. W.end_behind r (W.follow false r)) (length s)
        ≡ ended (W.answer x (λ p r. W.taken m f p (W.follow false r)) W.stuck) (length (W.answer x (λ p r. r) s))
    go fail f = refl
    go (ok p r) f = taken_ends m f p r (W.follow false r)
ends_next m W.right s g = side_end W.right s refl ∙ right_step_ends (S.major_only 0) s
ends_next m W.only s g = side_end W.only s refl ∙ right_step_ends S.x_range_only s
ends_next m W.end s g = cc
ends_next m W.bad s g = cc

pub step_ends : (m : E.Compat) (st : W.Stage) (s : List ℕ) (x : E.Piece) (st' : W.Stage) (r : List ℕ) → W.goes_on st ≡ true → W.next m st s ≡ W.step x st' r
    → W.end_at st s ≡ ends st' r (length (end_text st s))
step_ends m st s x st' r g e = ends_next m st s g ∙ ap (λ z. ended z (length (end_text st s))) e
