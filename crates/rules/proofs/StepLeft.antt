-- What is left behind a step of the walk is the text from a place on, and a step that the walk goes on from takes a byte at least: so the walk
-- ends.
-- Assumes nothing.
use mathlib.Core.Path.{◌≡◌, sym}
use Prim.Native.Nat.{ℕ, ◌≤◌, ◌<◌}
use native.Mathlib.Omega.{arith}
use mathlib.Core.Bool.{Bool, true, false, ◌&&◌}
use mathlib.Core.List.{List, [], ◌∷◌}
use lib.ListN.{length}
use lib.Seq.{drop-length}
use Rattle.rules.specs.Bytes.{pick}
use Rattle.rules.specs.Syntax.{Partial, x_range_only, major_only, major_minor, major_minor_patch, Prefix}
use Rattle.rules.specs.Parse.{Result, fail, ok, literal, skip, spaces₁, read_partial, read_prefix, read_gap}
use Rattle.rules.specs.Expansion.{Compat, Piece, everything, expand_right}
use Rattle.rules.specs.Walk as W
use Rattle.rules.specs.Walk.{Stage, item, range, right, only, end, bad, behind, answer, nowhere, closes, after_range, follow, Step, step, stuck, step_to, prefix_at, partial_at, is_bare, right_of, taken, next_item, next_right, next, goes_on}
use Rattle.rules.proofs.Results.{Gives, gives, given}
use Rattle.rules.proofs.Left.{Behind, behind-none, behind-both, behind-left, literal-behind, partial-behind, prefix-behind}
use Rattle.rules.proofs.LeftItems.{skip-behind, gap-behind, dash-behind}
use Rattle.rules.proofs.Following.{Following, closing, listing, dashing, following}

-- ---- what is left

-- how many bytes at least a step to this stage has passed
abbrev pub passed : Stage → ℕ
passed st = pick (goes_on st) 1 0

-- what is left there is left of s
abbrev pub Leaves : List ℕ → W.Behind → Type 0
Leaves s (behind st r) = Behind (passed st) s r

abbrev StepLeaves : List ℕ → Step → Type 0
StepLeaves s (step x st r) = Behind (passed st) s r

pub nowhere-left : (s : List ℕ) → Leaves s nowhere
nowhere-left s = record { by = length s; left = sym (drop-length s); within = omega arith; least = omega arith }

passed-few : (st : Stage) → passed st ≤ 1
passed-few st = go (goes_on st)
  where
    go : (b : Bool) → pick b 1 0 ≤ 1
    go true = omega arith
    go false = omega arith

-- behind a reader that takes a byte at least
answer-left : {A : Type 0} {s : List ℕ} {n : ℕ} (st : Stage) (g : Result A) → 1 ≤ n → Gives (λ a. Behind n s) g
    → Leaves s (answer g (λ a r. behind st r) nowhere)
answer-left {s} st fail l h = nowhere-left s
answer-left st (ok a r) l (gives h) = behind-both h behind-none (omega (arith, passed-few st))

-- ---- what stands behind a piece

closes-left : (s : List ℕ) → Leaves s (closes s)
closes-left [] = behind-none
closes-left (c ∷ s) = answer-left range (literal (0x7C ∷ 0x7C ∷ []) (c ∷ s)) (omega arith) (literal-behind (0x7C ∷ 0x7C ∷ []) (c ∷ s))

-- of a text from a place on
leaves-behind : {n : ℕ} {s t : List ℕ} (w : W.Behind) → Behind n s t → Leaves t w → Leaves s w
leaves-behind (behind st r) h k = behind-both h k (omega arith)

pub after_range-left : (t : List ℕ) → Leaves t (after_range t)
after_range-left t = leaves-behind (closes (skip t)) (skip-behind t) (closes-left (skip t))

pub follow-left : (dashed : Bool) (t : List ℕ) → Leaves t (follow dashed t)
follow-left dashed t = go dashed (following t)
  where
    gap : (v : List ℕ) → read_gap t ≡ ok tt v → Behind 1 t v
    gap v g = given (rw g at (gap-behind t))

    go : (dashed : Bool) → Following t → Leaves t (follow dashed t)
    go dashed (closing n d f) = rw (f dashed) (after_range-left t)
    go dashed (listing v z g d f) = rw (f dashed) (gap v g)
    go false (dashing u z g d f f') = rw f (gap (45 ∷ u) g)
    go true (dashing u z g d f f') = rw f' (answer-left right (spaces₁ u) (omega arith) (rw d at (dash-behind t)))

-- ---- a step

taken-left : (m : Compat) (f : Prefix) (p : Partial) (s : List ℕ) (w : W.Behind) → Leaves s w → StepLeaves s (taken m f p w)
taken-left m f p s (behind item r) h = h
taken-left m f p s (behind range r) h = h
taken-left m f p s (behind right r) h = go p
  where
    go : (p : Partial) → Behind (passed (right_of p)) s r
    go x_range_only = h
    go (major_only a) = h
    go (major_minor a b) = h
    go (major_minor_patch a b c is) = h
taken-left m f p s (behind only r) h = nowhere-left s
taken-left m f p s (behind end r) h = h
taken-left m f p s (behind bad r) h = nowhere-left s

step_to-left : (x : Piece) (s : List ℕ) (w : W.Behind) → Leaves s w → StepLeaves s (step_to x w)
step_to-left x s (behind st r) h = h

step-behind : {s t : List ℕ} (x : Step) → Behind 0 s t → StepLeaves t x → StepLeaves s x
step-behind (step x st r) h k = behind-both h k (omega arith)

pub partial_at-behind : (s : List ℕ) → Behind 0 s (partial_at s)
partial_at-behind s = go (read_prefix s) (prefix-behind s)
  where
    go : (g : Result Prefix) → Gives (λ f. Behind 1 s) g → Behind 0 s (answer g (λ f t. skip t) s)
    go fail h = behind-none
    go (ok f t) (gives h) = behind-both h (skip-behind t) (omega arith)

next_item-left : (m : Compat) (first : Bool) (other : Step) (s : List ℕ) → StepLeaves s other → StepLeaves s (next_item m first other s)
unfolding next_item
next_item-left m first other s h = go (read_partial (partial_at s)) (partial-behind (partial_at s)) (prefix_at s)
  where
    go : (g : Result Partial) → Gives (λ p. Behind 1 (partial_at s)) g → (f : Prefix)
        → StepLeaves s (answer g (λ p r. taken m f p (follow (first && is_bare f) r)) other)
    go fail b f = h
    go (ok p r) (gives b) f =
        taken-left m f p s (follow (first && is_bare f) r)
        (leaves-behind (follow (first && is_bare f) r) (behind-both {l = 0} (partial_at-behind s) b (omega arith)) (follow-left (first && is_bare f) r))

next_right-left : (p : Partial) (s : List ℕ) → StepLeaves s (next_right p s)
unfolding next_right
next_right-left p s = go (read_partial s) (partial-behind s)
  where
    go : (g : Result Partial) → Gives (λ p. Behind 1 s) g → StepLeaves s (answer g (λ q r. step_to (expand_right p q) (after_range r)) stuck)
    go fail h = nowhere-left s
    go (ok q r) (gives h) = step_to-left (expand_right p q) s (after_range r) (leaves-behind (after_range r) h (after_range-left r))

next-left : (m : Compat) (st : Stage) (s : List ℕ) → StepLeaves s (next m st s)
unfolding next
next-left m range s =
    step-behind (next m range s) (skip-behind s)
    (next_item-left m true _ (skip s) (step_to-left everything (skip s) (after_range (skip s)) (after_range-left (skip s))))
next-left m item s = next_item-left m false stuck s (nowhere-left s)
next-left m right s = next_right-left (major_only 0) s
next-left m only s = next_right-left x_range_only s
next-left m end s = nowhere-left s
next-left m bad s = nowhere-left s

-- where a range begins, of the text behind its spaces
range-left : (m : Compat) (s : List ℕ) → StepLeaves (skip s) (next m range s)
unfolding next
range-left m s = next_item-left m true _ (skip s) (step_to-left everything (skip s) (after_range (skip s)) (after_range-left (skip s)))

pub range-behind : (m : Compat) (s : List ℕ) (x : Piece) (st' : Stage) (r : List ℕ) → next m range s ≡ step x st' r → Behind 0 (skip s) r
range-behind m s x st' r e = behind-both {l = 0} (rw e at (range-left m s)) behind-none (omega arith)

module _ (m : Compat) (st : Stage) (s : List ℕ) (x : Piece) (st' : Stage) (r : List ℕ) (e : next m st s ≡ step x st' r) where
  leaves : Behind (passed st') s r
  leaves = rw e at (next-left m st s)

  pub next-behind : Behind 0 s r
  next-behind = behind-both leaves behind-none (omega arith)

  pub next-fewer : goes_on st' ≡ true → length r < length s
  next-fewer g = omega (arith, rw g at (behind-left leaves))
