-- A step passes as many bytes as its piece has identifiers, at least.
-- Assumes nothing.
use mathlib.Core.Path.{◌≡◌, refl, ap}
use Prim.Native.Nat.{ℕ, ◌+◌, ◌≤◌}
use native.Mathlib.Omega.{arith}
use mathlib.Core.Bool.{Bool, true, false, ◌&&◌}
use mathlib.Core.Option.{Option, none, some}
use mathlib.Core.List.{List}
use lib.ListN.{length}
use Rattle.rules.specs.Syntax as S
use Rattle.rules.specs.Syntax.{Identifier, Partial, x_range_only, major_only, up_to₁, up_to₂, up_to₃, identifiers_of, Prefix}
use Rattle.rules.specs.Parse.{Result, fail, ok, skip, read_partial, after_three, after_two, after_one}
use Rattle.rules.specs.Expansion.{Compat, Piece, everything, expand_item, expand_left, expand_right, partial_in}
use Rattle.rules.specs.Walk as W
use Rattle.rules.specs.Walk.{Stage, item, range, right, only, end, bad, behind, answer, after_range, follow, Step, step, stuck, step_to, prefix_at, partial_at, is_bare, taken, next_item, next_right, next, identifier_count}
use Rattle.rules.proofs.Results.{Gives, gives, gives-map, gives_then, gives-choose}
use Rattle.rules.proofs.Left.{Behind, behind-none, behind-both, behind-left, dot-behind, component-behind, qualifier-behind}
use Rattle.rules.proofs.LeftItems.{skip-behind}
use Rattle.rules.proofs.StepLeft.{Leaves, nowhere-left, after_range-left, follow-left, partial_at-behind}
use Rattle.rules.proofs.Pieces.{gives-partial, item-gives, left-partial, right-partial}

-- ---- a partial

-- as many bytes as identifiers are passed
abbrev Passes : List ℕ → Partial → List ℕ → Type 0
Passes s p r = Behind (length (identifiers_of p)) s r

three-names : {s r : List ℕ} (c d e : Option ℕ) (is : List Identifier) → Behind (length is) s r → Passes s (up_to₃ c d e is) r
unfolding up_to₃
three-names none d e is h = behind-both h behind-none (omega arith)
three-names (some a) none e is h = behind-both h behind-none (omega arith)
three-names (some a) (some b) none is h = behind-both h behind-none (omega arith)
three-names (some a) (some b) (some c) is h = h

two-names : {s : List ℕ} (c d : Option ℕ) → Passes s (up_to₂ c d) s
unfolding up_to₂
two-names none d = behind-none
two-names (some a) none = behind-none
two-names (some a) (some b) = behind-none

one-names : {s : List ℕ} (c : Option ℕ) → Passes s (up_to₁ c) s
unfolding up_to₁
one-names none = behind-none
one-names (some a) = behind-none

partial-names : (s : List ℕ) → Gives (Passes s) (read_partial s)
unfolding read_partial after_one after_two after_three
partial-names s =
    gives_then (component-behind s) λ c t h. gives-map (gives-choose {Q = Passes t} (dot-behind t)
    (λ d u k. gives-map (gives-choose {Q = Passes u} (dot-behind u)
    (λ e v l. gives-map (gives_then {Q = Passes v} (qualifier-behind v) λ is r q. gives (three-names c d e is q)) λ p r q. behind-both l q (omega arith))
    (gives (two-names c d))) λ p r q. behind-both k q (omega arith)) (gives (one-names c))) λ p r q. behind-both h q (omega arith)

-- ---- a step

abbrev StepPasses : List ℕ → Step → Type 0
StepPasses s (step x st r) = Behind (identifier_count x) s r

names_of : (x : Piece) (p : Partial) → partial_in x ≡ p → identifier_count x ≡ length (identifiers_of p)
names_of (Piece.piece o c q) p e = ap (λ y. length (identifiers_of y)) e

-- a piece of the partial p, whose identifiers were passed before t
of-piece : {s t r : List ℕ} {n : ℕ} (x : Piece) (p : Partial) → partial_in x ≡ p → Behind (length (identifiers_of p)) s t → Behind n t r → Behind (identifier_count x) s r
of-piece x p e h k = behind-both h k (omega (arith, names_of x p e))

stuck-passes : (s : List ℕ) → StepPasses s stuck
stuck-passes s = nowhere-left s

taken-passes : (m : Compat) (f : Prefix) (p : Partial) {s t : List ℕ} → Behind (length (identifiers_of p)) s t → (w : W.Behind) → Leaves t w → StepPasses s (taken m f p w)
taken-passes m f p h (behind item r) k = of-piece (expand_item m (S.item f p)) p (gives-partial (item-gives m f p)) h k
taken-passes m f p h (behind range r) k = of-piece (expand_item m (S.item f p)) p (gives-partial (item-gives m f p)) h k
taken-passes m f p h (behind right r) k = of-piece (expand_left p) p (left-partial p) h k
taken-passes m f p {s} h (behind only r) k = stuck-passes s
taken-passes m f p h (behind end r) k = of-piece (expand_item m (S.item f p)) p (gives-partial (item-gives m f p)) h k
taken-passes m f p {s} h (behind bad r) k = stuck-passes s

step-to-passes : (x : Piece) (p : Partial) → partial_in x ≡ p → {s t : List ℕ} → Behind (length (identifiers_of p)) s t → (w : W.Behind) → Leaves t w → StepPasses s (step_to x w)
step-to-passes x p e h (behind st r) k = of-piece x p e h k

next_item-passes : (m : Compat) (first : Bool) (other : Step) (s : List ℕ) → StepPasses s other → StepPasses s (next_item m first other s)
unfolding next_item
next_item-passes m first other s h = go (read_partial (partial_at s)) (partial-names (partial_at s)) (prefix_at s)
  where
    go : (g : Result Partial) → Gives (Passes (partial_at s)) g → (f : Prefix) → StepPasses s (answer g (λ p r. taken m f p (follow (first && is_bare f) r)) other)
    go fail b f = h
    go (ok p r) (gives b) f =
        taken-passes m f p (behind-both (partial_at-behind s) b (omega arith)) (follow (first && is_bare f) r) (follow-left (first && is_bare f) r)

next_right-passes : (p : Partial) (s : List ℕ) → StepPasses s (next_right p s)
unfolding next_right
next_right-passes p s = go (read_partial s) (partial-names s)
  where
    go : (g : Result Partial) → Gives (Passes s) g → StepPasses s (answer g (λ q r. step_to (expand_right p q) (after_range r)) stuck)
    go fail h = stuck-passes s
    go (ok q r) (gives h) = step-to-passes (expand_right p q) q (right-partial p q) h (after_range r) (after_range-left r)

step_skip : (s : List ℕ) (x : Step) → StepPasses (skip s) x → StepPasses s x
step_skip s (step x st r) h = behind-both (skip-behind s) h (omega arith)

next-passes : (m : Compat) (st : Stage) (s : List ℕ) → StepPasses s (next m st s)
unfolding next
next-passes m range s =
    step_skip s (next m range s) (next_item-passes m true _ (skip s) (step-to-passes everything x_range_only refl behind-none (after_range (skip s)) (after_range-left (skip s))))
next-passes m item s = next_item-passes m false stuck s (stuck-passes s)
next-passes m right s = next_right-passes (major_only 0) s
next-passes m only s = next_right-passes x_range_only s
next-passes m end s = stuck-passes s
next-passes m bad s = stuck-passes s

pub next-names : (m : Compat) (st : Stage) (s : List ℕ) (x : Piece) (st' : Stage) (r : List ℕ) → next m st s ≡ step x st' r → identifier_count x + length r ≤ length s
next-names m st s x st' r e = behind-left (rw e at (next-passes m st s))
