-- The extents along the walk (02, N2): one step of them, as many as pieces, and that an item ends within the text behind its begin.
-- Assumes nothing.
use mathlib.Core.Path.{◌≡◌, refl, sym, ap, ◌∙◌}
use Prim.Native.Nat.{ℕ, suc, ◌≤◌}
use native.Mathlib.Omega.{arith}
use mathlib.Core.Bool.{Bool, true, false, ◌&&◌}
use mathlib.Core.Option.{Option, none, some}
use mathlib.Core.List.{List, [], ◌∷◌, map}
use lib.ListN.{length}
use Rattle.rules.specs.Syntax.{Partial}
use Rattle.rules.specs.Parse.{Result, fail, ok, skip, read_partial}
use Rattle.rules.specs.Expansion.{Compat, Piece}
use Rattle.rules.specs.Extents.{Extent}
use Rattle.rules.specs.Walk as W
use Rattle.rules.specs.Walk.{Stage, item, range, right, only, end, bad, behind, answer, follow, step, prefix_at, partial_at, is_bare, next, push, map_option, opening, goes_on, begin_at, end_behind, item_end, end_at, extent_at, Walks, WalksExtents, ends, fails, goes}
use Rattle.rules.proofs.Results.{Gives, gives}
use Rattle.rules.proofs.Left.{Behind, behind-left, partial-behind}
use Rattle.rules.proofs.LeftItems.{skip-behind}
use Rattle.rules.proofs.StepLeft.{Leaves, follow-left, partial_at-behind, next-behind, range-behind}

-- ---- a step

-- the extents behind a step
pub record ExtentsOn (m : Compat) (st : Stage) (b : ℕ) (s : List ℕ) (o : Option (List (List Extent))) (st' : Stage) (r : List ℕ) : Type 0 where
  pub behind : Option (List (List Extent))
  pub walks : WalksExtents m st' (begin_at st b s) r behind
  pub is : o ≡ map_option (λ es. opening st (push (extent_at st b s) es)) behind

pub extents-on : {m : Compat} {st : Stage} {b : ℕ} {s : List ℕ} {o : Option (List (List Extent))} (x : Piece) (st' : Stage) (r : List ℕ)
    → WalksExtents m st b s o → goes_on st ≡ true → next m st s ≡ step x st' r → ExtentsOn m st b s o st' r
extents-on x st' r WalksExtents.ends g e = let z : ◌≡◌ {A = ℕ} 0 1 = cc in absurd (omega arith)
extents-on x st' r WalksExtents.fails g e = let z : ◌≡◌ {A = ℕ} 0 1 = cc in absurd (omega arith)
extents-on x st' r (WalksExtents.goes {st' = a} {r = t} {x = y} {o} h n w) g e =
    let j : a ≡ st' = cc in let k : t ≡ r = cc in
    record { behind = o; walks = rw (j, k) at w; is = refl }

-- ---- as many extents as pieces

abbrev pub AsMany : Option (List (List Piece)) → Option (List (List Extent)) → Type 0
AsMany none none = Unit {0}
AsMany none (some es) = ⊥
AsMany (some rs) none = ⊥
AsMany (some rs) (some es) = map length rs ≡ map length es

abbrev more : List ℕ → List ℕ
more [] = 1 ∷ []
more (n ∷ ns) = suc n ∷ ns

push-more : {A : Type 0} (x : A) (l : List (List A)) → map length (push x l) ≡ more (map length l)
push-more x [] = refl
push-more x (a ∷ l) = refl

open_more : {A B : Type 0} (st : Stage) (k : List (List A)) (l : List (List B)) → map length k ≡ map length l → map length (opening st k) ≡ map length (opening st l)
open_more item k l e = e
open_more range k l e = ap (λ (n : List ℕ). 0 ∷ n) e
open_more right k l e = e
open_more only k l e = e
open_more end k l e = e
open_more bad k l e = e

step-many : (st : Stage) (x : Piece) (e : Extent) (o : Option (List (List Piece))) (q : Option (List (List Extent))) → AsMany o q
    → AsMany (map_option (λ rs. opening st (push x rs)) o) (map_option (λ es. opening st (push e es)) q)
step-many st x e none none h = tt
step-many st x e none (some es) h = h
step-many st x e (some rs) none h = h
step-many st x e (some rs) (some es) h = open_more st (push x rs) (push e es) (push-more x rs ∙ ap more h ∙ sym (push-more e es))

many-same : (o : Option (List (List Piece))) (p q : Option (List (List Extent))) → p ≡ q → AsMany o q → AsMany o p
many-same o p q e h = rw e h

pub extents-count : {m : Compat} {st : Stage} {b : ℕ} {s : List ℕ} {o : Option (List (List Piece))} {q : Option (List (List Extent))}
    → Walks m st s o → WalksExtents m st b s q → AsMany o q
extents-count Walks.ends WalksExtents.ends = refl
extents-count Walks.ends (WalksExtents.goes h n w) = let z : ◌≡◌ {A = ℕ} 0 1 = cc in absurd (omega arith)
extents-count Walks.fails WalksExtents.fails = tt
extents-count Walks.fails (WalksExtents.goes h n w) = let z : ◌≡◌ {A = ℕ} 0 1 = cc in absurd (omega arith)
extents-count {b = b} {s = s} (Walks.goes {st} {st'} {r = r} {x = x} {o} g n w) v =
    let k = extents-on x st' r v g n in
    many-same (map_option (λ rs. opening st (push x rs)) o) _ (map_option (λ es. opening st (push (extent_at st b s) es)) k.behind) k.is (step-many st x (extent_at st b s) o k.behind (extents-count w k.walks))

-- ---- where an item ends

partial-end : (s : List ℕ) → answer (read_partial s) (λ q u. length u) (length s) ≤ length s
partial-end s = go (read_partial s) (partial-behind s)
  where
    go : (g : Result Partial) → Gives (λ p. Behind 1 s) g → answer g (λ q u. length u) (length s) ≤ length s
    go fail h = omega arith
    go (ok p r) (gives h) = omega (arith, behind-left h)

end_behind-most : (r : List ℕ) (w : W.Behind) → Leaves r w → end_behind r w ≤ length r
end_behind-most r (behind item v) h = omega arith
end_behind-most r (behind range v) h = omega arith
end_behind-most r (behind right v) h = omega (arith, partial-end v, behind-left h)
end_behind-most r (behind only v) h = omega arith
end_behind-most r (behind end v) h = omega arith
end_behind-most r (behind bad v) h = omega arith

item_end-most : (first : Bool) (s : List ℕ) → item_end first s ≤ length s
item_end-most first s = go (read_partial (partial_at s)) (partial-behind (partial_at s)) (first && is_bare (prefix_at s))
  where
    go : (g : Result Partial) → Gives (λ p. Behind 1 (partial_at s)) g → (d : Bool) → answer g (λ p r. end_behind r (follow d r)) (length s) ≤ length s
    go fail h d = omega arith
    go (ok p r) (gives h) d = omega (arith, behind-left h, behind-left (partial_at-behind s), end_behind-most r (follow d r) (follow-left d r))

-- the begin of a hyphen range stands before its sides
pub end-most : (st : Stage) (b : ℕ) (s : List ℕ) → length s ≤ b → end_at st s ≤ begin_at st b s
end-most range b s h = item_end-most true (skip s)
end-most item b s h = item_end-most false s
end-most right b s h = omega (arith, partial-end s)
end-most only b s h = omega (arith, partial-end s)
end-most end b s h = h
end-most bad b s h = h

pub begin-most : (st : Stage) (b : ℕ) (s : List ℕ) (n : ℕ) → length s ≤ n → b ≤ n → begin_at st b s ≤ n
begin-most range b s n h k = omega (arith, behind-left (skip-behind s))
begin-most item b s n h k = h
begin-most right b s n h k = k
begin-most only b s n h k = k
begin-most end b s n h k = k
begin-most bad b s n h k = k

pub rest-most : (m : Compat) (st : Stage) (b : ℕ) (s : List ℕ) → length s ≤ b → (x : Piece) (st' : Stage) (r : List ℕ) → next m st s ≡ step x st' r → length r ≤ begin_at st b s
rest-most m range b s h x st' r e = omega (arith, behind-left (range-behind m s x st' r e))
rest-most m item b s h x st' r e = omega (arith, behind-left (next-behind m item s x st' r e))
rest-most m right b s h x st' r e = omega (arith, behind-left (next-behind m right s x st' r e))
rest-most m only b s h x st' r e = omega (arith, behind-left (next-behind m only s x st' r e))
rest-most m end b s h x st' r e = omega (arith, behind-left (next-behind m end s x st' r e))
rest-most m bad b s h x st' r e = omega (arith, behind-left (next-behind m bad s x st' r e))
