-- The walk over a text, one step after another, gives what the function reads, expanded: at each stage, what a step there gives is what the
-- function reads from there on.
-- Assumes nothing.
use mathlib.Core.Path.{◌≡◌, refl, sym, ap, ◌∙◌, fun_ext}
use Prim.Native.Nat.{ℕ, zero, suc, ◌<◌}
use native.Mathlib.Omega.{arith}
use mathlib.Core.Bool.{Bool, true, false}
use mathlib.Core.Option.{Option, none, some}
use mathlib.Core.List.{List, [], ◌∷◌, map}
use lib.ListN.{length}
use Rattle.rules.specs.Syntax as S
use Rattle.rules.specs.Syntax.{Partial, x_range_only, major_only, major_minor, major_minor_patch, Prefix, bare, tilde, caret, op, Item, Range, nothing, hyphen}
use Rattle.rules.specs.Parse.{Result, fail, ok, ◌then◌, choose, all, literal, skip, spaces₁, read_partial, read_prefix, read_item, read_gap, read_next, read_dash, read_items, after_item, read_range, read_separator, read_further, at_end, read_text}
use Rattle.rules.specs.Expansion.{Compat, Piece, everything, expand_item, expand_left, expand_right, expand_range}
use Rattle.rules.specs.Walk.{Stage, item, range, right, only, end, bad, Behind, behind, answer, nowhere, closes, after_range, follow, Step, step, stuck, step_to, prefix_at, partial_at, is_bare, right_of, taken, next_item, next_right, next, push, map_option, opening, goes_on, Walks, ends, fails, goes, walk_of}
use Rattle.rules.proofs.LeftItems.{next_item-behind, further-behind}
use Rattle.rules.proofs.Once.{all-step}
use Rattle.rules.proofs.Following.{Following, closing, listing, dashing, dash-item, following}
use Rattle.rules.proofs.StepLeft.{next-fewer}

-- ---- answers

pub map-twice : {A B C : Type 0} (f : B → C) (g : A → B) (o : Option A) → map_option f (map_option g o) ≡ map_option (λ a. f (g a)) o
map-twice f g none = refl
map-twice f g (some a) = refl

pub map_same : {A : Type 0} (o : Option A) → map_option (λ a. a) o ≡ o
map_same none = refl
map_same (some a) = refl

pub map-answer : {A B C : Type 0} (h : B → C) (g : Result A) (f : A → List ℕ → Option B)
    → map_option h (answer g f none) ≡ answer g (λ a r. map_option h (f a r)) none
map-answer h fail f = refl
map-answer h (ok a r) f = refl

pub answer-then : {A B C : Type 0} (g : Result A) (h : A → List ℕ → Result B) (f : B → List ℕ → C) (c : C)
    → answer (g then h) f c ≡ answer g (λ a r. answer (h a r) f c) c
unfolding ◌then◌
answer-then fail h f c = refl
answer-then (ok a r) h f c = refl

walk-answer : (m : Compat) (g : Result (List Range)) → walk_of m g ≡ answer g (λ rs r. some (map (expand_range m) rs)) none
walk-answer m fail = refl
walk-answer m (ok rs r) = refl

-- ---- facts about the walk's definitions

-- an item by what stands before its partial
pub item-at : (s : List ℕ) → read_item s ≡ (read_partial (partial_at s) then λ p r. ok (S.item (prefix_at s) p) r)
unfolding read_item choose
item-at s = go (read_prefix s)
  where
    go : (x : Result Prefix) → choose x (λ f t. read_partial (skip t) then λ p r. ok (S.item f p) r) (read_partial s then λ p r. ok (S.item bare p) r)
        ≡ (read_partial (answer x (λ f t. skip t) s) then λ p r. ok (S.item (answer x (λ f t. f) bare) p) r)
    go fail = refl
    go (ok f t) = refl

-- no side of a hyphen range
abbrev pub plain : Behind → Bool
plain (behind item r) = true
plain (behind range r) = true
plain (behind right r) = false
plain (behind only r) = false
plain (behind end r) = true
plain (behind bad r) = true

pub closes-plain : (s : List ℕ) → plain (closes s) ≡ true
closes-plain [] = refl
closes-plain (c ∷ s) = go (literal (0x7C ∷ 0x7C ∷ []) (c ∷ s))
  where
    go : (g : Result (Unit {0})) → plain (answer g (λ u r. behind range r) nowhere) ≡ true
    go fail = refl
    go (ok u r) = refl

pub follow-plain : (t : List ℕ) → plain (follow false t) ≡ true
follow-plain t = go (following t)
  where
    go : Following t → plain (follow false t) ≡ true
    go (closing n d f) = rw (f false) (closes-plain (skip t))
    go (listing v z g d f) = rw (f false)
    go (dashing u z g d f f') = rw f

-- of the left side only whether it is a wildcard matters
right-same : (p : Partial) → right_of p ≡ right → (q : Partial) → expand_right (major_only 0) q ≡ expand_right p q
unfolding expand_right
right-same p e (major_only a) = refl
right-same p e (major_minor a b) = refl
right-same p e (major_minor_patch a b c is) = refl
right-same x_range_only e x_range_only = cc
right-same (major_only a) e x_range_only = refl
right-same (major_minor a b) e x_range_only = refl
right-same (major_minor_patch a b c is) e x_range_only = refl

-- ---- what is still to come

abbrev Coming : Type 0
Coming = Option (List (List Piece))

-- pieces before those that follow them in their range
abbrev pushes : List Piece → List (List Piece) → List (List Piece)
pushes [] rs = rs
pushes (x ∷ ps) rs = push x (pushes ps rs)

pushes-first : (ps : List Piece) (rs : List (List Piece)) → pushes ps ([] ∷ rs) ≡ ps ∷ rs
pushes-first [] rs = refl
pushes-first (x ∷ ps) rs = rw (pushes-first ps rs)

module _ (m : Compat) where
  -- behind a range: further ranges, and the end
  ranges : List ℕ → Coming
  ranges t = answer (all read_further t) (λ l r. answer (at_end (skip r)) (λ u e. some ([] ∷ map (expand_range m) l)) none) none

  -- a range, and what is behind it
  range_then : Result Range → Coming
  range_then g = answer g (λ a t. map_option (pushes (expand_range m a)) (ranges t)) none

  -- behind an item: further items of the range, and what is behind it
  more : List ℕ → Coming
  more t = answer (all read_next t) (λ is r. map_option (pushes (map (expand_item m) is)) (ranges r)) none

  -- the right side of a hyphen range with this left side, and what is behind it
  right_side : Partial → List ℕ → Coming
  right_side p s = answer (read_partial s) (λ q r. map_option (push (expand_right p q)) (ranges r)) none

  -- at each stage
  coming : Stage → List ℕ → Coming
  coming range s = map_option (λ rs. [] ∷ rs) (walk_of m (read_text s))
  coming item s = answer (read_item s) (λ i t. map_option (push (expand_item m i)) (more t)) none
  coming right s = right_side (major_only 0) s
  coming only s = right_side x_range_only s
  coming end s = some ([] ∷ [])
  coming bad s = none

  abbrev coming_behind : Behind → Coming
  coming_behind (behind st r) = coming st r

  -- what a step at a stage gives
  abbrev stepped : Stage → Step → Coming
  stepped st (step x st' r) = map_option (λ rs. opening st (push x rs)) (coming st' r)

  step-to : (st : Stage) (x : Piece) (w : Behind) → stepped st (step_to x w) ≡ map_option (λ rs. opening st (push x rs)) (coming_behind w)
  step-to st x (behind st' r) = refl

  -- ---- behind a range

  range-then : (s : List ℕ) → coming range s ≡ map_option (λ rs. [] ∷ rs) (range_then (read_range (skip s)))
  unfolding coming read_text range_then ranges
  range-then s = simp (walk-answer, answer-then, map-answer, pushes-first)

  ranges-none : (t : List ℕ) → read_further t ≡ fail → ranges t ≡ answer (at_end (skip t)) (λ u e. some ([] ∷ [])) none
  unfolding ranges choose
  ranges-none t e = rw (all-step read_further further-behind t, e)

  ranges-some : (t v : List ℕ) (a : Range) → read_further t ≡ ok a v → ranges t ≡ map_option (λ rs. [] ∷ pushes (expand_range m a) rs) (ranges v)
  unfolding ranges choose
  ranges-some t v a e = rw (all-step read_further further-behind t, e) (simp (answer-then, map-answer, pushes-first))

  ranges-closes : (t : List ℕ) → ranges t ≡ coming_behind (after_range t)
  unfolding coming range_then read_further read_separator literal at_end ◌then◌
  ranges-closes t = go (skip t) refl
    where
      first : (c : ℕ) (s r : List ℕ) → skip t ≡ c ∷ s → literal (0x7C ∷ 0x7C ∷ []) (c ∷ s) ≡ ok tt r → (g : Result Range) → read_range (skip r) ≡ g
          → ranges t ≡ map_option (λ rs. [] ∷ rs) (range_then g)
      first c s r e l fail h = ranges-none t (rw (e, l, h)) ∙ rw e
      first c s r e l (ok a v) h = ranges-some t v a (rw (e, l, h)) ∙ simp map-twice

      bars : (c : ℕ) (s : List ℕ) → skip t ≡ c ∷ s → (g : Result (Unit {0})) → literal (0x7C ∷ 0x7C ∷ []) (c ∷ s) ≡ g
          → ranges t ≡ coming_behind (answer g (λ u r. behind range r) nowhere)
      bars c s e fail l = ranges-none t (rw (e, l)) ∙ rw e
      bars c s e (ok u r) l = first c s r e l (read_range (skip r)) refl ∙ sym (range-then r)

      go : (s : List ℕ) → skip t ≡ s → ranges t ≡ coming_behind (closes s)
      go [] e = ranges-none t (rw e) ∙ rw e
      go (c ∷ s) e = bars c s e (literal (0x7C ∷ 0x7C ∷ []) (c ∷ s)) refl

  -- ---- behind an item

  more-none : (t : List ℕ) → read_next t ≡ fail → more t ≡ coming_behind (after_range t)
  unfolding more choose
  more-none t e = rw (all-step read_next next_item-behind t, e) (map_same (ranges t) ∙ ranges-closes t)

  more-some : (t v : List ℕ) (i : Item) → read_next t ≡ ok i v → more t ≡ map_option (push (expand_item m i)) (more v)
  unfolding more choose
  more-some t v i e = rw (all-step read_next next_item-behind t, e) (simp (answer-then, map-answer, map-twice))

  -- where neither the end nor a bar follows
  more-item : (t v : List ℕ) → after_range t ≡ nowhere → read_gap t ≡ ok tt v → more t ≡ coming item v
  unfolding coming read_next ◌then◌
  more-item t v z g = go (read_item v) refl
    where
      go : (x : Result Item) → read_item v ≡ x → more t ≡ answer x (λ i t. map_option (push (expand_item m i)) (more t)) none
      go fail e = more-none t (rw (g, e)) ∙ rw z
      go (ok i r) e = more-some t r i (rw (g, e))

  more-follow : (t : List ℕ) → more t ≡ coming_behind (follow false t)
  more-follow t = go (following t)
    where
      go : Following t → more t ≡ coming_behind (follow false t)
      go (closing n d f) = more-none t n ∙ rw (f false)
      go (listing v z g d f) = more-item t v z g ∙ rw (f false)
      go (dashing u z g d f f') = more-item t (45 ∷ u) z g ∙ rw f

  -- ---- a step at an item

  taken-plain : (st : Stage) (f : Prefix) (p : Partial) (w : Behind) → plain w ≡ true
      → stepped st (taken m f p w) ≡ map_option (λ rs. opening st (push (expand_item m (S.item f p)) rs)) (coming_behind w)
  unfolding coming
  taken-plain st f p (behind item r) e = refl
  taken-plain st f p (behind range r) e = refl
  taken-plain st f p (behind right r) e = cc
  taken-plain st f p (behind only r) e = cc
  taken-plain st f p (behind end r) e = refl
  taken-plain st f p (behind bad r) e = refl

  -- an item that no dash may follow
  step-listed : (st : Stage) (f : Prefix) (p : Partial) (t : List ℕ)
      → stepped st (taken m f p (follow false t)) ≡ map_option (λ rs. opening st (push (expand_item m (S.item f p)) rs)) (more t)
  step-listed st f p t = taken-plain st f p (follow false t) (follow-plain t) ∙ rw (more-follow t)

  step-item : (s : List ℕ) → stepped item (next m item s) ≡ coming item s
  unfolding next next_item coming ◌then◌
  step-item s = rw (item-at s) (go (read_partial (partial_at s)) (prefix_at s))
    where
      go : (x : Result Partial) (f : Prefix) → stepped item (answer x (λ p r. taken m f p (follow false r)) stuck)
          ≡ answer (x then λ p r. ok (S.item f p) r) (λ i t. map_option (push (expand_item m i)) (more t)) none
      go fail f = refl
      go (ok p r) f = step-listed item f p r

  -- ---- a step at the right side of a hyphen range

  step_right : (st : Stage) → opening {A = Piece} st ≡ (λ rs. rs) → (p : Partial) (s : List ℕ) → stepped st (next_right p s) ≡ right_side p s
  unfolding next_right right_side coming
  step_right st e p s = go (read_partial s)
    where
      go : (x : Result Partial) → stepped st (answer x (λ q r. step_to (expand_right p q) (after_range r)) stuck)
          ≡ answer x (λ q r. map_option (push (expand_right p q)) (ranges r)) none
      go fail = refl
      go (ok q r) = step-to st (expand_right p q) (after_range r) ∙ rw (e, ranges-closes r)

  right_of_lem : (p : Partial) (t : List ℕ) → coming (right_of p) t ≡ right_side p t
  unfolding coming right_side
  right_of_lem p t = go p
    where
      same : (p : Partial) → right_of p ≡ right → right_side (major_only 0) t ≡ right_side p t
      same p e = ap (λ f. answer (read_partial t) (λ q r. map_option (push (f q)) (ranges r)) none) (fun_ext (right-same p e))

      go : (p : Partial) → coming (right_of p) t ≡ right_side p t
      go x_range_only = refl
      go (major_only a) = same (major_only a) refl
      go (major_minor a b) = same (major_minor a b) refl
      go (major_minor_patch a b c is) = same (major_minor_patch a b c is) refl

  -- ---- a step at a range

  items-then : (i : Item) (t : List ℕ) → range_then (read_items i t) ≡ map_option (push (expand_item m i)) (more t)
  unfolding range_then read_items more expand_range
  items-then i t = simp (answer-then, map-answer, map-twice)

  hyphen-then : (p : Partial) (t : List ℕ) → range_then (read_partial t then λ q r. ok (hyphen p q) r) ≡ map_option (push (expand_left p)) (right_side p t)
  unfolding range_then right_side expand_range
  hyphen-then p t = simp (answer-then, map-answer, map-twice)

  first-listed : (f : Prefix) (p : Partial) (t : List ℕ)
      → stepped range (taken m f p (follow false t)) ≡ map_option (λ rs. [] ∷ rs) (range_then (read_items (S.item f p) t))
  first-listed f p t = step-listed range f p t ∙ simp (items-then, map-twice)

  -- a bare item that begins a range: a hyphen range, if a dash follows
  first-bare : (p : Partial) (t : List ℕ)
      → stepped range (taken m bare p (follow true t)) ≡ map_option (λ rs. [] ∷ rs) (range_then (after_item (S.item bare p) t))
  unfolding after_item choose coming
  first-bare p t = go (following t)
    where
      listed : read_dash t ≡ fail → follow true t ≡ follow false t
          → stepped range (taken m bare p (follow true t)) ≡ map_option (λ rs. [] ∷ rs) (range_then (after_item (S.item bare p) t))
      listed d e = rw (e, d) (first-listed bare p t)

      dashed : (u : List ℕ) → more t ≡ coming item (45 ∷ u) → (x : Result (Unit {0}))
          → stepped range (taken m bare p (answer x (λ x r. behind right r) nowhere))
          ≡ map_option (λ rs. [] ∷ rs) (range_then (choose x (λ u v. read_partial v then λ q r. ok (hyphen p q) r) (read_items (S.item bare p) t)))
      dashed u e fail = rw (items-then (S.item bare p) t, e, dash-item u)
      dashed u e (ok x v) = simp (right_of_lem p v, hyphen-then, map-twice)

      go : Following t → stepped range (taken m bare p (follow true t)) ≡ map_option (λ rs. [] ∷ rs) (range_then (after_item (S.item bare p) t))
      go (closing n d f) = listed d (f true ∙ sym (f false))
      go (listing v z g d f) = listed d (f true ∙ sym (f false))
      go (dashing u z g d f f') = rw (f', d) (dashed u (more-item t (45 ∷ u) z g) (spaces₁ u))

  step-first : (s : List ℕ) → stepped range (next_item m true (step_to everything (after_range s)) s) ≡ map_option (λ rs. [] ∷ rs) (range_then (read_range s))
  unfolding next_item read_range after_item range_then expand_range choose ◌then◌
  step-first s = rw (item-at s) (go (read_partial (partial_at s)) (prefix_at s))
    where
      go : (x : Result Partial) (f : Prefix) → stepped range (answer x (λ p r. taken m f p (follow (is_bare f) r)) (step_to everything (after_range s)))
          ≡ map_option (λ rs. [] ∷ rs) (range_then (choose (x then λ p r. ok (S.item f p) r) (λ i t. after_item i t) (ok nothing s)))
      go fail f = step-to range everything (after_range s) ∙ simp (← ranges-closes s, map-twice)
      go (ok p r) bare = first-bare p r
      go (ok p r) tilde = first-listed tilde p r
      go (ok p r) caret = first-listed caret p r
      go (ok p r) (op o) = first-listed (op o) p r

  -- ---- the walk

  steps : (st : Stage) (s : List ℕ) → goes_on st ≡ true → stepped st (next m st s) ≡ coming st s
  unfolding next coming
  steps range s e = step-first (skip s) ∙ sym (range-then s)
  steps item s e = step-item s
  steps right s e = step_right right refl (major_only 0) s
  steps only s e = step_right only refl x_range_only s
  steps end s e = cc
  steps bad s e = cc

  walk-stops : (st : Stage) (s : List ℕ) → (goes_on st ≡ true → ⊥) → Walks m st s (coming st s)
  unfolding coming
  walk-stops range s n = absurd (n refl)
  walk-stops item s n = absurd (n refl)
  walk-stops right s n = absurd (n refl)
  walk-stops only s n = absurd (n refl)
  walk-stops end s n = ends
  walk-stops bad s n = fails

  -- of fewer than k bytes, where the walk goes on
  abbrev WalksFewer : ℕ → Type 0
  WalksFewer k = (st : Stage) (s : List ℕ) → (goes_on st ≡ true → length s < k) → Walks m st s (coming st s)

  walks : (k : ℕ) → WalksFewer k
  walks zero st s h = walk-stops st s λ e. omega (arith, h e)
  walks (suc k) st s h = go (goes_on st) refl (walks k)
    where
      on : goes_on st ≡ true → WalksFewer k → (x : Step) → next m st s ≡ x → Walks m st s (stepped st x)
      on e w (step x st' r) n = goes e n (w st' r λ g. omega (arith, next-fewer m st s x st' r n g, h e))

      go : (b : Bool) → goes_on st ≡ b → WalksFewer k → Walks m st s (coming st s)
      go true e w = rw (steps st s e) at (on e w (next m st s) refl)
      go false e w = walk-stops st s λ y. let z : ◌≡◌ {A = ℕ} 0 1 = cc in omega arith

pub text-walk : (m : Compat) (t : List ℕ) → Walks m range t (map_option (λ rs. [] ∷ rs) (walk_of m (read_text t)))
unfolding coming
text-walk m t = walks m (suc (length t)) range t λ e. omega arith

-- the walk gives one thing only
pub walk-unique : {m : Compat} {st : Stage} {s : List ℕ} {o o' : Option (List (List Piece))} → Walks m st s o → Walks m st s o' → o ≡ o'
walk-unique ends ends = refl
walk-unique ends (goes g n w) = cc
walk-unique fails fails = refl
walk-unique fails (goes g n w) = cc
walk-unique (goes g n w) ends = cc
walk-unique (goes g n w) fails = cc
walk-unique (goes {st'} {r} {x} g n w) (goes {st' = a} {r = t} {x = y} g' n' w') =
    let i : y ≡ x = cc in let j : a ≡ st' = cc in let k : t ≡ r = cc in
    rw (i, walk-unique w (rw (j, k) at w'))
