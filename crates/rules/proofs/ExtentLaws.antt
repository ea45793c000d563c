-- The extents of the walk's steps are those of the text's items (02, N2): at each stage, what the steps from there on have is what the readers
-- of extents read from there on.
-- Assumes nothing.
use mathlib.Core.Path.{◌≡◌, refl, sym, ◌∙◌}
use Prim.Native.Nat.{ℕ, zero, suc, ◌-◌, ◌<◌}
use native.Mathlib.Omega.{arith}
use mathlib.Core.Bool.{Bool, true, false}
use mathlib.Core.Option.{Option, none, some}
use mathlib.Core.List.{List, [], ◌∷◌}
use lib.ListN.{length}
use Rattle.rules.specs.Syntax as S
use Rattle.rules.specs.Syntax.{Partial, x_range_only, major_only, major_minor, major_minor_patch, Prefix, bare, tilde, caret, op, Item}
use Rattle.rules.specs.Parse.{Result, fail, ok, ◌then◌, choose, all, literal, skip, spaces₁, read_partial, read_item, read_gap, read_next, read_dash, read_separator, at_end}
use Rattle.rules.specs.Expansion.{Compat, Piece, everything, expand_right}
use Rattle.rules.specs.Extents.{Extent, extent, up_to, next_extent, items_extents, after_extents, range_extents, further_extents, text_extents}
use Rattle.rules.specs.Walk.{Stage, item, range, right, only, end, bad, Behind, behind, answer, nowhere, closes, after_range, follow, Step, step, stuck, step_to, prefix_at, partial_at, is_bare, right_of, taken, next_item, next_right, next, push, map_option, opening, goes_on, begin_at, end_behind, item_end, extent_at, WalksExtents, ends, fails, goes}
use Rattle.rules.proofs.Results.{Gives, gives, gives-map, gives_then, gives-choose}
use Rattle.rules.proofs.Left as L
use Rattle.rules.proofs.Left.{behind-both, behind-none, partial-behind, many-behind}
use Rattle.rules.proofs.LeftItems.{item-behind, gap-behind, dash-behind, separator-behind}
use Rattle.rules.proofs.Once.{all-step}
use Rattle.rules.proofs.Following.{Following, closing, listing, dashing, dash-item, following}
use Rattle.rules.proofs.StepLeft.{next-fewer}
use Rattle.rules.proofs.WalkLaws.{map-twice, map_same, map-answer, answer-then, item-at, plain, follow-plain}

abbrev pub Coming : Type 0
Coming = Option (List (List Extent))

abbrev pushes : List Extent → List (List Extent) → List (List Extent)
pushes [] rs = rs
pushes (x ∷ ps) rs = push x (pushes ps rs)

pushes-first : (ps : List Extent) (rs : List (List Extent)) → pushes ps ([] ∷ rs) ≡ ps ∷ rs
pushes-first [] rs = refl
pushes-first (x ∷ ps) rs = rw (pushes-first ps rs)

-- ---- each reader takes a byte

next-takes : (s : List ℕ) → Gives (λ e. L.Behind 1 s) (next_extent s)
unfolding next_extent
next-takes s = gives_then (gap-behind s) λ u t h. gives_then (item-behind t) λ i r k. gives (behind-both h k (omega arith))

items-take : (e : Extent) (s : List ℕ) → Gives (λ a. L.Behind 0 s) (items_extents e s)
unfolding items_extents
items-take e s = gives_then (many-behind next_extent next-takes (length s) s) λ is r h. gives (behind-both h behind-none (omega arith))

after-takes : (z : List ℕ) (i : Item) (s : List ℕ) → Gives (λ a. L.Behind 0 s) (after_extents z i s)
unfolding after_extents
after-takes z (S.item bare p) s =
    gives-choose (dash-behind s) (λ u t h. gives_then (partial-behind t) λ q r k. gives (behind-both h k (omega arith))) (items-take (up_to z s) s)
after-takes z (S.item tilde p) s = items-take (up_to z s) s
after-takes z (S.item caret p) s = items-take (up_to z s) s
after-takes z (S.item (op o) p) s = items-take (up_to z s) s

range-takes : (s : List ℕ) → Gives (λ a. L.Behind 0 s) (range_extents s)
unfolding range_extents
range-takes s = gives-choose (item-behind s) (λ i t h. gives-map (after-takes s i t) λ a r k. behind-both h k (omega arith)) (gives behind-none)

further-takes : (s : List ℕ) → Gives (λ a. L.Behind 1 s) (further_extents s)
unfolding further_extents
further-takes s = gives_then (separator-behind s) λ u t h. gives-map (range-takes t) λ a r k. behind-both h k (omega arith)

-- ---- what is still to come

ranges : List ℕ → Coming
ranges t = answer (all further_extents t) (λ l r. answer (at_end (skip r)) (λ u e. some ([] ∷ l)) none) none

range_then : Result (List Extent) → Coming
range_then g = answer g (λ a t. map_option (pushes a) (ranges t)) none

more : List ℕ → Coming
more t = answer (all next_extent t) (λ is r. map_option (pushes is) (ranges r)) none

right_side : ℕ → List ℕ → Coming
right_side b s = answer (read_partial s) (λ q r. map_option (push (extent b (b - length r))) (ranges r)) none

abbrev pub found : Result (List (List Extent)) → Coming
found fail = none
found (ok l r) = some l

coming : Stage → ℕ → List ℕ → Coming
coming range b s = map_option (λ rs. [] ∷ rs) (found (text_extents s))
coming item b s = answer (read_item s) (λ i t. map_option (push (up_to s t)) (more t)) none
coming right b s = right_side b s
coming only b s = right_side b s
coming end b s = some ([] ∷ [])
coming bad b s = none

abbrev coming_behind : ℕ → Behind → Coming
coming_behind b (behind st r) = coming st b r

-- what a step at a stage gives, whose item begins where b bytes are left and has this extent
abbrev stepped : Stage → ℕ → Extent → Step → Coming
stepped st b e (step x st' r) = map_option (λ rs. opening st (push e rs)) (coming st' b r)

step-to : (st : Stage) (b : ℕ) (e : Extent) (x : Piece) (w : Behind) → stepped st b e (step_to x w) ≡ map_option (λ rs. opening st (push e rs)) (coming_behind b w)
step-to st b e x (behind st' r) = refl

found-answer : (g : Result (List (List Extent))) → found g ≡ answer g (λ l r. some l) none
found-answer fail = refl
found-answer (ok l r) = refl

-- ---- behind a range

range-then : (b : ℕ) (s : List ℕ) → coming range b s ≡ map_option (λ rs. [] ∷ rs) (range_then (range_extents (skip s)))
unfolding coming text_extents range_then ranges
range-then b s = simp (found-answer, answer-then, map-answer, pushes-first)

ranges-none : (t : List ℕ) → further_extents t ≡ fail → ranges t ≡ answer (at_end (skip t)) (λ u e. some ([] ∷ [])) none
unfolding ranges choose
ranges-none t e = rw (all-step further_extents further-takes t, e)

ranges-some : (t v : List ℕ) (a : List Extent) → further_extents t ≡ ok a v → ranges t ≡ map_option (λ rs. [] ∷ pushes a rs) (ranges v)
unfolding ranges choose
ranges-some t v a e = rw (all-step further_extents further-takes t, e) (simp (answer-then, map-answer, pushes-first))

ranges-closes : (b : ℕ) (t : List ℕ) → ranges t ≡ coming_behind b (after_range t)
unfolding coming range_then further_extents read_separator literal at_end ◌then◌
ranges-closes b t = go (skip t) refl
  where
    first : (c : ℕ) (s r : List ℕ) → skip t ≡ c ∷ s → literal (0x7C ∷ 0x7C ∷ []) (c ∷ s) ≡ ok tt r → (g : Result (List Extent)) → range_extents (skip r) ≡ g
        → ranges t ≡ map_option (λ rs. [] ∷ rs) (range_then g)
    first c s r e l fail h = ranges-none t (rw (e, l, h)) ∙ rw e
    first c s r e l (ok a v) h = ranges-some t v a (rw (e, l, h)) ∙ simp map-twice

    bars : (c : ℕ) (s : List ℕ) → skip t ≡ c ∷ s → (g : Result (Unit {0})) → literal (0x7C ∷ 0x7C ∷ []) (c ∷ s) ≡ g
        → ranges t ≡ coming_behind b (answer g (λ u r. behind range r) nowhere)
    bars c s e fail l = ranges-none t (rw (e, l)) ∙ rw e
    bars c s e (ok u r) l = first c s r e l (range_extents (skip r)) refl ∙ sym (range-then b r)

    go : (s : List ℕ) → skip t ≡ s → ranges t ≡ coming_behind b (closes s)
    go [] e = ranges-none t (rw e) ∙ rw e
    go (c ∷ s) e = bars c s e (literal (0x7C ∷ 0x7C ∷ []) (c ∷ s)) refl

-- ---- behind an item

next-none : (t : List ℕ) → read_next t ≡ fail → next_extent t ≡ fail
unfolding read_next next_extent ◌then◌
next-none t = go (read_gap t)
  where
    inner : (g : Result Item) (t : List ℕ) → g ≡ fail → (g then λ i r. ok (up_to t r) r) ≡ fail
    inner fail t e = refl
    inner (ok i r) t e = cc

    go : (g : Result (Unit {0})) → (g then λ u t. read_item t) ≡ fail → (g then λ u t. read_item t then λ i r. ok (up_to t r) r) ≡ fail
    go fail e = refl
    go (ok u t) e = inner (read_item t) t e

more-none : (b : ℕ) (t : List ℕ) → next_extent t ≡ fail → more t ≡ coming_behind b (after_range t)
unfolding more choose
more-none b t e = rw (all-step next_extent next-takes t, e) (map_same (ranges t) ∙ ranges-closes b t)

more-some : (t v : List ℕ) (i : Extent) → next_extent t ≡ ok i v → more t ≡ map_option (push i) (more v)
unfolding more choose
more-some t v i e = rw (all-step next_extent next-takes t, e) (simp (answer-then, map-answer, map-twice))

more-item : (b : ℕ) (t v : List ℕ) → after_range t ≡ nowhere → read_gap t ≡ ok tt v → more t ≡ coming item b v
unfolding coming next_extent ◌then◌
more-item b t v z g = go (read_item v) refl
  where
    go : (x : Result Item) → read_item v ≡ x → more t ≡ answer x (λ i t. map_option (push (up_to v t)) (more t)) none
    go fail e = more-none b t (rw (g, e)) ∙ rw z
    go (ok i r) e = more-some t r (up_to v r) (rw (g, e))

more-follow : (b : ℕ) (t : List ℕ) → more t ≡ coming_behind b (follow false t)
more-follow b t = go (following t)
  where
    go : Following t → more t ≡ coming_behind b (follow false t)
    go (closing n d f) = more-none b t (next-none t n) ∙ rw (f false)
    go (listing v z g d f) = more-item b t v z g ∙ rw (f false)
    go (dashing u z g d f f') = more-item b t (45 ∷ u) z g ∙ rw f

-- ---- a step at an item

taken-plain : (m : Compat) (st : Stage) (b : ℕ) (e : Extent) (f : Prefix) (p : Partial) (w : Behind) → plain w ≡ true
    → stepped st b e (taken m f p w) ≡ map_option (λ rs. opening st (push e rs)) (coming_behind b w)
unfolding coming
taken-plain m st b e f p (behind item r) h = refl
taken-plain m st b e f p (behind range r) h = refl
taken-plain m st b e f p (behind right r) h = cc
taken-plain m st b e f p (behind only r) h = cc
taken-plain m st b e f p (behind end r) h = refl
taken-plain m st b e f p (behind bad r) h = refl

step-listed : (m : Compat) (st : Stage) (b : ℕ) (e : Extent) (f : Prefix) (p : Partial) (t : List ℕ)
    → stepped st b e (taken m f p (follow false t)) ≡ map_option (λ rs. opening st (push e rs)) (more t)
step-listed m st b e f p t = taken-plain m st b e f p (follow false t) (follow-plain t) ∙ rw (more-follow b t)

-- where no dash follows, an item ends with its partial
plain_end : (r : List ℕ) (w : Behind) → plain w ≡ true → end_behind r w ≡ length r
plain_end r (behind item v) e = refl
plain_end r (behind range v) e = refl
plain_end r (behind right v) e = cc
plain_end r (behind only v) e = cc
plain_end r (behind end v) e = refl
plain_end r (behind bad v) e = refl

step-item : (m : Compat) (b : ℕ) (s : List ℕ) → stepped item (length s) (extent_at item b s) (next m item s) ≡ coming item b s
unfolding next next_item coming ◌then◌
step-item m b s = rw (item-at s) (go (read_partial (partial_at s)) (prefix_at s))
  where
    go : (x : Result Partial) (f : Prefix)
        → stepped item (length s) (extent (length s) (length s - answer x (λ p r. end_behind r (follow false r)) (length s))) (answer x (λ p r. taken m f p (follow false r)) stuck)
        ≡ answer (x then λ p r. ok (S.item f p) r) (λ i t. map_option (push (up_to s t)) (more t)) none
    go fail f = refl
    go (ok p r) f = rw (plain_end r (follow false r) (follow-plain r)) (step-listed m item (length s) (up_to s r) f p r)

-- ---- a step at the right side of a hyphen range

step_right : (st : Stage) → opening {A = Extent} st ≡ (λ rs. rs) → (b : ℕ) (p : Partial) (s : List ℕ)
    → stepped st b (extent b (b - answer (read_partial s) (λ q u. length u) (length s))) (next_right p s) ≡ right_side b s
unfolding next_right right_side coming
step_right st e b p s = go (read_partial s)
  where
    go : (x : Result Partial) → stepped st b (extent b (b - answer x (λ q u. length u) (length s))) (answer x (λ q r. step_to (expand_right p q) (after_range r)) stuck)
        ≡ answer x (λ q r. map_option (push (extent b (b - length r))) (ranges r)) none
    go fail = refl
    go (ok q r) = step-to st b (extent b (b - length r)) (expand_right p q) (after_range r) ∙ rw (e, ranges-closes b r)

right_of_lem : (b : ℕ) (p : Partial) (t : List ℕ) → coming (right_of p) b t ≡ right_side b t
unfolding coming
right_of_lem b x_range_only t = refl
right_of_lem b (major_only a) t = refl
right_of_lem b (major_minor a c) t = refl
right_of_lem b (major_minor_patch a c d is) t = refl

-- ---- a step at a range

items-then : (e : Extent) (t : List ℕ) → range_then (items_extents e t) ≡ map_option (push e) (more t)
unfolding range_then items_extents more
items-then e t = simp (answer-then, map-answer, map-twice)

first-listed : (m : Compat) (s : List ℕ) (f : Prefix) (p : Partial) (t : List ℕ)
    → stepped range (length s) (up_to s t) (taken m f p (follow false t)) ≡ map_option (λ rs. [] ∷ rs) (range_then (items_extents (up_to s t) t))
first-listed m s f p t = step-listed m range (length s) (up_to s t) f p t ∙ simp (items-then, map-twice)

first-bare : (m : Compat) (s : List ℕ) (p : Partial) (t : List ℕ)
    → stepped range (length s) (extent (length s) (length s - end_behind t (follow true t))) (taken m bare p (follow true t))
    ≡ map_option (λ rs. [] ∷ rs) (range_then (after_extents s (S.item bare p) t))
unfolding after_extents choose coming right_side range_then ◌then◌
first-bare m s p t = go (following t)
  where
    listed : read_dash t ≡ fail → follow true t ≡ follow false t
        → stepped range (length s) (extent (length s) (length s - end_behind t (follow true t))) (taken m bare p (follow true t))
        ≡ map_option (λ rs. [] ∷ rs) (range_then (after_extents s (S.item bare p) t))
    listed d e = rw (e, d, plain_end t (follow false t) (follow-plain t)) (first-listed m s bare p t)

    sides : (v : List ℕ) (x : Result Partial)
        → map_option (λ rs. [] ∷ push (extent (length s) (length s - answer x (λ q u. length u) (length v))) rs)
        (answer x (λ q r. map_option (push (extent (length s) (length s - length r))) (ranges r)) none)
        ≡ map_option (λ rs. [] ∷ rs) (range_then (x then λ q r. ok (up_to s r ∷ up_to s r ∷ []) r))
    sides v fail = refl
    sides v (ok q r) = simp map-twice

    dashed : (u : List ℕ) → more t ≡ coming item 0 (45 ∷ u) → (x : Result (Unit {0}))
        → stepped range (length s) (extent (length s) (length s - end_behind t (answer x (λ x r. behind right r) nowhere))) (taken m bare p (answer x (λ x r. behind right r) nowhere))
        ≡ map_option (λ rs. [] ∷ rs) (range_then (choose x (λ u v. read_partial v then λ q r. ok (up_to s r ∷ up_to s r ∷ []) r) (items_extents (up_to s t) t)))
    dashed u e fail = rw (items-then (up_to s t) t, e, dash-item u)
    dashed u e (ok x v) = rw (right_of_lem (length s) p v) (sides v (read_partial v))

    go : Following t → stepped range (length s) (extent (length s) (length s - end_behind t (follow true t))) (taken m bare p (follow true t))
        ≡ map_option (λ rs. [] ∷ rs) (range_then (after_extents s (S.item bare p) t))
    go (closing n d f) = listed d (f true ∙ sym (f false))
    go (listing v z g d f) = listed d (f true ∙ sym (f false))
    go (dashing u z g d f f') = rw (f', d) (dashed u (more-item 0 t (45 ∷ u) z g) (spaces₁ u))

step-first : (m : Compat) (s : List ℕ)
    → stepped range (length s) (extent (length s) (length s - item_end true s)) (next_item m true (step_to everything (after_range s)) s)
    ≡ map_option (λ rs. [] ∷ rs) (range_then (range_extents s))
unfolding next_item range_extents after_extents range_then choose ◌then◌
step-first m s = rw (item-at s) (go (read_partial (partial_at s)) (prefix_at s))
  where
    itself : length s - length s ≡ 0
    itself = omega arith

    go : (x : Result Partial) (f : Prefix)
        → stepped range (length s) (extent (length s) (length s - answer x (λ p r. end_behind r (follow (is_bare f) r)) (length s)))
        (answer x (λ p r. taken m f p (follow (is_bare f) r)) (step_to everything (after_range s)))
        ≡ map_option (λ rs. [] ∷ rs) (range_then (choose (x then λ p r. ok (S.item f p) r) (λ i t. after_extents s i t) (ok (extent (length s) 0 ∷ []) s)))
    go fail f = rw itself (step-to range (length s) (extent (length s) 0) everything (after_range s) ∙ simp (← ranges-closes (length s) s, map-twice))
    go (ok p r) bare = first-bare m s p r
    go (ok p r) tilde = rw (plain_end r (follow false r) (follow-plain r)) (first-listed m s tilde p r)
    go (ok p r) caret = rw (plain_end r (follow false r) (follow-plain r)) (first-listed m s caret p r)
    go (ok p r) (op o) = rw (plain_end r (follow false r) (follow-plain r)) (first-listed m s (op o) p r)

-- ---- the walk

steps : (m : Compat) (st : Stage) (b : ℕ) (s : List ℕ) → goes_on st ≡ true → stepped st (begin_at st b s) (extent_at st b s) (next m st s) ≡ coming st b s
unfolding next coming
steps m range b s e = step-first m (skip s) ∙ sym (range-then b s)
steps m item b s e = step-item m b s
steps m right b s e = step_right right refl b (major_only 0) s
steps m only b s e = step_right only refl b x_range_only s
steps m end b s e = cc
steps m bad b s e = cc

walk-stops : (m : Compat) (st : Stage) (b : ℕ) (s : List ℕ) → (goes_on st ≡ true → ⊥) → WalksExtents m st b s (coming st b s)
unfolding coming
walk-stops m range b s n = absurd (n refl)
walk-stops m item b s n = absurd (n refl)
walk-stops m right b s n = absurd (n refl)
walk-stops m only b s n = absurd (n refl)
walk-stops m end b s n = ends
walk-stops m bad b s n = fails

module _ (m : Compat) where
  abbrev ExtentsFewer : ℕ → Type 0
  ExtentsFewer k = (st : Stage) (b : ℕ) (s : List ℕ) → (goes_on st ≡ true → length s < k) → WalksExtents m st b s (coming st b s)

  extents : (k : ℕ) → ExtentsFewer k
  extents zero st b s h = walk-stops m st b s λ e. omega (arith, h e)
  extents (suc k) st b s h = go (goes_on st) refl (extents k)
    where
      on : goes_on st ≡ true → ExtentsFewer k → (x : Step) → next m st s ≡ x → WalksExtents m st b s (stepped st (begin_at st b s) (extent_at st b s) x)
      on e w (step x st' r) n = goes e n (w st' (begin_at st b s) r λ g. omega (arith, next-fewer m st s x st' r n g, h e))

      go : (d : Bool) → goes_on st ≡ d → ExtentsFewer k → WalksExtents m st b s (coming st b s)
      go true e w = rw (steps m st b s e) at (on e w (next m st s) refl)
      go false e w = walk-stops m st b s λ y. let z : ◌≡◌ {A = ℕ} 0 1 = cc in omega arith

-- the extents of the steps of a text are those of its items
pub text-extents : (m : Compat) (b : ℕ) (t : List ℕ) → WalksExtents m range b t (map_option (λ es. [] ∷ es) (found (text_extents t)))
unfolding coming
text-extents m b t = extents m (suc (length t)) range b t λ e. omega arith
