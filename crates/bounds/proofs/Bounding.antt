-- The pass that finds a text's lowest and highest triple: what its loop knows, and what each of its ways gives.
-- Assumes nothing.
use Rattle.std.proofs.Common.{ℕ, ◌≡◌, ◌<◌, true, false, List, [], ◌∷◌, ◌++◌, map, refl, Option, Some, None, Ok, ◌∙◌, ap, ap₂, sym}
use Rattle.rules.specs.Bytes.{pick}
use Rattle.rules.specs.Syntax.{Range}
use Rattle.rules.specs.Expansion as E
use Rattle.rules.specs.Expansion.{Comparator, Piece, comparators, comparators_of, expand_range, expand}
use Rattle.rules.specs.Answers.{accepted, map_answer, reading, reading_outcome}
use Rattle.rules.specs.Walk as W
use Rattle.rules.specs.Walk.{goes_on, opening, push}
use Rattle.walk.specs.Views.{Stepped, step_at}
use Rattle.passes.specs.Views.{first_step, kept_gives, raised_gives, step_gives, ends_range}
use Rattle.passes.proofs.Passing.{Passing, starting, Passes, passes, passing_end, passing_ends}
use Rattle.passes.proofs.Due.{Due, Awaited, awaited, awaited_due, ahead_in, following_fewer}
use Rattle.passes.proofs.Folds.{todo, next_at, todo-next, todo-push}
use Rattle.rangeset.specs.Views.{outcome_of}
use Rattle.rangeset.specs.declared.Counts.{Counts}
use Rattle.rangeset.proofs.Outcomes.{counted-reading}
use Rattle.shelf_rules.specs.Triples as T
use Rattle.shelf_rules.specs.Triples.{lowest, highest, low_from, high_from, least_from, greatest_from, Bounds, bounds_of}
use Rattle.bounds.specs.Views.{ranged, everything, joined}

abbrev pair : T.Triple → T.Triple → Bounds
pair l h = record { low = l; high = h }

-- ---- the bounds of a range with comparators more, and of all ranges with others more

abbrev over : Bounds → E.Reading → Bounds
over a rs = pair (least_from a.low rs) (greatest_from a.high rs)

low-append : (t : T.Triple) (cs ds : List Comparator) → low_from t (cs ++ ds) ≡ low_from (low_from t cs) ds
unfolding low_from
low-append t [] ds = refl
low-append t (c ∷ cs) ds = low-append (T.low_with t c) cs ds

high-append : (t : T.Triple) (cs ds : List Comparator) → high_from t (cs ++ ds) ≡ high_from (high_from t cs) ds
unfolding high_from
high-append t [] ds = refl
high-append t (c ∷ cs) ds = high-append (T.high_with t c) cs ds

range-push : (b : Bounds) (x : Piece) (ps : List Piece) → ranged b (comparators_of (x ∷ ps)) ≡ ranged (ranged b (comparators x)) (comparators_of ps)
unfolding comparators_of
range-push b x ps = ap₂ pair (low-append b.low (comparators x) (comparators_of ps)) (high-append b.high (comparators x) (comparators_of ps))

range_none : (b : Bounds) → ranged b (comparators_of []) ≡ b
unfolding comparators_of low_from high_from
range_none b = refl

-- ---- the pass on pieces

-- Where no range has begun: the bounds of those before. In a range: those, and its own so far.
pub data Stand : Type 0 where
  between : Bounds → Stand
  within : Bounds → Bounds → Stand

-- what the pieces make of it: those of the range that has begun or begins, then those of the further ranges
abbrev bound : Stand → List (List Piece) → Bounds
bound (between a) rs = over a (map comparators_of rs)
bound (within a b) [] = joined a b
bound (within a b) (ps ∷ rs) = over (joined a (ranged b (comparators_of ps))) (map comparators_of rs)

-- behind a piece
abbrev after : Stand → Piece → Stand
after (between a) x = within a (ranged everything (comparators x))
after (within a b) x = within a (ranged b (comparators x))

-- behind a range
abbrev ended : Stand → Stand
ended (between a) = between (joined a everything)
ended (within a b) = between (joined a b)

range-one : (b : Bounds) (x : Piece) → ranged b (comparators_of (x ∷ [])) ≡ ranged b (comparators x)
range-one b x = range-push b x [] ∙ range_none (ranged b (comparators x))

bound-push : (k : Stand) (x : Piece) (rs : List (List Piece)) → bound k (push x rs) ≡ bound (after k x) rs
unfolding least_from greatest_from
bound-push (between a) x [] = ap (joined a) (range-one everything x)
bound-push (between a) x (ps ∷ rs) = ap (λ b. over (joined a b) (map comparators_of rs)) (range-push everything x ps)
bound-push (within a b) x [] = ap (joined a) (range-one b x)
bound-push (within a b) x (ps ∷ rs) = ap (λ b. over (joined a b) (map comparators_of rs)) (range-push b x ps)

bound-open : (k : Stand) (rs : List (List Piece)) → bound k ([] ∷ rs) ≡ bound (ended k) rs
unfolding least_from greatest_from
bound-open (between a) rs = ap (λ b. over (joined a b) (map comparators_of rs)) (range_none everything)
bound-open (within a b) rs = ap (λ b. over (joined a b) (map comparators_of rs)) (range_none b)

-- no range yet
abbrev nothing : Bounds
nothing = pair highest lowest

expanded : (m : E.Compat) (rs : List Range) → map comparators_of (map (expand_range m) rs) ≡ expand m rs
unfolding expand
expanded m [] = refl
expanded m (a ∷ rs) = ap (λ l. comparators_of (expand_range m a) ∷ l) (expanded m rs)

bound-text : (m : E.Compat) (rs : List Range) → bound (between nothing) (map (expand_range m) rs) ≡ bounds_of (expand m rs)
unfolding bounds_of
bound-text m rs = ap (over nothing) (expanded m rs)

-- ---- the comparators of a step

step_ranged : (b : Bounds) (x : Stepped) → ranged (ranged b (kept_gives x)) (raised_gives x) ≡ ranged b (step_gives x)
unfolding step_gives
step_ranged b x = sym (ap₂ pair (low-append b.low (kept_gives x) (raised_gives x)) (high-append b.high (kept_gives x) (raised_gives x)))

pub step_ranged_by : (b c d : Bounds) (x : Stepped) (k l : List Comparator) → k ≡ kept_gives x → l ≡ raised_gives x → c ≡ ranged b k → d ≡ ranged c l → d ≡ ranged b (step_gives x)
step_ranged_by b c d x k l e f p q = q ∙ ap (λ c. ranged c l) p ∙ ap₂ (λ k l. ranged (ranged b k) l) e f ∙ step_ranged b x

-- ---- the loop

-- where a step at this stage begins: of the ranges that have ended, and of this one so far
abbrev all_behind : W.Stage → Bounds → Bounds → Bounds
all_behind st a b = pick (ends_range st) (joined a b) a

abbrev range_behind : W.Stage → Bounds → Bounds
range_behind st b = pick (ends_range st) everything b

-- what the loop's two bounds and the pieces to come make of it at a stage; at the end nothing is to come
abbrev outcome : W.Stage → Bounds → Bounds → List (List Piece) → Bounds
outcome W.range a b rs = todo bound W.range (between a) rs
outcome W.item a b rs = todo bound W.item (within a b) rs
outcome W.right a b rs = todo bound W.right (within a b) rs
outcome W.only a b rs = todo bound W.only (within a b) rs
outcome W.end a b rs = a
outcome W.bad a b rs = todo bound W.bad (within a b) rs

-- a and b are the bounds of what stands before what is to come
pub record Bounding (m : E.Compat) (s : List ℕ) (a b : Bounds) (n : W.Stage × List ℕ) : Type 0 where
  pub reads : E.Reading
  pub is : reading m s ≡ accepted reads
  pub pass : Passing m n
  pub rest : outcome n.0 a b pass.coming ≡ bounds_of reads
  pub fresh : n.0 ≡ W.range → b ≡ everything

-- a piece that begins at a stage where a step is read
outcome-piece : (st : W.Stage) (a b : Bounds) → goes_on st ≡ true → (st ≡ W.range → b ≡ everything) → (x : Piece) (rs : List (List Piece))
    → outcome st a b (opening st (push x rs)) ≡ bound (within a (ranged b (comparators x))) rs
outcome-piece W.range a b g f x rs = todo-push bound (λ k x r. r) after bound-push W.range (between a) x rs ∙ ap (λ b. bound (within a (ranged b (comparators x))) rs) (sym (f refl))
outcome-piece W.item a b g f x rs = todo-push bound (λ k x r. r) after bound-push W.item (within a b) x rs
outcome-piece W.right a b g f x rs = todo-push bound (λ k x r. r) after bound-push W.right (within a b) x rs
outcome-piece W.only a b g f x rs = todo-push bound (λ k x r. r) after bound-push W.only (within a b) x rs
outcome-piece W.end a b g f x rs = cc
outcome-piece W.bad a b g f x rs = cc

-- and behind it
outcome-next : {m : E.Compat} {n : W.Stage × List ℕ} (g : Passing m n) (a b : Bounds) → outcome n.0 (all_behind n.0 a b) (range_behind n.0 b) g.coming ≡ bound (within a b) g.coming
unfolding least_from greatest_from
outcome-next {n = n} g a b = go n.0 g.coming (passing_end g) ∙ sym (todo-next bound ended bound-open (within a b) g.walks)
  where
    go : (st : W.Stage) (rs : List (List Piece)) → (st ≡ W.end → rs ≡ [] ∷ []) → outcome st (all_behind st a b) (range_behind st b) rs ≡ todo bound st (next_at bound ended st (within a b)) rs
    go W.range rs e = refl
    go W.item rs e = refl
    go W.right rs e = refl
    go W.only rs e = refl
    go W.end rs e = rw (e refl) (sym (bound-open (within a b) []))
    go W.bad rs e = refl

module _ (m : E.Compat) (s : List ℕ) where
  abbrev pub Bounding-awaited : Bounds → Bounds → Option Stepped → Type 0
  Bounding-awaited a b o = Awaited m (Bounding m s a b) o

  pub bounding_start : (c : Counts) → outcome_of (Ok c) ≡ reading_outcome (reading m s) → (x : Stepped) → Some x ≡ first_step m s → Bounding-awaited nothing everything (Some x)
  bounding_start c e x f =
      let h = counted-reading m s c e in
      let b = starting m s h.reads h.is in
      awaited m (Bounding m s nothing everything) (W.range, s) (Some x)
      (record {
        reads = h.reads;
        is = h.is;
        pass = b.pass;
        rest = ap (todo bound W.range (between nothing)) b.all ∙ bound-text m b.text.ranges ∙ ap bounds_of (sym b.text.is);
        fresh = λ e. refl;
      })
      f

  -- a turn: the step x is taken, and o is the one that follows it
  module _ (a b : Bounds) (p : Option Stepped) (x : Stepped) (w : Bounding-awaited a b p) (i : Some x ≡ p) (o : Option Stepped) (k : o ≡ step_at m x.next.0 x.next.1) where
    d : Due m (Bounding m s a b) x
    d = awaited_due m (Bounding m s a b) p x w i

    here : Passes d.holds.pass x
    here = passes d.holds.pass d.goes x d.is

    pub bounding_fewer : ahead_in o < ahead_in p
    bounding_fewer = rw (← i) (following_fewer here.next o k)

    module _ (c : Bounds) (f : c ≡ ranged b (step_gives x)) where
      behind : Bounding m s (all_behind x.next.0 a c) (range_behind x.next.0 c) x.next
      behind =
          record {
            reads = d.holds.reads;
            is = d.holds.is;
            pass = here.next;
            rest =
                outcome-next here.next a c
                ∙ ap (λ b. bound (within a b) here.next.coming) (f ∙ ap (ranged b) here.gives)
                ∙ sym (outcome-piece d.from.0 a b d.goes d.holds.fresh here.of here.next.coming)
                ∙ ap (outcome d.from.0 a b) (sym here.is)
                ∙ d.holds.rest;
            fresh = λ e. rw e;
          }

      -- a range has ended, or goes on
      pub bounding_ended : ends_range x.next.0 ≡ true → Bounding-awaited (joined a c) everything o
      bounding_ended e = awaited m (Bounding m s (joined a c) everything) x.next o (rw e at behind) k

      pub bounding_within : ends_range x.next.0 ≡ false → Bounding-awaited a c o
      bounding_within e = awaited m (Bounding m s a c) x.next o (rw e at behind) k

  -- none is to come
  pub bounding_end : (a b : Bounds) → Bounding-awaited a b None → accepted a ≡ map_answer bounds_of (reading m s)
  bounding_end a b w = ap accepted (go w.from.0 (passing_ends w.holds.pass w.is) w.holds.rest) ∙ ap (map_answer bounds_of) (sym w.holds.is)
    where
      go : (st : W.Stage) → st ≡ W.end → outcome st a b w.holds.pass.coming ≡ bounds_of w.holds.reads → a ≡ bounds_of w.holds.reads
      go st e h = rw e at h
