-- The pass of the admission, and the calls.
-- Assumes nothing.
use Rattle.std.proofs.Common.{ℕ, ◌≡◌, ◌<◌, Bool, true, false, ◌&&◌, ◌||◌, List, [], ◌∷◌, refl, sym, ap, ◌∙◌, Option, Some, None, Result, Ok, Err}
use Rattle.rules.specs.Lists.{each}
use Rattle.rules.specs.Expansion as E
use Rattle.rules.specs.Answers.{accepted, reading, reading_outcome}
use Rattle.rules.specs.Version as R
use Rattle.rules.specs.Walk as W
use Rattle.rules.specs.Walk.{goes_on, opening, push}
use Rattle.rules.specs.Admission.{meets, admits, admits_if, version_of, admission_call}
use Rattle.walk.specs.Views.{Stepped, step_is, step_in, step_at}
use Rattle.walk.specs.declared.Step.{Step}
use Rattle.passes.specs.Views.{first_step, step_gives, ends_range}
use Rattle.passes.proofs.Passing.{Passing, starting, Passes, passes, passing_end, passing_ends}
use Rattle.passes.proofs.Due.{Due, Awaited, awaited, awaited_due, ahead_in, following_fewer}
use Rattle.passes.proofs.Folds.{todo, next_at, todo-next, todo-push}
use Rattle.rangeset.specs.Views.{outcome_of}
use Rattle.rangeset.specs.declared.Counts.{Counts}
use Rattle.rangeset.specs.declared.RangeSet.{RangeSet}
use Rattle.range.specs.Views.{compat_of}
use Rattle.rangeset.proofs.Outcomes.{counted-reading, refused-reading}
use Rattle.refusals.specs.declared.Refusal.{Refusal}
use Rattle.refusals.specs.Views.{answer_of}
use Rattle.version.specs.Views.{version_is, version_in, version_text_of}
use Rattle.version.specs.declared.version.Version.{Version}
use Rattle.version.proofs.VersionLaws.{version_held, version_refused}
use Rattle.admission.proofs.Verdicts.{Verdict, between, within, meets_piece, verdict, after, ended, verdict_push, verdict_open, verdict_text}

-- ---- the loop

-- what the loop and the pieces to come make of it at a stage, where no range before has admitted the version; at the end nothing is to come
abbrev outcome : R.Version → W.Stage → Bool → List (List E.Piece) → Bool
outcome v W.range a rs = todo (verdict v) W.range between rs
outcome v W.item a rs = todo (verdict v) W.item (within a) rs
outcome v W.right a rs = todo (verdict v) W.right (within a) rs
outcome v W.only a rs = todo (verdict v) W.only (within a) rs
outcome v W.end a rs = false
outcome v W.bad a rs = todo (verdict v) W.bad (within a) rs

module _ (m : E.Compat) (s : List ℕ) (v : R.Version) where
  -- what is still to come decides
  pub record Admitting (all : Bool) (n : W.Stage × List ℕ) : Type 0 where
    pub pass : Passing m n
    pub rest : admits_if admits v (reading m s) ≡ outcome v n.0 all pass.coming
    pub fresh : n.0 ≡ W.range → all ≡ true

  abbrev pub Admitting-awaited : Bool → Option Stepped → Type 0
  Admitting-awaited all o = Awaited m (Admitting all) o

  pub admitting_start : (c : Counts) → outcome_of (Ok c) ≡ reading_outcome (reading m s) → (x : Stepped) → Some x ≡ first_step m s → Admitting-awaited true (Some x)
  admitting_start c e x i =
      let a = counted-reading m s c e in
      let b = starting m s a.reads a.is in
      awaited m (Admitting true) (W.range, s) (Some x)
      (record {
        pass = b.pass;
        rest =
            ap (admits_if admits v) a.is
            ∙ ap (λ rs. admits rs v) b.text.is
            ∙ sym (verdict_text v m b.text.ranges)
            ∙ sym (ap (todo (verdict v) W.range between) b.all);
        fresh = λ e. refl;
      })
      i

  pushed : (st : W.Stage) (k : Verdict) (x : E.Piece) (rs : List (List E.Piece)) → todo (verdict v) st k (opening st (push x rs)) ≡ verdict v (after v k x) rs
  pushed = todo-push (verdict v) (λ k x r. r) (after v) (verdict_push v)

  -- a piece that begins at a stage where a step is read
  outcome_piece : (st : W.Stage) (a : Bool) → goes_on st ≡ true → (st ≡ W.range → a ≡ true) → (x : E.Piece) (rs : List (List E.Piece))
      → outcome v st a (opening st (push x rs)) ≡ verdict v (within (a && meets_piece v x)) rs
  outcome_piece W.range a g f x rs = pushed W.range between x rs ∙ ap (λ a. verdict v (within (a && meets_piece v x)) rs) (sym (f refl))
  outcome_piece W.item a g f x rs = pushed W.item (within a) x rs
  outcome_piece W.right a g f x rs = pushed W.right (within a) x rs
  outcome_piece W.only a g f x rs = pushed W.only (within a) x rs
  outcome_piece W.end a g f x rs = cc
  outcome_piece W.bad a g f x rs = cc

  -- and behind it, where no range has ended that admits the version
  outcome_next : {n : W.Stage × List ℕ} (g : Passing m n) (a : Bool) → ends_range n.0 && a ≡ false
      → verdict v (within a) g.coming ≡ outcome v n.0 (ends_range n.0 || a) g.coming
  outcome_next {n} g a e = todo-next (verdict v) (ended v) (verdict_open v) (within a) g.walks ∙ go n.0 a g.coming e (passing_end g)
    where
      go : (st : W.Stage) (a : Bool) (rs : List (List E.Piece)) → ends_range st && a ≡ false → (st ≡ W.end → rs ≡ [] ∷ [])
          → todo (verdict v) st (next_at (verdict v) (ended v) st (within a)) rs ≡ outcome v st (ends_range st || a) rs
      go W.range a rs e q = rw e refl
      go W.item a rs e q = refl
      go W.right a rs e q = refl
      go W.only a rs e q = refl
      go W.end true rs e q = cc
      go W.end false rs e q = rw (q refl) (verdict_open v (within false) [])
      go W.bad a rs e q = refl

  -- where one has
  outcome_ended : {n : W.Stage × List ℕ} (g : Passing m n) → ends_range n.0 ≡ true → verdict v (within true) g.coming ≡ true
  outcome_ended {n} g e = todo-next (verdict v) (ended v) (verdict_open v) (within true) g.walks ∙ go n.0 g.coming e (passing_end g)
    where
      go : (st : W.Stage) (rs : List (List E.Piece)) → ends_range st ≡ true → (st ≡ W.end → rs ≡ [] ∷ [])
          → todo (verdict v) st (next_at (verdict v) (ended v) st (within true)) rs ≡ true
      go W.range rs e q = refl
      go W.item rs e q = cc
      go W.right rs e q = cc
      go W.only rs e q = cc
      go W.end rs e q = rw (q refl) (verdict_open v (within true) [])
      go W.bad rs e q = cc

  -- a turn: the step x is taken, and o is the one that follows it
  module _ (all : Bool) (p : Option Step) (x' : Step) (w : Admitting-awaited all (step_in p)) (i : p ≡ Some x') where
    abbrev x : Stepped
    x = step_is x'

    d : Due m (Admitting all) x
    d = awaited_due m (Admitting all) (step_in p) x w (ap step_in (sym i))

    here : Passes d.holds.pass x
    here = passes d.holds.pass d.goes x d.is

    -- its comparators are met, or not
    module _ (b : Bool) (f : b ≡ each (meets v) (step_gives x)) where
      behind : admits_if admits v (reading m s) ≡ verdict v (within (all && b)) here.next.coming
      behind =
          d.holds.rest
          ∙ ap (outcome v d.from.0 all) here.is
          ∙ outcome_piece d.from.0 all d.goes d.holds.fresh here.of here.next.coming
          ∙ ap (λ b. verdict v (within (all && b)) here.next.coming) (sym (f ∙ ap (each (meets v)) here.gives))

      -- the range that has ended admits it
      pub admits_some : ends_range x.next.0 ≡ true → all && b ≡ true → true ≡ admits_if admits v (reading m s)
      admits_some e a = sym (behind ∙ ap (λ a. verdict v (within a) here.next.coming) a ∙ outcome_ended here.next e)

    module _ (o : Option Stepped) (k : o ≡ step_at m x.next.0 x.next.1) where
      pub admits_fewer : ahead_in o < ahead_in (step_in p)
      admits_fewer = rw i (following_fewer here.next o k)

      module _ (b : Bool) (f : b ≡ each (meets v) (step_gives x)) where
        onward : ends_range x.next.0 && (all && b) ≡ false → Admitting (ends_range x.next.0 || (all && b)) x.next
        onward e =
            record {
              pass = here.next;
              rest = behind b f ∙ outcome_next here.next (all && b) e;
              fresh = λ q. rw q;
            }

        -- a range has ended, or goes on
        pub admits_ended : ends_range x.next.0 ≡ true → all && b ≡ false → Admitting-awaited true o
        admits_ended e a = awaited m (Admitting true) x.next o (rw e at (onward (rw e a))) k

        pub admits_within : ends_range x.next.0 ≡ false → Admitting-awaited (all && b) o
        admits_within e = awaited m (Admitting (all && b)) x.next o (rw e at (onward (rw e refl))) k

  -- none is to come
  pub admits_end : (all : Bool) → Admitting-awaited all None → false ≡ admits_if admits v (reading m s)
  admits_end all w = sym (w.holds.rest ∙ go w.from.0 (passing_ends w.holds.pass w.is))
    where
      go : (st : W.Stage) → st ≡ W.end → outcome v st all w.holds.pass.coming ≡ false
      go st e = rw e refl

pub ruleset admitting = (admits_end)

-- ---- the calls

module _ (set : RangeSet) (t : List ℕ) (w : Result Version Refusal) (e : version_in w ≡ version_text_of (version_of t)) where
  accepted_is : reading (compat_of set.compat) set.text.now ≡ accepted (counted-reading (compat_of set.compat) set.text.now set.counts set.counted).reads
  accepted_is = (counted-reading (compat_of set.compat) set.text.now set.counts set.counted).is

  pub version_none : (y : Refusal) → w ≡ Err y → answer_of {A = Bool} (Err y) ≡ admission_call (compat_of set.compat) set.text.now t
  unfolding admission_call
  version_none y q = sym (rw (accepted_is, version_refused t w e y q))

  pub version_decided : (v : Version) → w ≡ Ok v → (b : Bool) → b ≡ admits_if admits (version_is v) (reading (compat_of set.compat) set.text.now)
      → answer_of (Ok b) ≡ admission_call (compat_of set.compat) set.text.now t
  unfolding admission_call
  version_decided v q b i = ap accepted (i ∙ ap (admits_if admits (version_is v)) accepted_is) ∙ sym (rw (accepted_is, version_held t w e v q))

pub ruleset versions = (version_none, version_decided)

module _ (m : E.Compat) (s : List ℕ) (y : Refusal) (e : outcome_of (Err y) ≡ reading_outcome (reading m s)) where
  pub call_refused : (t : List ℕ) → answer_of {A = Bool} (Err y) ≡ admission_call m s t
  unfolding admission_call
  call_refused t = rw (refused-reading m s y e)

  pub held_refused : (v : R.Version) → false ≡ admits_if admits v (reading m s)
  held_refused v = rw (refused-reading m s y e)

pub ruleset calls = (call_refused, held_refused)
