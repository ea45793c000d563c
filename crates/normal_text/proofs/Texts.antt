-- A pass over a text: what is still to be written behind each step, the bytes counted, and the bytes written.
-- Assumes nothing.
use Rattle.std.proofs.Common.{ℕ, suc, true, ◌≡◌, ◌+◌, ◌*◌, ◌<◌, ◌≤◌, List, [], ◌++◌, length, refl, Option, Some, None, ◌∙◌, ap, sym, arith}
use Rattle.rules.specs.Expansion as E
use Rattle.rules.specs.Expansion.{comparators}
use Rattle.rules.specs.NormalText.{spell}
use Rattle.rules.specs.Answers.{accepted, longest, reading, normal_text, normal_text_outcome, written, bytes_after}
use Rattle.rules.specs.Walk as W
use Rattle.rules.specs.Walk.{goes_on, spell_after, gap_after, walk_text}
use Rattle.rules.proofs.Bound.{text-bound}
use Rattle.rules.proofs.WalkText.{text-push, text-open, expand-text}
use Rattle.rules.proofs.NormalTextCall.{normal_text-accepted}
use Rattle.walk.specs.Views.{Stepped, step_at, step_is, step_in}
use Rattle.walk.specs.declared.Step.{Step}
use Rattle.rows.specs.Put.{Put}
use Rattle.rows.proofs.Puts.{put-onto, Begins, begins-length, Writing, writing_start, writing-todo, writing-put, writing-next, writing-end}
use Rattle.passes.specs.Views.{Accepts, step_gives}
use Rattle.passes.proofs.Turn.{ahead, step_goes}
use Rattle.passes.proofs.Due.{Due, Awaited, awaited, awaited_due}
use Rattle.range.specs.Views.{compat_of}
use Rattle.rangeset.specs.declared.RangeSet.{RangeSet}
use Rattle.rangeset.proofs.Outcomes.{counted-reading}
use Rattle.passes.proofs.Passing.{Passing, starting, Passes, passes, passing_end, passing_ends}
use Rattle.passes.proofs.Folds.{todo, next_at, todo-next, todo-push}
use Rattle.normal_text.specs.Views.{gap_to}

-- what is to be written from n on, behind this gap
abbrev coming : {m : E.Compat} {n : W.Stage × List ℕ} → Passing m n → W.Gap → List ℕ
coming {n = n} g gap = todo walk_text n.0 gap g.coming

gap_next : (st : W.Stage) (g : W.Gap) → next_at walk_text (λ h. W.bars) st g ≡ gap_to st g
gap_next W.range g = refl
gap_next W.item g = refl
gap_next W.right g = refl
gap_next W.only g = refl
gap_next W.end g = refl
gap_next W.bad g = refl

-- ---- the step x

module _ {m : E.Compat} {n : W.Stage × List ℕ} (g : Passing m n) (t : goes_on n.0 ≡ true) (gap : W.Gap) {x : Stepped} (e : Some x ≡ step_at m n.0 n.1) where
  here : Passes g x
  here = passes g t x e

  -- the gap behind its comparators
  abbrev behind : W.Gap
  behind = gap_after gap (step_gives x)

  begins : Begins (coming g gap) (spell_after gap (step_gives x)) (coming here.next (gap_to x.next.0 behind))
  begins =
      record {
        split =
            ap (todo walk_text n.0 gap) here.is
            ∙ todo-push walk_text (λ f y w. spell_after f (comparators y) ++ w) (λ f y. gap_after f (comparators y)) text-push n.0 gap here.of here.next.coming
            ∙ ap (λ cs. spell_after gap cs ++ walk_text (gap_after gap cs) here.next.coming) (sym here.gives)
            ∙ ap (λ w. spell_after gap (step_gives x) ++ w)
            (todo-next walk_text (λ f. W.bars) text-open behind here.next.walks ∙ ap (λ f. todo walk_text x.next.0 f here.next.coming) (gap_next x.next.0 behind));
      }

-- how many steps there may be still, with the one that a loop holds
abbrev pub steps_ahead : Option Stepped → ℕ
steps_ahead None = 0
steps_ahead (Some x) = suc (ahead x.next)

-- the step behind x is nearer to the end
steps_fewer : {m : E.Compat} {n : W.Stage × List ℕ} (g : Passing m n) (o : Option Stepped) → o ≡ step_at m n.0 n.1 → steps_ahead o < suc (ahead n)
steps_fewer g None e = omega arith
steps_fewer {m} {n} g (Some y) e = let f = (passes g (step_goes m n.0 n.1 y e) y e).fewer in omega arith

-- where there is no step, nothing is to come
none_coming : {m : E.Compat} {n : W.Stage × List ℕ} (g : Passing m n) (gap : W.Gap) → None ≡ step_at m n.0 n.1 → coming g gap ≡ []
unfolding walk_text
none_coming {m} {n} g gap e = let i = passing_ends g e in rw (i, passing_end g i)

-- ---- the whole text

-- all of it is to come
record Begun (m : E.Compat) (s : List ℕ) (rs : E.Reading) : Type 0 where
  pub pass : Passing m (W.range, s)
  pub all : spell rs ≡ coming pass W.start
  pub short : length (spell rs) ≤ 8 * longest + 7

begun : (m : E.Compat) (s : List ℕ) (rs : E.Reading) → reading m s ≡ accepted rs → Begun m s rs
begun m s rs e =
    let a = starting m s rs e in
    record {
      pass = a.pass;
      all = ap spell a.text.is ∙ expand-text m a.text.ranges ∙ ap (todo walk_text W.range W.start) (sym a.all);
      short = omega (arith, text-bound m s rs e, a.text.short);
    }

normal_length : (m : E.Compat) (s : List ℕ) (rs : E.Reading) → reading m s ≡ accepted rs → (normal_text_outcome (normal_text m s)).length ≡ length (spell rs)
unfolding normal_text_outcome
normal_length m s rs e = ap (λ a. (normal_text_outcome a).length) (normal_text-accepted m s rs e)

-- ---- text_len

-- len bytes stand before what is to come
pub record Counting (m : E.Compat) (s : List ℕ) (len : ℕ) (gap : W.Gap) (n : W.Stage × List ℕ) : Type 0 where
  pub reads : E.Reading
  pub is : reading m s ≡ accepted reads
  pub pass : Passing m n
  pub sum : len + length (coming pass gap) ≡ length (spell reads)
  pub short : length (spell reads) ≤ 8 * longest + 7

pub counting_start : {m : E.Compat} {s : List ℕ} → Accepts m s → Counting m s 0 W.start (W.range, s)
counting_start {m} {s} a =
    let b = begun m s a.reads a.is in
    record { reads = a.reads; is = a.is; pass = b.pass; sum = omega (arith, ap length b.all); short = b.short }

module _ {m : E.Compat} {s : List ℕ} {len : ℕ} {gap : W.Gap} {o : Option Stepped} (g : Awaited m (Counting m s len gap) o) where
  module _ {x : Stepped} (q : Some x ≡ o) where
    counted : Due m (Counting m s len gap) x
    counted = awaited_due m (Counting m s len gap) o x g q

    sized : len + length (spell_after gap (step_gives x)) ≤ 8 * longest + 7
    sized = let d = counted in let t = d.holds in omega (arith, t.sum, t.short, begins-length (begins t.pass d.goes gap d.is))

    pub counting_room : length (spell_after gap (step_gives x)) < 18446744073709551616
    counting_room = omega (arith, sized)

    pub counting_fits : {k : ℕ} → k ≡ length (spell_after gap (step_gives x)) → len + k < 18446744073709551616
    counting_fits i = omega (arith, sized)

    module _ {p : Option Stepped} (f : p ≡ step_at m x.next.0 x.next.1) where
      pub counting_fewer : steps_ahead p < steps_ahead o
      counting_fewer = let d = counted in let k = steps_fewer (here d.holds.pass d.goes gap d.is).next p f in rw (← q) k

      pub counting_step : {k : ℕ} {h : W.Gap} → k ≡ length (spell_after gap (step_gives x)) → h ≡ gap_to x.next.0 (gap_after gap (step_gives x))
          → Awaited m (Counting m s (len + k) h) p
      counting_step {k} {h} i j =
          let d = counted in
          let t = d.holds in
          awaited m (Counting m s (len + k) h) x.next p
          (record {
            reads = t.reads;
            is = t.is;
            pass = (here t.pass d.goes gap d.is).next;
            sum = rw j (omega (arith, t.sum, begins-length (begins t.pass d.goes gap d.is)));
            short = t.short;
          })
          f

  pub counting_end : None ≡ o → len ≡ (normal_text_outcome (normal_text m s)).length
  counting_end z =
      let t = g.holds in omega (arith, t.sum, normal_length m s t.reads t.is, ap length (none_coming t.pass gap (z ∙ g.is)))

-- ---- put_text

-- what stands before what is to come is written, up to at
pub record Putting (m : E.Compat) (s start out : List ℕ) (end : ℕ) (gap : W.Gap) (n : W.Stage × List ℕ) : Type 0 where
  pub reads : E.Reading
  pub is : reading m s ≡ accepted reads
  pub pass : Passing m n
  pub writing : Writing start 0 (spell reads) out end (coming pass gap)
  pub room : length (spell reads) ≤ length start

pub putting_start : {m : E.Compat} {s start : List ℕ} → Accepts m s → (normal_text_outcome (normal_text m s)).length ≤ length start → Putting m s start start 0 W.start (W.range, s)
putting_start {m} {s} {start} a r =
    let b = begun m s a.reads a.is in
    record {
      reads = a.reads;
      is = a.is;
      pass = b.pass;
      writing = writing-todo b.all (writing_start start 0 (spell a.reads));
      room = omega (arith, normal_length m s a.reads a.is);
    }

module _ {m : E.Compat} {s start out : List ℕ} {end : ℕ} {gap : W.Gap} {o : Option Stepped} (g : Awaited m (Putting m s start out end gap) o) where
  module _ {x : Stepped} (q : Some x ≡ o) where
    due : Due m (Putting m s start out end gap) x
    due = awaited_due m (Putting m s start out end gap) o x g q

    pub putting_room : end + length (spell_after gap (step_gives x)) ≤ length out
    putting_room = let d = due in let f = d.holds in writing-next f.writing (begins f.pass d.goes gap d.is) (omega arith)

    module _ {p : Option Stepped} (f : p ≡ step_at m x.next.0 x.next.1) where
      pub putting_fewer : steps_ahead p < steps_ahead o
      putting_fewer = let d = due in let k = steps_fewer (here d.holds.pass d.goes gap d.is).next p f in rw (← q) k

      pub putting_step : {y : List ℕ} {k : ℕ} {h : W.Gap} → Put out end (spell_after gap (step_gives x)) y k → h ≡ gap_to x.next.0 (gap_after gap (step_gives x))
          → Awaited m (Putting m s start y k h) p
      putting_step {y} {k} {h} i j =
          let d = due in
          let t = d.holds in
          awaited m (Putting m s start y k h) x.next p
          (record {
            reads = t.reads;
            is = t.is;
            pass = (here t.pass d.goes gap d.is).next;
            writing = rw j (writing-put t.writing (begins t.pass d.goes gap d.is) i);
            room = t.room;
          })
          f

  pub putting_end : None ≡ o → out ≡ bytes_after (normal_text m s) start
  unfolding bytes_after written
  putting_end z =
      let t = g.holds in
      put-onto (writing-end (writing-todo (none_coming t.pass gap (z ∙ g.is)) t.writing)) t.room ∙ ap (λ a. bytes_after a start) (sym (normal_text-accepted m s t.reads t.is))

-- ---- a range set is a text that is accepted, with its first step

module _ (set : RangeSet) where
  accepts : Accepts (compat_of set.compat) set.text.now
  accepts = let h = counted-reading (compat_of set.compat) set.text.now set.counts set.counted in record { reads = h.reads; is = h.is }

  pub counting_first : Awaited (compat_of set.compat) (Counting (compat_of set.compat) set.text.now 0 W.start) (Some (step_is set.first))
  counting_first = awaited (compat_of set.compat) _ (W.range, set.text.now) _ (counting_start accepts) set.starts

  pub putting_first : (start : List ℕ) → (normal_text_outcome (normal_text (compat_of set.compat) set.text.now)).length ≤ length start
      → Awaited (compat_of set.compat) (Putting (compat_of set.compat) set.text.now start start 0 W.start) (Some (step_is set.first))
  putting_first start r = awaited (compat_of set.compat) _ (W.range, set.text.now) _ (putting_start accepts r) set.starts

-- the code's step
pub none_is : (o : Option Step) → ((x : Step) → o ≡ Some x → ⊥) → None ≡ step_in o
none_is None z = refl
none_is (Some x) z = absurd (z x refl)
