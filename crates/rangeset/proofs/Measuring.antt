-- The measure: what its loop knows, and what each of its ways gives.
-- Assumes nothing.
use Rattle.std.proofs.Common.{ℕ, suc, ◌≡◌, ◌+◌, ◌*◌, ◌<◌, ◌≤◌, Bool, true, false, ◌||◌, List, [], ◌∷◌, length, refl, Some, None, ◌∙◌, ap, sym, arith}
use Rattle.std.proofs.Math.Option.{Option, none, some}
use Rattle.std.specs.Prelude as Std
use Rattle.rules.specs.Lists.{concat, some_of}
use Rattle.rules.specs.Parse.{read_text}
use Rattle.rules.specs.Expansion as E
use Rattle.rules.specs.Expansion.{Piece}
use Rattle.rules.specs.Walk as W
use Rattle.rules.specs.Walk.{Walks, goes_on, opening, push, map_option, walk_of, total, comparator_count, identifier_count, large_in, over_in, tally}
use Rattle.rules.proofs.WalkLaws.{text-walk}
use Rattle.std.specs.Borrow.{Bor}
use Rattle.walk.specs.Views.{Stepped, step_at, stage_of, next_is, begin_text, end_text}
use Rattle.walk.specs.declared.Stage.{Stage}
use Rattle.passes.proofs.Passing.{goes_stage}
use Rattle.passes.specs.Views.{first_step, step_gives, over_of}
use Rattle.passes.proofs.Turn.{concat_push, concat_opening, ahead, ended, turn, turn_stuck, large_is, count_is, comparators_are, over_is}
use Rattle.rangeset.specs.Views.{tally_of, opened}
use Rattle.rangeset.specs.declared.Tally.{Tally}

-- ---- what is still to come

-- how many ranges come behind the one that has begun
abbrev further : List (List Piece) → ℕ
further [] = 0
further (ps ∷ rs) = length rs

-- a tally, and so much more
abbrev grown : Tally → ℕ → ℕ → ℕ → Bool → Bool → Tally
grown t a b c l v =
    record {
      counts = record { ranges = t.counts.ranges + a; comparators = t.counts.comparators + b; identifiers = t.counts.identifiers + c };
      large = t.large || l;
      over = t.over || v;
    }

nothing : Tally
nothing = record { counts = record { ranges = 0; comparators = 0; identifiers = 0 }; large = false; over = false }

-- the tally of a text of which so much was counted, and of which this is to come
abbrev plus : Tally → Option (List (List Piece)) → Std.Option Tally
plus t none = None
plus t (some rs) =
    Some (grown t (further rs) (total comparator_count (concat rs)) (total identifier_count (concat rs)) (some_of large_in (concat rs)) (some_of over_in (concat rs)))

tally-eq : (t u : Tally) → t.counts.ranges ≡ u.counts.ranges → t.counts.comparators ≡ u.counts.comparators → t.counts.identifiers ≡ u.counts.identifiers → t.large ≡ u.large
    → t.over ≡ u.over → ◌≡◌ {A = Std.Option Tally} (Some t) (Some u)
tally-eq t u p q r x y = rw (p, q, r, x, y)

or-none : (a : Bool) → a || false ≡ a
or-none true = refl
or-none false = refl

or-more : (a b c : Bool) → a || (b || c) ≡ (a || b) || c
or-more true b c = refl
or-more false b c = refl

plus-start : (o : Option (List (List Piece))) → tally_of o ≡ plus nothing (map_option (λ rs. [] ∷ rs) o)
unfolding tally_of tally nothing
plus-start none = refl
plus-start (some rs) = tally-eq _ _ (omega arith) (omega arith) (omega arith) refl refl

plus-end : (t : Tally) → plus t (some ([] ∷ [])) ≡ Some t
plus-end t = tally-eq _ _ (omega arith) (omega arith) (omega arith) (or-none t.large) (or-none t.over)

further-push : (x : Piece) (rs : List (List Piece)) → further (push x rs) ≡ further rs
further-push x [] = refl
further-push x (ps ∷ rs) = refl

further-opening : (st : W.Stage) (x : Piece) (rs : List (List Piece)) → further (opening st (push x rs)) ≡ opened st + further rs
further-opening W.item x rs = omega (arith, further-push x rs)
further-opening W.range x [] = omega arith
further-opening W.range x (ps ∷ rs) = omega arith
further-opening W.right x rs = omega (arith, further-push x rs)
further-opening W.only x rs = omega (arith, further-push x rs)
further-opening W.end x rs = omega (arith, further-push x rs)
further-opening W.bad x rs = omega (arith, further-push x rs)

plus_step : (t : Tally) (st : W.Stage) (x : Piece) (o : Option (List (List Piece)))
    → plus t (map_option (λ rs. opening st (push x rs)) o) ≡ plus (grown t (opened st) (comparator_count x) (identifier_count x) (large_in x) (over_in x)) o
plus_step t st x none = refl
plus_step t st x (some rs) =
    let e : concat (opening st (push x rs)) ≡ x ∷ concat rs = concat_opening st (push x rs) ∙ concat_push x rs in
    tally-eq _ _
    (omega (arith, further-opening st x rs))
    (omega (arith, ap (total comparator_count) e))
    (omega (arith, ap (total identifier_count) e))
    (ap (λ y. t.large || some_of large_in y) e ∙ or-more t.large (large_in x) (some_of large_in (concat rs)))
    (ap (λ y. t.over || some_of over_in y) e ∙ or-more t.over (over_in x) (some_of over_in (concat rs)))

plus-same : (t : Tally) (o : Option (List (List Piece))) {d d' f f' h h' : ℕ} {x x' y y' : Bool} → d ≡ d' → f ≡ f' → h ≡ h' → x ≡ x' → y ≡ y' → plus (grown t d f h x y) o ≡ plus (grown t d' f' h' x' y') o
plus-same t o p q r x y = rw (p, q, r, x, y)

-- ---- the loop

-- So much was counted of s; from n on the rest is to come.
pub record Measured (m : E.Compat) (s : List ℕ) (t : Tally) (n : W.Stage × List ℕ) : Type 0 where
  pub coming : Option (List (List Piece))
  pub walks : Walks m n.0 n.1 coming
  pub counts : tally_of (walk_of m (read_text s)) ≡ plus t coming
  pub few_identifiers : t.counts.identifiers + length n.1 ≤ length s
  pub few_ranges : t.counts.ranges + ahead n ≤ suc (length s)
  pub few_comparators : t.counts.comparators + 2 * ahead n ≤ 2 * suc (length s)

measured_start : (m : E.Compat) (s : List ℕ) → Measured m s nothing (W.range, s)
unfolding nothing
measured_start m s =
    record {
      coming = map_option (λ rs. [] ∷ rs) (walk_of m (read_text s));
      walks = text-walk m s;
      counts = plus-start (walk_of m (read_text s));
      few_identifiers = omega arith;
      few_ranges = omega arith;
      few_comparators = omega arith;
    }

module _ {m : E.Compat} {s : List ℕ} {t : Tally} {n : W.Stage × List ℕ} (g : Measured m s t n) (on : goes_on n.0 ≡ true) where
  -- the step from here
  measured_step : {x : Stepped} → Some x ≡ step_at m n.0 n.1 → (d f : ℕ) (v : Bool) → d ≡ opened n.0 → d ≤ 1 → f ≡ length (step_gives x) → f ≤ 2 → v ≡ over_of x
      → Measured m s (grown t d f x.partial.count x.partial.large v) x.next
  measured_step {x} e d f v i id j jf k =
      let h = turn g.walks on x e in
      let few = h.fewer in let w = h.within in
      let now : ahead n ≡ suc (length n.1) = rw on in
      let p = g.few_identifiers in let q = g.few_ranges in let r = g.few_comparators in
      let count : x.partial.count ≡ identifier_count h.of = ap (λ z. z.partial.count) h.held ∙ count_is _ _ _ h.of in
      let gives : f ≡ comparator_count h.of = j ∙ ap (λ z. length (step_gives z)) h.held ∙ comparators_are _ _ _ h.of in
      let large : x.partial.large ≡ large_in h.of = ap (λ z. z.partial.large) h.held ∙ large_is _ _ _ h.of in
      let over : v ≡ over_in h.of = k ∙ ap over_of h.held ∙ over_is _ _ _ h.of in
      record {
        coming = h.behind;
        walks = h.walks;
        counts = g.counts ∙ ap (plus t) h.is ∙ plus_step t n.0 h.of h.behind ∙ plus-same t h.behind (sym i) (sym gives) (sym count) (sym large) (sym over);
        few_identifiers = omega (arith, count);
        few_ranges = omega arith;
        few_comparators = omega arith;
      }

  measured_fewer : {x : Stepped} → Some x ≡ step_at m n.0 n.1 → ahead x.next < ahead n
  measured_fewer {x} e = let h = turn g.walks on x e in let f = h.fewer in rw on (omega arith)

  -- there is no reading
  measured_stuck : None ≡ step_at m n.0 n.1 → None ≡ tally_of (walk_of m (read_text s))
  measured_stuck e = sym (g.counts ∙ ap (plus t) (turn_stuck g.walks on e))

-- the end of the text
pub measured_end : (m : E.Compat) (s : List ℕ) (t : Tally) (n : W.Stage × List ℕ) → Measured m s t n → n.0 ≡ W.end → Some t ≡ tally_of (walk_of m (read_text s))
measured_end m s t n g e = sym (g.counts ∙ ap (plus t) (ended g.walks e) ∙ plus-end t)

-- behind the first step
pub measured_first : (m : E.Compat) (s : List ℕ) {x : Stepped} → Some x ≡ first_step m s → (f : ℕ) (v : Bool) → f ≡ length (step_gives x) → f ≤ 2 → v ≡ over_of x
    → Measured m s (record { counts = record { ranges = 1; comparators = f; identifiers = x.partial.count }; large = x.partial.large; over = v }) x.next
unfolding nothing
measured_first m s {x} e f v j jf k =
    let i : 0 + f ≡ f = omega arith in let c : 0 + x.partial.count ≡ x.partial.count = omega arith in
    rw (i, c) at (measured_step (measured_start m s) refl e 1 f v refl (omega arith) j jf k)

-- a text without a first step has no reading
pub measured_none : (m : E.Compat) (s : List ℕ) → None ≡ first_step m s → None ≡ tally_of (walk_of m (read_text s))
measured_none m s e = measured_stuck (measured_start m s) refl e

-- ---- where the code holds where the next step begins

module _ {m : E.Compat} {s : List ℕ} {t : Tally} {at : Std.Option (Stage × Bor (List ℕ))} (g : Measured m s t (next_is at)) {st : Stage} {u : Bor (List ℕ)} (q : at ≡ Some (st, u)) where
  here : Measured m s t (stage_of st, u.now)
  here = rw q at g

  pub code_step : {x : Stepped} → Some x ≡ step_at m (stage_of st) u.now → {d f : ℕ} {v : Bool} → d ≡ opened (stage_of st) → d ≤ 1 → f ≡ length (step_gives x) → f ≤ 2
      → v ≡ over_of x → Measured m s (grown t d f x.partial.count x.partial.large v) x.next
  code_step e i id j jf k = measured_step here (goes_stage st) e _ _ _ i id j jf k

  pub code_few : {x : Stepped} → Some x ≡ step_at m (stage_of st) u.now → t.counts.identifiers + x.partial.count ≤ length s
  code_few {x} e =
      let h = turn here.walks (goes_stage st) x e in
      let w = h.within in let p = here.few_identifiers in
      omega (arith, ap (λ z. z.partial.count) h.held, count_is x.next (begin_text (stage_of st) u.now) (end_text (stage_of st) u.now) h.of)

  pub code_fewer : {x : Stepped} → Some x ≡ step_at m (stage_of st) u.now → ahead x.next < ahead (next_is at)
  code_fewer e = rw q (measured_fewer here (goes_stage st) e)

  pub code_stuck : None ≡ step_at m (stage_of st) u.now → None ≡ tally_of (walk_of m (read_text s))
  code_stuck e = measured_stuck here (goes_stage st) e

pub ruleset measuring = (measured_first, measured_end)
