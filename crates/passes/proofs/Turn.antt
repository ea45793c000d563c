-- One turn of a loop over the steps of a text: what a step says of its piece, what comes behind it, and that less is left.
-- Assumes nothing.
use Rattle.std.proofs.Common.{ℕ, suc, ◌≡◌, ◌+◌, ◌≤◌, Bool, true, false, not, ◌&&◌, List, [], ◌∷◌, ◌++◌, length, refl, Some, None, ◌∙◌, ap, ap₂, sym, arith}
use Rattle.std.proofs.Math.Option as Math
use Rattle.std.proofs.Math.Option.{none, some}
use native.Mathlib.Decide.{dec_le}
use borrow.Author.Tests.{le-leb, lt-leb, not-false}
use Rattle.rules.specs.Lists.{concat}
use Rattle.rules.specs.Bytes.{pick, largest}
use Rattle.rules.specs.Syntax as S
use Rattle.rules.specs.Expansion as E
use Rattle.rules.specs.Expansion.{Piece, piece, partial_in, comparators, as_read, raised, major_of, minor_of, patch_of}
use Rattle.rules.specs.Answers.{fits, partial_fits}
use Rattle.rules.specs.Walk as W
use Rattle.rules.specs.Walk.{Walks, ends, fails, goes, goes_on, opening, push, map_option, comparator_count, identifier_count, large_in, over_in}
use Rattle.rules.proofs.Follows.{both}
use Rattle.rules.proofs.StepLeft.{next-fewer}
use Rattle.rules.proofs.StepNames.{next-names}
use Rattle.partial.specs.Views.{Held, held, saturated, too_large}
use Rattle.range.specs.Views.{kept_of, raised_of, op_for}
use Rattle.walk.specs.Views.{Stepped, stepped, step_of, step_at, is_bad, begin_text, end_text}
use Rattle.passes.specs.Views.{kept_under, raised_under, step_gives, over_of}

-- ---- what the code holds of a piece

op_back : (o : S.Op) → Rattle.partial.specs.Views.op_of (op_for o) ≡ o
op_back S.lt = refl
op_back S.lte = refl
op_back S.gt = refl
op_back S.gte = refl
op_back S.eq = refl

module _ (n : W.Stage × List ℕ) (b e : List ℕ) where
  pub large_is : (y : Piece) → (stepped y n b e).partial.large ≡ large_in y
  unfolding held
  large_is (piece o c p) = refl

  pub count_is : (y : Piece) → (stepped y n b e).partial.count ≡ identifier_count y
  unfolding held
  count_is (piece o c p) = refl

  pub identifiers_are : (y : Piece) → (stepped y n b e).partial.identifiers ≡ S.identifiers_of (partial_in y)
  unfolding held
  identifiers_are (piece o c p) = refl

  pub next_is : (y : Piece) → (stepped y n b e).next ≡ n
  next_is (piece o c p) = refl

  pub comparators_are : (y : Piece) → length (step_gives (stepped y n b e)) ≡ comparator_count y
  unfolding step_gives comparators as_read raised
  comparators_are (piece none none p) = refl
  comparators_are (piece none (some E.major) p) = refl
  comparators_are (piece none (some E.minor) p) = refl
  comparators_are (piece none (some E.patch) p) = refl
  comparators_are (piece (some o) none p) = refl
  comparators_are (piece (some o) (some E.major) p) = refl
  comparators_are (piece (some o) (some E.minor) p) = refl
  comparators_are (piece (some o) (some E.patch) p) = refl

  -- a number that is given as the largest cannot be raised either
  still_large : (v : ℕ) → too_large (suc (saturated v)) ≡ not (fits (suc v))
  still_large v =
      elim (dec_le v largest) [ yes h ↦ rw (le-leb v largest h) | no h ↦ rw (lt-leb v largest (omega arith), lt-leb (suc v) largest (omega arith)) ]

  pub over_is : (y : Piece) → over_of (stepped y n b e) ≡ over_in y
  unfolding held
  over_is (piece o none p) = refl
  over_is (piece o (some E.major) p) = still_large (major_of p)
  over_is (piece o (some E.minor) p) = still_large (minor_of p)
  over_is (piece o (some E.patch) p) = still_large (patch_of p)

  -- none of its numbers is too large, and none is raised above the largest
  pub gives_is : (y : Piece) → large_in y ≡ false → over_in y ≡ false → step_gives (stepped y n b e) ≡ comparators y
  unfolding step_gives comparators as_read raised held partial_fits
  gives_is (piece o c p) l v = let (a, b, d) = all_fit in ap₂ ◌++◌ (kept o a b d) (raise c v a b d)
    where
      all_fit : (fits (major_of p) ≡ true) × (fits (minor_of p) ≡ true) × (fits (patch_of p) ≡ true)
      all_fit =
          let f = not-false (fits (major_of p) && (fits (minor_of p) && fits (patch_of p))) l in
          let x = both (fits (major_of p)) (fits (minor_of p) && fits (patch_of p)) f in
          let y = both (fits (minor_of p)) (fits (patch_of p)) x.1 in
          (x.0, y.0, y.1)

      kept : (o : Math.Option S.Op) → fits (major_of p) ≡ true → fits (minor_of p) ≡ true → fits (patch_of p) ≡ true → kept_under (kept_of o) (held p) ≡ as_read o p
      kept none a b d = refl
      kept (some o) a b d = rw (op_back o, a, b, d)

      raise : (c : Math.Option E.Component) → over_in (piece o c p) ≡ false → fits (major_of p) ≡ true → fits (minor_of p) ≡ true → fits (patch_of p) ≡ true
          → raised_under (raised_of c) (held p) ≡ raised c p
      raise none v a b d = refl
      raise (some E.major) v a b d = rw (a, not-false _ v)
      raise (some E.minor) v a b d = rw (a, b, not-false _ v)
      raise (some E.patch) v a b d = rw (a, b, d, not-false _ v)

-- ---- a step of the walk

-- the code's step x is the step of a piece
pub record Turned (m : E.Compat) (st : W.Stage) (s : List ℕ) (x : Stepped) : Type 0 where
  pub of : Piece
  pub is : W.next m st s ≡ W.step of x.next.0 x.next.1
  pub held : x ≡ stepped of x.next (begin_text st s) (end_text st s)
  pub good : is_bad x.next.0 ≡ false

module _ (m : E.Compat) (st : W.Stage) (s : List ℕ) where
  pub turned : (x : Stepped) → Some x ≡ step_at m st s → Turned m st s x
  turned x e = go (W.next m st s) refl e
    where
      good : (y : Piece) (to : W.Stage) (r : List ℕ) (b : Bool) → is_bad to ≡ b → W.next m st s ≡ W.step y to r
          → Some x ≡ pick b None (Some (stepped y (to, r) (begin_text st s) (end_text st s))) → Turned m st s x
      good y to r true i q e = cc
      good y to r false i q e =
          let h : x ≡ stepped y (to, r) (begin_text st s) (end_text st s) = cc in
          let n : x.next ≡ (to, r) = ap (λ z. z.next) h ∙ next_is (to, r) _ _ y in
          record { of = y; is = q ∙ ap (λ z. W.step y z.0 z.1) (sym n); held = h ∙ ap (λ z. stepped y z (begin_text st s) (end_text st s)) (sym n); good = ap (λ z. is_bad z.0) n ∙ i }

      go : (w : W.Step) → W.next m st s ≡ w → Some x ≡ step_of (begin_text st s) (end_text st s) w → Turned m st s x
      go (W.step y to r) q e = good y to r (is_bad to) refl q e

  pub stuck : None ≡ step_at m st s → (y : Piece) × (r : List ℕ) × (W.next m st s ≡ W.step y W.bad r)
  stuck e = go (W.next m st s) refl e
    where
      go : (w : W.Step) → W.next m st s ≡ w → None ≡ step_of (begin_text st s) (end_text st s) w → (y : Piece) × (r : List ℕ) × (W.next m st s ≡ W.step y W.bad r)
      go (W.step y W.item r) q e = cc
      go (W.step y W.range r) q e = cc
      go (W.step y W.right r) q e = cc
      go (W.step y W.only r) q e = cc
      go (W.step y W.end r) q e = cc
      go (W.step y W.bad r) q e = (y, r, q)

-- ---- what comes behind a step

-- the pieces of the range that has begun, and of the further ones, behind x
pub concat_push : (x : Piece) (rs : List (List Piece)) → concat (push x rs) ≡ x ∷ concat rs
concat_push x [] = refl
concat_push x (ps ∷ rs) = refl

pub concat_opening : (st : W.Stage) (rs : List (List Piece)) → concat (opening st rs) ≡ concat rs
concat_opening W.item rs = refl
concat_opening W.range rs = refl
concat_opening W.right rs = refl
concat_opening W.only rs = refl
concat_opening W.end rs = refl
concat_opening W.bad rs = refl

-- how many steps there may be still
abbrev pub ahead : W.Stage × List ℕ → ℕ
ahead n = pick (goes_on n.0) (suc (length n.1)) 0

-- The step x from s on, where coming is still to come: its piece, and what comes behind it.
pub record Turn (m : E.Compat) (st : W.Stage) (s : List ℕ) (coming : Math.Option (List (List Piece))) (x : Stepped) : Type 0 where
  pub of : Piece
  pub held : x ≡ stepped of x.next (begin_text st s) (end_text st s)
  pub behind : Math.Option (List (List Piece))
  pub walks : Walks m x.next.0 x.next.1 behind
  pub is : coming ≡ map_option (λ rs. opening st (push of rs)) behind
  pub within : identifier_count of + length x.next.1 ≤ length s
  pub fewer : ahead x.next ≤ length s

record Onward (m : E.Compat) (st : W.Stage) (o : Math.Option (List (List Piece))) (x : Piece) (st' : W.Stage) (r : List ℕ) : Type 0 where
  pub behind : Math.Option (List (List Piece))
  pub walks : Walks m st' r behind
  pub is : o ≡ map_option (λ rs. opening st (push x rs)) behind

onward : {m : E.Compat} {st : W.Stage} {s : List ℕ} {o : Math.Option (List (List Piece))} (x : Piece) (st' : W.Stage) (r : List ℕ) → Walks m st s o → goes_on st ≡ true
    → W.next m st s ≡ W.step x st' r → Onward m st o x st' r
onward x st' r ends g e = cc
onward x st' r fails g e = cc
onward x st' r (goes {st' = a} {r = t} {x = y} {o} h n w) g e =
    let i : y ≡ x = cc in let j : a ≡ st' = cc in let k : t ≡ r = cc in
    record { behind = o; walks = rw (j, k) at w; is = rw i refl }

module _ {m : E.Compat} {st : W.Stage} {s : List ℕ} {o : Math.Option (List (List Piece))} (w : Walks m st s o) (g : goes_on st ≡ true) where
  pub turn : (x : Stepped) → Some x ≡ step_at m st s → Turn m st s o x
  turn x e =
      let t = turned m st s x e in
      let n = onward t.of x.next.0 x.next.1 w g t.is in
      record {
        of = t.of;
        held = t.held;
        behind = n.behind;
        walks = n.walks;
        is = n.is;
        within = next-names m st s t.of x.next.0 x.next.1 t.is;
        fewer = few t (goes_on x.next.0) refl;
      }
    where
      few : (t : Turned m st s x) (b : Bool) → goes_on x.next.0 ≡ b → ahead x.next ≤ length s
      few t true i = rw i (omega (arith, next-fewer m st s t.of x.next.0 x.next.1 t.is i))
      few t false i = rw i (omega arith)

  -- there is no reading
  pub turn_stuck : None ≡ step_at m st s → o ≡ none
  turn_stuck e = let (y, r, q) = stuck m st s e in go (onward y W.bad r w g q)
    where
      failed : {st : W.Stage} {s : List ℕ} {o : Math.Option (List (List Piece))} → Walks m st s o → st ≡ W.bad → o ≡ none
      failed ends i = cc
      failed fails i = refl
      failed (goes h n w) i = let k : goes_on W.bad ≡ true = rw i at h in cc

      go : {y : Piece} {r : List ℕ} → Onward m st o y W.bad r → o ≡ none
      go {y} n = n.is ∙ ap (map_option (λ rs. opening st (push y rs))) (failed n.walks refl)

-- ---- the end

pub ended : {m : E.Compat} {st : W.Stage} {s : List ℕ} {o : Math.Option (List (List Piece))} → Walks m st s o → st ≡ W.end → o ≡ some ([] ∷ [])
ended ends e = refl
ended fails e = cc
ended (goes h n w) e = let k : goes_on W.end ≡ true = rw e at h in cc

-- where there is a step, the stage goes on
pub step_goes : (m : E.Compat) (st : W.Stage) (s : List ℕ) (x : Stepped) → Some x ≡ step_at m st s → goes_on st ≡ true
unfolding W.next
step_goes m W.item s x e = refl
step_goes m W.range s x e = refl
step_goes m W.right s x e = refl
step_goes m W.only s x e = refl
step_goes m W.end s x e = cc
step_goes m W.bad s x e = cc

-- where a reading is still to come and there is no step, the text ends
pub steps_end : {m : E.Compat} {st : W.Stage} {s : List ℕ} {rs : List (List Piece)} → Walks m st s (some rs) → None ≡ step_at m st s → st ≡ W.end
steps_end {m} {st} {s} {rs} w e = go (some rs) refl st s w e
  where
    go : (o : Math.Option (List (List Piece))) → some rs ≡ o → (st : W.Stage) (s : List ℕ) → Walks m st s o → None ≡ step_at m st s → st ≡ W.end
    go o i st s ends e = refl
    go o i st s fails e = cc
    go o i st s (goes h n v) e = let z = turn_stuck (goes h n v) h e in cc
