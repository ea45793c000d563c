-- A pass over an accepted text: what its loop knows, and what each of its steps is.
-- Assumes nothing.
use Rattle.std.proofs.Common.{ℕ, ◌≡◌, ◌+◌, ◌<◌, ◌≤◌, Bool, true, false, not, ◌||◌, List, [], ◌∷◌, map, length, refl, Some, None, ◌∙◌, ap, sym, arith}
use Rattle.std.proofs.Math.Option as Math
use Rattle.std.proofs.Math.Option.{none, some}
use Rattle.rules.specs.Lists.{concat, some_of}
use Rattle.rules.specs.Syntax as S
use Rattle.rules.specs.Parse.{ok, read_text}
use Rattle.rules.specs.Expansion as E
use Rattle.rules.specs.Expansion.{Piece, partial_in, comparators, expand_range, pieces, expand}
use Rattle.rules.specs.Answers.{accepted, reading, longest}
use Rattle.rules.specs.Walk as W
use Rattle.rules.specs.Walk.{Walks, goes_on, opening, push, map_option, identifier_count, large_in, over_in}
use Rattle.rules.proofs.Accepted.{Accepted, reads, reading-accepted}
use Rattle.rules.proofs.Complete.{complete}
use Rattle.rules.proofs.Tallies.{expand-large, expand-raised}
use Rattle.rules.proofs.WalkLaws.{text-walk}
use Rattle.partial.specs.declared.PartialKind.TheVariants.{XRangeOnly, MajorOnly, MajorMinor, MajorMinorPatch}
use Rattle.walk.specs.Views.{Stepped, step_at, stage_of}
use Rattle.walk.specs.declared.Stage.{Stage}
use Rattle.walk.specs.declared.Stage.TheVariants as Stages
use Rattle.passes.specs.Views.{step_gives}
use Rattle.passes.proofs.Turn.{concat_push, concat_opening, ahead, ended, steps_end, turn, turn_stuck, gives_is, count_is, identifiers_are}

-- a step is read at each stage of the code
pub goes_stage : (st : Stage) → goes_on (stage_of st) ≡ true
goes_stage Stages.Item = refl
goes_stage Stages.Range = refl
goes_stage (Stages.Right XRangeOnly) = refl
goes_stage (Stages.Right MajorOnly) = refl
goes_stage (Stages.Right MajorMinor) = refl
goes_stage (Stages.Right MajorMinorPatch) = refl

-- ---- the pieces of an accepted text

pub record AcceptedPieces (m : E.Compat) (s : List ℕ) (rs : E.Reading) : Type 0 where
  pub ranges : List S.Range
  pub reads : read_text s ≡ ok ranges []
  pub is : rs ≡ expand m ranges
  pub short : length s ≤ longest
  pub fits : some_of large_in (concat (map (expand_range m) ranges)) ≡ false
  pub raises : some_of over_in (concat (map (expand_range m) ranges)) ≡ false

accepted_pieces : (m : E.Compat) (s : List ℕ) (rs : E.Reading) → reading m s ≡ accepted rs → AcceptedPieces m s rs
unfolding pieces
accepted_pieces m s rs e = go (reading-accepted m s rs e)
  where
    go : {rs : E.Reading} → Accepted m s rs → AcceptedPieces m s rs
    go (reads {rs = ss} l d f g) =
        record {
          ranges = ss;
          reads = complete d;
          is = refl;
          short = l;
          fits = sym (expand-large m ss) ∙ ap not f;
          raises = sym (expand-raised m ss f) ∙ ap not g;
        }

-- ---- the loop

-- In an accepted text these pieces are still to come, from n on: a stage, and what is left of the text.
pub record Passing (m : E.Compat) (n : W.Stage × List ℕ) : Type 0 where
  pub coming : List (List Piece)
  pub walks : Walks m n.0 n.1 (some coming)
  pub fits : some_of large_in (concat coming) ≡ false
  pub raises : some_of over_in (concat coming) ≡ false

-- all of them are to come
pub record Starting (m : E.Compat) (s : List ℕ) (rs : E.Reading) : Type 0 where
  pub text : AcceptedPieces m s rs
  pub pass : Passing m (W.range, s)
  pub all : pass.coming ≡ [] ∷ map (expand_range m) text.ranges

passing_start : {m : E.Compat} {s : List ℕ} {rs : E.Reading} → AcceptedPieces m s rs → Passing m (W.range, s)
passing_start {m} {s} a =
    record {
      coming = [] ∷ map (expand_range m) a.ranges;
      walks = walk a.reads (text-walk m s);
      fits = a.fits;
      raises = a.raises;
    }
  where
    walk : read_text s ≡ ok a.ranges [] → Walks m W.range s (map_option (λ rs. [] ∷ rs) (W.walk_of m (read_text s)))
        → Walks m W.range s (some ([] ∷ map (expand_range m) a.ranges))
    walk q w = rw q at w

pub starting : (m : E.Compat) (s : List ℕ) (rs : E.Reading) → reading m s ≡ accepted rs → Starting m s rs
unfolding passing_start
starting m s rs e = let a = accepted_pieces m s rs e in record { text = a; pass = passing_start a; all = refl }

none_first : (a b : Bool) → a || b ≡ false → a ≡ false
none_first true b e = e
none_first false b e = refl

none_later : (a b : Bool) → a || b ≡ false → b ≡ false
none_later true b e = cc
none_later false b e = e

-- the step x of the pass: its piece, and what is to come behind it
pub record Passes {m : E.Compat} {n : W.Stage × List ℕ} (g : Passing m n) (x : Stepped) : Type 0 where
  pub of : Piece
  pub next : Passing m x.next
  pub is : g.coming ≡ opening n.0 (push of next.coming)
  pub gives : step_gives x ≡ comparators of
  pub identifiers : x.partial.identifiers ≡ S.identifiers_of (partial_in of)
  pub count : x.partial.count ≡ identifier_count of
  pub within : x.partial.count + length x.next.1 ≤ length n.1
  pub fewer : ahead x.next < ahead n

-- what is f of an option, and there, is f of what is in it
pub record Mapped {A : Type 0} (f : A → A) (coming : A) (o : Math.Option A) : Type 0 where
  pub behind : A
  pub some_is : o ≡ some behind
  pub is : coming ≡ f behind

pub mapped : {A : Type 0} (f : A → A) (coming : A) (o : Math.Option A) → some coming ≡ map_option f o → Mapped f coming o
mapped f coming none e = cc
mapped f coming (some rs) e = record { behind = rs; some_is = refl; is = cc }

module _ {m : E.Compat} {n : W.Stage × List ℕ} (g : Passing m n) (t : goes_on n.0 ≡ true) where
  pub passes : (x : Stepped) → Some x ≡ step_at m n.0 n.1 → Passes g x
  passes x e =
      let h = turn g.walks t x e in
      let b = mapped (λ rs. opening n.0 (push h.of rs)) g.coming h.behind h.is in
      let now : concat g.coming ≡ h.of ∷ concat b.behind = ap concat b.is ∙ concat_opening n.0 (push h.of b.behind) ∙ concat_push h.of b.behind in
      let large : large_in h.of || some_of large_in (concat b.behind) ≡ false = sym (ap (some_of large_in) now) ∙ g.fits in
      let over : over_in h.of || some_of over_in (concat b.behind) ≡ false = sym (ap (some_of over_in) now) ∙ g.raises in
      let count : x.partial.count ≡ identifier_count h.of = ap (λ z. z.partial.count) h.held ∙ count_is _ _ _ h.of in
      record {
        of = h.of;
        next =
            record {
              coming = b.behind;
              walks = rw b.some_is at h.walks;
              fits = none_later (large_in h.of) _ large;
              raises = none_later (over_in h.of) _ over;
            };
        is = b.is;
        gives = ap step_gives h.held ∙ gives_is _ _ _ h.of (none_first (large_in h.of) _ large) (none_first (over_in h.of) _ over);
        identifiers = ap (λ z. z.partial.identifiers) h.held ∙ identifiers_are _ _ _ h.of;
        count = count;
        within = let w = h.within in rw count w;
        fewer = let f = h.fewer in rw t (omega arith);
      }

  -- there is a step
  pub passing_next : None ≡ step_at m n.0 n.1 → ⊥
  passing_next e = let z : ◌≡◌ {A = Math.Option (List (List Piece))} (some g.coming) none = turn_stuck g.walks t e in cc

-- nothing is to come at the end
pub passing_end : {m : E.Compat} {n : W.Stage × List ℕ} (g : Passing m n) → n.0 ≡ W.end → g.coming ≡ [] ∷ []
passing_end g e = let h = ended g.walks e in cc

-- where there is no step any more, that is the end
pub passing_ends : {m : E.Compat} {n : W.Stage × List ℕ} (g : Passing m n) → None ≡ step_at m n.0 n.1 → n.0 ≡ W.end
passing_ends g e = steps_end g.walks e
