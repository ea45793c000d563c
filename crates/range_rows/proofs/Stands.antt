-- A step of a range: its piece and its item's extent are the first of those to come in the range, and the rest stands behind it.
-- Assumes nothing.
use Rattle.std.proofs.Common.{ℕ, zero, suc, ◌+◌, ◌-◌, ◌≤◌, ◌<◌, ◌≡◌, true, List, [], ◌∷◌, ◌++◌, map, length, drop, refl, Some, ◌∙◌, ap, ap₂, sym, add-one, arith}
use Rattle.std.proofs.Math.Option as Math
use Rattle.std.proofs.Math.Option.{none, some}
use Rattle.rules.specs.Lists.{concat}
use Rattle.rules.specs.Syntax.{identifiers_of}
use Rattle.rules.specs.Parse.{list_of}
use Rattle.rules.specs.Expansion as E
use Rattle.rules.specs.Expansion.{Piece, piece, partial_in, comparators}
use Rattle.rules.specs.Extents.{Extent, text_extents}
use Rattle.rules.specs.Rows.{piece_rows, range_rows, text_pieces}
use Rattle.rules.specs.Walk as W
use Rattle.rules.specs.Walk.{Walks, WalksExtents, goes_on, opening, push, map_option, begin_at, extent_at, identifier_count, piece_identifier_words}
use Rattle.walk.specs.Views.{Stepped, step_at}
use Rattle.rows.proofs.Puts.{Begins}
use Rattle.passes.specs.Views.{step_gives}
use Rattle.passes.proofs.Turn.{ahead}
use Rattle.passes.proofs.Passing.{Passing, Passes, passes}
use Rattle.passes.proofs.Extending.{Extending, Extended, extended, Extends, item_begins}
use Rattle.step_rows.specs.Views.{item_at, step_comparator_words, step_identifier_words}
use Rattle.step_rows.proofs.Words.{step_rows, step_names}
use Rattle.range_rows.specs.Views.{first, later, range_words, range_names, Here, Beginning, AtRange, at_range}
use Rattle.range_rows.proofs.Stages.{Closes, closed_range}

-- ---- lists of lists

first_push : {A : Type 0} (x : A) (l : List (List A)) → first (push x l) ≡ x ∷ first l
first_push x [] = refl
first_push x (a ∷ l) = refl

later_push : {A : Type 0} (x : A) (l : List (List A)) → later (push x l) ≡ later l
later_push x [] = refl
later_push x (a ∷ l) = refl

pub later_drop : {A : Type 0} (k : ℕ) (l : List (List A)) → later (drop k l) ≡ drop (k + 1) l
later_drop {A} k l = rw add-one (go k l)
  where
    go : (k : ℕ) (l : List (List A)) → later (drop k l) ≡ drop (suc k) l
    go zero [] = refl
    go zero (a ∷ l) = refl
    go (suc k) [] = refl
    go (suc k) (a ∷ l) = go k l

-- ---- behind a step

-- Behind one or more pieces of the range with this number: what is to come from n on.
pub record Standing (m : E.Compat) (s : List ℕ) (k : ℕ) (n : W.Stage × List ℕ) : Type 0 where
  pub begin : ℕ
  pub pass : Passing m n
  pub extends : Extending m s n begin
  pub pieces : later pass.coming ≡ drop (k + 1) (text_pieces m s)
  pub extents : later extends.coming ≡ drop (k + 1) (list_of (text_extents s))
  pub few : k + ahead n ≤ length s

-- ---- where a range ends

closed_first : {A : Type 0} (st : W.Stage) → Closes st → (x : A) (o : Math.Option (List (List A))) (l : List (List A))
    → some l ≡ map_option (λ rs. opening st (push x rs)) o → goes_on st ≡ true → l ≡ [] ∷ later l
closed_first st c x none l e g = cc
closed_first st c x (some rs) l e g =
    let h : l ≡ [] ∷ push x rs = rw (closed_range st c g) at (opened e) in h ∙ ap (λ z. [] ∷ later z) (sym h)
  where
    opened : some l ≡ some (opening st (push x rs)) → l ≡ opening st (push x rs)
    opened e = cc

walks_closed : {m : E.Compat} {st : W.Stage} {s : List ℕ} {o : Math.Option (List (List Piece))} → Walks m st s o → Closes st
    → (l : List (List Piece)) → some l ≡ o → l ≡ [] ∷ later l
walks_closed Walks.ends c l e = let h : l ≡ [] ∷ [] = cc in h ∙ ap (λ z. [] ∷ later z) (sym h)
walks_closed Walks.fails c l e = cc
walks_closed (Walks.goes {st} {x = x} {o} g n w) c l e = closed_first st c x o l e g

extents_closed : {m : E.Compat} {st : W.Stage} {b : ℕ} {s : List ℕ} {o : Math.Option (List (List Extent))} → WalksExtents m st b s o → Closes st
    → (l : List (List Extent)) → some l ≡ o → l ≡ [] ∷ later l
extents_closed WalksExtents.ends c l e = let h : l ≡ [] ∷ [] = cc in h ∙ ap (λ z. [] ∷ later z) (sym h)
extents_closed WalksExtents.fails c l e = cc
extents_closed (WalksExtents.goes {st} {b = b} {s} {o = o} g n w) c l e = closed_first st c (extent_at st b s) o l e g

module _ {m : E.Compat} {s : List ℕ} {k : ℕ} {n : W.Stage × List ℕ} (g : Standing m s k n) (c : Closes n.0) where
  pub no_pieces : first g.pass.coming ≡ []
  no_pieces = ap first (walks_closed g.pass.walks c g.pass.coming refl)

  pub range_ends : Here m s (k + 1) n
  range_ends =
      let f = g.few in
      record {
        begin = g.begin;
        pass = g.pass;
        extends = g.extends;
        pieces = walks_closed g.pass.walks c g.pass.coming refl ∙ ap (λ (l : List (List Piece)). [] ∷ l) g.pieces;
        extents = extents_closed g.extends.walks c g.extends.coming refl ∙ ap (λ (l : List (List Extent)). [] ∷ l) g.extents;
        begins = closed_range n.0 c;
        few = omega arith;
      }

-- ---- a step

-- x is the step of the first of these pieces, whose item has the extent e
pub record Taken (m : E.Compat) (s : List ℕ) (k : ℕ) (ps : List (List Piece)) (es : List (List Extent)) (e : Extent) (x : Stepped) : Type 0 where
  pub of : Piece
  pub stands : Standing m s k x.next
  pub pieces : ps ≡ push of stands.pass.coming
  pub extents : es ≡ push e stands.extends.coming
  pub gives : step_gives x ≡ comparators of
  pub identifiers : x.partial.identifiers ≡ identifiers_of (partial_in of)
  pub count : x.partial.count ≡ length x.partial.identifiers

count_of : (y : Piece) → identifier_count y ≡ length (identifiers_of (partial_in y))
count_of (piece o c p) = refl

-- the step from n on, where these pieces and extents come first
module _ {m : E.Compat} {s : List ℕ} {n : W.Stage × List ℕ} {b : ℕ} {x : Stepped} (g : Passing m n) (f : Extending m s n b) (t : goes_on n.0 ≡ true) (e : Some x ≡ step_at m n.0 n.1) where
  here : Passes g x
  here = passes g t x e

  there : Extended f x
  there = extended f t x e

  taken : (k : ℕ) (ps : List (List Piece)) (es : List (List Extent)) → ps ≡ push here.of here.next.coming → es ≡ push (extent_at n.0 b n.1) there.next.coming
      → later ps ≡ drop (k + 1) (text_pieces m s) → later es ≡ drop (k + 1) (list_of (text_extents s)) → k + ahead x.next ≤ length s → Taken m s k ps es (extent_at n.0 b n.1) x
  taken k ps es p q i j l =
      record {
        of = here.of;
        stands =
            record {
              begin = begin_at n.0 b n.1;
              pass = here.next;
              extends = there.next;
              pieces = sym (later_push here.of here.next.coming) ∙ ap later (sym p) ∙ i;
              extents = sym (later_push (extent_at n.0 b n.1) there.next.coming) ∙ ap later (sym q) ∙ j;
              few = l;
            };
        pieces = p;
        extents = q;
        gives = here.gives;
        identifiers = here.identifiers;
        count = here.count ∙ count_of here.of ∙ ap length (sym here.identifiers);
      }

-- the first one of a range
module _ {m : E.Compat} {s : List ℕ} {k : ℕ} {x : Stepped} (g : Beginning m s k x) where
  abbrev pub first_extent : Extent
  first_extent = extent_at W.range g.here.begin g.left

  pub taken_first : Taken m s k (drop k (text_pieces m s)) (drop k (list_of (text_extents s))) first_extent x
  taken_first =
      let a = here g.here.pass g.here.extends refl g.is in
      let b = there g.here.pass g.here.extends refl g.is in
      let f = g.here.few in
      let h = a.fewer in
      taken g.here.pass g.here.extends refl g.is k (drop k (text_pieces m s)) (drop k (list_of (text_extents s)))
      (ap later (sym g.here.pieces ∙ a.is)) (ap later (sym g.here.extents ∙ b.is)) (later_drop k (text_pieces m s)) (later_drop k (list_of (text_extents s))) (omega arith)

  pub first_begins : taken_first.stands.begin ≡ length x.begin
  unfolding taken_first taken
  first_begins = item_begins g.here.extends refl x g.is refl

-- another one
unopened : {A : Type 0} (st : W.Stage) → (st ≡ W.range → ⊥) → (l : List (List A)) → opening st l ≡ l
unopened W.item n l = refl
unopened W.range n l = absurd (n refl)
unopened W.right n l = refl
unopened W.only n l = refl
unopened W.end n l = refl
unopened W.bad n l = refl

module _ {m : E.Compat} {s : List ℕ} {k : ℕ} {n : W.Stage × List ℕ} (g : Standing m s k n) (t : goes_on n.0 ≡ true) (r : n.0 ≡ W.range → ⊥) {x : Stepped}
    (e : Some x ≡ step_at m n.0 n.1) where
  abbrev pub next_extent : Extent
  next_extent = extent_at n.0 g.begin n.1

  pub next_fewer : ahead x.next < ahead n
  next_fewer = let h = here g.pass g.extends t e in h.fewer

  pub taken_next : Taken m s k g.pass.coming g.extends.coming next_extent x
  taken_next =
      let a = here g.pass g.extends t e in
      let b = there g.pass g.extends t e in
      let f = g.few in
      taken g.pass g.extends t e k g.pass.coming g.extends.coming (a.is ∙ unopened n.0 r _) (b.is ∙ unopened n.0 r _) g.pieces g.extents (omega (arith, next_fewer))

-- ---- its rows

module _ {m : E.Compat} {s : List ℕ} {k : ℕ} {ps : List (List Piece)} {es : List (List Extent)} {e : Extent} {x : Stepped} (g : Taken m s k ps es e x) where
  pub rows_step : {begin end : ℕ} → Extends s e begin end
      → Begins (range_rows (length s) k (first ps) (first es)) (step_comparator_words (item_at (length s) k begin (begin - end)) x)
      (range_rows (length s) k (first g.stands.pass.coming) (first g.stands.extends.coming))
  unfolding range_rows
  rows_step {begin} {end} i =
      record {
        split =
            ap₂ (range_rows (length s) k)
            (ap first g.pieces ∙ first_push g.of g.stands.pass.coming) (ap first g.extents ∙ first_push e g.stands.extends.coming)
            ∙ ap (λ w. w ++ range_rows (length s) k (first g.stands.pass.coming) (first g.stands.extends.coming))
            (ap (piece_rows (length s) k g.of) i.is ∙ sym (step_rows (length s) k begin (begin - end) x g.of g.count g.gives));
      }

  pub names_step : Begins (concat (map (piece_identifier_words (length s)) (first ps))) (step_identifier_words (length s) x)
      (concat (map (piece_identifier_words (length s)) (first g.stands.pass.coming)))
  names_step =
      record {
        split =
            ap (λ qs. concat (map (piece_identifier_words (length s)) qs)) (ap first g.pieces ∙ first_push g.of g.stands.pass.coming)
            ∙ ap (λ w. w ++ concat (map (piece_identifier_words (length s)) (first g.stands.pass.coming))) (sym (step_names (length s) x g.of g.identifiers));
      }

-- ---- what the data hold

module _ {m : E.Compat} {s : List ℕ} {k : ℕ} {x : Stepped} {words ids : ℕ} where
  abbrev pub beginning : AtRange m s k x words ids → Beginning m s k x
  beginning (at_range g h i) = g

  pub range_room : AtRange m s k x words ids → length (range_words m s k) ≤ words
  range_room (at_range g h i) = h

  pub range_space : AtRange m s k x words ids → length (range_names m s k) ≤ ids
  range_space (at_range g h i) = i
