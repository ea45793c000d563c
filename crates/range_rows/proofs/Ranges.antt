-- The writer of all rows, one range after another: what its loop knows, and what each of its ways gives.
-- Assumes nothing.
use Rattle.std.proofs.Common.{ℕ, ◌+◌, ◌-◌, ◌*◌, ◌≤◌, ◌≡◌, true, List, [], ◌∷◌, ◌++◌, map, length, take, drop, refl, Some, None, Ok, ◌∙◌, ap, ap₂, sym, add-one, arith}
use lib.ListN.{length-take, length-drop}
use borrow.Rule.Slice.PartMut.{put_mid}
use Rattle.rules.specs.Lists.{concat}
use Rattle.rules.specs.Parse.{list_of}
use Rattle.rules.specs.Expansion as E
use Rattle.rules.specs.Expansion.{Piece, expand_range}
use Rattle.rules.specs.Extents.{Extent, text_extents}
use Rattle.rules.specs.Rows.{comparator_width, range_rows, rows_from, text_pieces, comparator_words, identifier_words}
use Rattle.rules.specs.Answers.{accepted, reading, reading_outcome, written, comparator_words_after, identifier_words_after}
use Rattle.rules.specs.Walk as W
use Rattle.rules.specs.Walk.{goes_on, piece_identifier_words, walk_identifier_words}
use Rattle.rules.proofs.RowsLaws.{words-length, names-length}
use Rattle.rules.proofs.WalkWords.{concat-map-append, expand-names-words}
use Rattle.walk.specs.Views.{Stepped, step_at}
use Rattle.rows.specs.Put.{Put}
use Rattle.rows.proofs.Puts.{put-part, put-onto, Begins, Writing, writing_start, writing-todo, writing-put, writing-next, writing-end}
use Rattle.passes.specs.Views.{first_step}
use Rattle.passes.proofs.Passing.{starting, passing_next, passing_end}
use Rattle.passes.proofs.Extending.{extending_all}
use Rattle.rangeset.specs.declared.Counts.{Counts}
use Rattle.rangeset.specs.Views.{outcome_of}
use Rattle.rangeset.proofs.Outcomes.{counted-reading}
use Rattle.range_rows.specs.Views.{first, later, range_words, range_names, Here, Beginning, AtRange, at_range, BehindRange, behind_range}
use Rattle.range_rows.proofs.Stands.{later_drop}

-- ---- the words of a range come first

range_none : (n k : ℕ) (ps : List Piece) → range_rows n k ps [] ≡ []
unfolding range_rows
range_none n k [] = refl
range_none n k (x ∷ ps) = refl

from_none : (n k : ℕ) (rs : List (List Piece)) → rows_from n k rs [] ≡ []
unfolding rows_from
from_none n k [] = refl
from_none n k (ps ∷ rs) = refl

rows_first : (n k : ℕ) (rs : List (List Piece)) (es : List (List Extent)) → rows_from n k rs es ≡ range_rows n k (first rs) (first es) ++ rows_from n (k + 1) (later rs) (later es)
unfolding rows_from range_rows
rows_first n k [] es = refl
rows_first n k (ps ∷ rs) [] = sym (ap₂ ◌++◌ (range_none n k ps) (from_none n (k + 1) rs))
rows_first n k (ps ∷ rs) (e ∷ es) = ap (λ j. range_rows n k ps e ++ rows_from n j rs es) (sym (add-one k))

names_first : (n : ℕ) (rs : List (List Piece)) → walk_identifier_words n rs ≡ concat (map (piece_identifier_words n) (first rs)) ++ walk_identifier_words n (later rs)
unfolding walk_identifier_words
names_first n [] = refl
names_first n (ps ∷ rs) = concat-map-append (piece_identifier_words n) ps (concat rs)

-- ---- behind a range

behind : {m : E.Compat} {s : List ℕ} {k : ℕ} {n : W.Stage × List ℕ} → BehindRange m s k n → Here m s (k + 1) n
behind (behind_range g) = g

-- another range is to come
module _ {m : E.Compat} {s : List ℕ} {k : ℕ} {n : W.Stage × List ℕ} (b : BehindRange m s k n) (t : goes_on n.0 ≡ true) where
  pub behind_next : None ≡ step_at m n.0 n.1 → ⊥
  behind_next e = passing_next (behind b).pass t e

  pub behind_begins : (x : Stepped) → Some x ≡ step_at m n.0 n.1 → Beginning m s (k + 1) x
  behind_begins x e = let h = (behind b).begins t in record { left = n.1; here = at_stage n.0 W.range n.1 h (behind b); is = rw h at e }
    where
      at_stage : (st st' : W.Stage) (l : List ℕ) → st ≡ st' → Here m s (k + 1) (st, l) → Here m s (k + 1) (st', l)
      at_stage st st' l e g = rw e at g

-- ---- the loop

module _ (m : E.Compat) (s start before : List ℕ) where
  -- The rows of all ranges before this one are written: so many words, and so many identifier words. It begins with the step x.
  pub record Putting (words ids : List ℕ) (range at to : ℕ) (x : Stepped) : Type 0 where
    pub here : Beginning m s range x
    pub reads : E.Reading
    pub is : reading m s ≡ accepted reads
    pub rows : Writing start 0 (comparator_words m s) words at (rows_from (length s) range (drop range (text_pieces m s)) (drop range (list_of (text_extents s))))
    pub names : Writing before 0 (identifier_words (length s) reads) ids to (walk_identifier_words (length s) (drop range (text_pieces m s)))
    pub room : length (comparator_words m s) ≤ length start
    pub space : length (identifier_words (length s) reads) ≤ length before

  pub putting_start : (x : Stepped) (c : Counts) → Some x ≡ first_step m s → outcome_of (Ok c) ≡ reading_outcome (reading m s)
      → comparator_width * c.comparators ≤ length start → 3 * c.identifiers ≤ length before → Putting start before 0 0 0 x
  unfolding comparator_words
  putting_start x c e k r l =
      let h = counted-reading m s c k in
      let a = starting m s h.reads h.is in let b = extending_all m s a.pass in
      let all : map (expand_range m) a.text.ranges ≡ text_pieces m s = ap (λ g. map (expand_range m) (list_of g)) (sym a.text.reads) in
      let names =
      ap (identifier_words (length s)) a.text.is ∙ expand-names-words m (length s) a.text.ranges ∙ ap (walk_identifier_words (length s)) all in
      record {
        here =
            record {
              left = s;
              here =
                  record {
                    begin = length s;
                    pass = a.pass;
                    extends = b.extending;
                    pieces = a.all ∙ ap (λ (l : List (List Piece)). [] ∷ l) all;
                    extents = b.all;
                    begins = λ t. refl;
                    few = omega arith;
                  };
              is = e;
            };
        reads = h.reads;
        is = h.is;
        rows = writing_start start 0 (comparator_words m s);
        names = writing-todo names (writing_start before 0 (identifier_words (length s) h.reads));
        room = omega (arith, words-length m s h.reads h.is, h.comparators);
        space = omega (arith, names-length (length s) h.reads, h.identifiers);
      }

module _ {m : E.Compat} {s start before words ids : List ℕ} {range at to : ℕ} {x : Stepped} (d : Putting m s start before words ids range at to x) where
  rows_next : Begins (rows_from (length s) range (drop range (text_pieces m s)) (drop range (list_of (text_extents s)))) (range_words m s range)
      (rows_from (length s) (range + 1) (drop (range + 1) (text_pieces m s)) (drop (range + 1) (list_of (text_extents s))))
  unfolding range_words
  rows_next =
      record {
        split =
            rows_first (length s) range (drop range (text_pieces m s)) (drop range (list_of (text_extents s)))
            ∙ ap (λ w. range_words m s range ++ w) (ap₂ (rows_from (length s) (range + 1)) (later_drop range (text_pieces m s)) (later_drop range (list_of (text_extents s))));
      }

  names_next : Begins (walk_identifier_words (length s) (drop range (text_pieces m s))) (range_names m s range) (walk_identifier_words (length s) (drop (range + 1) (text_pieces m s)))
  unfolding range_names
  names_next =
      record {
        split =
            names_first (length s) (drop range (text_pieces m s))
            ∙ ap (λ w. range_names m s range ++ w) (ap (walk_identifier_words (length s)) (later_drop range (text_pieces m s)));
      }

  fits_rows : at + length (range_words m s range) ≤ length words
  fits_rows = let h = d.room in writing-next d.rows rows_next (omega arith)

  fits_names : to + length (range_names m s range) ≤ length ids
  fits_names = let h = d.space in writing-next d.names names_next (omega arith)

  pub putting_here : AtRange m s range x (length (take (length words - at) (drop at words))) (length (take (length ids - to) (drop to ids)))
  putting_here = at_range d.here (simp (length-take, length-drop) (omega (arith, fits_rows))) (simp (length-take, length-drop) (omega (arith, fits_names)))

  pub putting_at : at ≤ length words
  putting_at = omega (arith, fits_rows)

  pub putting_to : to ≤ length ids
  putting_to = omega (arith, fits_names)

  rows_left : {y : List ℕ} {n : ℕ} → Put (take (length words - at) (drop at words)) 0 (range_words m s range) y n
      → Writing start 0 (comparator_words m s) (put_mid at (length words - at) words y) (at + n)
      (rows_from (length s) (range + 1) (drop (range + 1) (text_pieces m s)) (drop (range + 1) (list_of (text_extents s))))
  rows_left p = writing-put d.rows rows_next (put-part p)

  names_left : {z : List ℕ} {j : ℕ} → Put (take (length ids - to) (drop to ids)) 0 (range_names m s range) z j
      → Writing before 0 (identifier_words (length s) d.reads) (put_mid to (length ids - to) ids z) (to + j) (walk_identifier_words (length s) (drop (range + 1) (text_pieces m s)))
  names_left q = writing-put d.names names_next (put-part q)

  pub putting_words : {y : List ℕ} {n : ℕ} → Put (take (length words - at) (drop at words)) 0 (range_words m s range) y n → at + n ≤ length words
  putting_words p = omega (arith, p.place, fits_rows)

  pub putting_ids : {z : List ℕ} {j : ℕ} → Put (take (length ids - to) (drop to ids)) 0 (range_names m s range) z j → to + j ≤ length ids
  putting_ids q = omega (arith, q.place, fits_names)

  -- another range is to come
  pub putting_more : {y : List ℕ} {n : ℕ} → Put (take (length words - at) (drop at words)) 0 (range_words m s range) y n
      → {z : List ℕ} {j : ℕ} → Put (take (length ids - to) (drop to ids)) 0 (range_names m s range) z j
      → {a : W.Stage × List ℕ} → BehindRange m s range a → goes_on a.0 ≡ true → {v : Stepped} → Some v ≡ step_at m a.0 a.1
      → Putting m s start before (put_mid at (length words - at) words y) (put_mid to (length ids - to) ids z) (range + 1) (at + n) (to + j) v
  putting_more p q b t {v} e =
      record {
        here = behind_begins b t v e;
        reads = d.reads;
        is = d.is;
        rows = rows_left p;
        names = names_left q;
        room = d.room;
        space = d.space;
      }

  -- none is
  done : {a : W.Stage × List ℕ} → BehindRange m s range a → a.0 ≡ W.end → drop (range + 1) (text_pieces m s) ≡ []
  done b e = ap later (sym (behind b).pieces ∙ passing_end (behind b).pass e)

  rows_none : rows_from (length s) (range + 1) [] (drop (range + 1) (list_of (text_extents s))) ≡ []
  unfolding rows_from
  rows_none = refl

  names_none : walk_identifier_words (length s) [] ≡ []
  unfolding walk_identifier_words
  names_none = refl

  pub putting_rows : {a : W.Stage × List ℕ} → BehindRange m s range a → a.0 ≡ W.end
      → {y : List ℕ} {n : ℕ} → Put (take (length words - at) (drop at words)) 0 (range_words m s range) y n
      → put_mid at (length words - at) words y ≡ comparator_words_after m s (reading m s) start
  unfolding comparator_words_after written
  putting_rows b e p =
      put-onto (writing-end (writing-todo (ap (λ l. rows_from (length s) (range + 1) l (drop (range + 1) (list_of (text_extents s)))) (done b e) ∙ rows_none) (rows_left p))) d.room
      ∙ ap (λ a. comparator_words_after m s a start) (sym d.is)

  pub putting_names : {a : W.Stage × List ℕ} → BehindRange m s range a → a.0 ≡ W.end
      → {z : List ℕ} {j : ℕ} → Put (take (length ids - to) (drop to ids)) 0 (range_names m s range) z j
      → put_mid to (length ids - to) ids z ≡ identifier_words_after s (reading m s) before
  unfolding identifier_words_after written
  putting_names b e q =
      put-onto (writing-end (writing-todo (ap (walk_identifier_words (length s)) (done b e) ∙ names_none) (names_left q))) d.space
      ∙ ap (λ a. identifier_words_after s a before) (sym d.is)

pub ruleset putting = (putting_at, putting_to)
