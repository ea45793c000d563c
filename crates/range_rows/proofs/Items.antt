-- The rows of a range that is a list of items, or empty: what the loop over its items knows, and what each of its ways gives.
-- Assumes nothing.
use Rattle.std.proofs.Common.{ℕ, ◌+◌, ◌-◌, ◌<◌, ◌≤◌, ◌≡◌, true, false, List, [], map, length, drop, refl, Some, None, ◌∙◌, ap, sym, arith}
use Rattle.rules.specs.Lists.{concat}
use Rattle.rules.specs.Parse.{list_of}
use Rattle.rules.specs.Expansion as E
use Rattle.rules.specs.Expansion.{Piece}
use Rattle.rules.specs.Extents.{Extent, text_extents}
use Rattle.rules.specs.Rows.{range_rows, text_pieces}
use Rattle.rules.specs.Walk as W
use Rattle.rules.specs.Walk.{piece_identifier_words}
use Rattle.walk.specs.Views.{Stepped, step_at}
use Rattle.rows.specs.Put.{Put}
use Rattle.rows.proofs.Puts.{Writing, writing_start, writing-todo, writing-put, writing-next, writing-end}
use Rattle.passes.proofs.Turn.{ahead}
use Rattle.passes.proofs.Passing.{passing_next}
use Rattle.passes.proofs.Ends.{is_side}
use Rattle.passes.proofs.Extending.{Extends, own_item}
use Rattle.rows.specs.declared.Item.{Item}
use Rattle.step_rows.specs.Views.{item_at, step_comparator_words, step_identifier_words}
use Rattle.range_rows.specs.Views.{further_in, first, range_words, range_names, AtRange, BehindRange, behind_range}
use Rattle.range_rows.proofs.Stages.{Closes, listed_plain, further_some, further_none}
use Rattle.range_rows.proofs.Stands.{no_pieces, range_ends, Taken, first_extent, taken_first, next_extent, next_fewer, taken_next, rows_step, names_step, beginning, range_room, range_space}

module _ (m : E.Compat) (s : List ℕ) (k : ℕ) (start before : List ℕ) where
  -- The rows of the range's items before x are written: so many words, and so many identifier words.
  pub record Listing (words ids : List ℕ) (at to : ℕ) (x : Stepped) : Type 0 where
    pub pieces : List (List Piece)
    pub extents : List (List Extent)
    pub extent : Extent
    pub taken : Taken m s k pieces extents extent x
    pub plain : is_side x.next.0 ≡ false
    pub item : Extends s extent (length x.begin) (length x.end)
    pub rows : Writing start 0 (range_words m s k) words at (range_rows (length s) k (first pieces) (first extents))
    pub names : Writing before 0 (range_names m s k) ids to (concat (map (piece_identifier_words (length s)) (first pieces)))
    pub room : length (range_words m s k) ≤ length start
    pub space : length (range_names m s k) ≤ length before

  pub listing_start : (x : Stepped) → AtRange m s k x (length start) (length before) → is_side x.next.0 ≡ false → Listing start before 0 0 x
  unfolding range_words range_names
  listing_start x a d =
      let g = beginning a in
      record {
        pieces = drop k (text_pieces m s);
        extents = drop k (list_of (text_extents s));
        extent = first_extent g;
        taken = taken_first g;
        plain = d;
        item = own_item g.here.extends refl x g.is refl d;
        rows = writing_start start 0 (range_words m s k);
        names = writing_start before 0 (range_names m s k);
        room = range_room a;
        space = range_space a;
      }

module _ {m : E.Compat} {s : List ℕ} {k : ℕ} {start before words ids : List ℕ} {at to : ℕ} {x : Stepped} (g : Listing m s k start before words ids at to x) where
  module _ {t : Item} (i : t ≡ item_at (length s) k (length x.begin) (length x.begin - length x.end)) where
    pub listing_room : at + length (step_comparator_words t x) ≤ length words
    listing_room = let h = g.room in rw i (writing-next g.rows (rows_step g.taken g.item) (omega arith))

    rows : {z : List ℕ} {n : ℕ} → Put words at (step_comparator_words t x) z n
        → Writing start 0 (range_words m s k) z n (range_rows (length s) k (first g.taken.stands.pass.coming) (first g.taken.stands.extends.coming))
    rows p = writing-put g.rows (rows_step g.taken g.item) (rw i at p)

  pub listing_space : to + length (step_identifier_words (length s) x) ≤ length ids
  listing_space = let h = g.space in writing-next g.names (names_step g.taken) (omega arith)

  names : {w : List ℕ} {j : ℕ} → Put ids to (step_identifier_words (length s) x) w j
      → Writing before 0 (range_names m s k) w j (concat (map (piece_identifier_words (length s)) (first g.taken.stands.pass.coming)))
  names q = writing-put g.names (names_step g.taken) q

  -- no further item follows
  module _ (f : None ≡ further_in x.next) where
    closes : Closes x.next.0
    closes = record { plain = g.plain; closed = further_none x.next f }

    none : first g.taken.stands.pass.coming ≡ []
    none = no_pieces g.taken.stands closes

    pub listing_rows : {t : Item} → t ≡ item_at (length s) k (length x.begin) (length x.begin - length x.end)
        → {z : List ℕ} {n : ℕ} → Put words at (step_comparator_words t x) z n → Put start 0 (range_words m s k) z n
    unfolding range_rows
    listing_rows i p = writing-end (writing-todo (ap (λ ps. range_rows (length s) k ps (first g.taken.stands.extends.coming)) none) (rows i p))

    pub listing_names : {w : List ℕ} {j : ℕ} → Put ids to (step_identifier_words (length s) x) w j → Put before 0 (range_names m s k) w j
    listing_names q = writing-end (writing-todo (ap (λ ps. concat (map (piece_identifier_words (length s)) ps)) none) (names q))

    pub listing_behind : BehindRange m s k x.next
    listing_behind = behind_range (range_ends g.taken.stands closes)

  -- one does
  module _ {l : List ℕ} (f : Some l ≡ further_in x.next) where
    listed : x.next ≡ (W.item, l)
    listed = further_some x.next l f

    goes : W.goes_on x.next.0 ≡ true
    goes = rw listed refl

    pub listing_next : None ≡ step_at m W.item l → ⊥
    listing_next e = passing_next g.taken.stands.pass goes (rw listed e)

    module _ {y : Stepped} (e : Some y ≡ step_at m W.item l) where
      no_range : x.next.0 ≡ W.range → ⊥
      no_range r = let h : W.item ≡ W.range = ap (λ a. a.0) (sym listed) ∙ r in cc

      there : Some y ≡ step_at m x.next.0 x.next.1
      there = rw listed e

      pub listing_fewer : ahead y.next < ahead x.next
      listing_fewer = next_fewer g.taken.stands goes no_range there

      pub listing_more : {t : Item} → t ≡ item_at (length s) k (length x.begin) (length x.begin - length x.end)
          → {z : List ℕ} {n : ℕ} → Put words at (step_comparator_words t x) z n
          → {w : List ℕ} {j : ℕ} → Put ids to (step_identifier_words (length s) x) w j → Listing m s k start before z w n j y
      listing_more i p q =
          record {
            pieces = g.taken.stands.pass.coming;
            extents = g.taken.stands.extends.coming;
            extent = next_extent g.taken.stands goes no_range there;
            taken = taken_next g.taken.stands goes no_range there;
            plain = listed_plain m l y e;
            item = own_item g.taken.stands.extends goes y there (rw listed refl) (listed_plain m l y e);
            rows = rows i p;
            names = names q;
            room = g.room;
            space = g.space;
          }

pub ruleset listing = (listing_start, listing_more)
