-- The rows of a hyphen range: one item, whose end is that of its right side.
-- Assumes nothing.
use Rattle.std.proofs.Common.{ℕ, ◌+◌, ◌-◌, ◌≤◌, ◌≡◌, true, false, List, [], ◌++◌, map, length, drop, refl, Some, None, ◌∙◌, ap, sym, arith}
use mathlib.Core.List.{append-nil}
use lib.ListN.{length-append}
use Rattle.rules.specs.Lists.{concat}
use Rattle.rules.specs.Expansion as E
use Rattle.rules.specs.Extents.{Extent, text_extents}
use Rattle.rules.specs.Parse.{list_of}
use Rattle.rules.specs.Rows.{range_rows, text_pieces}
use Rattle.rules.specs.Walk as W
use Rattle.rules.specs.Walk.{piece_identifier_words}
use Rattle.walk.specs.Views.{Stepped, step_at}
use Rattle.rows.specs.Put.{Put}
use Rattle.rows.proofs.Puts.{put_then, put_same}
use Rattle.passes.proofs.Passing.{passing_next}
use Rattle.passes.proofs.Ends.{is_side}
use Rattle.passes.proofs.Extending.{Extends, step_end, left_item, right_item}
use Rattle.rows.specs.declared.Item.{Item}
use Rattle.step_rows.specs.Views.{item_at, step_comparator_words, step_identifier_words}
use Rattle.range_rows.specs.Views.{side_in, first, range_words, range_names, Beginning, AtRange, BehindRange, behind_range}
use Rattle.range_rows.proofs.Stages.{Closes, Side, side_some, side_goes, side_closes}
use Rattle.range_rows.proofs.Stands.{no_pieces, range_ends, Taken, first_extent, taken_first, first_begins, next_extent, taken_next, rows_step, names_step, beginning, range_room, range_space}

no_range : (st : W.Stage) → is_side st ≡ true → st ≡ W.range → ⊥
no_range st i e = let h : false ≡ true = ap is_side (sym e) ∙ i in cc

begun : {s : List ℕ} {e : Extent} {b c end : ℕ} → b ≡ c → Extends s e b end → Extends s e c end
begun h i = rw h at i

-- the rows of both sides, one behind the other
both_more : {l all x z : List ℕ} {n : ℕ} (y : List ℕ) → all ≡ x ++ y → length all ≤ length l → Put l 0 x z n → n + length y ≤ length z
both_more {x = x} y r room p = omega (arith, ap length r, length-append x y, p.place, put_same p)

both_put : {l all x y z v : List ℕ} {n j : ℕ} → all ≡ x ++ y → Put l 0 x z n → Put z n y v j → Put l 0 all v j
both_put r p q = rw r (put_then p q)

module _ {m : E.Compat} {s : List ℕ} {k : ℕ} {x : Stepped} {cw iw : ℕ} (a : AtRange m s k x cw iw) {w : W.Stage × List ℕ} (f : Some w ≡ side_in x.next) where
  g : Beginning m s k x
  g = beginning a

  side : Side x.next w
  side = side_some x.next w f

  abbrev left : Taken m s k (drop k (text_pieces m s)) (drop k (list_of (text_extents s))) (first_extent g) x
  left = taken_first g

  goes : W.goes_on x.next.0 ≡ true
  goes = side_goes x.next.0 side.side

  pub hyphen_next : None ≡ step_at m w.0 w.1 → ⊥
  hyphen_next e = passing_next left.stands.pass goes (rw side.is e)

  module _ {y : Stepped} (e : Some y ≡ step_at m w.0 w.1) where
    there : Some y ≡ step_at m x.next.0 x.next.1
    there = rw side.is e

    abbrev right : Taken m s k left.stands.pass.coming left.stands.extends.coming (next_extent left.stands goes (no_range x.next.0 side.side) there) y
    right = taken_next left.stands goes (no_range x.next.0 side.side) there

    left_extent : Extends s (first_extent g) (length x.begin) (length y.end)
    left_extent = left_item g.here.extends refl x g.is refl side.side y (step_end m x.next y there)

    right_extent : Extends s (next_extent left.stands goes (no_range x.next.0 side.side) there) (length x.begin) (length y.end)
    right_extent = begun (first_begins g) (right_item left.stands.extends goes y there side.side)

    closes : Closes y.next.0
    closes = side_closes m x.next y there side.side

    none : first right.stands.pass.coming ≡ []
    none = no_pieces right.stands closes

    pub hyphen_within : length x.begin ≤ length s
    hyphen_within = left_extent.within

    pub hyphen_least : length y.end ≤ length x.begin
    hyphen_least = left_extent.least

    pub hyphen_behind : BehindRange m s k y.next
    hyphen_behind = behind_range (range_ends right.stands closes)

    -- the comparator rows
    abbrev its : Item
    its = item_at (length s) k (length x.begin) (length x.begin - length y.end)

    rows : range_words m s k ≡ step_comparator_words its x ++ step_comparator_words its y
    unfolding range_words range_rows
    rows =
        (rows_step left left_extent).split
        ∙ ap (λ v. step_comparator_words its x ++ v)
        ((rows_step right right_extent).split
        ∙ ap (λ ps. step_comparator_words its y ++ range_rows (length s) k ps (first right.stands.extends.coming)) none
        ∙ append-nil (step_comparator_words its y))

    module _ {t : Item} (i : t ≡ its) where
      pub hyphen_room : 0 + length (step_comparator_words t x) ≤ cw
      hyphen_room = rw i (omega (arith, range_room a, ap length rows, length-append (step_comparator_words its x) (step_comparator_words its y)))

      module _ {l z : List ℕ} {n : ℕ} (p : Put l 0 (step_comparator_words t x) z n) where
        pub hyphen_more : cw ≡ length l → n + length (step_comparator_words t y) ≤ length z
        hyphen_more h = rw i (both_more _ rows (rw h at (range_room a)) (rw i at p))

        pub hyphen_put : {v : List ℕ} {j : ℕ} → Put z n (step_comparator_words t y) v j → Put l 0 (range_words m s k) v j
        hyphen_put q = both_put rows (rw i at p) (rw i at q)

    -- the identifier rows
    names : range_names m s k ≡ step_identifier_words (length s) x ++ step_identifier_words (length s) y
    unfolding range_names
    names =
        (names_step left).split
        ∙ ap (λ v. step_identifier_words (length s) x ++ v)
        ((names_step right).split ∙ ap (λ ps. step_identifier_words (length s) y ++ concat (map (piece_identifier_words (length s)) ps)) none
        ∙ append-nil (step_identifier_words (length s) y))

    pub hyphen_space : 0 + length (step_identifier_words (length s) x) ≤ iw
    hyphen_space = omega (arith, range_space a, ap length names, length-append (step_identifier_words (length s) x) (step_identifier_words (length s) y))

    module _ {l z : List ℕ} {n : ℕ} (p : Put l 0 (step_identifier_words (length s) x) z n) where
      pub hyphen_names_more : iw ≡ length l → n + length (step_identifier_words (length s) y) ≤ length z
      hyphen_names_more h = both_more _ names (rw h at (range_space a)) p

      pub hyphen_names : {v : List ℕ} {j : ℕ} → Put z n (step_identifier_words (length s) y) v j → Put l 0 (range_names m s k) v j
      hyphen_names q = both_put names p q
