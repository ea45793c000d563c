-- The writers of a step's rows: a law for each of their ways.
-- Assumes nothing.
use Rattle.std.proofs.Common.{ℕ, ◌+◌, ◌-◌, ◌≤◌, ◌≡◌, refl, sym, ap, ◌∙◌, List, ◌++◌, length, take, drop, Option, Some, None, arith}
use lib.ListN.{length-append, length-take, length-drop}
use borrow.Rule.Slice.PartMut.{put_mid}
use Rattle.range.specs.Views.{raised_partial}
use Rattle.partial.specs.declared.Comparator.{Comparator}
use Rattle.walk.specs.Views.{Stepped}
use Rattle.rows.specs.Put.{Put}
use Rattle.rows.proofs.Puts.{put_then, put-part, put_same}
use Rattle.passes.specs.Views.{listed, counted, kept_gives, raised_gives}
use Rattle.rows.specs.declared.Item.{Item}
use Rattle.step_rows.specs.Views.{row_words, rows_with, step_comparator_words}

-- ---- put_comparators

row_is : (t : Item) (n : ℕ) (o : Option Comparator) → counted n o → row_words t o ≡ rows_with t n (listed o)
row_is t n None h = refl
row_is t n (Some c) h = rw h

module _ (l : List ℕ) (t : Item) (x : Stepped) (r : length (step_comparator_words t x) ≤ length l) where
  abbrev raised_words : List ℕ
  raised_words = rows_with t (raised_partial x.raised x.partial).count (raised_gives x)

  module _ (a : Option Comparator) (e : listed a ≡ kept_gives x) (h : counted x.partial.count a) where
    words : step_comparator_words t x ≡ row_words t a ++ raised_words
    unfolding step_comparator_words
    words = sym (ap (λ w. w ++ raised_words) (row_is t _ a h ∙ ap (rows_with t _) e))

    room : length (row_words t a) + length raised_words ≤ length l
    room = omega (arith, ap length words, length-append (row_words t a) raised_words)

    pub step_kept : length (row_words t a) ≤ length l
    step_kept = omega (arith, room)

    module _ (m : List ℕ) (at : ℕ) (p : Put l 0 (row_words t a) m at) where
      pub step_within : at ≤ length m
      step_within = omega (arith, room, p.place, put_same p)

      module _ (b : Option Comparator) (f : listed b ≡ raised_gives x) (i : counted (raised_partial x.raised x.partial).count b) where
        raised_is : row_words t b ≡ raised_words
        raised_is = row_is t _ b i ∙ ap (rows_with t _) f

        pub step_raised : length (row_words t b) ≤ length (take (length m - at) (drop at m))
        step_raised = simp (length-take, length-drop) (omega (arith, room, ap length raised_is, p.place, put_same p))

        module _ (y : List ℕ) (n : ℕ) (q : Put (take (length m - at) (drop at m)) 0 (row_words t b) y n) where
          pub step_fits : at + n ≤ length l
          step_fits = omega (arith, room, ap length raised_is, p.place, q.place)

          pub step_put : Put l 0 (step_comparator_words t x) (put_mid at (length m - at) m y) (at + n)
          step_put = rw (words, ← raised_is) (put_then p (put-part q))

pub ruleset stepping = (step_kept, step_within, step_fits)

-- ---- put_step

pub ruleset placing = (put-part)
