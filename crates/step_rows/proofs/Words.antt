-- The words of a step are those of its piece.
-- Assumes nothing.
use Rattle.std.proofs.Common.{ℕ, ◌≡◌, refl, sym, ap, ap₂, ◌∙◌, List, ◌++◌, map, length, Option, Some, None}
use Rattle.rules.specs.Lists.{concat}
use Rattle.rules.specs.Syntax.{identifiers_of}
use Rattle.rules.specs.Expansion as E
use Rattle.rules.specs.Expansion.{Piece, piece, partial_in, comparators}
use Rattle.rules.specs.Extents.{extent}
use Rattle.rules.specs.Rows.{comparator_row, piece_rows}
use Rattle.rules.specs.Walk.{piece_identifier_words}
use Rattle.rules.proofs.WalkWords.{concat-map-append}
use Rattle.partial.specs.Views.{Held}
use Rattle.partial.specs.declared.Op.{Op}
use Rattle.range.specs.Views.{raised_partial}
use Rattle.range.specs.declared.Component.{Component}
use Rattle.range.specs.declared.Component.TheVariants.{Major, Minor, Patch}
use Rattle.walk.specs.Views.{Stepped}
use Rattle.rows.specs.Views as Rows
use Rattle.passes.specs.Views.{kept_under, raised_under, kept_gives, raised_gives, step_gives}
use Rattle.rows.specs.declared.Item.{Item}
use Rattle.step_rows.specs.Views.{item_at, rows_with, step_comparator_words, step_identifier_words}

module _ (n k left size : ℕ) where
  abbrev its : Item
  its = item_at n k left size

  abbrev rows_of : List E.Comparator → List ℕ
  rows_of cs = concat (map (comparator_row n k (extent left size)) cs)

  kept_rows : (o : Option Op) (h : Held) → h.count ≡ length h.identifiers → rows_with its h.count (kept_under o h) ≡ rows_of (kept_under o h)
  unfolding comparator_row item_at
  kept_rows None h e = refl
  kept_rows (Some o) h e = rw e

  raised_rows : (c : Option Component) (h : Held) → rows_with its (raised_partial c h).count (raised_under c h) ≡ rows_of (raised_under c h)
  unfolding comparator_row item_at
  raised_rows None h = refl
  raised_rows (Some Major) h = refl
  raised_rows (Some Minor) h = refl
  raised_rows (Some Patch) h = refl

  gives_rows : (x : Stepped) → x.partial.count ≡ length x.partial.identifiers → step_comparator_words its x ≡ rows_of (step_gives x)
  unfolding step_comparator_words step_gives
  gives_rows x e =
      ap₂ ◌++◌ (kept_rows x.kept x.partial e) (raised_rows x.raised x.partial) ∙ sym (concat-map-append (comparator_row n k (extent left size)) (kept_gives x) (raised_gives x))

  pub step_rows : (x : Stepped) (y : Piece) → x.partial.count ≡ length x.partial.identifiers → step_gives x ≡ comparators y
      → step_comparator_words (item_at n k left size) x ≡ piece_rows n k y (extent left size)
  unfolding piece_rows
  step_rows x y e g = gives_rows x e ∙ ap rows_of g

pub step_names : (n : ℕ) (x : Stepped) (y : Piece) → x.partial.identifiers ≡ identifiers_of (partial_in y) → step_identifier_words n x ≡ piece_identifier_words n y
unfolding step_identifier_words piece_identifier_words Rows.identifier_rows
step_names n x (piece o c p) i = rw i
