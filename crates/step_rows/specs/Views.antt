-- The words of a step.
-- Assumes nothing.
use Rattle.std.specs.Prelude.{Option, Some, None, ℕ, ◌-◌, List, [], ◌∷◌, ◌++◌}
use Rattle.rules.specs.Expansion as E
use Rattle.rules.specs.Rows.{op_code}
use Rattle.partial.specs.declared.Comparator.{Comparator}
use Rattle.range.specs.Views.{raised_partial}
use Rattle.walk.specs.Views.{Stepped}
use Rattle.rows.specs.Views as Rows
use Rattle.rows.specs.Views.{comparator_words}
use Rattle.passes.specs.Views.{kept_gives, raised_gives}
use Rattle.rows.specs.declared.Item.{Item}

-- an item of the range with this number, in a text of n bytes: so many are left where it begins
unfoldable pub item_at : ℕ → ℕ → ℕ → ℕ → Item
item_at n k left size = record { range = k; place = n - left; size = size }

-- the row of a comparator of this item, if there is one
abbrev pub row_words : Item → Option Comparator → List ℕ
row_words t None = []
row_words t (Some c) = comparator_words t c

-- the rows of the rules' comparators, with so many identifiers
abbrev pub rows_with : Item → ℕ → List E.Comparator → List ℕ
rows_with t n [] = []
rows_with t n (E.comparator o a b c is ∷ cs) = t.range ∷ op_code o ∷ a ∷ b ∷ c ∷ n ∷ t.place ∷ t.size ∷ rows_with t n cs

-- of a step of this item: the numbers as they were read, with the partial's identifiers; then the raised component
unfoldable pub step_comparator_words : Item → Stepped → List ℕ
step_comparator_words t x = rows_with t x.partial.count (kept_gives x) ++ rows_with t (raised_partial x.raised x.partial).count (raised_gives x)

-- its identifier rows, in a text of n bytes
unfoldable pub step_identifier_words : ℕ → Stepped → List ℕ
step_identifier_words n x = Rows.identifier_rows n x.partial.identifiers
