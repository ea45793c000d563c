-- The words that the code stores, by what it knows of a comparator and of an identifier.
-- Assumes nothing.
use Rattle.std.specs.Prelude.{ℕ, List, [], ◌∷◌, length, map}
use Rattle.rules.specs.Lists.{concat}
use Rattle.rules.specs.Syntax as S
use Rattle.rules.specs.Rows.{op_code, identifier_row}
use Rattle.lexer.specs.declared.Identifier.{Identifier}
use Rattle.partial.specs.Views.{op_of}
use Rattle.partial.specs.declared.Comparator.{Comparator}
use Rattle.rows.specs.declared.Item.{Item}

-- ---- comparators

-- the row of a comparator of this item
abbrev pub comparator_words : Item → Comparator → List ℕ
comparator_words t c = t.range ∷ op_code (op_of c.op) ∷ c.major ∷ c.minor ∷ c.patch ∷ c.count ∷ t.place ∷ t.size ∷ []

-- ---- identifiers

-- the row of an identifier that begins at place
abbrev pub words_of : Identifier → ℕ → List ℕ
words_of (Identifier.Number v) place = 0 ∷ v ∷ 0 ∷ []
words_of (Identifier.Text w) place = 1 ∷ place ∷ length w.now ∷ []

-- their rows, in a text of n bytes
unfoldable pub identifier_rows : ℕ → List S.Identifier → List ℕ
identifier_rows n is = concat (map (identifier_row n) is)
