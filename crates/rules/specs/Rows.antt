-- The words of a reading, and when two readings are equal (01, "What a call hands back").
-- Assumes nothing.
use Rattle.std.specs.Prelude.{◌≡◌, ℕ, suc, ◌+◌, ◌-◌, ◌≤◌, List, [], ◌∷◌, ◌++◌, map, length, take, drop}
use Rattle.rules.specs.Syntax.{Identifier, number, text, Op, lt, lte, gt, gte, eq}
use Rattle.rules.specs.Lists.{concat}
use Rattle.rules.specs.Parse.{list_of, read_text}
use Rattle.rules.specs.Expansion.{Compat, Comparator, comparator, Piece, comparators, expand_range, Reading}
use Rattle.rules.specs.Extents.{Extent, extent, text_extents}

-- ---- comparator rows

-- "The five operators carry fixed codes: Lt 0, Lte 1, Gt 2, Gte 3, Eq 4."
abbrev pub op_code : Op → ℕ
op_code lt = 0
op_code lte = 1
op_code gt = 2
op_code gte = 3
op_code eq = 4

abbrev pub identifiers_in : Comparator → List Identifier
identifiers_in (comparator o a b c is) = is

-- "Each comparator row grows to eight words." (02, N2)
abbrev pub comparator_width : ℕ
comparator_width = 8

-- "A comparator row is six words: range number from 0, operator, major, minor, patch, number of identifiers." "Word seven is the place of the
-- item's first byte, word eight its length" (02, N2). The first argument is the length of the range text.
unfoldable pub comparator_row : ℕ → ℕ → Extent → Comparator → List ℕ
comparator_row n k (extent left size) (comparator o a b c is) = k ∷ op_code o ∷ a ∷ b ∷ c ∷ length is ∷ (n - left) ∷ size ∷ []

-- the rows of a piece in range k
unfoldable pub piece_rows : ℕ → ℕ → Piece → Extent → List ℕ
unfolding comparator_row
piece_rows n k x e = concat (map (comparator_row n k e) (comparators x))

-- of a range, whose pieces have these extents
unfoldable pub range_rows : ℕ → ℕ → List Piece → List Extent → List ℕ
unfolding piece_rows
range_rows n k [] es = []
range_rows n k (x ∷ ps) [] = []
range_rows n k (x ∷ ps) (e ∷ es) = piece_rows n k x e ++ range_rows n k ps es

-- of the ranges from number k on
unfoldable pub rows_from : ℕ → ℕ → List (List Piece) → List (List Extent) → List ℕ
unfolding range_rows
rows_from n k [] ess = []
rows_from n k (ps ∷ rs) [] = []
rows_from n k (ps ∷ rs) (es ∷ ess) = range_rows n k ps es ++ rows_from n (suc k) rs ess

-- the pieces of each range of a text
abbrev pub text_pieces : Compat → List ℕ → List (List Piece)
text_pieces m t = map (expand_range m) (list_of (read_text t))

-- of a text
unfoldable pub comparator_words : Compat → List ℕ → List ℕ
unfolding rows_from
comparator_words m t = rows_from (length t) 0 (text_pieces m t) (list_of (text_extents t))

-- The words are rows of eight whose words seven and eight, place and length (02, N2), lie in a text of n bytes. Cited by theorem 17 alone.
pub data RowsInText (n : ℕ) : List ℕ → Type 0 where
  no_row : RowsInText n []
  row : {k o a b c is place size : ℕ} {ws : List ℕ} → place + size ≤ n → RowsInText n ws
      → RowsInText n (k ∷ o ∷ a ∷ b ∷ c ∷ is ∷ place ∷ size ∷ ws)

-- ---- identifier rows

-- "An identifier row is three words: kind (0 number, 1 text); the number, or the text's place; 0, or the text's length in bytes."
-- The first argument is the length of the range text.
unfoldable pub identifier_row : ℕ → Identifier → List ℕ
identifier_row n (number v) = 0 ∷ v ∷ 0 ∷ []
identifier_row n (text left w) = 1 ∷ (n - left) ∷ length w ∷ []

-- "Identifier rows follow the order of their comparators."
unfoldable pub all_identifiers : Reading → List Identifier
all_identifiers rs = concat (map identifiers_in (concat rs))

unfoldable pub identifier_words : ℕ → Reading → List ℕ
unfolding identifier_row all_identifiers
identifier_words n rs = concat (map (identifier_row n) (all_identifiers rs))

-- A text identifier begins within t, ends within t, and there stand its bytes: its place is `length t - left`.
abbrev pub InText : List ℕ → Identifier → Type 0
InText t (number v) = Unit {0}
InText t (text left w) = (left ≤ length t) × (length w ≤ left) × (take (length w) (drop (length t - left) t) ≡ w)

-- ---- equal readings

-- "identifiers compared by kind and by number or bytes, not by place"
unfoldable pub placeless : Identifier → Identifier
placeless (number v) = number v
placeless (text left w) = text 0 w

unfoldable pub placeless_comparator : Comparator → Comparator
unfolding placeless
placeless_comparator (comparator o a b c is) = comparator o a b c (map placeless is)

-- "Two readings are equal when they have the same ranges of the same comparators in the same order": when these are the same
unfoldable pub placeless_reading : Reading → Reading
unfolding placeless_comparator
placeless_reading rs = map (map placeless_comparator) rs
