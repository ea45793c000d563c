-- The normal text of a reading (01, "Normal text").
-- Assumes nothing.
use Rattle.std.specs.Prelude.{ℕ, zero, suc, ◌+◌, ◌/◌, ◌%◌, true, false, List, [], ◌∷◌, ◌++◌, ltb}
use Rattle.rules.specs.Bytes.{bytes}
use Rattle.rules.specs.Syntax.{Identifier, number, text, Op, lt, lte, gt, gte, eq}
use Rattle.rules.specs.Expansion.{Comparator, comparator, Reading}

-- "in decimal without leading zeros": the digits of n before the digits ds; the first number bounds how many
unfoldable pub decimal_to : ℕ → ℕ → List ℕ → List ℕ
decimal_to zero n ds = ds
decimal_to (suc f) n ds = elim (ltb n 10) [ true ↦ (48 + n) ∷ ds | false ↦ decimal_to f (n / 10) ((48 + n % 10) ∷ ds) ]

unfoldable pub decimal : ℕ → List ℕ
unfolding decimal_to
decimal n = decimal_to (suc n) n []

-- "`<`, `<=`, `>`, `>=` or `=`"
unfoldable pub spell_op : Op → List ℕ
spell_op lt = bytes "<"
spell_op lte = bytes "<="
spell_op gt = bytes ">"
spell_op gte = bytes ">="
spell_op eq = bytes "="

-- "a number in decimal without leading zeros, a text by its bytes"
unfoldable pub spell_identifier : Identifier → List ℕ
unfolding decimal
spell_identifier (number v) = decimal v
spell_identifier (text left w) = w

-- each with the separator before it
unfoldable pub tailed : {A : Type 0} → (A → List ℕ) → List ℕ → List A → List ℕ
tailed f sep [] = []
tailed f sep (a ∷ l) = sep ++ f a ++ tailed f sep l

-- with the separator between
unfoldable pub joined : {A : Type 0} → (A → List ℕ) → List ℕ → List A → List ℕ
unfolding tailed
joined f sep [] = []
joined f sep (a ∷ l) = f a ++ tailed f sep l

-- "if there are identifiers `-` and these with dots between"
unfoldable pub spell_identifiers : List Identifier → List ℕ
unfolding joined spell_identifier
spell_identifiers [] = []
spell_identifiers (i ∷ is) = bytes "-" ++ joined spell_identifier (bytes ".") (i ∷ is)

-- the operator, "then major, minor, patch in decimal without leading zeros, dots between", then the identifiers
unfoldable pub spell_comparator : Comparator → List ℕ
unfolding spell_op decimal spell_identifiers
spell_comparator (comparator o a b c is) = spell_op o ++ decimal a ++ bytes "." ++ decimal b ++ bytes "." ++ decimal c ++ spell_identifiers is

-- "One blank (20 hexadecimal) between comparators"
unfoldable pub spell_range : List Comparator → List ℕ
unfolding joined spell_comparator
spell_range cs = joined spell_comparator (0x20 ∷ []) cs

-- "` || ` between ranges"
unfoldable pub spell : Reading → List ℕ
unfolding joined spell_range
spell rs = joined spell_range (bytes " || ") rs
