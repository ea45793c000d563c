-- The reading, had back from the text and the words of its rows: what a caller holds after the reading call. Cited by theorem 7 and by `handed_back` (Equality.antt).
-- Assumes nothing.
use Rattle.std.specs.Prelude.{ℕ, zero, suc, ◌-◌, List, [], ◌∷◌, map, eqb, length, take, drop}
use Rattle.rules.specs.Bytes.{pick}
use Rattle.rules.specs.Syntax.{Identifier, number, text, Op, lt, lte, gt, gte, eq}
use Rattle.rules.specs.Expansion.{Comparator, comparator, Reading}

-- the identifier of a row: kind; number or place; length
unfoldable pub identifier_from : List ℕ → ℕ → ℕ → ℕ → Identifier
identifier_from t zero v n = number v
identifier_from t (suc k) place n = text (length t - place) (take n (drop place t))

-- the identifiers of rows of three words
unfoldable pub identifiers_from : List ℕ → List ℕ → List Identifier
unfolding identifier_from
identifiers_from t [] = []
identifiers_from t (k ∷ []) = []
identifiers_from t (k ∷ v ∷ []) = []
identifiers_from t (k ∷ v ∷ n ∷ ws) = identifier_from t k v n ∷ identifiers_from t ws

-- the operator of a code
unfoldable pub op_from : ℕ → Op
op_from zero = lt
op_from (suc zero) = lte
op_from (suc (suc zero)) = gt
op_from (suc (suc (suc zero))) = gte
op_from (suc (suc (suc (suc k)))) = eq

-- comparators that stand in the range of this number
pub data Group : Type 0 where
  group : ℕ → List Comparator → Group

abbrev pub comparators_in : Group → List Comparator
comparators_in (group k cs) = cs

-- a comparator before those that follow it: of the same range as the next one, or the last of its range
unfoldable pub before : ℕ → Comparator → List Group → List Group
before k c [] = group k (c ∷ []) ∷ []
before k c (group j cs ∷ gs) = pick (eqb k j) (group k (c ∷ cs) ∷ gs) (group k (c ∷ []) ∷ group j cs ∷ gs)

-- the comparators of rows of eight words, which take their identifiers in order; the last two words of a row are not asked
unfoldable pub groups_from : List Identifier → List ℕ → List Group
unfolding op_from before
groups_from is [] = []
groups_from is (k ∷ []) = []
groups_from is (k ∷ o ∷ []) = []
groups_from is (k ∷ o ∷ a ∷ []) = []
groups_from is (k ∷ o ∷ a ∷ b ∷ []) = []
groups_from is (k ∷ o ∷ a ∷ b ∷ c ∷ []) = []
groups_from is (k ∷ o ∷ a ∷ b ∷ c ∷ n ∷ []) = []
groups_from is (k ∷ o ∷ a ∷ b ∷ c ∷ n ∷ p ∷ []) = []
groups_from is (k ∷ o ∷ a ∷ b ∷ c ∷ n ∷ p ∷ z ∷ ws) = before k (comparator (op_from o) a b c (take n is)) (groups_from (drop n is) ws)

-- of the text, the comparator words and the identifier words
unfoldable pub read_back : List ℕ → List ℕ → List ℕ → Reading
unfolding identifiers_from groups_from
read_back t cws iws = map comparators_in (groups_from (identifiers_from t iws) cws)
