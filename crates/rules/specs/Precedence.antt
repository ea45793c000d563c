-- Precedence: the order of versions (Semantic Versioning 2.0.0, rule 11; 01, "Admission").
-- Assumes nothing.
use Rattle.std.specs.Prelude.{ℕ, List, [], ◌∷◌, ltb, eqb, length}
use Rattle.rules.specs.Lists.{each}
use Rattle.rules.specs.Bytes.{pick, is_digit}
use Rattle.rules.specs.Syntax.{Identifier, number, text}
use Rattle.rules.specs.Version.{Version, version}

-- how the first of two stands to the second
pub data Order : Type 0 where
  less equal greater : Order

infixr 20 ◌or_else◌
-- "Precedence is determined by the first difference": the first answer, or where there is no difference, the second
unfoldable pub ◌or_else◌ : Order → Order → Order
less or_else y = less
equal or_else y = y
greater or_else y = greater

-- from left to right; fewer below more "if all of the preceding identifiers are equal"
unfoldable pub lexicographic : {A : Type 0} → (A → A → Order) → List A → List A → Order
unfolding ◌or_else◌
lexicographic f [] [] = equal
lexicographic f [] (b ∷ l) = less
lexicographic f (a ∷ k) [] = greater
lexicographic f (a ∷ k) (b ∷ l) = f a b or_else lexicographic f k l

-- ---- identifiers

-- "numbers by value"
unfoldable pub compare_numbers : ℕ → ℕ → Order
compare_numbers a b = pick (ltb a b) less (pick (eqb a b) equal greater)

-- "texts by bytes"
unfoldable pub compare_bytes : List ℕ → List ℕ → Order
unfolding lexicographic compare_numbers
compare_bytes w w' = lexicographic compare_numbers w w'

-- "of two without leading zeros the longer is larger, equal lengths by bytes" (02, N4)
unfoldable pub compare_digits : List ℕ → List ℕ → Order
unfolding ◌or_else◌ compare_numbers compare_bytes
compare_digits w w' = compare_numbers (length w) (length w') or_else compare_bytes w w'

-- Two texts: "identifiers of digits by number at any length, below all others" (02, N4), and the others by bytes.
unfoldable pub compare_texts : List ℕ → List ℕ → Order
unfolding compare_digits compare_bytes
compare_texts w w' = pick (each is_digit w) (pick (each is_digit w') (compare_digits w w') less) (pick (each is_digit w') greater (compare_bytes w w'))

-- "Identifiers compare by the kind in the answer, in versions too: numbers by value, .., a number below a text", also below one of digits, which is
-- above the largest number.
unfoldable pub compare_identifiers : Identifier → Identifier → Order
unfolding compare_numbers compare_texts
compare_identifiers (number a) (number b) = compare_numbers a b
compare_identifiers (number a) (text left w) = less
compare_identifiers (text left w) (number b) = greater
compare_identifiers (text left w) (text left' w') = compare_texts w w'

-- "When major, minor, and patch are equal, a pre-release version has lower precedence than a normal version"; two of them, "comparing each
-- dot separated identifier from left to right until a difference is found"
unfoldable pub compare_prereleases : List Identifier → List Identifier → Order
unfolding lexicographic compare_identifiers
compare_prereleases [] [] = equal
compare_prereleases [] (j ∷ js) = greater
compare_prereleases (i ∷ is) [] = less
compare_prereleases (i ∷ is) (j ∷ js) = lexicographic compare_identifiers (i ∷ is) (j ∷ js)

-- ---- versions

-- "Major, minor, and patch versions are always compared numerically."
unfoldable pub precedence : Version → Version → Order
unfolding ◌or_else◌ compare_numbers compare_prereleases
precedence (version a b c is) (version a' b' c' is') = compare_numbers a a' or_else compare_numbers b b' or_else compare_numbers c c' or_else compare_prereleases is is'
