-- Bytes and their classes, and the numbers that digits spell (01, "Grammar"). A text is the list of its bytes.
-- Assumes nothing.
use Rattle.std.specs.Prelude.{ℕ, ◌+◌, ◌*◌, ◌-◌, Bool, true, false, ◌&&◌, ◌||◌, List, [], ◌∷◌, leb, eqb}
use Prim.Native.Char.{code}
use Prim.Native.String.{String}

-- the bytes of a quoted text of bytes below 80 hexadecimal
abbrev pub bytes : String → List ℕ
bytes String.[] = []
bytes (String.◌∷◌ c s) = code c ∷ bytes s

-- a where the test passes, b where it fails
abbrev pub pick {ℓ} : {A : Type ℓ} → Bool → A → A → A
pick true a b = a
pick false a b = b

-- "A space is 20 or 09 hexadecimal."
abbrev pub is_space : ℕ → Bool
is_space c = eqb c 0x20 || eqb c 0x09

abbrev pub within : ℕ → ℕ → ℕ → Bool
within a b c = leb a c && leb c b

-- `0` to `9`
unfoldable pub is_digit : ℕ → Bool
is_digit c = within 48 57 c

-- `1` to `9`: the first of "digits not beginning with 0"
unfoldable pub is_nonzero : ℕ → Bool
is_nonzero c = within 49 57 c

-- "a letter or `-`": an identifier's first byte
unfoldable pub is_letter : ℕ → Bool
is_letter c = within 97 122 c || within 65 90 c || eqb c 45

-- "letters, digits and `-`": an identifier's further bytes
abbrev pub is_word : ℕ → Bool
is_word c = is_letter c || is_digit c

-- "`x`, `X` or `*` (a wildcard)"
abbrev pub is_wild : ℕ → Bool
is_wild c = eqb c 120 || eqb c 88 || eqb c 42

-- "`-` or `+`": a qualifier's first byte
abbrev pub is_sign : ℕ → Bool
is_sign c = eqb c 45 || eqb c 43

-- the value of decimal digits that follow digits of the value a
unfoldable pub value_from : ℕ → List ℕ → ℕ
value_from a [] = a
value_from a (c ∷ ds) = value_from (a * 10 + (c - 48)) ds

-- the number that decimal digits spell
unfoldable pub value : List ℕ → ℕ
unfolding value_from
value ds = value_from 0 ds

-- the largest number that a component, or an identifier that is a number, can have
abbrev pub largest : ℕ
largest = 18446744073709551615
