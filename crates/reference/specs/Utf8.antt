-- The bytes of a `&str`, which the crate reads as characters and 01 as bytes (The Unicode Standard, table 3-6).
-- Assumes nothing.
use Rattle.std.specs.Prelude.{ℕ, ◌+◌, ◌/◌, ◌%◌, List, [], ◌∷◌, ◌++◌, leb}
use Rattle.rules.specs.Bytes.{pick}

-- a character, by its number: one byte to four
unfoldable pub encode : ℕ → List ℕ
encode c =
    pick (leb c 0x7F) (c ∷ [])
    (pick (leb c 0x7FF) ((0xC0 + c / 64) ∷ (0x80 + c % 64) ∷ [])
    (pick (leb c 0xFFFF) ((0xE0 + c / 4096) ∷ (0x80 + c / 64 % 64) ∷ (0x80 + c % 64) ∷ [])
    ((0xF0 + c / 262144) ∷ (0x80 + c / 4096 % 64) ∷ (0x80 + c / 64 % 64) ∷ (0x80 + c % 64) ∷ [])))

-- a text of characters
unfoldable pub utf8 : List ℕ → List ℕ
utf8 [] = []
utf8 (c ∷ s) = encode c ++ utf8 s
