-- The classes of bytes, each with all its members of the 256 bytes. Theorem 16 holds the definitions to them.
-- Assumes nothing.
use Rattle.std.specs.Prelude.{ℕ, zero, suc, Bool, List, [], ◌∷◌, ◌++◌}
use Prim.Native.String.{String}
use Rattle.rules.specs.Bytes.{bytes, pick, is_space, is_digit, is_nonzero, is_letter, is_word, is_wild, is_sign}
use Rattle.rules.specs.Alike.{ends_partial}

-- the bytes of the class among n from c on
unfoldable pub members : (ℕ → Bool) → ℕ → ℕ → List ℕ
members p zero c = []
members p (suc n) c = pick (p c) (c ∷ []) [] ++ members p n (suc c)

unfoldable pub classes : List ((ℕ → Bool) × String)
classes =
    (is_space, "\t ")
    ∷ (is_digit, "0123456789")
    ∷ (is_nonzero, "123456789")
    ∷ (is_letter, "-ABCDEFGHIJKLMNOPQRSTUVWXYZabcdefghijklmnopqrstuvwxyz")
    ∷ (is_word, "-0123456789ABCDEFGHIJKLMNOPQRSTUVWXYZabcdefghijklmnopqrstuvwxyz")
    ∷ (is_wild, "*Xx")
    ∷ (is_sign, "+-")
    ∷ (ends_partial, "\t ,|")
    ∷ []

unfoldable pub members_of : (ℕ → Bool) × String → List ℕ
unfolding members
members_of row = members row.0 256 0

abbrev pub members_given : (ℕ → Bool) × String → List ℕ
members_given row = bytes row.1
