-- Texts alike but for what stands behind a wildcard: 01, "Two accepted texts of equal length, alike but for bytes after a wildcard in the
-- same partial (in both texts), have the same answer." Cited by theorem 5 alone.
-- Assumes nothing.
use Rattle.std.specs.Prelude.{◌≡◌, ℕ, Bool, false, ◌||◌, List, [], ◌∷◌, eqb}
use Rattle.rules.specs.Bytes.{pick, is_space, is_wild, is_sign}

-- Where a byte of an accepted text stands: in a partial behind its sign, among identifiers, where an `x` is no wildcard; in a partial behind
-- a wildcard; or neither.
pub data Where : Type 0 where
  plain named behind : Where

-- what follows a partial, if the text goes on: a space, a comma or a bar
abbrev pub ends_partial : ℕ → Bool
ends_partial c = is_space c || (eqb c 44 || eqb c 124)

-- where the byte behind c stands
unfoldable pub after : Where → ℕ → Where
after plain c = pick (is_wild c) behind (pick (is_sign c) named plain)
after named c = pick (ends_partial c) plain named
after behind c = pick (ends_partial c) plain behind

-- The two texts have the same byte at each place, or two bytes that both stand behind the same wildcard in one partial.
pub data Alike : Where → List ℕ → List ℕ → Type 0 where
  end : {w : Where} → Alike w [] []
  same : {w : Where} {c : ℕ} {s t : List ℕ} → Alike (after w c) s t → Alike w (c ∷ s) (c ∷ t)
  unread : {c d : ℕ} {s t : List ℕ} → ends_partial c ≡ false → ends_partial d ≡ false → Alike behind s t → Alike behind (c ∷ s) (d ∷ t)
