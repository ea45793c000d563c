-- What src/range.rs and src/range_set.rs use of Rust and of its standard library. A u64 is a number up to `largest`, and a `str` the list of its characters.
-- Assumes nothing.
use Rattle.std.specs.Prelude.{ℕ, suc, Bool, true, false, ◌&&◌, List, [], ◌∷◌, ◌++◌, eqb, leb}
use Rattle.std.proofs.Math.Option.{Option, none, some}
use Rattle.rules.specs.Lists.{each}
use Rattle.rules.specs.Bytes.{pick, is_digit, value, largest}

-- a value, or a panic: of `unwrap`, of `remove(0)` where nothing is left, of `unreachable!`, or of a sum that overflows
pub data OrPanic (A : Type 0) : Type 0 where
  gives : A → OrPanic A
  panics : OrPanic A

infixr 20 ◌and◌
-- what is done with the value; a panic stays
unfoldable pub ◌and◌ : {A B : Type 0} → OrPanic A → (A → OrPanic B) → OrPanic B
(gives a) and f = f a
panics and f = panics

-- what a loop makes of one turn, and of the turns behind it: the lists one after another
unfoldable pub joined : {A : Type 0} → OrPanic (List A) → OrPanic (List A) → OrPanic (List A)
joined panics d = panics
joined (gives l) panics = panics
joined (gives l) (gives k) = gives (l ++ k)

-- `Option::unwrap`
unfoldable pub unwrap : {A : Type 0} → Option A → OrPanic A
unwrap none = panics
unwrap (some a) = gives a

-- `Option::unwrap_or(0)`
abbrev pub unwrap-or-zero : Option ℕ → ℕ
unwrap-or-zero none = 0
unwrap-or-zero (some a) = a

-- `n + 1` in a build with overflow checks
unfoldable pub add-one : ℕ → OrPanic ℕ
add-one n = pick (leb (suc n) largest) (gives (suc n)) panics

-- one or more digits, of a value that fits
unfoldable pub digits-u64 : List ℕ → Option ℕ
digits-u64 [] = none
digits-u64 (c ∷ w) = pick (each is_digit (c ∷ w)) (pick (leb (value (c ∷ w)) largest) (some (value (c ∷ w))) none) none

-- `str::parse::<u64>`: such digits, behind a `+` or none
unfoldable pub parse-u64 : List ℕ → Option ℕ
parse-u64 [] = none
parse-u64 (c ∷ w) = pick (eqb c 43) (digits-u64 w) (digits-u64 (c ∷ w))

-- the character put before the first text
unfoldable pub to-first : ℕ → List (List ℕ) → List (List ℕ)
to-first c [] = (c ∷ []) ∷ []
to-first c (w ∷ ws) = (c ∷ w) ∷ ws

-- `str::split`: the texts between the characters b
unfoldable pub split : ℕ → List ℕ → List (List ℕ)
split b [] = [] ∷ []
split b (c ∷ w) = pick (eqb c b) ([] ∷ split b w) (to-first c (split b w))

-- `==` of two `str`
unfoldable pub same : List ℕ → List ℕ → Bool
same [] [] = true
same [] (c ∷ w) = false
same (b ∷ v) [] = false
same (b ∷ v) (c ∷ w) = eqb b c && same v w
