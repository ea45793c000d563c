-- Rows of one width in lent bytes, one behind another, and numbers with their low bytes first.
-- Assumes nothing.
use Rattle.std.specs.Prelude.{ℕ, zero, suc, ◌+◌, ◌*◌, ◌-◌, ◌/◌, ◌%◌, List, [], ◌∷◌, ◌++◌, length, take, drop, replicate}
use Rattle.rules.specs.Lists.{concat}

-- the first n rows of w bytes
unfoldable pub rows_of : ℕ → ℕ → List ℕ → List (List ℕ)
rows_of w zero b = []
rows_of w (suc n) b = take w b ∷ rows_of w n (drop w b)

-- the list without its element at k
unfoldable pub without : {A : Type 0} → ℕ → List A → List A
without k [] = []
without zero (a ∷ l) = l
without (suc k) (a ∷ l) = a ∷ without k l

-- "low bytes first": n bytes of a number, and the number that bytes are
unfoldable pub low_first : ℕ → ℕ → List ℕ
low_first zero v = []
low_first (suc n) v = v % 256 ∷ low_first n (v / 256)

unfoldable pub number_in : List ℕ → ℕ
number_in [] = 0
number_in (c ∷ b) = c + 256 * number_in b

-- ---- n rows at the start of the bytes b

-- a row behind them; all bytes behind it stay
unfoldable pub row_added : ℕ → ℕ → List ℕ → List ℕ → List ℕ
unfolding rows_of
row_added w n e b = concat (rows_of w n b ++ (e ∷ [])) ++ drop (w * suc n) b

-- the row at k removed: the gap is closed, there are zeros where the last row stood, and all bytes behind it stay
unfoldable pub row_removed : ℕ → ℕ → ℕ → List ℕ → List ℕ
unfolding rows_of without
row_removed w n k b = concat (without k (rows_of w n b)) ++ (replicate w 0 ++ drop (w * n) b)

-- c places of w bytes: the rows, and zeros behind them
unfoldable pub table : ℕ → ℕ → List (List ℕ) → List ℕ
table w c es = concat es ++ replicate (w * (c - length es)) 0
