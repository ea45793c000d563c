-- What the code hands back of a number in a row.
-- Assumes nothing.
use Rattle.std.specs.Prelude.{ℕ, Option, Some, None}
use Rattle.rules.specs.Bytes.{largest}
use Rattle.rules.specs.Parse.{Result, fail, ok}

-- 0 where there is none, and the largest where it is too large
abbrev pub number_at : Result (Option ℕ) → ℕ
number_at fail = 0
number_at (ok None r) = largest
number_at (ok (Some v) r) = v
