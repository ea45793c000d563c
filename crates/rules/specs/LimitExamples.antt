-- The limits, each written a second time: what stands on either side of one is said by the theorems on the refusals 1, 3, 4 and 8 and on the programs,
-- and shown by the rows of the other tables and by the programs that the gate runs. Theorem 16 holds the definitions to them.
-- Assumes nothing.
use Rattle.std.specs.Prelude.{ℕ, List, [], ◌∷◌}
use Rattle.rules.specs.Bytes.{largest}
use Rattle.rules.specs.Answers.{longest}
use Rattle.rules.specs.Plainform.{longest_input, longest_normal, room}
use Rattle.rules.specs.Admits.{verdict_room}

-- a component; a range text or a version; an input of `plainform`, its normal text, and the bytes lent for both lines; the bytes that `admits` lends
unfoldable pub limits : List (ℕ × ℕ)
limits = (largest, 18446744073709551615) ∷ (longest, 65535) ∷ (longest_input, 4096) ∷ (longest_normal, 32775) ∷ (room, 65562) ∷ (verdict_room, 65567) ∷ []
