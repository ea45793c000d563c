-- Bytes stored with zeros behind them.
-- Assumes nothing.
use Rattle.std.proofs.Common.{◌≡◌, sym, ◌∙◌, ℕ, ◌+◌, ◌-◌, ◌≤◌, List, ◌++◌, length, take, replicate, arith}
use Rattle.std.proofs.lemmas.List.{length-replicate}
use Rattle.std.proofs.Math.Seq.{paste, take_all}
use Rattle.std.proofs.lemmas.List.Edits.{sets}
use lib.Seq.{sets-eq}
use Rattle.rows.specs.Put.{Put}
use Rattle.rows.proofs.Stores.{sets-append}
use Rattle.rows.proofs.Puts.{put_same}

-- a whole list copied is its elements stored
paste-sets : (l z : List ℕ) (i n : ℕ) → length z ≡ n → i + n ≤ length l → paste l i z n ≡ sets l i z
paste-sets l z i n e h =
    let t : take n z ≡ z = take_all n z (omega arith) in
    rw (t, ← e) (sym (sets-eq z l i (omega arith)))

pub padded : (l w k b : List ℕ) (at size i : ℕ) → length w ≤ size → at + size ≤ length l → Put l at w k i
    → b ≡ paste k i (replicate (size - length w) 0) (size - length w) → b ≡ sets l at (w ++ replicate (size - length w) 0)
padded l w k b at size i h r p q =
    let zeros : List ℕ = replicate (size - length w) 0 in
    q ∙ paste-sets k zeros i (size - length w) (length-replicate {A = ℕ} (size - length w) 0) (omega (arith, p.place, put_same p))
    ∙ rw (p.stored, p.place) (sym (sets-append l at w zeros))
