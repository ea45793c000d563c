-- Bytes copied into lent memory, one behind another.
-- Assumes nothing.
use Rattle.std.proofs.Common.{ℕ, ◌+◌, ◌<◌, List, length, take, get_or, set, arith}
use Rattle.std.proofs.lemmas.List.{take_more}
use Rattle.rows.specs.Put.{Put}
use Rattle.rows.proofs.Puts.{put_one, put_then}

-- the byte behind those that are copied
pub copied_more : (start w now : List ℕ) (at i : ℕ) → Put start at (take i w) now (at + i) → i < length w
    → Put start at (take (i + 1) w) (set now (at + i) (get_or w i 0)) (at + (i + 1))
copied_more start w now at i p h =
    let q = put_then p (put_one now (at + i) (get_or w i 0)) in
    record { stored = rw (take_more w i 0 h) q.stored; place = rw (take_more w i 0 h) (omega (arith, q.place)) }
