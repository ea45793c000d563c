-- The part of a text from a place on.
-- Assumes nothing.
use Rattle.std.proofs.Common.{ℕ, ◌-◌, List, length, take, drop}

-- the part of s from where n bytes are left, as a slice's rule states it
abbrev pub Rest : List ℕ → ℕ → List ℕ
Rest s n = take (length s - (length s - n)) (drop (length s - n) s)
