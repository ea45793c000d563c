-- Numbers of bytes with the low ones first: 02's against the library's.
-- Assumes nothing.
use Rattle.std.proofs.Common.{◌≡◌, refl, ℕ, ◌+◌, ◌*◌, ◌≤◌, List, [], ◌∷◌, length, take, drop, get_or, arith, length-drop, add-zero}
use Rattle.std.proofs.Math.Nat.{div-div-eq-div-mul}
use Rattle.std.proofs.Math.Seq.{get_or-drop}
use Rattle.std.specs.Int.{w16, w64, to_le_bytes, from_le_bytes}
use Rattle.shelf_rules.specs.Table.{low_first, number_in}

-- ---- a number's bytes

pub low_two : (v : ℕ) → low_first 2 v ≡ to_le_bytes w16 v
unfolding low_first
low_two v = refl

pub low_eight : (v : ℕ) → low_first 8 v ≡ to_le_bytes w64 v
unfolding low_first
low_eight v = simp div-div-eq-div-mul

-- ---- the number that bytes are

first_two : (l : List ℕ) → 2 ≤ length l → number_in (take 2 l) ≡ get_or l 0 0 + 256 * get_or l 1 0
unfolding number_in
first_two [] h = absurd (omega arith)
first_two (x ∷ []) h = absurd (omega arith)
first_two (x ∷ y ∷ l) h = rw add-zero

pub number_two : (l : List ℕ) (at : ℕ) → at + 2 ≤ length l → number_in (take 2 (drop at l)) ≡ from_le_bytes w16 (get_or l at 0 ∷ get_or l (at + 1) 0 ∷ [])
number_two l at h =
    let a : get_or (drop at l) 0 0 ≡ get_or l at 0 = rw (get_or-drop, add-zero) in
    let b : get_or (drop at l) 1 0 ≡ get_or l (at + 1) 0 = get_or-drop at l 1 0 in
    omega (arith, a, b, first_two (drop at l) (simp length-drop (omega arith)))

pub number_eight : (b : List ℕ) → length b ≡ 8 → number_in b ≡ from_le_bytes w64 b
unfolding number_in
number_eight [] h = absurd (omega arith)
number_eight (c ∷ []) h = absurd (omega arith)
number_eight (c ∷ d ∷ []) h = absurd (omega arith)
number_eight (c ∷ d ∷ e ∷ []) h = absurd (omega arith)
number_eight (c ∷ d ∷ e ∷ f ∷ []) h = absurd (omega arith)
number_eight (c ∷ d ∷ e ∷ f ∷ g ∷ []) h = absurd (omega arith)
number_eight (c ∷ d ∷ e ∷ f ∷ g ∷ i ∷ []) h = absurd (omega arith)
number_eight (c ∷ d ∷ e ∷ f ∷ g ∷ i ∷ j ∷ []) h = absurd (omega arith)
number_eight (c ∷ d ∷ e ∷ f ∷ g ∷ i ∷ j ∷ k ∷ []) h = omega arith
number_eight (c ∷ d ∷ e ∷ f ∷ g ∷ i ∷ j ∷ k ∷ l ∷ b) h = absurd (omega arith)
