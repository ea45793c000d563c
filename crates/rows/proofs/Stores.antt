-- Laws of words stored one after another, `sets` of `lib.Seq`.
-- Assumes nothing.
use mathlib.Core.Path.{◌≡◌, refl, sym, ap, ◌∙◌}
use mathlib.Core.List.{List, [], ◌∷◌, ◌++◌, append-nil}
use Prim.Native.Nat.{ℕ, zero, suc, ◌+◌, ◌-◌, ◌≤◌}
use native.Mathlib.Nat.{add-zero, zero-add, add-suc, suc-add}
use native.Mathlib.Omega.{arith}
use lib.ListN.{length, take, drop, set, length-drop, drop_of_length-le}
use lib.Seq.{sets, sets-eq, take_all}
use borrow.Rule.Slice.PartMut.{put_mid}
use Rattle.rows.specs.Put.{onto}

-- ---- the words of two lists

pub sets-append : (l : List ℕ) (i : ℕ) (a b : List ℕ) → sets l i (a ++ b) ≡ sets (sets l i a) (i + length a) b
sets-append l i [] b = rw add-zero
sets-append l i (x ∷ a) b = rw (add-suc, ← suc-add) (sets-append (set l i x) (suc i) a b)

-- ---- words stored to a part

-- behind the first element
sets-cons : (x : ℕ) (l : List ℕ) (i : ℕ) (w : List ℕ) → sets (x ∷ l) (suc i) w ≡ x ∷ sets l i w
sets-cons x l i [] = refl
sets-cons x l i (y ∷ w) = sets-cons x (set l i y) (suc i) w

sets-nil : (i : ℕ) (w : List ℕ) → sets [] i w ≡ []
sets-nil i [] = refl
sets-nil zero (y ∷ w) = sets-nil 1 w
sets-nil (suc i) (y ∷ w) = sets-nil (suc (suc i)) w

-- to the part from a on
sets-tail : (l : List ℕ) (a : ℕ) (w : List ℕ) → take a l ++ sets (drop a l) 0 w ≡ sets l a w
sets-tail l zero w = refl
sets-tail [] (suc a) w = rw (sets-nil, sets-nil)
sets-tail (x ∷ l) (suc a) w = ap (λ (r : List ℕ). x ∷ r) (sets-tail l a w) ∙ sym (sets-cons x l a w)

-- a part that was lent, `&mut l[a..]`, and comes back as y with w stored: w is stored in l
pub part-back : (l : List ℕ) (a : ℕ) (w : List ℕ) {y : List ℕ} → y ≡ sets (take (length l - a) (drop a l)) 0 w
    → put_mid a (length l - a) l y ≡ sets l a w
part-back l a w {y} h =
    let n : length (drop a l) ≡ length l - a = length-drop a l in
    let e : drop (length l - a) (drop a l) ≡ [] = drop_of_length-le (drop a l) {i = length l - a} (omega arith) in
    rw (h, e, append-nil, take_all (length l - a) (drop a l) (omega arith)) (sets-tail l a w)

-- ---- what was stored, then what was there

pub sets-onto : (w l : List ℕ) → length w ≤ length l → sets l 0 w ≡ onto w l
sets-onto w l h = rw zero-add at (sets-eq w l 0 (rw zero-add h))
