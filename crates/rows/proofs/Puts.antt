-- The laws of `Put`, and of a loop that writes.
-- Assumes nothing.
use mathlib.Core.Path.{◌≡◌, refl, sym, ap, ◌∙◌}
use mathlib.Core.List.{List, [], ◌∷◌, ◌++◌}
use Prim.Native.Nat.{ℕ, ◌+◌, ◌-◌, ◌≤◌}
use native.Mathlib.Omega.{arith}
use lib.ListN.{length, take, drop, set, length-append}
use lib.Seq.{sets, length-sets}
use borrow.Rule.Slice.PartMut.{put_mid}
use Rattle.rows.specs.Put.{Put, onto}
use Rattle.rows.proofs.Stores.{sets-append, part-back, sets-onto}

-- ---- what a writer promises

-- one store
pub put_one : (l : List ℕ) (at d : ℕ) → Put l at (d ∷ []) (set l at d) (at + 1)
put_one l at d = record { stored = refl; place = refl }

-- one writer after another
pub put_then : {l m r v w : List ℕ} {i j k : ℕ} → Put l i v m j → Put m j w r k → Put l i (v ++ w) r k
put_then {l} {v = v} {w = w} {i = i} p q =
    record {
      stored = rw (sets-append l i v w, ← p.stored, ← p.place) q.stored;
      place = omega (arith, p.place, q.place, length-append v w);
    }

-- a writer to a part that was lent, `&mut l[at..]`, is one to the whole
pub put-part : {l y w : List ℕ} {at n : ℕ} → Put (take (length l - at) (drop at l)) 0 w y n → Put l at w (put_mid at (length l - at) l y) (at + n)
put-part {l} {w = w} {at = at} p =
    record { stored = part-back l at w p.stored; place = omega (arith, p.place) }

pub put_same : {l m w : List ℕ} {i j : ℕ} → Put l i w m j → length m ≡ length l
put_same {l} {w = w} {i = i} p = ap length p.stored ∙ length-sets l i w

-- what was written, then what was there
pub put-onto : {l m w : List ℕ} {n : ℕ} → Put l 0 w m n → length w ≤ length l → m ≡ onto w l
put-onto {l} {w = w} p h = p.stored ∙ sets-onto w l h

-- ---- a loop that writes

-- What is to be stored begins with w. A record, so that w and rest need not be written where it is handed on.
pub record Begins (todo w rest : List ℕ) : Type 0 where
  pub split : todo ≡ w ++ rest

pub begins-length : {todo w rest : List ℕ} → Begins todo w rest → length todo ≡ length w + length rest
begins-length {w = w} {rest = rest} b = ap length b.split ∙ length-append w rest

-- The slice was `start`, and is to get `all` from `from` on. It is `now`, and `rest` is still to be stored from `at` on.
pub record Writing (start : List ℕ) (from : ℕ) (all now : List ℕ) (at : ℕ) (rest : List ℕ) : Type 0 where
  pub stores : sets now at rest ≡ sets start from all
  pub place : at + length rest ≡ from + length all
  pub same : length now ≡ length start

pub writing_start : (start : List ℕ) (from : ℕ) (all : List ℕ) → Writing start from all start from all
writing_start start from all = record { stores = refl; place = refl; same = refl }

-- what is still to be stored, said otherwise
pub writing-todo : {start all now v w : List ℕ} {from at : ℕ} → v ≡ w → Writing start from all now at v → Writing start from all now at w
writing-todo e h = rw e at h

-- a turn stored what comes next
pub writing-put : {start all now todo w rest y : List ℕ} {from at n : ℕ} → Writing start from all now at todo → Begins todo w rest
    → Put now at w y n → Writing start from all y n rest
writing-put {now = now} {w = w} {rest = rest} {at = at} g t p =
    record {
      stores = rw (p.stored, p.place) (sym (sets-append now at w rest) ∙ rw t.split at g.stores);
      place = omega (arith, begins-length t, p.place, g.place);
      same = put_same p ∙ g.same;
    }

-- there is room for what comes next, in the slice and in the part from `at` on
pub writing-next : {start all now todo w rest : List ℕ} {from at : ℕ} → Writing start from all now at todo → Begins todo w rest
    → from + length all ≤ length start → at + length w ≤ length now
writing-next g t room = omega (arith, begins-length t, g.place, g.same)

-- nothing is left to store
pub writing-end : {start all now : List ℕ} {from at : ℕ} → Writing start from all now at [] → Put start from all now at
writing-end g = record { stored = g.stores; place = omega (arith, g.place) }
