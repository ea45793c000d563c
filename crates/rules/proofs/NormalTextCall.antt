-- The normal text by the reading, each way, and the normal text call's answer by the reading: a law for each refusal, and for acceptance.
-- Assumes nothing.
use mathlib.Core.Path.{◌≡◌, refl, ap}
use mathlib.Core.Logic.{◌↔◌}
use Prim.Native.Nat.{ℕ, ◌≤◌, ◌<◌}
use native.Mathlib.Omega.{arith}
use mathlib.Core.List.{List}
use lib.ListN.{length}
use borrow.Author.Tests.{le-leb, lt-leb}
use Rattle.rules.specs.Expansion.{Compat, Reading}
use Rattle.rules.specs.NormalText.{spell}
use Rattle.rules.specs.Answers.{Answer, accepted, refused, map_answer, reading, normal_text, normal_text_call}

-- ---- what an answer was before a function was applied to it

module _ {A B : Type 0} (f : A → B) where
  map-accepted : (x : Answer A) (b : B) → map_answer f x ≡ accepted b → (a : A) × (x ≡ accepted a) × (b ≡ f a)
  map-accepted (accepted a) b e = (a, refl, cc)
  map-accepted (refused k) b e = let z : ◌≡◌ {A = ℕ} 0 1 = cc in absurd (omega arith)

  map-refused : (x : Answer A) (n : ℕ) → map_answer f x ≡ refused n → x ≡ refused n
  map-refused (accepted a) n e = let z : ◌≡◌ {A = ℕ} 0 1 = cc in absurd (omega arith)
  map-refused (refused k) n e = let z : k ≡ n = cc in ap refused z

-- ---- the normal text

module _ (m : Compat) (t : List ℕ) where
  pub normal_text-accepted : (rs : Reading) → reading m t ≡ accepted rs → normal_text m t ≡ accepted (spell rs)
  unfolding normal_text
  normal_text-accepted rs e = rw e

  pub normal_text-refused : (n : ℕ) → (normal_text m t ≡ refused n) ↔ (reading m t ≡ refused n)
  unfolding normal_text
  normal_text-refused n = (map-refused spell (reading m t) n, λ e. rw e)

  -- a text that has a normal text has a reading, whose spelling that is
  pub normal-reading : (w : List ℕ) → normal_text m t ≡ accepted w → (rs : Reading) × (reading m t ≡ accepted rs) × (w ≡ spell rs)
  unfolding normal_text
  normal-reading w e = map-accepted spell (reading m t) w e

-- ---- the normal text call

module _ (m : Compat) (t : List ℕ) (lent : ℕ) where
  pub normal-refused : (n : ℕ) → reading m t ≡ refused n → normal_text_call m t lent ≡ refused n
  unfolding normal_text_call
  normal-refused n e = rw (normal_text_call, (normal_text-refused m t n).1 e)

  module _ (rs : Reading) (e : reading m t ≡ accepted rs) where
    pub normal-7 : lent < length (spell rs) → normal_text_call m t lent ≡ refused 7
    unfolding normal_text_call
    normal-7 h = rw (normal_text_call, normal_text-accepted m t rs e, lt-leb (length (spell rs)) lent h)

    pub normal-accepts : length (spell rs) ≤ lent → normal_text_call m t lent ≡ accepted (spell rs)
    unfolding normal_text_call
    normal-accepts h = rw (normal_text_call, normal_text-accepted m t rs e, le-leb (length (spell rs)) lent h)
