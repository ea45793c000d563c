-- A call under the mode with a number.
-- Assumes nothing.
use Prim.Native.Nat.{ℕ}
use mathlib.Core.Path.{◌≡◌, refl, sym}
use mathlib.Core.Option.{none, some}
use Rattle.rules.specs.Expansion as E
use Rattle.rules.specs.Expansion.{mode_from}
use Rattle.rules.specs.Answers.{Answer, refused}
use Rattle.rules.specs.Exported.{under}

module _ (k : ℕ) {A : Type 0} (f : E.Compat → Answer A) where
  -- the number is a mode's
  pub under-mode : (m : E.Compat) → some m ≡ mode_from k → f m ≡ under k f
  unfolding under
  under-mode m e = rw (sym e) refl

  -- it is none
  pub under_none : none ≡ mode_from k → under k f ≡ refused 255
  unfolding under
  under_none e = rw (sym e) refl
