-- When a version text is accepted, and on which condition each of the refusals 8 and 9 is given.
-- Assumes nothing.
use mathlib.Core.Path.{◌≡◌, refl}
use mathlib.Core.Logic.{◌↔◌, ◌⊎◌, inl, inr}
use Prim.Native.Nat.{ℕ, ◌≤◌, ◌<◌}
use native.Mathlib.Omega.{arith}
use mathlib.Core.Bool.{Bool, true, false}
use mathlib.Core.List.{List}
use lib.Dec.{leb}
use lib.ListN.{length}
use borrow.Author.Tests.{leb-true, leb-false, le-leb}
use Rattle.rules.specs.Bytes.{pick}
use Rattle.rules.specs.Parse.{Result, fail, ok}
use Rattle.rules.specs.Answers.{Answer, accepted, refused, unless, longest}
use Rattle.rules.specs.Version.{Version, ReadsVersion, read_version}
use Rattle.rules.specs.Admission.{versioned, version_fits, version_of}
use Rattle.rules.proofs.VersionSound.{sound}
use Rattle.rules.proofs.VersionComplete.{complete}

-- the text is no version in the grammar
abbrev pub Underivable : List ℕ → Type 0
Underivable s = (v : Version) → ReadsVersion s v → ⊥

-- each answer with its condition
pub data Decided (s : List ℕ) : Answer Version → Type 0 where
  long : longest < length s → Decided s (refused 8)
  underivable : Underivable s → Decided s (refused 8)
  large : {v : Version} → length s ≤ longest → ReadsVersion s v → version_fits v ≡ false → Decided s (refused 9)
  accepts : {v : Version} → length s ≤ longest → ReadsVersion s v → version_fits v ≡ true → Decided s (accepted v)

pub decided : (s : List ℕ) → Decided s (version_of s)
unfolding version_of versioned
decided s = short (leb (length s) longest) refl
  where
    fitting : (v : Version) (b : Bool) → length s ≤ longest → ReadsVersion s v → version_fits v ≡ b → Decided s (pick b (accepted v) (refused 9))
    fitting v true l d e = accepts l d e
    fitting v false l d e = large l d e

    found : (x : Result Version) → length s ≤ longest → read_version s ≡ x → Decided s (unless 9 version_fits (versioned x))
    found fail l e = underivable (λ v d. let z : ◌≡◌ {A = ℕ} 0 1 = cc (complete d) in omega arith)
    found (ok v r) l e = fitting v _ l (sound s v r e) refl

    short : (b : Bool) → leb (length s) longest ≡ b → Decided s (unless 9 version_fits (pick b (versioned (read_version s)) (refused 8)))
    short true e = found (read_version s) (leb-true _ _ e) refl
    short false e = long (leb-false _ _ e)

-- ---- the refusals

pub refused-8 : (s : List ℕ) → (version_of s ≡ refused 8) ↔ ((longest < length s) ⊎ Underivable s)
refused-8 s = (λ e. go (rw e at (decided s)), λ h. back h (decided s) refl)
  where
    go : Decided s (refused 8) → (longest < length s) ⊎ Underivable s
    go (long l) = inl l
    go (underivable n) = inr n

    back : (longest < length s) ⊎ Underivable s → {a : Answer Version} → Decided s a → version_of s ≡ a → version_of s ≡ refused 8
    back h (long l) e = e
    back h (underivable n) e = e
    back (inl k) (large l d f) e = absurd (omega arith)
    back (inr n) (large {v} l d f) e = absurd (n v d)
    back (inl k) (accepts l d f) e = absurd (omega arith)
    back (inr n) (accepts {v} l d f) e = absurd (n v d)

pub refused-9 : (s : List ℕ) (v : Version) → length s ≤ longest → ReadsVersion s v → (version_of s ≡ refused 9) ↔ (version_fits v ≡ false)
unfolding version_of versioned
refused-9 s v l d = (λ e. go (version_fits v) refl (rw (le-leb (length s) longest l, complete d) at e), λ f. rw (le-leb (length s) longest l, complete d, f))
  where
    go : (b : Bool) → version_fits v ≡ b → pick b (accepted v) (refused 9) ≡ refused 9 → version_fits v ≡ false
    go true f e = let z : ◌≡◌ {A = ℕ} 0 1 = cc in absurd (omega arith)
    go false f e = f
