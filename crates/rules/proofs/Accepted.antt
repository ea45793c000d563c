-- When a text is accepted under a mode, and on which condition each of the refusals 1 to 4 is given.
-- Assumes nothing.
use mathlib.Core.Path.{◌≡◌, refl}
use mathlib.Core.Logic.{◌↔◌}
use Prim.Native.Nat.{ℕ, ◌≤◌, ◌<◌}
use native.Mathlib.Omega.{arith}
use mathlib.Core.Bool.{Bool, true, false}
use mathlib.Core.List.{List}
use lib.Dec.{leb}
use lib.ListN.{length}
use borrow.Author.Tests.{leb-true, leb-false, le-leb, lt-leb}
use Rattle.rules.specs.Lists.{each}
use Rattle.rules.specs.Bytes.{pick}
use Rattle.rules.specs.Syntax.{Range}
use Rattle.rules.specs.Grammar.{ReadsText}
use Rattle.rules.specs.Parse.{Result, fail, ok, read_text}
use Rattle.rules.specs.Expansion.{Compat, Reading, expand}
use Rattle.rules.specs.Answers.{Answer, accepted, refused, unless, map_answer, longest, range_fits, reading_fits, derived, derive, checked, reading}
use Rattle.rules.proofs.Sound.{sound}
use Rattle.rules.proofs.Complete.{complete}

-- no reading exists in the grammar
abbrev pub Underivable : List ℕ → Type 0
Underivable t = (rs : List Range) → ReadsText t rs → ⊥

-- each answer with its condition
pub data Decided (m : Compat) (t : List ℕ) : Answer Reading → Type 0 where
  long : longest < length t → Decided m t (refused 1)
  underivable : length t ≤ longest → Underivable t → Decided m t (refused 2)
  large : {rs : List Range} → length t ≤ longest → ReadsText t rs → each range_fits rs ≡ false → Decided m t (refused 3)
  raised : {rs : List Range} → length t ≤ longest → ReadsText t rs → each range_fits rs ≡ true → reading_fits (expand m rs) ≡ false → Decided m t (refused 4)
  accepts : {rs : List Range} → length t ≤ longest → ReadsText t rs → each range_fits rs ≡ true → reading_fits (expand m rs) ≡ true
      → Decided m t (accepted (expand m rs))

-- what is handed back of the ranges that were read, if a test of them passes
abbrev tested : Compat → Answer (List Range) → Answer Reading
tested m a = map_answer (expand m) (unless 4 (λ rs. reading_fits (expand m rs)) (unless 3 (each range_fits) a))

pub decided : (m : Compat) (t : List ℕ) → Decided m t (reading m t)
unfolding reading checked derive derived
decided m t = short (leb (length t) longest) refl
  where
    expanded : (rs : List Range) (b : Bool) → length t ≤ longest → ReadsText t rs → each range_fits rs ≡ true → reading_fits (expand m rs) ≡ b
        → Decided m t (map_answer (expand m) (pick b (accepted rs) (refused 4)))
    expanded rs true l d f e = accepts l d f e
    expanded rs false l d f e = raised l d f e

    fitting : (rs : List Range) (b : Bool) → length t ≤ longest → ReadsText t rs → each range_fits rs ≡ b
        → Decided m t (map_answer (expand m) (unless 4 (λ rs. reading_fits (expand m rs)) (pick b (accepted rs) (refused 3))))
    fitting rs true l d e = expanded rs _ l d e refl
    fitting rs false l d e = large l d e

    found : (x : Result (List Range)) → length t ≤ longest → read_text t ≡ x → Decided m t (tested m (derived x))
    found fail l e = underivable l (λ rs d. let z : ◌≡◌ {A = ℕ} 0 1 = cc (complete d) in omega arith)
    found (ok rs r) l e = fitting rs _ l (sound t rs r e) refl

    short : (b : Bool) → leb (length t) longest ≡ b → Decided m t (tested m (derive (pick b (accepted t) (refused 1))))
    short true e = found (read_text t) (leb-true _ _ e) refl
    short false e = long (leb-false _ _ e)

-- ---- accepted

-- none of 1 to 4 applies to the text, whose reading this is
pub data Accepted (m : Compat) (t : List ℕ) : Reading → Type 0 where
  reads : {rs : List Range} → length t ≤ longest → ReadsText t rs → each range_fits rs ≡ true → reading_fits (expand m rs) ≡ true → Accepted m t (expand m rs)

pub accepted-reading : {m : Compat} {t : List ℕ} {rs : Reading} → Accepted m t rs → reading m t ≡ accepted rs
unfolding reading checked derive derived
accepted-reading {t} (reads l d f g) = rw (reading, checked, le-leb (length t) longest l, complete d, f, g)

pub reading-accepted : (m : Compat) (t : List ℕ) (rs : Reading) → reading m t ≡ accepted rs → Accepted m t rs
reading-accepted m t rs e = go (rw e at (decided m t))
  where
    go : {rs : Reading} → Decided m t (accepted rs) → Accepted m t rs
    go (accepts l d f g) = reads l d f g

-- ---- refused with 1, with 2

pub refused-1 : (m : Compat) (t : List ℕ) → (reading m t ≡ refused 1) ↔ (longest < length t)
unfolding reading checked derive
refused-1 m t = (λ e. go (rw e at (decided m t)), λ h. rw (reading, checked, lt-leb (length t) longest h))
  where
    go : Decided m t (refused 1) → longest < length t
    go (long h) = h

pub refused-2 : (m : Compat) (t : List ℕ) → length t ≤ longest → (reading m t ≡ refused 2) ↔ Underivable t
refused-2 m t l = (λ e. go (rw e at (decided m t)), λ h. back h (reading m t) refl (decided m t))
  where
    go : Decided m t (refused 2) → Underivable t
    go (underivable l h) = h

    back : Underivable t → (a : Answer Reading) → reading m t ≡ a → Decided m t a → reading m t ≡ refused 2
    back h a e (long k) = absurd (omega arith)
    back h a e (underivable k u) = e
    back h a e (large {rs} k d f) = absurd (h rs d)
    back h a e (raised {rs} k d f g) = absurd (h rs d)
    back h a e (accepts {rs} k d f g) = absurd (h rs d)

-- ---- no refusal has the number 0

pub reading-number : (m : Compat) (t : List ℕ) (n : ℕ) → reading m t ≡ refused n → n ≡ 0 → ⊥
reading-number m t n q = go (rw q at (decided m t))
  where
    go : {n : ℕ} → Decided m t (refused n) → n ≡ 0 → ⊥
    go (long h) e = omega arith
    go (underivable l u) e = omega arith
    go (large l d f) e = omega arith
    go (raised l d f g) e = omega arith
