-- Theorem 8: each text identifier of an accepted reading lies within the text, where its bytes stand.
-- Assumes nothing.
use mathlib.Core.Path.{◌≡◌, refl, ap}
use Prim.Native.Nat.{ℕ, suc, ◌-◌, ◌≤◌}
use native.Mathlib.Omega.{arith}
use mathlib.Core.Bool.{Bool, true, false}
use mathlib.Core.List.{List, ◌∷◌}
use lib.Dec.{leb}
use lib.ListN.{length, take}
use Rattle.rules.specs.Lists.{All}
use Rattle.rules.specs.Bytes.{value, largest, pick}
use Rattle.rules.specs.Syntax.{Identifier, number, text, of_digits}
use Rattle.rules.specs.Grammar as G
use Rattle.rules.specs.Grammar.{OneOf, Literal, ReadsIdentifier}
use Rattle.rules.specs.Expansion.{Compat, Reading}
use Rattle.rules.specs.Rows.{all_identifiers, InText}
use Rattle.rules.specs.Answers.{accepted, reading}
use Rattle.rules.proofs.Accepted.{Accepted, reads, reading-accepted}
use Rattle.rules.proofs.All.{all-weaken}
use Rattle.rules.proofs.Kept.{expand-kept}
use Rattle.rules.proofs.ReadIn.{Behind, here, next, run-literal, number-literal, ReadIn, text-holds}

-- ---- an identifier where it is read

literal-take : {w s r : List ℕ} → Literal w s r → take (length w) s ≡ w
literal-take G.done = refl
literal-take (G.byte {c} k) = ap (◌∷◌ c) (literal-take k)

literal-length : {w s r : List ℕ} → Literal w s r → length w ≤ length s
literal-length G.done = omega arith
literal-length (G.byte k) = let h = literal-length k in omega arith

literal-in : {w s r : List ℕ} → Literal w s r → InText s (text (length s) w)
literal-in {s} k = let e : length s - length s ≡ 0 = omega arith in (omega arith, literal-length k, rw e (literal-take k))

digits_in : {w s r : List ℕ} → Literal w s r → InText s (of_digits (length s) w)
unfolding of_digits
digits_in {w} {s} k = go (leb (value w) largest)
  where
    go : (b : Bool) → InText s (pick b (number (value w)) (text (length s) w))
    go true = tt
    go false = literal-in k

-- a byte before the text leaves it in place, since places count from the end
next-in : (c : ℕ) (s : List ℕ) (i : Identifier) → InText s i → InText (c ∷ s) i
next-in c s (number v) h = tt
next-in c s (text left w) (b, l, e) = let k : suc (length s) - left ≡ suc (length s - left) = omega arith in (omega arith, l, rw k e)

-- so wherever it is read
read-in : {t s : List ℕ} (i : Identifier) → Behind t s → InText s i → InText t i
read-in i here h = h
read-in i (next {c} {s} k) h = next-in c s i (read-in i k h)

identifier-in : (t : List ℕ) (i : Identifier) → ReadIn t i → InText t i
identifier-in t i h = read-in i h.behind (own h.read)
  where
    own : {s r : List ℕ} {i : Identifier} → ReadsIdentifier s i r → InText s i
    own (ReadsIdentifier.number n) = digits_in (number-literal n)
    own (G.word (OneOf.one e) k) = literal-in (G.byte (run-literal k))

-- ---- the places

places-accepted : {m : Compat} {t : List ℕ} {rs : Reading} → Accepted m t rs → All (InText t) (all_identifiers rs)
places-accepted {m} {t} (reads {rs} l h f g) = expand-kept (InText t) m rs (all-weaken (identifier-in t) (text-holds h))

pub places : (m : Compat) (t : List ℕ) (rs : Reading) → reading m t ≡ accepted rs → All (InText t) (all_identifiers rs)
places m t rs e = places-accepted (reading-accepted m t rs e)
