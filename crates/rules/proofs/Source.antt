-- Numbers and identifiers are spelled by the bytes that they were read from: so a writer may copy those of a qualifier out of the text.
-- Assumes nothing.
use mathlib.Core.Path.{◌≡◌, refl, sym, ap, ◌∙◌}
use Prim.Native.Nat.{ℕ, ◌-◌}
use native.Mathlib.Omega.{arith}
use mathlib.Core.Bool.{Bool, true, false}
use mathlib.Core.List.{List, ◌∷◌, ◌++◌, append_assoc}
use lib.Dec.{leb}
use lib.ListN.{length, take, length-append}
use lib.Seq.{take_at}
use Rattle.rules.specs.Bytes.{bytes, largest, pick, value}
use Rattle.rules.specs.Syntax.{Identifier, number, text, of_digits}
use Rattle.rules.specs.Grammar as G
use Rattle.rules.specs.Grammar.{OneOf, Literal, Many, ReadsNumber, ReadsIdentifier, ReadsDotIdentifier, ReadsIdentifiers}
use Rattle.rules.specs.Parse.{ok, read_identifiers}
use Rattle.rules.specs.NormalText.{spell_identifier, tailed, joined}
use Rattle.rules.proofs.Results.{given}
use Rattle.rules.proofs.Sound.{identifiers-sound}
use Rattle.rules.proofs.ReadIn.{run-literal, number-literal}
use Rattle.rules.proofs.Decimal.{value-decimal}

-- ---- what the grammar derives

pub literal-bytes : {w s r : List ℕ} → Literal w s r → s ≡ w ++ r
literal-bytes G.done = refl
literal-bytes (G.byte {c} k) = ap (◌∷◌ c) (literal-bytes k)

-- bytes, and further bytes behind them
bytes-both : {s t : List ℕ} (v w r : List ℕ) → s ≡ v ++ t → t ≡ w ++ r → s ≡ (v ++ w) ++ r
bytes-both v w r d e = d ∙ ap (λ t. v ++ t) e ∙ sym (append_assoc v w r)

-- a number has no leading zeros, and above the largest number digits are a text
digits-spelled : {s w r : List ℕ} (left : ℕ) → ReadsNumber s w r → spell_identifier (of_digits left w) ≡ w
unfolding spell_identifier of_digits
digits-spelled {w} left h = go (leb (value w) largest)
  where
    go : (b : Bool) → spell_identifier (pick b (number (value w)) (text left w)) ≡ w
    go true = value-decimal h
    go false = refl

identifier-bytes : {s r : List ℕ} {i : Identifier} → ReadsIdentifier s i r → s ≡ spell_identifier i ++ r
unfolding spell_identifier
identifier-bytes {s} {r} (ReadsIdentifier.number h) = literal-bytes (number-literal h) ∙ ap (λ w. w ++ r) (sym (digits-spelled (length s) h))
identifier-bytes (G.word (OneOf.one e) k) = literal-bytes (G.byte (run-literal k))

dots-bytes : {s r : List ℕ} {is : List Identifier} → Many ReadsDotIdentifier s is r → s ≡ tailed spell_identifier (bytes ".") is ++ r
unfolding tailed
dots-bytes Many.stop = refl
dots-bytes {r} (Many.more {t} {a = i} {l = is} (G.dot d h) k) =
    bytes-both (bytes "." ++ spell_identifier i) (tailed spell_identifier (bytes ".") is) r
    (bytes-both (bytes ".") (spell_identifier i) t (literal-bytes d) (identifier-bytes h)) (dots-bytes k)

pub identifiers-bytes : {s r : List ℕ} {is : List Identifier} → ReadsIdentifiers s is r → s ≡ joined spell_identifier (bytes ".") is ++ r
unfolding joined
identifiers-bytes {r} (G.identifiers {i} {is} h k) =
    bytes-both (spell_identifier i) (tailed spell_identifier (bytes ".") is) r (identifier-bytes h) (dots-bytes k)

-- ---- what the function reads

module _ (s : List ℕ) (is : List Identifier) (r : List ℕ) (e : read_identifiers s ≡ ok is r) where
  pub identifiers-source : s ≡ joined spell_identifier (bytes ".") is ++ r
  identifiers-source = identifiers-bytes (given (rw e at (identifiers-sound s)))

  pub identifiers-taken : joined spell_identifier (bytes ".") is ≡ take (length s - length r) s
  identifiers-taken = go (joined spell_identifier (bytes ".") is) identifiers-source
    where
      go : (w : List ℕ) → s ≡ w ++ r → w ≡ take (length s - length r) s
      go w h = rw h (sym (take_at w r (length (w ++ r) - length r) (omega (arith, length-append w r))))
