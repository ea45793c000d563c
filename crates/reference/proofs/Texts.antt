-- The text of what is read, and what the crate's `parse::<u64>` and `split` make of it.
-- Assumes nothing.
use mathlib.Core.Path.{◌≡◌, refl, sym, ap, ◌∙◌}
use Prim.Native.Nat.{ℕ, ◌-◌}
use native.Mathlib.Omega.{arith}
use mathlib.Core.Bool.{Bool, true, false, not}
use mathlib.Core.Option.{Option, none, some}
use mathlib.Core.List.{List, [], ◌∷◌, ◌++◌, map, append_assoc, append-nil}
use lib.Dec.{eqb, leb}
use lib.ListN.{length, length-append}
use lib.Seq.{take_at}
use borrow.Author.Tests.{eqb-true, not-false}
use Rattle.rules.specs.Lists.{each}
use Rattle.rules.specs.Bytes.{pick, is_digit, is_nonzero, is_letter, is_word, value, largest}
use Rattle.rules.specs.Syntax.{Identifier, number, text, of_digits}
use Rattle.rules.specs.Rows.{placeless}
use Rattle.rules.specs.Grammar as G
use Rattle.rules.specs.Grammar.{OneOf, Run, Literal, Many, ReadsNumber, ReadsIdentifier, ReadsDotIdentifier, ReadsIdentifiers}
use Rattle.rules.proofs.Follows.{passes, nonzero-stops, letter-stops}
use Rattle.reference.specs.Pest.{span}
use Rattle.reference.specs.Rust.{digits-u64, parse-u64, to-first, split}
use Rattle.reference.specs.Range.{identifier-of, identifier}

pub span_of : (w r s : List ℕ) → s ≡ w ++ r → span s r ≡ w
span_of w r s e = rw e (take_at w r (length (w ++ r) - length r) (simp length-append (omega arith)))

pub literal-text : {w s r : List ℕ} → Literal w s r → s ≡ w ++ r
literal-text G.done = refl
literal-text (G.byte {c} k) = ap (c ∷◌) (literal-text k)

run-text : {p : ℕ → Bool} {s w r : List ℕ} → Run p s w r → s ≡ w ++ r
run-text Run.stop = refl
run-text (Run.more {c} e k) = ap (c ∷◌) (run-text k)

run-each : {p : ℕ → Bool} {s w r : List ℕ} → Run p s w r → each p w ≡ true
run-each Run.stop = refl
run-each (Run.more e k) = rw (e, run-each k)

pub number-text : {s w r : List ℕ} → ReadsNumber s w r → s ≡ w ++ r
number-text (ReadsNumber.zero b) = literal-text b
number-text (G.digits (OneOf.one {c} e) k) = ap (c ∷◌) (run-text k)

-- ---- parse::<u64>

-- the number if it fits
abbrev pub bounded : ℕ → Option ℕ
bounded n = pick (leb n largest) (some n) none

nonzero-digit : {s t : List ℕ} {c : ℕ} → OneOf is_nonzero s c t → is_digit c ≡ true
unfolding passes is_digit
nonzero-digit {c} (OneOf.one {s} e) = not-false (is_digit c) (nonzero-stops (λ c. not (is_digit c)) {t = s} refl (OneOf.one e))

pub number-parse : {s w r : List ℕ} → ReadsNumber s w r → parse-u64 w ≡ bounded (value w)
unfolding parse-u64 digits-u64 passes is_digit
number-parse (ReadsNumber.zero b) = refl
number-parse (G.digits (OneOf.one {c} {s} e) k) =
    rw (nonzero-stops (λ c. eqb c 43) {t = s} refl (OneOf.one e)) (rw (nonzero-digit {t = s} (OneOf.one e), run-each k) refl)

-- ---- identifiers

abbrev Dotless : List ℕ → Type 0
Dotless [] = Unit {0}
Dotless (c ∷ w) = (eqb c 46 ≡ false) × Dotless w

split-dot : (w v : List ℕ) → Dotless w → split 46 (w ++ (46 ∷ v)) ≡ w ∷ split 46 v
unfolding split to-first
split-dot [] v h = refl
split-dot (c ∷ w) v h = rw (h.0, split-dot w v h.1)

split-end : (w : List ℕ) → Dotless w → split 46 w ≡ w ∷ []
unfolding split to-first
split-end [] h = refl
split-end (c ∷ w) h = rw (h.0, split-end w h.1)

-- a class that lacks the byte b
other : (q : ℕ → Bool) (b c : ℕ) → q b ≡ false → q c ≡ true → eqb c b ≡ false
other q b c h k = go (eqb c b) refl
  where
    go : (t : Bool) → eqb c b ≡ t → eqb c b ≡ false
    go false e = e
    go true e = let x : true ≡ false = sym k ∙ ap q (eqb-true c b e) ∙ h in cc

run-dotless : (q : ℕ → Bool) → q 46 ≡ false → {s w r : List ℕ} → Run q s w r → Dotless w
run-dotless q h Run.stop = tt
run-dotless q h (Run.more {c} e k) = (other q 46 c h e, run-dotless q h k)

number-dotless : {s w r : List ℕ} → ReadsNumber s w r → Dotless w
unfolding is_digit is_nonzero
number-dotless (ReadsNumber.zero b) = (refl, tt)
number-dotless (G.digits (OneOf.one {c} e) k) = (other is_nonzero 46 c refl e, run-dotless is_digit refl k)

-- the text of an identifier
record Word (s : List ℕ) (i : Identifier) (r : List ℕ) : Type 0 where
  word : List ℕ
  is : s ≡ word ++ r
  dotless : Dotless word
  means : identifier word ≡ placeless i

number-means : (n : ℕ) {s w r : List ℕ} → ReadsNumber s w r → identifier w ≡ placeless (of_digits n w)
unfolding identifier identifier-of placeless of_digits
number-means n {w} k = ap (identifier-of w) (number-parse k) ∙ go (leb (value w) largest)
  where
    go : (t : Bool) → identifier-of w (pick t (some (value w)) none) ≡ placeless (pick t (number (value w)) (text n w))
    go true = refl
    go false = refl

letter-means : (n : ℕ) {s t : List ℕ} {c : ℕ} (w : List ℕ) → OneOf is_letter s c t → identifier (c ∷ w) ≡ placeless (text n (c ∷ w))
unfolding identifier identifier-of placeless parse-u64 digits-u64 passes is_letter is_digit
letter-means n w (OneOf.one {c} {s} e) =
    let z : is_digit c ≡ false = letter-stops is_digit {t = s} {c = c} refl refl refl (OneOf.one e) in rw (other is_letter 43 c refl e) (rw z refl)

identifier-word : {s r : List ℕ} {i : Identifier} → ReadsIdentifier s i r → Word s i r
unfolding is_letter is_digit
identifier-word {s} (ReadsIdentifier.number {w} n) = record { word = w; is = number-text n; dotless = number-dotless n; means = number-means (length s) n }
identifier-word {s} (G.word {c} {w} (OneOf.one {s = t} e) k) =
    record { word = c ∷ w; is = ap (c ∷◌) (run-text k); dotless = (other is_letter 46 c refl e, run-dotless is_word refl k); means = letter-means (length s) {t = t} w (OneOf.one e) }

-- the text of identifiers behind one whose text is v
record Words (v s : List ℕ) (is : List Identifier) (r : List ℕ) : Type 0 where
  words : List ℕ
  here : s ≡ words ++ r
  means : map identifier (split 46 (v ++ words)) ≡ identifier v ∷ map placeless is

dots-words : (v : List ℕ) → Dotless v → {s r : List ℕ} {is : List Identifier} → Many ReadsDotIdentifier s is r → Words v s is r
dots-words v h Many.stop = record { words = []; here = refl; means = rw (append-nil v, split-end v h) refl }
dots-words v h (Many.more {l} (G.dot (G.byte G.done) i) k) =
    let x = identifier-word i in let y = dots-words x.word x.dotless k in
    record {
      words = 46 ∷ (x.word ++ y.words);
      here = ap (46 ∷◌) (x.is ∙ ap (x.word ++◌) y.here ∙ sym (append_assoc x.word y.words _));
      means = ap (map identifier) (split-dot v (x.word ++ y.words) h) ∙ ap (identifier v ∷◌) (y.means ∙ ap (◌∷ map placeless l) x.means);
    }

-- the text of identifiers with dots between, split at its dots
pub identifiers-split : {s r : List ℕ} {is : List Identifier} → ReadsIdentifiers s is r → map identifier (split 46 (span s r)) ≡ map placeless is
identifiers-split {s} {r} (G.identifiers {is} i k) =
    let x = identifier-word i in let y = dots-words x.word x.dotless k in
    ap (λ w. map identifier (split 46 w)) (span_of (x.word ++ y.words) r s (x.is ∙ ap (x.word ++◌) y.here ∙ sym (append_assoc x.word y.words r)))
    ∙ y.means ∙ ap (◌∷ map placeless is) x.means
