-- What the function reads of a version, the grammar derives.
-- Assumes nothing.
use mathlib.Core.Path.{◌≡◌, refl}
use Prim.Native.Nat.{ℕ, ◌≤◌}
use native.Mathlib.Omega.{arith}
use mathlib.Core.Bool.{Bool, true, false}
use mathlib.Core.List.{List, [], ◌∷◌}
use lib.Dec.{leb, eqb}
use lib.ListN.{length}
use borrow.Author.Tests.{leb-true, eqb-true, eqb-false, le-leb}
use Rattle.rules.specs.Lists.{each}
use Rattle.rules.specs.Bytes.{bytes, pick, is_digit, is_nonzero, is_word}
use Rattle.rules.specs.Syntax.{of_digits, text}
use Rattle.rules.specs.Grammar as G
use Rattle.rules.specs.Grammar.{OneOf, Run, ReadsNumber}
use Rattle.rules.specs.Parse.{Result, fail, ok, ◌then◌, run}
use Rattle.rules.specs.Version.{Version, ReadsWord, ReadsVersionIdentifier, AfterDot, Series, ReadsVersion, read_word, leads_zero, read_version_identifier, read_after_dot, read_series, read_version}
use Rattle.rules.proofs.Results.{Gives, nothing, gives, given, gives-map, gives_then, gives-choose}
use Rattle.rules.proofs.Sound.{one_of-sound, run_sound, literal-sound, many-sound, number-sound, at_end-sound}
use Rattle.rules.proofs.Follows.{both}

-- ---- identifiers

pub word_sound : (s : List ℕ) → Gives (ReadsWord s) (read_word s)
unfolding read_word run ◌then◌
word_sound s = gives_then (one_of-sound is_word s) λ c t h. gives (ReadsWord.word h (run_sound is_word t))

digit-nonzero : (c : ℕ) → is_digit c ≡ true → eqb c 48 ≡ false → is_nonzero c ≡ true
unfolding is_digit is_nonzero
digit-nonzero c e n =
    let (x, y) = both (leb 48 c) (leb c 57) e in
    let h : c ≡ 48 → ⊥ = eqb-false c 48 n in
    let l : 48 ≤ c = leb-true 48 c x in
    rw (le-leb 49 c (omega arith), y)

run-digits : {s w r : List ℕ} → Run is_word s w r → each is_digit w ≡ true → Run is_digit s w r
run-digits Run.stop e = Run.stop
run-digits (Run.more {c} {w} p k) e = let (x, y) = both (is_digit c) (each is_digit w) e in Run.more x (run-digits k y)

-- a word of digits without a leading zero is a number
pub word_number : {s w r : List ℕ} → ReadsWord s w r → each is_digit w ≡ true → leads_zero w ≡ false → ReadsNumber s w r
word_number (ReadsWord.word {c} {w} (OneOf.one p) k) e z = let (x, y) = both (is_digit c) (each is_digit w) e in go x z (run-digits k y)
  where
    single : {s : List ℕ} (b : Bool) → eqb c 48 ≡ b → is_digit c ≡ true → ReadsNumber (c ∷ s) (c ∷ []) s
    single true q x = rw (eqb-true c 48 q) (G.zero (G.byte G.done))
    single false q x = G.digits (OneOf.one (digit-nonzero c x q)) Run.stop

    go : {s w r : List ℕ} → is_digit c ≡ true → leads_zero (c ∷ w) ≡ false → Run is_digit s w r → ReadsNumber (c ∷ s) (c ∷ w) r
    go x z Run.stop = single (eqb c 48) refl x
    go x z (Run.more p k) = G.digits (OneOf.one (digit-nonzero c x z)) (Run.more p k)

pub version_identifier-sound : (s : List ℕ) → Gives (ReadsVersionIdentifier s) (read_version_identifier s)
unfolding read_version_identifier
version_identifier-sound s = gives_then (word_sound s) λ w r h. go h (each is_digit w) refl
  where
    digits : {w r : List ℕ} → ReadsWord s w r → each is_digit w ≡ true → (b : Bool) → leads_zero w ≡ b
        → Gives (ReadsVersionIdentifier s) (pick b fail (ok (of_digits (length s) w) r))
    digits h e true z = nothing
    digits h e false z = gives (ReadsVersionIdentifier.number (word_number h e z))

    go : {w r : List ℕ} → ReadsWord s w r → (b : Bool) → each is_digit w ≡ b
        → Gives (ReadsVersionIdentifier s) (pick b (pick (leads_zero w) fail (ok (of_digits (length s) w) r)) (ok (text (length s) w) r))
    go {w} h true e = digits h e (leads_zero w) refl
    go h false e = gives (ReadsVersionIdentifier.mixed h e)

-- ---- versions

module _ {A : Type 0} {P : List ℕ → A → List ℕ → Type 0} (f : List ℕ → Result A) (h : (s : List ℕ) → Gives (P s) (f s)) where
  after_dot-sound : (s : List ℕ) → Gives (AfterDot P s) (read_after_dot f s)
  unfolding read_after_dot
  after_dot-sound s = gives_then (literal-sound (bytes ".") s) λ u t k. gives-map (h t) λ a r l. AfterDot.dot k l

  series-sound : (sign s : List ℕ) → Gives (Series sign P s) (read_series sign f s)
  unfolding read_series
  series-sound sign s =
      gives-choose (literal-sound sign s) (λ u t k.
      gives_then (h t) λ a v l. gives_then (many-sound (read_after_dot f) after_dot-sound (length v) v) λ b r m. gives (Series.signed k l m)) (gives Series.absent)

version-sound : (s : List ℕ) → Gives (λ v r. ReadsVersion s v) (read_version s)
unfolding read_version
version-sound s =
    gives_then (number-sound s) λ a t ha. gives_then (after_dot-sound _ number-sound t) λ b u hb. gives_then (after_dot-sound _ number-sound u) λ c v hc.
    gives_then (series-sound _ version_identifier-sound (bytes "-") v) λ is w hi. gives_then (series-sound _ word_sound (bytes "+") w) λ build r hw.
    gives_then (at_end-sound r) λ x e q. gives (ReadsVersion.whole ha hb hc hi (rw q at hw))

pub sound : (s : List ℕ) (v : Version) (r : List ℕ) → read_version s ≡ ok v r → ReadsVersion s v
sound s v r e = given (rw e at (version-sound s))
