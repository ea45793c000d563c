-- What the grammar derives of a version, the function reads; so a text is at most one version.
-- Assumes nothing.
use mathlib.Core.Path.{◌≡◌, refl}
use Prim.Native.Nat.{ℕ, zero, suc, ◌≤◌, ◌<◌}
use native.Mathlib.Omega.{arith}
use mathlib.Core.Bool.{Bool, true, false, ◌||◌}
use mathlib.Core.List.{List, [], ◌∷◌}
use lib.Dec.{leb, eqb}
use lib.ListN.{length}
use borrow.Author.Tests.{leb-true, le-leb}
use Rattle.rules.specs.Lists.{each}
use Rattle.rules.specs.Bytes.{bytes, is_digit, is_nonzero, is_letter, is_word}
use Rattle.rules.specs.Syntax.{Identifier}
use Rattle.rules.specs.Grammar as G
use Rattle.rules.specs.Grammar.{OneOf, Run, Many, ReadsNumber}
use Rattle.rules.specs.Parse.{Result, ok, ◌then◌, choose, many, read_number, at_end}
use Rattle.rules.specs.Version.{Version, ReadsWord, ReadsVersionIdentifier, AfterDot, Series, ReadsVersion, read_word, leads_zero, read_version_identifier, read_after_dot, read_series, read_version}
use Rattle.rules.proofs.Follows.{Stops, both, passes, nonzero-stops}
use Rattle.rules.proofs.Complete.{one_left, literal-left, run-left, number-left, many-left, one-read, literal-read, Lacks, literal-fails, run-read, number_read, dot_word, dot-digit, many-fails}

-- ---- identifiers

word-left : {s w r : List ℕ} → ReadsWord s w r → length r < length s
word-left (ReadsWord.word o k) = omega (arith, one_left o, run-left k)

version_identifier-left : {s r : List ℕ} {i : Identifier} → ReadsVersionIdentifier s i r → length r < length s
version_identifier-left (ReadsVersionIdentifier.number n) = number-left n
version_identifier-left (ReadsVersionIdentifier.mixed h e) = word-left h

word_read : {s w r : List ℕ} → ReadsWord s w r → Stops is_word r → read_word s ≡ ok w r
unfolding read_word ◌then◌
word_read (ReadsWord.word o k) h = rw (one-read o, run-read k h)

-- a number is a word of digits without a leading zero
digit-word : (c : ℕ) → is_digit c ≡ true → is_word c ≡ true
digit-word c e = rw e (go (is_letter c))
  where
    go : (b : Bool) → (b || true) ≡ true
    go true = refl
    go false = refl

nonzero-digit : (c : ℕ) → is_nonzero c ≡ true → is_digit c ≡ true
unfolding is_digit is_nonzero
nonzero-digit c e =
    let (x, y) = both (leb 49 c) (leb c 57) e in
    let h = leb-true 49 c x in
    rw (le-leb 48 c (omega arith), y)

run-word : {s w r : List ℕ} → Run is_digit s w r → Run is_word s w r
run-word Run.stop = Run.stop
run-word (Run.more {c} e k) = Run.more (digit-word c e) (run-word k)

run-each : {p : ℕ → Bool} {s w r : List ℕ} → Run p s w r → each p w ≡ true
run-each Run.stop = refl
run-each (Run.more e k) = rw (e, run-each k)

number_word : {s w r : List ℕ} → ReadsNumber s w r → ReadsWord s w r
unfolding is_letter is_digit
number_word (ReadsNumber.zero (G.byte G.done)) = ReadsWord.word (OneOf.one refl) Run.stop
number_word (G.digits (OneOf.one {c} e) k) = ReadsWord.word (OneOf.one (digit-word c (nonzero-digit c e))) (run-word k)

pub number_digits : {s w r : List ℕ} → ReadsNumber s w r → each is_digit w ≡ true
unfolding is_digit
number_digits (ReadsNumber.zero b) = refl
number_digits (G.digits (OneOf.one {c} e) k) = rw (nonzero-digit c e, run-each k)

number-leads : {s w r : List ℕ} → ReadsNumber s w r → leads_zero w ≡ false
unfolding passes
number-leads (ReadsNumber.zero b) = refl
number-leads (G.digits o Run.stop) = refl
number-leads (G.digits (OneOf.one {s} e) (Run.more q k)) = nonzero-stops (λ c. eqb c 48) {t = s} refl (OneOf.one e)

pub version_identifier-read : {s r : List ℕ} {i : Identifier} → ReadsVersionIdentifier s i r → Stops is_word r → read_version_identifier s ≡ ok i r
unfolding read_version_identifier ◌then◌
version_identifier-read (ReadsVersionIdentifier.number n) h = rw (word_read (number_word n) h, number_digits n, number-leads n)
version_identifier-read (ReadsVersionIdentifier.mixed k e) h = rw (word_read k h, e)

-- ---- a series, before what is no part of it

-- it begins with its sign, or it is what follows
series-stops : {A : Type 0} {P : List ℕ → A → List ℕ → Type 0} (q : ℕ → Bool) {b : ℕ} {s r : List ℕ} {l : List A}
    → q b ≡ false → Series (b ∷ []) P s l r → Stops q r → Stops q s
series-stops q e Series.absent h = h
series-stops q e (Series.signed (G.byte k) p m) h = e

module _ {A : Type 0} {P : List ℕ → A → List ℕ → Type 0} {f : List ℕ → Result A}
    (left : (s r : List ℕ) (a : A) → P s a r → length r < length s) (read : (s r : List ℕ) (a : A) → P s a r → Stops is_word r → f s ≡ ok a r) where
  after_dot-left : (s r : List ℕ) (a : A) → AfterDot P s a r → length r < length s
  after_dot-left s r a (AfterDot.dot b p) = omega (arith, literal-left b, left _ _ a p)

  after_dots-word : {s r : List ℕ} {l : List A} → Many (AfterDot P) s l r → Stops is_word r → Stops is_word s
  after_dots-word Many.stop h = h
  after_dots-word (Many.more (AfterDot.dot b p) k) h = dot_word b

  after_dots-read : {s r : List ℕ} {l : List A} (k : ℕ) → length l ≤ k → Many (AfterDot P) s l r → Stops is_word r → Lacks 46 r → many (read_after_dot f) k s ≡ ok l r
  unfolding many read_after_dot ◌then◌ choose
  after_dots-read {r} k h Many.stop i j = many-fails (read_after_dot f) k r (rw (literal-fails 46 [] r j))
  after_dots-read zero h (Many.more p m) i j = absurd (omega arith)
  after_dots-read (suc k) h (Many.more (AfterDot.dot b p) m) i j = rw (literal-read b, read _ _ _ p (after_dots-word m i), after_dots-read k (omega arith) m i j)

  series-read : {b : ℕ} {s r : List ℕ} {l : List A} → Series (b ∷ []) P s l r → Stops is_word r → Lacks 46 r → Lacks b r → read_series (b ∷ []) f s ≡ ok l r
  unfolding read_series ◌then◌ choose
  series-read {b} {r} Series.absent i j h = rw (literal-fails b [] r h)
  series-read (Series.signed {u} k p m) i j h =
      rw (literal-read k, read _ _ _ p (after_dots-word m i), after_dots-read (length u) (let x = many-left after_dot-left m in omega arith) m i j)

-- ---- versions

after_dot-digit : {s w r : List ℕ} → AfterDot ReadsNumber s w r → Stops is_digit s
after_dot-digit (AfterDot.dot b n) = dot-digit b

after_dot-read : {s w r : List ℕ} → AfterDot ReadsNumber s w r → Stops is_digit r → read_after_dot read_number s ≡ ok w r
unfolding read_after_dot ◌then◌
after_dot-read (AfterDot.dot b n) h = rw (literal-read b, number_read n h)

-- a build part, or none, is all that is left
prerelease-read : {s r : List ℕ} {is : List Identifier} {build : List (List ℕ)} → Series (bytes "-") ReadsVersionIdentifier s is r
    → Series (bytes "+") ReadsWord r build [] → read_series (bytes "-") read_version_identifier s ≡ ok is r
unfolding is_digit is_letter
prerelease-read {r} is build =
    series-read (λ s r i. version_identifier-left) (λ s r i. version_identifier-read) is (ends is_word refl) (ends _ refl) (ends _ refl)
  where
    ends : (q : ℕ → Bool) → q 43 ≡ false → Stops q r
    ends q e = series-stops q e build tt

build-read : {s : List ℕ} {build : List (List ℕ)} → Series (bytes "+") ReadsWord s build [] → read_series (bytes "+") read_word s ≡ ok build []
build-read build = series-read (λ s r w. word-left) (λ s r w. word_read) build tt tt tt

pub complete : {s : List ℕ} {v : Version} → ReadsVersion s v → read_version s ≡ ok v []
unfolding read_version ◌then◌ at_end is_digit
complete (ReadsVersion.whole a b c is build) =
    let h = series-stops is_digit refl is (series-stops is_digit refl build tt) in
    rw (number_read a (after_dot-digit b), after_dot-read b (after_dot-digit c), after_dot-read c h, prerelease-read is build, build-read build)

-- so a text is at most one version
pub unambiguous : {s : List ℕ} {v w : Version} → ReadsVersion s v → ReadsVersion s w → v ≡ w
unambiguous h k = cc (complete h, complete k)
