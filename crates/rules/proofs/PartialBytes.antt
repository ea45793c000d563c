-- No byte of a partial is one that ends a partial: a space, a comma or a bar.
-- Assumes nothing.
use mathlib.Core.Path.{◌≡◌, refl, sym, ap, ◌∙◌}
use Prim.Native.Nat.{ℕ}
use mathlib.Core.Bool.{Bool, true, false}
use mathlib.Core.Option.{Option}
use mathlib.Core.List.{List, ◌∷◌}
use lib.Dec.{eqb}
use borrow.Author.Tests.{eqb-true}
use Rattle.rules.specs.Bytes.{is_digit, is_nonzero, is_letter, is_word, is_wild, is_sign}
use Rattle.rules.specs.Syntax.{Identifier, Partial}
use Rattle.rules.specs.Grammar as G
use Rattle.rules.specs.Grammar.{OneOf, Run, byte, done, Many, ReadsNumber, ReadsComponent, wildcard, ReadsIdentifier, ReadsDotIdentifier, identifiers, ReadsQualifier, absent, signed, ReadsPartial, two, three}
use Rattle.rules.specs.Alike.{ends_partial}

-- a byte of a class is none that the class does not have
pub other : (p : ℕ → Bool) (b : ℕ) {c : ℕ} → p b ≡ false → p c ≡ true → eqb c b ≡ false
other p b {c} n e = go (eqb c b) refl
  where
    go : (t : Bool) → eqb c b ≡ t → t ≡ false
    go false h = refl
    go true h = sym e ∙ ap p (eqb-true c b h) ∙ n

-- no byte of the class ends a partial
abbrev pub Inside : (ℕ → Bool) → Type 0
Inside p = (c : ℕ) → p c ≡ true → ends_partial c ≡ false

inside : (p : ℕ → Bool) → p 32 ≡ false → p 9 ≡ false → p 44 ≡ false → p 124 ≡ false → Inside p
inside p i j k l c e = rw (other p 32 i e, other p 9 j e, other p 44 k e, other p 124 l e)

pub digit-inside : Inside is_digit
unfolding is_digit
digit-inside = inside is_digit refl refl refl refl

pub nonzero-inside : Inside is_nonzero
unfolding is_nonzero
nonzero-inside = inside is_nonzero refl refl refl refl

pub letter-inside : Inside is_letter
unfolding is_letter
letter-inside = inside is_letter refl refl refl refl

pub word-inside : Inside is_word
unfolding is_letter is_digit
word-inside = inside is_word refl refl refl refl

-- ---- from s to r stand bytes of a partial

pub data PartialBytes : List ℕ → List ℕ → Type 0 where
  no_byte : {s : List ℕ} → PartialBytes s s
  a_byte : {c : ℕ} {s r : List ℕ} → ends_partial c ≡ false → PartialBytes s r → PartialBytes (c ∷ s) r

join : {s t r : List ℕ} → PartialBytes s t → PartialBytes t r → PartialBytes s r
join no_byte l = l
join (a_byte e k) l = a_byte e (join k l)

run-bytes : {p : ℕ → Bool} {s v r : List ℕ} → Inside p → Run p s v r → PartialBytes s r
run-bytes i Run.stop = no_byte
run-bytes i (Run.more {c} e h) = a_byte (i c e) (run-bytes i h)

one-bytes : {p : ℕ → Bool} {s t : List ℕ} {c : ℕ} → Inside p → OneOf p s c t → PartialBytes s t
one-bytes i (OneOf.one e) = run-bytes i (Run.more e Run.stop)

number-bytes : {s v r : List ℕ} → ReadsNumber s v r → PartialBytes s r
number-bytes (G.zero (byte done)) = a_byte refl no_byte
number-bytes (G.digits o h) = join (one-bytes nonzero-inside o) (run-bytes digit-inside h)

component_bytes : {s r : List ℕ} {c : Option ℕ} → ReadsComponent s c r → PartialBytes s r
component_bytes (wildcard o) = one-bytes (inside is_wild refl refl refl refl) o
component_bytes (ReadsComponent.number n) = number-bytes n

pub dot-bytes : {s r : List ℕ} {c : Option ℕ} → ReadsComponent s c r → PartialBytes (46 ∷ s) r
dot-bytes c = a_byte refl (component_bytes c)

identifier-bytes : {s r : List ℕ} {i : Identifier} → ReadsIdentifier s i r → PartialBytes s r
identifier-bytes (ReadsIdentifier.number n) = number-bytes n
identifier-bytes (G.word o h) = join (one-bytes letter-inside o) (run-bytes word-inside h)

dots-bytes : {s r : List ℕ} {is : List Identifier} → Many ReadsDotIdentifier s is r → PartialBytes s r
dots-bytes Many.stop = no_byte
dots-bytes (Many.more (G.dot (byte done) i) k) = a_byte refl (join (identifier-bytes i) (dots-bytes k))

pub qualifier-bytes : {s r : List ℕ} {is : List Identifier} → ReadsQualifier s is r → PartialBytes s r
qualifier-bytes absent = no_byte
qualifier-bytes (signed o (identifiers i k)) = join (one-bytes (inside is_sign refl refl refl refl) o) (join (identifier-bytes i) (dots-bytes k))

-- a dot, a component and a qualifier
pub last-bytes : {s t r : List ℕ} {c : Option ℕ} {is : List Identifier} → ReadsComponent s c t → ReadsQualifier t is r → PartialBytes (46 ∷ s) r
last-bytes c q = join (dot-bytes c) (qualifier-bytes q)

-- two components with a dot before each, and a qualifier
pub later-bytes : {s t u r : List ℕ} {c d : Option ℕ} {is : List Identifier} → ReadsComponent s c (46 ∷ t) → ReadsComponent t d u → ReadsQualifier u is r → PartialBytes (46 ∷ s) r
later-bytes c d q = join (dot-bytes c) (last-bytes d q)

pub partial-bytes : {s r : List ℕ} {p : Partial} → ReadsPartial s p r → PartialBytes s r
partial-bytes (ReadsPartial.one c) = component_bytes c
partial-bytes (two c (byte done) d) = join (component_bytes c) (dot-bytes d)
partial-bytes (three c (byte done) d (byte done) e q) = join (component_bytes c) (later-bytes d e q)
