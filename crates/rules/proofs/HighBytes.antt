-- Bytes at or above 80 hexadecimal have no reading: each byte that the grammar reads is below it.
-- Assumes nothing.
use mathlib.Core.Path.{◌≡◌, refl}
use Prim.Native.Nat.{ℕ, ◌≤◌, ◌<◌}
use native.Mathlib.Omega.{arith}
use mathlib.Core.Logic.{inl, inr}
use mathlib.Core.Bool.{Bool, true, ◌||◌}
use mathlib.Core.Option.{Option}
use mathlib.Core.List.{List}
use lib.Dec.{eqb, ltb, leb}
use lib.ListN.{length}
use borrow.Author.Tests.{eqb-true, leb-true, ltb-true}
use Rattle.rules.specs.Lists.{each, All, all[], all∷, Some, here, there}
use Rattle.rules.specs.Bytes.{is_space, is_digit, is_nonzero, is_letter, is_word, is_wild, is_sign, within}
use Rattle.rules.specs.Syntax.{Identifier, Partial, Prefix, Item, Range}
use Rattle.rules.specs.Grammar as G
use Rattle.rules.specs.Grammar.{OneOf, Run, Literal, Many, Spaces, Spaces₁, ReadsNumber, ReadsComponent, ReadsIdentifier, ReadsDotIdentifier, ReadsQualifier, ReadsPartial, ReadsPrefix, ReadsItem, Gap, ReadsNext, ReadsRange, ReadsFurther, ReadsText}
use Rattle.rules.specs.Expansion.{Compat}
use Rattle.rules.specs.Answers.{refused, longest, reading}
use Rattle.rules.proofs.Follows.{both, either}
use Rattle.rules.proofs.Accepted.{refused-2}

abbrev pub Low : ℕ → Type 0
Low c = c < 0x80

-- ---- the classes

-- a class has low bytes alone
abbrev LowClass : (ℕ → Bool) → Type 0
LowClass p = (c : ℕ) → p c ≡ true → Low c

low_byte : (k : ℕ) → k < 0x80 → LowClass (λ c. eqb c k)
low_byte k h c e = let q = eqb-true c k e in omega arith

low-within : (a b : ℕ) → b < 0x80 → LowClass (within a b)
low-within a b h c e = let q = leb-true c b (both (leb a c) (leb c b) e).1 in omega arith

low_or : (p q : ℕ → Bool) → LowClass p → LowClass q → LowClass (λ c. p c || q c)
low_or p q h k c e = elim (either (p c) (q c) e) [ inl x ↦ h c x | inr x ↦ k c x ]

space-low : LowClass is_space
space-low = low_or (λ c. eqb c 0x20) (λ c. eqb c 0x09) (low_byte 0x20 (omega arith)) (low_byte 0x09 (omega arith))

digit_low : LowClass is_digit
unfolding is_digit
digit_low = low-within 48 57 (omega arith)

nonzero-low : LowClass is_nonzero
unfolding is_nonzero
nonzero-low = low-within 49 57 (omega arith)

letter-low : LowClass is_letter
unfolding is_letter
letter-low =
    low_or (λ c. within 97 122 c || within 65 90 c) (λ c. eqb c 45)
    (low_or (within 97 122) (within 65 90) (low-within 97 122 (omega arith)) (low-within 65 90 (omega arith))) (low_byte 45 (omega arith))

word_low : LowClass is_word
word_low = low_or is_letter is_digit letter-low digit_low

wild-low : LowClass is_wild
wild-low =
    low_or (λ c. eqb c 120 || eqb c 88) (λ c. eqb c 42)
    (low_or (λ c. eqb c 120) (λ c. eqb c 88) (low_byte 120 (omega arith)) (low_byte 88 (omega arith))) (low_byte 42 (omega arith))

sign_low : LowClass is_sign
sign_low = low_or (λ c. eqb c 45) (λ c. eqb c 43) (low_byte 45 (omega arith)) (low_byte 43 (omega arith))

-- ---- what is read of s and leaves r: if r has low bytes alone, so has s

abbrev Lows : List ℕ → List ℕ → Type 0
Lows s r = All Low r → All Low s

one-low : {p : ℕ → Bool} {s r : List ℕ} {c : ℕ} → LowClass p → OneOf p s c r → Lows s r
one-low h (OneOf.one {c} e) k = all∷ (h c e) k

run-low : {p : ℕ → Bool} {s w r : List ℕ} → LowClass p → Run p s w r → Lows s r
run-low h Run.stop k = k
run-low h (Run.more {c} e l) k = all∷ (h c e) (run-low h l k)

literal-low : {w s r : List ℕ} → each (λ c. ltb c 0x80) w ≡ true → Literal w s r → Lows s r
literal-low e G.done k = k
literal-low e (G.byte {c} {w} l) k = let x = both (ltb c 0x80) (each (λ c. ltb c 0x80) w) e in all∷ (ltb-true c 0x80 x.0) (literal-low x.1 l k)

many-low : {A : Type 0} {P : List ℕ → A → List ℕ → Type 0} {s r : List ℕ} {l : List A} → ((s : List ℕ) (a : A) (r : List ℕ) → P s a r → Lows s r) → Many P s l r
    → Lows s r
many-low f Many.stop k = k
many-low f (Many.more {s} {t} {a} h l) k = f s a t h (many-low f l k)

spaces-low : {s r : List ℕ} → Spaces s r → Lows s r
spaces-low G.no-space k = k
spaces-low (G.space {c} e l) k = all∷ (space-low c e) (spaces-low l k)

spaces₁-low : {s r : List ℕ} → Spaces₁ s r → Lows s r
spaces₁-low (G.spaces₁ o l) k = one-low space-low o (spaces-low l k)

number-low : {s w r : List ℕ} → ReadsNumber s w r → Lows s r
number-low (ReadsNumber.zero l) k = literal-low refl l k
number-low (G.digits o l) k = one-low nonzero-low o (run-low digit_low l k)

component-low : {s r : List ℕ} {c : Option ℕ} → ReadsComponent s c r → Lows s r
component-low (G.wildcard o) k = one-low wild-low o k
component-low (ReadsComponent.number n) k = number-low n k

identifier-low : {s r : List ℕ} {i : Identifier} → ReadsIdentifier s i r → Lows s r
identifier-low (ReadsIdentifier.number n) k = number-low n k
identifier-low (G.word o l) k = one-low letter-low o (run-low word_low l k)

dot-identifier-low : {s r : List ℕ} {i : Identifier} → ReadsDotIdentifier s i r → Lows s r
dot-identifier-low (ReadsDotIdentifier.dot b i) k = literal-low refl b (identifier-low i k)

qualifier-low : {s r : List ℕ} {is : List Identifier} → ReadsQualifier s is r → Lows s r
qualifier-low ReadsQualifier.absent k = k
qualifier-low (ReadsQualifier.signed o (G.identifiers i l)) k = one-low sign_low o (identifier-low i (many-low (λ s a r. dot-identifier-low) l k))

partial-low : {s r : List ℕ} {p : Partial} → ReadsPartial s p r → Lows s r
partial-low (ReadsPartial.one c) k = component-low c k
partial-low (G.two c b d) k = component-low c (literal-low refl b (component-low d k))
partial-low (G.three c b d b' e q) k = component-low c (literal-low refl b (component-low d (literal-low refl b' (component-low e (qualifier-low q k)))))

prefix-low : {s r : List ℕ} {f : Prefix} → ReadsPrefix s f r → Lows s r
prefix-low (G.is-lte l) k = literal-low refl l k
prefix-low (G.is-gte l) k = literal-low refl l k
prefix-low (G.is_gt l) k = literal-low refl l k
prefix-low (G.is_lt l) k = literal-low refl l k
prefix-low (G.is_eq l) k = literal-low refl l k
prefix-low (G.is-tilde₂ l) k = literal-low refl l k
prefix-low (G.is-tilde₁ l) k = literal-low refl l k
prefix-low (G.is-caret l) k = literal-low refl l k

item-low : {s r : List ℕ} {i : Item} → ReadsItem s i r → Lows s r
item-low (G.alone p) k = partial-low p k
item-low (G.prefixed f l p) k = prefix-low f (spaces-low l (partial-low p k))

gap-low : {s r : List ℕ} → Gap s r → Lows s r
gap-low (G.plain l) k = spaces₁-low l k
gap-low (G.comma b l) k = literal-low refl b (spaces₁-low l k)

next_low : {s r : List ℕ} {i : Item} → ReadsNext s i r → Lows s r
next_low (G.next g i) k = gap-low g (item-low i k)

range-low : {s r : List ℕ} {a : Range} → ReadsRange s a r → Lows s r
range-low (G.hyphened p (G.dash l b l') q) k = partial-low p (spaces₁-low l (literal-low refl b (spaces₁-low l' (partial-low q k))))
range-low (G.listed i l) k = item-low i (many-low (λ s a r. next_low) l k)
range-low G.empty k = k

further-low : {s r : List ℕ} {a : Range} → ReadsFurther s a r → Lows s r
further-low (G.further (G.separator l b l') a) k = spaces-low l (literal-low refl b (spaces-low l' (range-low a k)))

pub text-low : {t : List ℕ} {rs : List Range} → ReadsText t rs → All Low t
text-low (ReadsText.whole l a m e) = spaces-low l (range-low a (many-low (λ s a r. further-low) m (spaces-low e all[])))

-- ---- the theorem

apart : {t : List ℕ} → Some (λ c. 0x80 ≤ c) t → All Low t → ⊥
apart (here h) (all∷ k l) = omega arith
apart (there h) (all∷ k l) = apart h l

pub high-unread : (t : List ℕ) → Some (λ c. 0x80 ≤ c) t → (rs : List Range) → ReadsText t rs → ⊥
high-unread t h rs d = apart h (text-low d)

pub high-refused : (m : Compat) (t : List ℕ) → length t ≤ longest → Some (λ c. 0x80 ≤ c) t → reading m t ≡ refused 2
high-refused m t l h = (refused-2 m t l).1 (high-unread t h)
