-- What a piece of the grammar begins with and what may follow it, as classes of bytes: why a reader stops where the grammar does.
-- Assumes nothing.
use mathlib.Core.Path.{◌≡◌, refl}
use Prim.Native.Nat.{ℕ, zero, suc, ◌+◌, ◌≤◌, ◌<◌}
use native.Mathlib.Omega.{arith}
use native.Mathlib.Decide.{dec_le}
use mathlib.Core.Logic.{◌⊎◌, inl, inr}
use mathlib.Core.Bool.{Bool, true, false, not, ◌&&◌, ◌||◌}
use mathlib.Core.Option.{Option}
use mathlib.Core.List.{List, [], ◌∷◌}
use lib.Dec.{leb, eqb, lit<}
use borrow.Author.Tests.{eqb-true, leb-true, not-true}
use Rattle.rules.specs.Bytes.{is_space, is_nonzero, is_letter, is_wild, is_sign, within}
use Rattle.rules.specs.Syntax.{Partial, Prefix, Item, Range}
use Rattle.rules.specs.Grammar as G
use Rattle.rules.specs.Grammar.{OneOf, Many, Spaces, Spaces₁, ReadsNumber, ReadsComponent, ReadsPartial, ReadsPrefix, ReadsItem, Gap, ReadsNext, Separator, ReadsFurther}

-- the text does not go on with a byte of the class
abbrev pub Stops : (ℕ → Bool) → List ℕ → Type 0
Stops p [] = Unit {0}
Stops p (c ∷ s) = p c ≡ false

-- ---- tests

pub both : (a b : Bool) → (a && b) ≡ true → (a ≡ true) × (b ≡ true)
both true b e = (refl, e)
both false b e = (e, cc)

pub either : (a b : Bool) → (a || b) ≡ true → (a ≡ true) ⊎ (b ≡ true)
either true b e = inl refl
either false b e = inr e

-- a test that passes at each of the k numbers from a on
unfoldable pub passes : (ℕ → Bool) → ℕ → ℕ → Bool
passes q a zero = true
passes q a (suc k) = q a && passes q (suc a) k

passes_at : (q : ℕ → Bool) (k a c : ℕ) → passes q a k ≡ true → a ≤ c → c < a + k → q c ≡ true
unfolding passes
passes_at q zero a c t h l = absurd (omega arith)
passes_at q (suc k) a c t h l =
    let x = both (q a) (passes q (suc a) k) t in
    elim (dec_le c a) [ yes m ↦ let e : c ≡ a = omega arith in rw e x.0 | no m ↦ passes_at q k (suc a) c x.1 (omega arith) (omega arith) ]

-- the class has none of the k bytes from a on
abbrev pub lacks : (ℕ → Bool) → ℕ → ℕ → Bool
lacks q a k = passes (λ b. not (q b)) a k

within-stops : (q : ℕ → Bool) (a b k c : ℕ) → lacks q a k ≡ true → b < a + k → within a b c ≡ true → q c ≡ false
within-stops q a b k c t h e =
    let x = both (leb a c) (leb c b) e in
    let l : c ≤ b = leb-true c b x.1 in
    not-true (q c) (passes_at (λ b. not (q b)) k a c t (leb-true a c x.0) (omega arith))

-- ---- a piece does not begin with a byte of a class that has none of its first bytes

pub nonzero-stops : (q : ℕ → Bool) {s t : List ℕ} {c : ℕ} → lacks q 49 9 ≡ true → OneOf is_nonzero s c t → Stops q s
unfolding is_nonzero
nonzero-stops q {c} u (OneOf.one e) = within-stops q 49 57 9 c u (lit< tt) e

pub number-stops : (q : ℕ → Bool) {s w r : List ℕ} → lacks q 48 10 ≡ true → ReadsNumber s w r → Stops q s
unfolding passes
number-stops q u (ReadsNumber.zero (G.byte k)) = not-true (q 48) (both (not (q 48)) _ u).0
number-stops q u (G.digits o k) = nonzero-stops q (both (not (q 48)) _ u).1 o

pub letter-stops : (q : ℕ → Bool) {s t : List ℕ} {c : ℕ} → lacks q 97 26 ≡ true → lacks q 65 26 ≡ true → q 45 ≡ false → OneOf is_letter s c t → Stops q s
unfolding is_letter
letter-stops q {c} u v z (OneOf.one e) =
    elim (either (within 97 122 c || within 65 90 c) (eqb c 45) e) [ inl x ↦ elim (either (within 97 122 c) (within 65 90 c) x) [ inl l ↦ within-stops q 97 122 26 c u (lit< tt) l | inr l ↦ within-stops q 65 90 26 c v (lit< tt) l ] | inr x ↦ rw (eqb-true c 45 x) z ]

-- of two bytes, and of three
pub two-stops : (q : ℕ → Bool) (a b c : ℕ) → q a ≡ false → q b ≡ false → (eqb c a || eqb c b) ≡ true → q c ≡ false
two-stops q a b c i j e = elim (either (eqb c a) (eqb c b) e) [ inl y ↦ rw (eqb-true c a y) i | inr y ↦ rw (eqb-true c b y) j ]

pub space-stops : (q : ℕ → Bool) {s t : List ℕ} {c : ℕ} → q 32 ≡ false → q 9 ≡ false → OneOf is_space s c t → Stops q s
space-stops q {c} i j (OneOf.one e) = two-stops q 32 9 c i j e

pub sign-stops : (q : ℕ → Bool) {s t : List ℕ} {c : ℕ} → q 45 ≡ false → q 43 ≡ false → OneOf is_sign s c t → Stops q s
sign-stops q {c} i j (OneOf.one e) = two-stops q 45 43 c i j e

wildcard-stops : (q : ℕ → Bool) {s t : List ℕ} {c : ℕ} → q 120 ≡ false → q 88 ≡ false → q 42 ≡ false → OneOf is_wild s c t → Stops q s
wildcard-stops q {c} i j k (OneOf.one e) =
    elim (either (eqb c 120 || eqb c 88) (eqb c 42) e) [ inl x ↦ two-stops q 120 88 c i j x | inr x ↦ rw (eqb-true c 42 x) k ]

-- the class has no byte that a component begins with
unfoldable pub begins-none : (ℕ → Bool) → Bool
unfolding passes
begins-none q = not (q 120) && (not (q 88) && (not (q 42) && lacks q 48 10))

component-stops : (q : ℕ → Bool) {s r : List ℕ} {c : Option ℕ} → begins-none q ≡ true → ReadsComponent s c r → Stops q s
unfolding begins-none
component-stops q a (ReadsComponent.number n) =
    let x = both (not (q 120)) _ a in let y = both (not (q 88)) _ x.1 in number-stops q (both (not (q 42)) _ y.1).1 n
component-stops q a (G.wildcard o) =
    let x = both (not (q 120)) _ a in let y = both (not (q 88)) _ x.1 in
    wildcard-stops q (not-true (q 120) x.0) (not-true (q 88) y.0) (not-true (q 42) (both (not (q 42)) _ y.1).0) o

pub partial-stops : (q : ℕ → Bool) {s r : List ℕ} {p : Partial} → begins-none q ≡ true → ReadsPartial s p r → Stops q s
partial-stops q a (ReadsPartial.one c) = component-stops q a c
partial-stops q a (G.two c b d) = component-stops q a c
partial-stops q a (G.three c b d b' f l) = component-stops q a c

-- spaces, and then a partial
pub spaced-stops : (q : ℕ → Bool) {s t r : List ℕ} {p : Partial} → q 32 ≡ false → q 9 ≡ false → begins-none q ≡ true → Spaces s t → ReadsPartial t p r → Stops q s
spaced-stops q i j a G.no-space p = partial-stops q a p
spaced-stops q i j a (G.space {s} e k) p = space-stops q {t = s} i j (OneOf.one e)

-- the class has none of `<`, `=`, `>`, `^` and `~`
abbrev pub prefixes-none : (ℕ → Bool) → Bool
prefixes-none q = lacks q 60 3 && (lacks q 94 1 && lacks q 126 1)

prefix-stops : (q : ℕ → Bool) {s r : List ℕ} {f : Prefix} → prefixes-none q ≡ true → ReadsPrefix s f r → Stops q s
prefix-stops q {s} {r} {f} e h =
    let x = both (lacks q 60 3) _ e in
    let y = both (lacks q 94 1) _ x.1 in
    go h (at 60 3 x.0) (at 94 1 y.0) (at 126 1 y.1)
  where
    at : (a k : ℕ) → lacks q a k ≡ true → (c : ℕ) → a ≤ c → c < a + k → q c ≡ false
    at a k t c l m = not-true (q c) (passes_at (λ b. not (q b)) k a c t l m)

    go : {s r : List ℕ} {f : Prefix} → ReadsPrefix s f r → ((c : ℕ) → 60 ≤ c → c < 63 → q c ≡ false) → ((c : ℕ) → 94 ≤ c → c < 95 → q c ≡ false)
        → ((c : ℕ) → 126 ≤ c → c < 127 → q c ≡ false) → Stops q s
    go (G.is-lte (G.byte k)) a b c = a 60 (omega arith) (omega arith)
    go (G.is-gte (G.byte k)) a b c = a 62 (omega arith) (omega arith)
    go (G.is_gt (G.byte k)) a b c = a 62 (omega arith) (omega arith)
    go (G.is_lt (G.byte k)) a b c = a 60 (omega arith) (omega arith)
    go (G.is_eq (G.byte k)) a b c = a 61 (omega arith) (omega arith)
    go (G.is-tilde₂ (G.byte k)) a b c = c 126 (omega arith) (omega arith)
    go (G.is-tilde₁ (G.byte k)) a b c = c 126 (omega arith) (omega arith)
    go (G.is-caret (G.byte k)) a b c = b 94 (omega arith) (omega arith)

pub item-stops : (q : ℕ → Bool) {s r : List ℕ} {i : Item} → prefixes-none q ≡ true → begins-none q ≡ true → ReadsItem s i r → Stops q s
item-stops q e a (G.alone p) = partial-stops q a p
item-stops q e a (G.prefixed o k p) = prefix-stops q e o

-- ---- what follows a partial

-- the end, a space, a comma or a bar
pub data Ends : List ℕ → Type 0 where
  at-end : Ends []
  at-space : {s : List ℕ} → Ends (32 ∷ s)
  at-tab : {s : List ℕ} → Ends (9 ∷ s)
  at-comma : {s : List ℕ} → Ends (44 ∷ s)
  at-bar : {s : List ℕ} → Ends (124 ∷ s)

pub ends-stops : (q : ℕ → Bool) {s : List ℕ} → q 32 ≡ false → q 9 ≡ false → q 44 ≡ false → q 124 ≡ false → Ends s → Stops q s
ends-stops q a b c d at-end = tt
ends-stops q a b c d at-space = a
ends-stops q a b c d at-tab = b
ends-stops q a b c d at-comma = c
ends-stops q a b c d at-bar = d

pub space-ends : {s t : List ℕ} {c : ℕ} → OneOf is_space s c t → Ends s
space-ends {c} (OneOf.one e) = elim (either (eqb c 32) (eqb c 9) e) [ inl y ↦ rw (eqb-true c 32 y) at-space | inr y ↦ rw (eqb-true c 9 y) at-tab ]

pub spaces₁-ends : {s r : List ℕ} → Spaces₁ s r → Ends s
spaces₁-ends (G.spaces₁ o k) = space-ends o

pub gap_ends : {s r : List ℕ} → Gap s r → Ends s
gap_ends (G.plain k) = spaces₁-ends k
gap_ends (G.comma (G.byte b) k) = at-comma

-- ---- what follows a range

-- spaces, and then the end or a bar
pub data After : List ℕ → Type 0 where
  then-end : {s : List ℕ} → Spaces s [] → After s
  then-bar : {s t : List ℕ} → Spaces s (124 ∷ t) → After s

pub after-ends : {s : List ℕ} → After s → Ends s
after-ends (then-end G.no-space) = at-end
after-ends (then-end (G.space {s} e k)) = space-ends {t = s} (OneOf.one e)
after-ends (then-bar G.no-space) = at-bar
after-ends (then-bar (G.space {s} e k)) = space-ends {t = s} (OneOf.one e)

-- what follows an item: a further one, or what follows the range
pub items-ends : {s r : List ℕ} {is : List Item} → Many ReadsNext s is r → After r → Ends s
items-ends Many.stop a = after-ends a
items-ends (Many.more (G.next g i) k) a = gap_ends g

separator-after : {s r : List ℕ} → Separator s r → After s
separator-after (Separator.separator k (G.byte l) m) = then-bar k

-- a range is followed by a separator and a further one, or by the text's end
pub ranges-after : {s r : List ℕ} {l : List Range} → Many ReadsFurther s l r → Spaces r [] → After s
ranges-after Many.stop e = then-end e
ranges-after (Many.more (G.further b a) k) e = separator-after b
