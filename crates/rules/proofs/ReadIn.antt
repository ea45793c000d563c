-- Each identifier that a text is read with stands somewhere in it.
-- Assumes nothing.
use mathlib.Core.Path.{◌≡◌, refl}
use Prim.Native.Nat.{ℕ}
use mathlib.Core.Bool.{Bool}
use mathlib.Core.Option.{Option, none, some}
use mathlib.Core.List.{List, [], ◌∷◌, ◌++◌, map}
use Rattle.rules.specs.Lists.{concat, All, all[], all∷}
use Rattle.rules.specs.Syntax.{Identifier, Partial, up_to₁, up_to₂, up_to₃, identifiers_of, Prefix, Item, Range}
use Rattle.rules.specs.Grammar as G
use Rattle.rules.specs.Grammar.{OneOf, Run, Literal, Many, Spaces, Spaces₁, ReadsNumber, ReadsComponent, ReadsIdentifier, ReadsDotIdentifier, ReadsQualifier, ReadsPartial, ReadsPrefix, ReadsItem, Gap, ReadsNext, Dash, ReadsRange, Separator, ReadsFurther, ReadsText}
use Rattle.rules.proofs.All.{all-weaken, all_append}
use Rattle.rules.proofs.Kept.{identifiers_of_item, identifiers_of_range}

-- ---- what is left behind a piece

-- r is what is left of s behind some of its bytes
pub data Behind : List ℕ → List ℕ → Type 0 where
  here : {s : List ℕ} → Behind s s
  next : {c : ℕ} {s r : List ℕ} → Behind s r → Behind (c ∷ s) r

behind-trans : {s t r : List ℕ} → Behind s t → Behind t r → Behind s r
behind-trans here k = k
behind-trans (next h) k = next (behind-trans h k)

one-behind : {p : ℕ → Bool} {s r : List ℕ} {c : ℕ} → OneOf p s c r → Behind s r
one-behind (OneOf.one e) = next here

literal-behind : {w s r : List ℕ} → Literal w s r → Behind s r
literal-behind G.done = here
literal-behind (G.byte k) = next (literal-behind k)

-- a run is its own bytes, and a number too
pub run-literal : {p : ℕ → Bool} {s w r : List ℕ} → Run p s w r → Literal w s r
run-literal Run.stop = G.done
run-literal (Run.more e k) = G.byte (run-literal k)

pub number-literal : {s w r : List ℕ} → ReadsNumber s w r → Literal w s r
number-literal (ReadsNumber.zero k) = k
number-literal (G.digits (OneOf.one e) k) = G.byte (run-literal k)

component-behind : {s r : List ℕ} {c : Option ℕ} → ReadsComponent s c r → Behind s r
component-behind (G.wildcard o) = one-behind o
component-behind (ReadsComponent.number n) = literal-behind (number-literal n)

spaces-behind : {s r : List ℕ} → Spaces s r → Behind s r
spaces-behind G.no-space = here
spaces-behind (G.space e k) = next (spaces-behind k)

spaces₁-behind : {s r : List ℕ} → Spaces₁ s r → Behind s r
spaces₁-behind (G.spaces₁ (OneOf.one e) k) = next (spaces-behind k)

gap-behind : {s r : List ℕ} → Gap s r → Behind s r
gap-behind (G.plain k) = spaces₁-behind k
gap-behind (G.comma c k) = behind-trans (literal-behind c) (spaces₁-behind k)

dash-behind : {s r : List ℕ} → Dash s r → Behind s r
dash-behind (G.dash h d k) = behind-trans (spaces₁-behind h) (behind-trans (literal-behind d) (spaces₁-behind k))

separator-behind : {s r : List ℕ} → Separator s r → Behind s r
separator-behind (G.separator h b k) = behind-trans (spaces-behind h) (behind-trans (literal-behind b) (spaces-behind k))

prefix-behind : {s r : List ℕ} {f : Prefix} → ReadsPrefix s f r → Behind s r
prefix-behind (G.is-lte k) = literal-behind k
prefix-behind (G.is-gte k) = literal-behind k
prefix-behind (G.is_gt k) = literal-behind k
prefix-behind (G.is_lt k) = literal-behind k
prefix-behind (G.is_eq k) = literal-behind k
prefix-behind (G.is-tilde₂ k) = literal-behind k
prefix-behind (G.is-tilde₁ k) = literal-behind k
prefix-behind (G.is-caret k) = literal-behind k

-- ---- the identifiers of a piece

-- the identifier is read somewhere in t
pub record ReadIn (t : List ℕ) (i : Identifier) : Type 0 where
  pub at : List ℕ
  pub left : List ℕ
  pub behind : Behind t at
  pub read : ReadsIdentifier at i left

later : {s t : List ℕ} (k : Behind s t) (i : Identifier) → ReadIn t i → ReadIn s i
later k i h = record { at = h.at; left = h.left; behind = behind-trans k h.behind; read = h.read }

-- r is left behind a piece of s whose identifiers these are, all read in s
record Holds (s : List ℕ) (is : List Identifier) (r : List ℕ) : Type 0 where
  left : Behind s r
  held : All (ReadIn s) is

holds-here : {s : List ℕ} → Holds s [] s
holds-here = record { left = here; held = all[] }

holds-none : {s r : List ℕ} {is : List Identifier} → Holds s is r → Holds s [] r
holds-none h = record { left = h.left; held = all[] }

holds-behind : {s t r : List ℕ} {is : List Identifier} → Behind s t → Holds t is r → Holds s is r
holds-behind k h = record { left = behind-trans k h.left; held = all-weaken (later k) h.held }

holds-both : {s t r : List ℕ} {is js : List Identifier} → Holds s is t → Holds t js r → Holds s (is ++ js) r
holds-both h k = record { left = behind-trans h.left k.left; held = all_append h.held (all-weaken (later h.left) k.held) }

many-holds : {A : Type 0} {P : List ℕ → A → List ℕ → Type 0} (f : A → List Identifier) → ((s r : List ℕ) (a : A) → P s a r → Holds s (f a) r)
    → {s r : List ℕ} {l : List A} → Many P s l r → Holds s (concat (map f l)) r
many-holds f h Many.stop = holds-here
many-holds f h (Many.more p k) = holds-both (h _ _ _ p) (many-holds f h k)

identifier-behind : {s r : List ℕ} {i : Identifier} → ReadsIdentifier s i r → Behind s r
identifier-behind (ReadsIdentifier.number n) = literal-behind (number-literal n)
identifier-behind (G.word (OneOf.one e) k) = next (literal-behind (run-literal k))

identifier-holds : {s r : List ℕ} {i : Identifier} → ReadsIdentifier s i r → Holds s (i ∷ []) r
identifier-holds h = record { left = identifier-behind h; held = all∷ (record { at = _; left = _; behind = here; read = h }) all[] }

dots-hold : {s r : List ℕ} {is : List Identifier} → Many ReadsDotIdentifier s is r → Holds s is r
dots-hold Many.stop = holds-here
dots-hold (Many.more (G.dot d h) k) = holds-behind (literal-behind d) (holds-both (identifier-holds h) (dots-hold k))

qualifier-holds : {s r : List ℕ} {is : List Identifier} → ReadsQualifier s is r → Holds s is r
qualifier-holds G.absent = holds-here
qualifier-holds (G.signed o (G.identifiers h k)) = holds-behind (one-behind o) (holds-both (identifier-holds h) (dots-hold k))

-- a partial has no identifiers, or those of its qualifier
up_to₁-none : (c : Option ℕ) → identifiers_of (up_to₁ c) ≡ []
unfolding up_to₁
up_to₁-none none = refl
up_to₁-none (some a) = refl

up_to₂-none : (c d : Option ℕ) → identifiers_of (up_to₂ c d) ≡ []
unfolding up_to₂
up_to₂-none none d = refl
up_to₂-none (some a) none = refl
up_to₂-none (some a) (some b) = refl

up_to₃-holds : (c d e : Option ℕ) {s r : List ℕ} {is : List Identifier} → Holds s is r → Holds s (identifiers_of (up_to₃ c d e is)) r
unfolding up_to₃
up_to₃-holds none d e h = holds-none h
up_to₃-holds (some a) none e h = holds-none h
up_to₃-holds (some a) (some b) none h = holds-none h
up_to₃-holds (some a) (some b) (some c) h = h

partial-holds : {s r : List ℕ} {p : Partial} → ReadsPartial s p r → Holds s (identifiers_of p) r
partial-holds (ReadsPartial.one {c} h) = rw (up_to₁-none c) (holds-behind (component-behind h) holds-here)
partial-holds (G.two {c} {d} h l k) =
    rw (up_to₂-none c d) (holds-behind (component-behind h) (holds-behind (literal-behind l) (holds-behind (component-behind k) holds-here)))
partial-holds (G.three {c} {d} {e} h l k m n q) =
    up_to₃-holds c d e (holds-behind (component-behind h) (holds-behind (literal-behind l) (holds-behind (component-behind k)
    (holds-behind (literal-behind m) (holds-behind (component-behind n) (qualifier-holds q))))))

item-holds : {s r : List ℕ} {i : Item} → ReadsItem s i r → Holds s (identifiers_of_item i) r
item-holds (G.alone h) = partial-holds h
item-holds (G.prefixed f k h) = holds-behind (prefix-behind f) (holds-behind (spaces-behind k) (partial-holds h))

next-holds : (s r : List ℕ) (i : Item) → ReadsNext s i r → Holds s (identifiers_of_item i) r
next-holds s r i (ReadsNext.next g h) = holds-behind (gap-behind g) (item-holds h)

range-holds : {s r : List ℕ} {a : Range} → ReadsRange s a r → Holds s (identifiers_of_range a) r
range-holds (G.hyphened h d k) = holds-both (partial-holds h) (holds-behind (dash-behind d) (partial-holds k))
range-holds (G.listed h k) = holds-both (item-holds h) (many-holds identifiers_of_item next-holds k)
range-holds G.empty = holds-here

further-holds : (s r : List ℕ) (a : Range) → ReadsFurther s a r → Holds s (identifiers_of_range a) r
further-holds s r a (G.further g h) = holds-behind (separator-behind g) (range-holds h)

-- each identifier of the ranges of a text is read in it
pub text-holds : {s : List ℕ} {rs : List Range} → ReadsText s rs → All (ReadIn s) (concat (map identifiers_of_range rs))
text-holds (G.whole k h l e) = (holds-behind (spaces-behind k) (holds-both (range-holds h) (many-holds identifiers_of_range further-holds l))).held
