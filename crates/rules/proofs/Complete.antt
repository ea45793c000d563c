-- What the grammar derives, the function reads: a piece before what may follow it is read as exactly that piece.
-- Assumes nothing.
use mathlib.Core.Path.{◌≡◌, refl, sym, ap, ◌∙◌}
use Prim.Native.Nat.{ℕ, zero, suc, ◌+◌, ◌≤◌, ◌<◌}
use native.Mathlib.Omega.{arith}
use mathlib.Core.Bool.{Bool, true, false, ◌||◌}
use mathlib.Core.Option.{Option}
use mathlib.Core.List.{List, [], ◌∷◌}
use lib.Dec.{eqb}
use lib.ListN.{length, drop, length-drop}
use borrow.Author.Tests.{eq-eqb}
use Rattle.rules.specs.Bytes.{bytes, is_space, is_digit, is_nonzero, is_letter, is_word, is_wild, is_sign}
use Rattle.rules.specs.Syntax.{Identifier, Partial, Prefix, bare, tilde, caret, op, Item, item, Range, items, hyphen}
use Rattle.rules.specs.Grammar as G
use Rattle.rules.specs.Grammar.{OneOf, Run, Literal, Many, Spaces, Spaces₁, ReadsNumber, ReadsComponent, ReadsIdentifier, ReadsDotIdentifier, ReadsIdentifiers, ReadsQualifier, ReadsPartial, ReadsPrefix, ReadsItem, Gap, ReadsNext, Dash, ReadsRange, Separator, ReadsFurther, ReadsText}
use Rattle.rules.specs.Parse.{Result, fail, ok, ◌then◌, choose, many, one_of, count, run, literal, skip, spaces₁, read_number, read_component, read_identifier, read_dot_identifier, read_identifiers, read_qualifier, read_dot, after_three, after_two, after_one, read_partial, read_prefix, read_item, read_gap, read_next, read_dash, read_items, after_item, read_range, read_separator, read_further, at_end, read_text}
use Rattle.rules.proofs.Follows.{Stops, passes, nonzero-stops, number-stops, letter-stops, space-stops, sign-stops, begins-none, partial-stops, spaced-stops, item-stops, Ends, ends-stops, spaces₁-ends, After, then-end, then-bar, after-ends, items-ends, ranges-after}

-- ---- how much is left

pub one_left : {p : ℕ → Bool} {s t : List ℕ} {c : ℕ} → OneOf p s c t → length s ≡ suc (length t)
one_left (OneOf.one e) = refl

pub literal-left : {w s r : List ℕ} → Literal w s r → length s ≡ length w + length r
literal-left G.done = omega arith
literal-left (G.byte k) = let h = literal-left k in omega arith

pub run-left : {p : ℕ → Bool} {s w r : List ℕ} → Run p s w r → length r ≤ length s
run-left Run.stop = omega arith
run-left (Run.more e k) = let h = run-left k in omega arith

pub spaces-left : {s r : List ℕ} → Spaces s r → length r ≤ length s
spaces-left G.no-space = omega arith
spaces-left (G.space e k) = let h = spaces-left k in omega arith

pub number-left : {s w r : List ℕ} → ReadsNumber s w r → length r < length s
number-left (ReadsNumber.zero b) = let h = literal-left b in omega arith
number-left (G.digits o k) = omega (arith, one_left o, run-left k)

identifier-left : {s r : List ℕ} {i : Identifier} → ReadsIdentifier s i r → length r < length s
identifier-left (ReadsIdentifier.number n) = number-left n
identifier-left (G.word o k) = omega (arith, one_left o, run-left k)

dot_identifier-left : {s r : List ℕ} {i : Identifier} → ReadsDotIdentifier s i r → length r < length s
dot_identifier-left (G.dot b i) = omega (arith, literal-left b, identifier-left i)

pub gap-left : {s r : List ℕ} → Gap s r → length r < length s
gap-left (G.plain (G.spaces₁ o k)) = omega (arith, one_left o, spaces-left k)
gap-left (G.comma b (G.spaces₁ o k)) = omega (arith, literal-left b, one_left o, spaces-left k)

component-left : {s r : List ℕ} {c : Option ℕ} → ReadsComponent s c r → length r < length s
component-left (G.wildcard o) = omega (arith, one_left o)
component-left (ReadsComponent.number n) = number-left n

-- a piece that takes a byte at least is not found more often than there are bytes
pub many-left : {A : Type 0} {P : List ℕ → A → List ℕ → Type 0} → ((s r : List ℕ) (a : A) → P s a r → length r < length s)
    → {s r : List ℕ} {l : List A} → Many P s l r → length l + length r ≤ length s
many-left h Many.stop = omega arith
many-left h (Many.more p k) = let x = h _ _ _ p in let y = many-left h k in omega arith

qualifier-left : {s r : List ℕ} {is : List Identifier} → ReadsQualifier s is r → length r ≤ length s
qualifier-left G.absent = omega arith
qualifier-left (G.signed o (G.identifiers i k)) = omega (arith, one_left o, identifier-left i, many-left (λ s r i. dot_identifier-left) k)

partial-left : {s r : List ℕ} {p : Partial} → ReadsPartial s p r → length r < length s
partial-left (ReadsPartial.one c) = component-left c
partial-left (G.two c b d) = omega (arith, component-left c, literal-left b, component-left d)
partial-left (G.three c b d b' e q) = omega (arith, component-left c, literal-left b, component-left d, literal-left b', component-left e, qualifier-left q)

pub prefix-left : {s r : List ℕ} {f : Prefix} → ReadsPrefix s f r → length r ≤ length s
prefix-left (G.is-lte b) = omega (arith, literal-left b)
prefix-left (G.is-gte b) = omega (arith, literal-left b)
prefix-left (G.is_gt b) = omega (arith, literal-left b)
prefix-left (G.is_lt b) = omega (arith, literal-left b)
prefix-left (G.is_eq b) = omega (arith, literal-left b)
prefix-left (G.is-tilde₂ b) = omega (arith, literal-left b)
prefix-left (G.is-tilde₁ b) = omega (arith, literal-left b)
prefix-left (G.is-caret b) = omega (arith, literal-left b)

pub item-left : {s r : List ℕ} {i : Item} → ReadsItem s i r → length r < length s
item-left (G.alone p) = partial-left p
item-left (G.prefixed o k p) = omega (arith, prefix-left o, spaces-left k, partial-left p)

pub next-left : {s r : List ℕ} {i : Item} → ReadsNext s i r → length r < length s
next-left (G.next g i) = omega (arith, gap-left g, item-left i)

pub dash-left : {s r : List ℕ} → Dash s r → length r < length s
dash-left (G.dash (G.spaces₁ o k) l (G.spaces₁ o' m)) = omega (arith, one_left o, spaces-left k, literal-left l, one_left o', spaces-left m)

pub range-left : {s r : List ℕ} {a : Range} → ReadsRange s a r → length r ≤ length s
range-left G.empty = omega arith
range-left (G.listed i k) = omega (arith, item-left i, many-left (λ s r i. next-left) k)
range-left (G.hyphened p d q) = omega (arith, partial-left p, dash-left d, partial-left q)

further-left : {s r : List ℕ} {a : Range} → ReadsFurther s a r → length r < length s
further-left (G.further (Separator.separator k b l) a) = omega (arith, spaces-left k, literal-left b, spaces-left l, range-left a)

-- ---- bytes

pub one-read : {p : ℕ → Bool} {s t : List ℕ} {c : ℕ} → OneOf p s c t → one_of p s ≡ ok c t
unfolding one_of
one-read (OneOf.one e) = rw e

pub one-fails : (p : ℕ → Bool) (s : List ℕ) → Stops p s → one_of p s ≡ fail
unfolding one_of
one-fails p [] h = refl
one-fails p (c ∷ s) h = rw h

pub literal-read : {w s r : List ℕ} → Literal w s r → literal w s ≡ ok tt r
unfolding literal
literal-read G.done = refl
literal-read (G.byte {c} k) = rw (eq-eqb c c refl) (literal-read k)

-- the text does not go on with the byte b
abbrev pub Lacks : ℕ → List ℕ → Type 0
Lacks b s = Stops (λ c. eqb c b) s

pub literal-fails : (b : ℕ) (w s : List ℕ) → Lacks b s → literal (b ∷ w) s ≡ fail
unfolding literal
literal-fails b w [] h = refl
literal-fails b w (c ∷ s) h = rw h

-- what is left behind all bytes of a class
abbrev pub past : (ℕ → Bool) → List ℕ → List ℕ
past p s = drop (count p s) s

count_none : (p : ℕ → Bool) (s : List ℕ) → Stops p s → count p s ≡ 0
unfolding count
count_none p [] h = refl
count_none p (c ∷ s) h = rw h

run_none : (p : ℕ → Bool) (s : List ℕ) → Stops p s → run p s ≡ ok [] s
unfolding run
run_none p s h = rw (count_none p s h)

pub run-read : {p : ℕ → Bool} {s w r : List ℕ} → Run p s w r → Stops p r → run p s ≡ ok w r
unfolding run count ◌then◌
run-read {p} {r} Run.stop h = run_none p r h
run-read (Run.more {c} e k) h = rw e (ap (λ g. g then λ w r. ok (c ∷ w) r) (run-read k h))

-- a class that has the spaces
pub spaces-past : (p : ℕ → Bool) → ((c : ℕ) → is_space c ≡ true → p c ≡ true) → {s r : List ℕ} → Spaces s r → past p s ≡ past p r
unfolding count
spaces-past p h G.no-space = refl
spaces-past p h (G.space {c} e k) = rw (h c e) (spaces-past p h k)

pub past-none : (p : ℕ → Bool) (s : List ℕ) → Stops p s → past p s ≡ s
past-none p s h = rw (count_none p s h)

pub skip-spaces : {s r : List ℕ} → Spaces s r → skip s ≡ skip r
skip-spaces k = spaces-past is_space (λ c e. e) k

pub skip-none : (s : List ℕ) → Stops is_space s → skip s ≡ s
skip-none s h = past-none is_space s h

skip_read : {s r : List ℕ} → Spaces s r → Stops is_space r → skip s ≡ r
skip_read {r} k h = skip-spaces k ∙ skip-none r h

spaces₁-read : {s r : List ℕ} → Spaces₁ s r → spaces₁ s ≡ ok tt (skip r)
unfolding spaces₁ ◌then◌
spaces₁-read (G.spaces₁ o k) = rw (one-read o, skip-spaces k)

-- ---- numbers, components, identifiers

pub number_read : {s w r : List ℕ} → ReadsNumber s w r → Stops is_digit r → read_number s ≡ ok w r
unfolding read_number ◌then◌ choose passes
number_read (ReadsNumber.zero b) h = rw (literal-read b)
number_read {s} (G.digits o k) h = rw (literal-fails 48 [] s (nonzero-stops _ refl o), one-read o, run-read k h)

component-read : {s r : List ℕ} {c : Option ℕ} → ReadsComponent s c r → Stops is_digit r → read_component s ≡ ok c r
unfolding read_component ◌then◌ choose passes
component-read (G.wildcard o) h = rw (one-read o)
component-read {s} (ReadsComponent.number n) h = rw (one-fails is_wild s (number-stops is_wild refl n), number_read n h)

neither : (a b : Bool) → (a || b) ≡ false → b ≡ false
neither true b e = cc
neither false b e = e

word-digit : (s : List ℕ) → Stops is_word s → Stops is_digit s
word-digit [] h = tt
word-digit (c ∷ s) h = neither (is_letter c) (is_digit c) h

-- a letter begins no number
pub letter-number : {s t : List ℕ} {c : ℕ} → OneOf is_letter s c t → read_number s ≡ fail
unfolding read_number ◌then◌ choose passes is_nonzero
letter-number {s} o = rw (literal-fails 48 [] s (letter-stops _ refl refl refl o), one-fails is_nonzero s (letter-stops is_nonzero refl refl refl o))

identifier-read : {s r : List ℕ} {i : Identifier} → ReadsIdentifier s i r → Stops is_word r → read_identifier s ≡ ok i r
unfolding read_identifier ◌then◌ choose
identifier-read {r} (ReadsIdentifier.number n) h = rw (number_read n (word-digit r h))
identifier-read (G.word o k) h = rw (letter-number o, one-read o, run-read k h)

pub dot_word : {s t : List ℕ} → Literal (bytes ".") s t → Stops is_word s
unfolding is_letter is_digit
dot_word (G.byte k) = refl

ends-word : {s : List ℕ} → Ends s → Stops is_word s
unfolding is_letter is_digit
ends-word e = ends-stops is_word refl refl refl refl e

dots-word : {s r : List ℕ} {is : List Identifier} → Many ReadsDotIdentifier s is r → Ends r → Stops is_word s
dots-word Many.stop e = ends-word e
dots-word (Many.more (G.dot b i) k) e = dot_word b

-- ---- a reader as often as it succeeds

pub many-fails : {A : Type 0} (f : List ℕ → Result A) (k : ℕ) (s : List ℕ) → f s ≡ fail → many f k s ≡ ok [] s
unfolding many choose
many-fails f zero s e = refl
many-fails f (suc k) s e = rw e

dots-read : {s r : List ℕ} {is : List Identifier} (f : ℕ) → length is ≤ f → Many ReadsDotIdentifier s is r → Ends r → many read_dot_identifier f s ≡ ok is r
unfolding many read_dot_identifier ◌then◌ choose
dots-read {r} f h Many.stop e = many-fails read_dot_identifier f r (rw (literal-fails 46 [] r (ends-stops _ refl refl refl refl e)))
dots-read zero h (Many.more p k) e = absurd (omega arith)
dots-read (suc f) h (Many.more (G.dot b i) k) e = rw (literal-read b, identifier-read i (dots-word k e), dots-read f (omega arith) k e)

identifiers-read : {s r : List ℕ} {is : List Identifier} → ReadsIdentifiers s is r → Ends r → read_identifiers s ≡ ok is r
unfolding read_identifiers ◌then◌
identifiers-read (G.identifiers {t} i k) e =
    rw (identifier-read i (dots-word k e), dots-read (length t) (let x = many-left (λ s r i. dot_identifier-left) k in omega arith) k e)

qualifier-read : {s r : List ℕ} {is : List Identifier} → ReadsQualifier s is r → Ends r → read_qualifier s ≡ ok is r
unfolding read_qualifier ◌then◌ choose
qualifier-read {r} G.absent e = rw (one-fails is_sign r (ends-stops is_sign refl refl refl refl e))
qualifier-read (G.signed b k) e = rw (one-read b, identifiers-read k e)

-- ---- partials

pub dot-digit : {s t : List ℕ} → Literal (bytes ".") s t → Stops is_digit s
unfolding is_digit
dot-digit (G.byte k) = refl

ends-digit : {s : List ℕ} → Ends s → Stops is_digit s
unfolding is_digit
ends-digit e = ends-stops is_digit refl refl refl refl e

ends-dot : {s : List ℕ} → Ends s → literal (bytes ".") s ≡ fail
ends-dot {s} e = literal-fails 46 [] s (ends-stops _ refl refl refl refl e)

qualifier-digit : {s r : List ℕ} {is : List Identifier} → ReadsQualifier s is r → Ends r → Stops is_digit s
unfolding is_digit
qualifier-digit G.absent e = ends-digit e
qualifier-digit (G.signed b k) e = sign-stops is_digit refl refl b

pub partial-read : {s r : List ℕ} {p : Partial} → ReadsPartial s p r → Ends r → read_partial s ≡ ok p r
unfolding read_partial after_one after_two after_three read_dot ◌then◌ choose
partial-read (ReadsPartial.one c) e = rw (component-read c (ends-digit e), ends-dot e)
partial-read (G.two c b d) e = rw (component-read c (dot-digit b), literal-read b, component-read d (ends-digit e), ends-dot e)
partial-read (G.three c b d b' f q) e =
    rw (component-read c (dot-digit b), literal-read b, component-read d (dot-digit b'), literal-read b', component-read f (qualifier-digit q e), qualifier-read q e)

-- ---- items

-- a prefix that is not gone on with `=` or `>`
prefix-read : {s r : List ℕ} {f : Prefix} → ReadsPrefix s f r → Lacks 61 r → Lacks 62 r → read_prefix s ≡ ok f r
unfolding read_prefix choose literal
prefix-read (G.is-lte (G.byte (G.byte G.done))) h k = refl
prefix-read (G.is-gte (G.byte (G.byte G.done))) h k = refl
prefix-read {r} (G.is_gt (G.byte G.done)) h k = rw (literal-fails 61 [] r h)
prefix-read {r} (G.is_lt (G.byte G.done)) h k = rw (literal-fails 61 [] r h)
prefix-read (G.is_eq (G.byte G.done)) h k = refl
prefix-read (G.is-tilde₂ (G.byte (G.byte G.done))) h k = refl
prefix-read {r} (G.is-tilde₁ (G.byte G.done)) h k = rw (literal-fails 62 [] r k)
prefix-read (G.is-caret (G.byte G.done)) h k = refl

-- spaces and a partial begin with no prefix, nor with the second byte of one
spaced-lacks : (b : ℕ) {s t r : List ℕ} {p : Partial} → eqb 32 b ≡ false → eqb 9 b ≡ false → begins-none (λ c. eqb c b) ≡ true → Spaces s t → ReadsPartial t p r → Lacks b s
spaced-lacks b i j a k p = spaced-stops (λ c. eqb c b) i j a k p

partial-prefix : {s r : List ℕ} {p : Partial} → ReadsPartial s p r → read_prefix s ≡ fail
unfolding read_prefix choose begins-none
partial-prefix {s} p =
    rw (literal-fails 60 (61 ∷ []) s (lacks 60 refl), literal-fails 62 (61 ∷ []) s (lacks 62 refl), literal-fails 62 [] s (lacks 62 refl), literal-fails 60 [] s (lacks 60 refl), literal-fails 61 [] s (lacks 61 refl), literal-fails 126 (62 ∷ []) s (lacks 126 refl), literal-fails 126 [] s (lacks 126 refl), literal-fails 94 [] s (lacks 94 refl))
  where
    lacks : (b : ℕ) → begins-none (λ c. eqb c b) ≡ true → Lacks b s
    lacks b a = partial-stops (λ c. eqb c b) a p

pub item-read : {s r : List ℕ} {i : Item} → ReadsItem s i r → Ends r → read_item s ≡ ok i r
unfolding read_item ◌then◌ choose begins-none
item-read (G.alone p) e = rw (partial-prefix p, partial-read p e)
item-read (G.prefixed o k p) e =
    rw (prefix-read o (spaced-lacks 61 refl refl refl k p) (spaced-lacks 62 refl refl refl k p), skip_read k (partial-stops is_space refl p), partial-read p e)

pub item-space : {s r : List ℕ} {i : Item} → ReadsItem s i r → Stops is_space s
unfolding begins-none passes
item-space i = item-stops is_space refl refl i

-- ---- items behind the first

pub gap-read : {s r : List ℕ} → Gap s r → read_gap s ≡ ok tt (skip r)
unfolding read_gap choose
gap-read {s} (G.plain (G.spaces₁ o k)) = rw (literal-fails 44 [] s (space-stops _ refl refl o), spaces₁-read (G.spaces₁ o k))
gap-read (G.comma b k) = rw (literal-read b, spaces₁-read k)

-- neither the end nor a bar begins an item
pub end-item : read_item [] ≡ fail
unfolding read_item read_prefix read_partial read_component read_number one_of literal ◌then◌ choose
end-item = refl

pub bar-item : (s : List ℕ) → read_item (124 ∷ s) ≡ fail
unfolding read_item read_prefix read_partial read_component read_number one_of literal ◌then◌ choose is_nonzero
bar-item s = refl

-- so no item follows where a range has ended
pub after_next : {s : List ℕ} → After s → read_next s ≡ fail
unfolding read_next read_gap spaces₁ one_of literal ◌then◌ choose count
after_next (then-end G.no-space) = refl
after_next (then-bar G.no-space) = refl
after_next (then-end (G.space {c} e k)) = rw (gap-read (G.plain (G.spaces₁ {c = c} (OneOf.one e) k)), end-item)
after_next (then-bar {t} (G.space {c} e k)) = rw (gap-read (G.plain (G.spaces₁ {c = c} (OneOf.one e) k)), bar-item t)

next-read : {s r : List ℕ} {i : Item} → ReadsNext s i r → Ends r → read_next s ≡ ok i r
unfolding read_next ◌then◌
next-read (G.next {t} g i) e = rw (gap-read g, skip-none t (item-space i), item-read i e)

items-read : {s r : List ℕ} {is : List Item} (f : ℕ) → length is ≤ f → Many ReadsNext s is r → After r → many read_next f s ≡ ok is r
unfolding many ◌then◌ choose
items-read {r} f h Many.stop a = many-fails read_next f r (after_next a)
items-read zero h (Many.more p k) a = absurd (omega arith)
items-read (suc f) h (Many.more n k) a = rw (next-read n (items-ends k a), items-read f (omega arith) k a)

-- ---- ranges

-- behind the first item of a list stands no dash
pub items-dash : {s r : List ℕ} {is : List Item} → Many ReadsNext s is r → After r → read_dash s ≡ fail
unfolding read_dash ◌then◌ spaces₁ one_of literal count begins-none passes
items-dash (Many.more (G.next {t} (G.plain g) i) k) a =
    rw (spaces₁-read g, skip-none t (item-space i), literal-fails 45 [] t (item-stops (λ c. eqb c 45) refl refl i))
items-dash (Many.more (G.next (G.comma (G.byte b) g) i) k) a = refl
items-dash Many.stop (then-end G.no-space) = refl
items-dash Many.stop (then-bar G.no-space) = refl
items-dash Many.stop (then-end (G.space {c} e k)) = rw (spaces₁-read (G.spaces₁ {c = c} (OneOf.one e) k))
items-dash Many.stop (then-bar (G.space {c} e k)) = rw (spaces₁-read (G.spaces₁ {c = c} (OneOf.one e) k))

list_read : {t r : List ℕ} {is : List Item} (i : Item) → Many ReadsNext t is r → After r → after_item i t ≡ ok (items i is) r
unfolding after_item read_items choose ◌then◌
list_read {t} i k a = go i (items-read (length t) (let h = many-left (λ s r i. next-left) k in omega arith) k a) (items-dash k a)
  where
    go : {r : List ℕ} {is : List Item} (i : Item) → many read_next (length t) t ≡ ok is r → read_dash t ≡ fail → after_item i t ≡ ok (items i is) r
    go (item bare p) e d = rw (d, e)
    go (item tilde p) e d = rw e
    go (item caret p) e d = rw e
    go (item (op o) p) e d = rw e

pub dash-ends : {s r : List ℕ} → Dash s r → Ends s
dash-ends (G.dash k l m) = spaces₁-ends k

pub dash-read : {s t r : List ℕ} {p : Partial} → Dash s t → ReadsPartial t p r → read_dash s ≡ ok tt t
unfolding read_dash ◌then◌ begins-none count literal
dash-read {t} (G.dash k (G.byte G.done) m) p = rw (spaces₁-read k, spaces₁-read m, skip-none t (partial-stops is_space refl p))

hyphen-read : {s t r : List ℕ} (p : Partial) {q : Partial} → Dash s t → ReadsPartial t q r → Ends r → after_item (item bare p) s ≡ ok (hyphen p q) r
unfolding after_item choose ◌then◌
hyphen-read p d q e = rw (dash-read d q, partial-read q e)

-- the function skips the spaces that the grammar may leave to either side of an empty range
range-read : {s r : List ℕ} {a : Range} → ReadsRange s a r → After r → (t : List ℕ) × (read_range (skip s) ≡ ok a t) × (skip t ≡ skip r)
unfolding read_range choose begins-none count
range-read G.empty (then-end k) = ([], rw (skip-spaces k, end-item), sym (skip-spaces k))
range-read G.empty (then-bar {t} k) = (124 ∷ t, rw (skip-spaces k, bar-item t), sym (skip-spaces k))
range-read {s} {r} (G.listed i k) a = (r, rw (skip-none s (item-space i), item-read i (items-ends k a), list_read _ k a), refl)
range-read {s} {r} (G.hyphened p d q) a =
    (r, rw (skip-none s (partial-stops is_space refl p), item-read (G.alone p) (dash-ends d), hyphen-read _ d q (after-ends a)), refl)

-- ---- the text

pub skip-left : (s : List ℕ) → length (skip s) ≤ length s
skip-left s = omega (arith, length-drop (count is_space s) s)

pub separator-read : {s r : List ℕ} → Separator s r → read_separator s ≡ ok tt (skip r)
unfolding read_separator ◌then◌ count literal
separator-read (Separator.separator k (G.byte b) l) = rw (skip-spaces k, literal-read b, skip-spaces l)

-- it reads the same from texts that are the same behind spaces
pub separator-skip : (s t : List ℕ) → skip t ≡ skip s → read_separator t ≡ read_separator s
unfolding read_separator
separator-skip s t e = rw e

-- the ranges behind the first are fewer than the bytes behind the spaces there
pub ranges-left : {s r : List ℕ} {l : List Range} → Many ReadsFurther s l r → length l ≤ length (skip s)
unfolding count
ranges-left Many.stop = omega arith
ranges-left (Many.more {t} (G.further (Separator.separator k (G.byte b) m) a) l) =
    rw (skip-spaces k) (omega (arith, literal-left b, spaces-left m, range-left a, ranges-left l, skip-left t))

pub end-separator : {s : List ℕ} → Spaces s [] → read_separator s ≡ fail
unfolding read_separator ◌then◌ literal count
end-separator e = rw (skip-spaces e)

-- The function reads the ranges behind the first from the text t that it left; the grammar, from s. They are the same behind spaces.
ranges-read : {s r : List ℕ} {l : List Range} (f : ℕ) → length l ≤ f → Many ReadsFurther s l r → Spaces r [] → (t : List ℕ) → skip t ≡ skip s
    → (u : List ℕ) × (many read_further f t ≡ ok l u) × (skip u ≡ [])
unfolding many read_further ◌then◌ choose count
ranges-read {s} f h Many.stop e t q = (t, many-fails read_further f t (rw (separator-skip s t q, end-separator e)), q ∙ skip-spaces e)
ranges-read zero h (Many.more p k) e t q = absurd (omega arith)
ranges-read {s} (suc f) h (Many.more (G.further b a) k) e t q =
    let x = range-read a (ranges-after k e) in
    let y = ranges-read f (omega arith) k e x.0 x.2 in
    (y.0, rw (separator-skip s t q, separator-read b, x.1, y.1), y.2)

pub complete : {s : List ℕ} {rs : List Range} → ReadsText s rs → read_text s ≡ ok rs []
unfolding read_text ◌then◌ at_end
complete (G.whole {u} k a l e) =
    let x = range-read a (ranges-after l e) in
    let y = ranges-read (length x.0) (omega (arith, ranges-left l, skip-left x.0, ap length x.2)) l e x.0 x.2 in
    rw (skip-spaces k, x.1, y.1, y.2)

-- so a text has at most one reading
pub unambiguous : {s : List ℕ} {rs ss : List Range} → ReadsText s rs → ReadsText s ss → rs ≡ ss
unambiguous h k = cc (complete h, complete k)
