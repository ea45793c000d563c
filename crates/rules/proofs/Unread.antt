-- Theorem 5: two accepted texts that are alike but for bytes behind a wildcard have the same reading. With spaces in place of these bytes
-- both are one text, and it is read as each of them is.
-- Assumes nothing.
use mathlib.Core.Path.{◌≡◌, refl, sym, ap, ◌∙◌}
use Prim.Native.Nat.{ℕ, suc}
use mathlib.Core.Bool.{Bool, true, false, not}
use mathlib.Core.Option.{none, some}
use mathlib.Core.List.{List, [], ◌∷◌}
use lib.Dec.{eqb}
use lib.ListN.{length}
use Rattle.rules.specs.Bytes.{pick, is_space, is_digit, is_nonzero, is_letter, is_word, is_wild, is_sign, value}
use Rattle.rules.specs.Syntax.{Identifier, Partial, up_to₁, up_to₂, up_to₃, Prefix, Item, Range}
use Rattle.rules.specs.Grammar as G
use Rattle.rules.specs.Grammar.{OneOf, Run, byte, done, Many, Spaces, no-space, space, Spaces₁, spaces₁, ReadsNumber, ReadsComponent, wildcard, ReadsIdentifier, ReadsDotIdentifier, identifiers, absent, signed, ReadsPartial, two, three, ReadsPrefix, ReadsItem, Gap, ReadsNext, Dash, ReadsRange, Separator, ReadsFurther, ReadsText}
use Rattle.rules.specs.Expansion.{Compat, Reading, expand}
use Rattle.rules.specs.Answers.{accepted, reading}
use Rattle.rules.specs.Alike.{Where, plain, named, behind, ends_partial, after, Alike}
use Rattle.rules.proofs.PartialBytes.{other, Inside, digit-inside, nonzero-inside, letter-inside, word-inside, PartialBytes, no_byte, a_byte, dot-bytes, qualifier-bytes, last-bytes, later-bytes}
use Rattle.rules.proofs.Complete.{unambiguous}
use Rattle.rules.proofs.Accepted.{Accepted, reading-accepted}

-- ---- the text with spaces in place of what is not read

-- A space for each byte behind a wildcard but a bar. And for each comma: it may be missing before a space, and no space may stand before it.
shown : Where → ℕ → ℕ
shown plain c = pick (eqb c 44) 32 c
shown named c = pick (eqb c 44) 32 c
shown behind c = pick (eqb c 124) 124 32

masked : Where → List ℕ → List ℕ
unfolding shown after
masked w [] = []
masked w (c ∷ s) = shown w c ∷ masked (after w c) s

masked-length : (w : Where) (s : List ℕ) → length (masked w s) ≡ length s
unfolding masked
masked-length w [] = refl
masked-length w (c ∷ s) = ap suc (masked-length (after w c) s)

-- ---- which bytes stay

-- a byte of the class stays, and leads on to where it stands itself
Keeps : Where → (ℕ → Bool) → Type 0
Keeps w p = (c : ℕ) (s : List ℕ) → p c ≡ true → masked w (c ∷ s) ≡ c ∷ masked w s

plain-keeps : (p : ℕ → Bool) → p 44 ≡ false → p 120 ≡ false → p 88 ≡ false → p 42 ≡ false → p 45 ≡ false → p 43 ≡ false → Keeps plain p
unfolding Keeps masked
plain-keeps p i j k l m n c s e = rw (other p 44 i e, other p 120 j e, other p 88 k e, other p 42 l e, other p 45 m e, other p 43 n e)

named-keeps : (p : ℕ → Bool) → Inside p → Keeps named p
unfolding Keeps masked
named-keeps p i c s e = rw (i c e, other (λ b. not (ends_partial b)) 44 refl (ap not (i c e)))

-- behind a wildcard a space stands for any other byte of the partial
hidden : (c : ℕ) (s : List ℕ) → ends_partial c ≡ false → masked behind (c ∷ s) ≡ 32 ∷ masked behind s
unfolding masked
hidden c s e = rw (e, other (λ b. not (ends_partial b)) 124 refl (ap not e))

-- ---- what stays is read as before

one_kept : (w : Where) {p : ℕ → Bool} {s t : List ℕ} {c : ℕ} → Keeps w p → OneOf p s c t → OneOf p (masked w s) c (masked w t)
unfolding Keeps
one_kept w k (OneOf.one {c} {s} e) = rw (k c s e) (OneOf.one e)

run-kept : (w : Where) {p : ℕ → Bool} {s v r : List ℕ} → Keeps w p → Run p s v r → Run p (masked w s) v (masked w r)
unfolding Keeps
run-kept w k Run.stop = Run.stop
run-kept w k (Run.more {c} {s} e h) = rw (k c s e) (Run.more e (run-kept w k h))

number-kept : (w : Where) {s v r : List ℕ} → Keeps w is_digit → Keeps w is_nonzero → ReadsNumber s v r → ReadsNumber (masked w s) v (masked w r)
unfolding Keeps is_digit
number-kept w k n (G.zero (byte {s} done)) = rw (k 48 s refl) (G.zero (byte done))
number-kept w k n (G.digits o h) = G.digits (one_kept w n o) (run-kept w k h)

component-kept : {s v r : List ℕ} → ReadsNumber s v r → ReadsComponent (masked plain s) (some (value v)) (masked plain r)
unfolding is_digit is_nonzero
component-kept n =
    ReadsComponent.number (number-kept plain (plain-keeps is_digit refl refl refl refl refl refl) (plain-keeps is_nonzero refl refl refl refl refl refl) n)

wildcard-kept : {s t : List ℕ} {c : ℕ} → OneOf is_wild s c t → ReadsComponent (masked plain s) none (masked behind t)
unfolding masked
wildcard-kept (OneOf.one e) = rw (e, other is_wild 44 refl e) (wildcard (OneOf.one e))

sign_kept : {s t : List ℕ} {c : ℕ} → OneOf is_sign s c t → OneOf is_sign (masked plain s) c (masked named t)
unfolding masked
sign_kept (OneOf.one e) = rw (e, other is_sign 44 refl e, other is_sign 120 refl e, other is_sign 88 refl e, other is_sign 42 refl e) (OneOf.one e)

identifier-kept : {s r : List ℕ} {i : Identifier} → ReadsIdentifier s i r → ReadsIdentifier (masked named s) i (masked named r)
identifier-kept {s} (ReadsIdentifier.number n) =
    rw (← masked-length named s) (ReadsIdentifier.number (number-kept named (named-keeps is_digit digit-inside) (named-keeps is_nonzero nonzero-inside) n))
identifier-kept {s} (G.word o h) =
    rw (← masked-length named s) (G.word (one_kept named (named-keeps is_letter letter-inside) o) (run-kept named (named-keeps is_word word-inside) h))

dots-kept : {s r : List ℕ} {is : List Identifier} → Many ReadsDotIdentifier s is r → Many ReadsDotIdentifier (masked named s) is (masked named r)
unfolding masked
dots-kept Many.stop = Many.stop
dots-kept (Many.more (G.dot (byte done) i) k) = Many.more (G.dot (byte done) (identifier-kept i)) (dots-kept k)

-- ---- behind a wildcard a partial becomes spaces

bytes-hidden : {s r : List ℕ} → PartialBytes s r → Spaces (masked behind s) (masked behind r)
bytes-hidden no_byte = no-space
bytes-hidden (a_byte {c} {s} e k) = rw (hidden c s e) (space refl (bytes-hidden k))

-- ---- partials

-- the text s begins with a piece that is read as a, and behind it stand spaces or none and then r, masked
data Masked {A : Type 0} (P : List ℕ → A → List ℕ → Type 0) (s : List ℕ) (a : A) (r : List ℕ) : Type 0 where
  begins : {u : List ℕ} (w : Where) → P s a u → Spaces u (masked w r) → Masked P s a r

-- the same of a piece that ends with that one
begins-as : {A B : Type 0} {P : List ℕ → A → List ℕ → Type 0} {Q : List ℕ → B → List ℕ → Type 0} {s t r : List ℕ} {a : A} {b : B}
    → ((u : List ℕ) → P s a u → Q t b u) → Masked P s a r → Masked Q t b r
begins-as f (begins {u} w p h) = begins w (f u p) h

partial-masked : {s r : List ℕ} {p : Partial} → ReadsPartial s p r → Masked ReadsPartial (masked plain s) p r
unfolding masked up_to₁ up_to₂ up_to₃
partial-masked (ReadsPartial.one (wildcard o)) = begins behind (ReadsPartial.one (wildcard-kept o)) no-space
partial-masked (ReadsPartial.one (ReadsComponent.number n)) = begins plain (ReadsPartial.one (component-kept n)) no-space
partial-masked (two (wildcard o) (byte done) d) = begins behind (ReadsPartial.one (wildcard-kept o)) (bytes-hidden (dot-bytes d))
partial-masked (two (ReadsComponent.number n) (byte done) (wildcard o)) = begins behind (two (component-kept n) (byte done) (wildcard-kept o)) no-space
partial-masked (two (ReadsComponent.number n) (byte done) (ReadsComponent.number m)) =
    begins plain (two (component-kept n) (byte done) (component-kept m)) no-space
partial-masked (three (wildcard o) (byte done) d (byte done) e q) =
    begins behind (ReadsPartial.one (wildcard-kept o)) (bytes-hidden (later-bytes d e q))
partial-masked (three (ReadsComponent.number n) (byte done) (wildcard o) (byte done) e q) =
    begins behind (two (component-kept n) (byte done) (wildcard-kept o)) (bytes-hidden (last-bytes e q))
partial-masked (three (ReadsComponent.number n) (byte done) (ReadsComponent.number m) (byte done) (wildcard o) q) =
    begins behind (three (component-kept n) (byte done) (component-kept m) (byte done) (wildcard-kept o) absent) (bytes-hidden (qualifier-bytes q))
partial-masked (three (ReadsComponent.number n) (byte done) (ReadsComponent.number m) (byte done) (ReadsComponent.number l) absent) =
    begins plain (three (component-kept n) (byte done) (component-kept m) (byte done) (component-kept l) absent) no-space
partial-masked (three (ReadsComponent.number n) (byte done) (ReadsComponent.number m) (byte done) (ReadsComponent.number l) (signed o (identifiers i k))) =
    let q = signed (sign_kept o) (identifiers (identifier-kept i) (dots-kept k)) in
    begins named (three (component-kept n) (byte done) (component-kept m) (byte done) (component-kept l) q) no-space

-- ---- spaces, gaps, dashes and separators: behind one of them the text is plain

space-keeps : Keeps plain is_space
space-keeps = plain-keeps is_space refl refl refl refl refl refl

spaces-join : {s t r : List ℕ} → Spaces s t → Spaces t r → Spaces s r
spaces-join no-space l = l
spaces-join (space e k) l = space e (spaces-join k l)

pub spaces : {s r : List ℕ} → Spaces₁ s r → Spaces s r
spaces (spaces₁ (OneOf.one e) k) = space e k

spaces-before : {s t r : List ℕ} → Spaces s t → Spaces₁ t r → Spaces₁ s r
spaces-before no-space l = l
spaces-before (space e k) l = spaces₁ (OneOf.one e) (spaces-join k (spaces l))

spaces-kept : {s r : List ℕ} → Spaces s r → Spaces (masked plain s) (masked plain r)
spaces-kept no-space = no-space
spaces-kept (space e k) = spaces (spaces₁ (one_kept plain space-keeps (OneOf.one e)) (spaces-kept k))

spaces₁-kept : (w : Where) {s r : List ℕ} → Spaces₁ s r → Spaces₁ (masked w s) (masked plain r)
unfolding masked
spaces₁-kept plain (spaces₁ o k) = spaces₁ (one_kept plain space-keeps o) (spaces-kept k)
spaces₁-kept named (spaces₁ (OneOf.one e) k) = rw (e, other is_space 44 refl e) (spaces₁ (OneOf.one e) (spaces-kept k))
spaces₁-kept behind (spaces₁ (OneOf.one e) k) = rw (e, other is_space 124 refl e) (spaces₁ {c = 32} (OneOf.one refl) (spaces-kept k))

comma-masked : (w : Where) (s : List ℕ) → masked w (44 ∷ s) ≡ 32 ∷ masked plain s
unfolding masked
comma-masked plain s = refl
comma-masked named s = refl
comma-masked behind s = refl

bar-masked : (w : Where) (s : List ℕ) → masked w (124 ∷ s) ≡ masked plain (124 ∷ s)
unfolding masked
bar-masked plain s = refl
bar-masked named s = refl
bar-masked behind s = refl

gap-masked : (w : Where) {u s r : List ℕ} → Spaces u (masked w s) → Gap s r → Gap u (masked plain r)
gap-masked w h (Gap.plain k) = Gap.plain (spaces-before h (spaces₁-kept w k))
gap-masked w h (Gap.comma (byte {s = t} done) k) =
    Gap.plain (spaces-before (rw (comma-masked w t) at h) (spaces₁ {c = 32} (OneOf.one refl) (spaces (spaces₁-kept plain k))))

dash-masked : (w : Where) {u s r : List ℕ} → Spaces u (masked w s) → Dash s r → Dash u (masked plain r)
unfolding masked
dash-masked w h (G.dash k (byte done) l) = G.dash (spaces-before h (spaces₁-kept w k)) (byte done) (spaces₁-kept named l)

-- up to the end, or to a bar
spaces-masked : (w : Where) {u s t : List ℕ} → Spaces u (masked w s) → Spaces s t → masked w t ≡ masked plain t → Spaces u (masked plain t)
spaces-masked w h no-space e = rw (← e) h
spaces-masked w h (space f k) e = spaces-join h (spaces (spaces₁-kept w (spaces₁ (OneOf.one f) k)))

separator-masked : (w : Where) {u s r : List ℕ} → Spaces u (masked w s) → Separator s r → Separator u (masked plain r)
unfolding masked
separator-masked w h (G.separator k (byte {s = t} (byte done)) l) = G.separator (spaces-masked w h k (bar-masked w t)) (byte (byte done)) (spaces-kept l)

-- ---- items, ranges and texts

prefix-kept : {s r : List ℕ} {f : Prefix} → ReadsPrefix s f r → ReadsPrefix (masked plain s) f (masked plain r)
unfolding masked
prefix-kept (G.is-lte (byte (byte done))) = G.is-lte (byte (byte done))
prefix-kept (G.is-gte (byte (byte done))) = G.is-gte (byte (byte done))
prefix-kept (G.is_gt (byte done)) = G.is_gt (byte done)
prefix-kept (G.is_lt (byte done)) = G.is_lt (byte done)
prefix-kept (G.is_eq (byte done)) = G.is_eq (byte done)
prefix-kept (G.is-tilde₂ (byte (byte done))) = G.is-tilde₂ (byte (byte done))
prefix-kept (G.is-tilde₁ (byte done)) = G.is-tilde₁ (byte done)
prefix-kept (G.is-caret (byte done)) = G.is-caret (byte done)

item-masked : {s r : List ℕ} {i : Item} → ReadsItem s i r → Masked ReadsItem (masked plain s) i r
item-masked (G.alone p) = begins-as (λ u. G.alone) (partial-masked p)
item-masked (G.prefixed f k p) = begins-as (λ u. G.prefixed (prefix-kept f) (spaces-kept k)) (partial-masked p)

-- wherever the first of the pieces begins
many-masked : {A : Type 0} {P : List ℕ → A → List ℕ → Type 0}
    → ((w : Where) (u s r : List ℕ) (a : A) → Spaces u (masked w s) → P s a r → Masked P u a r)
    → (w : Where) {u s r : List ℕ} {l : List A} → Spaces u (masked w s) → Many P s l r → Masked (Many P) u l r
many-masked f w h Many.stop = begins w Many.stop h
many-masked f w h (Many.more p k) = elim (f w _ _ _ _ h p) [ begins v q g ↦ begins-as (λ u. Many.more q) (many-masked f v g k) ]

next-masked : (w : Where) (u s r : List ℕ) (i : Item) → Spaces u (masked w s) → ReadsNext s i r → Masked ReadsNext u i r
next-masked w u s r i h (G.next g k) = begins-as (λ v. G.next (gap-masked w h g)) (item-masked k)

range-masked : {s r : List ℕ} {a : Range} → ReadsRange s a r → Masked ReadsRange (masked plain s) a r
range-masked (G.hyphened p d q) = elim (partial-masked p) [ begins w p' h ↦ begins-as (λ u. G.hyphened p' (dash-masked w h d)) (partial-masked q) ]
range-masked (G.listed i k) = elim (item-masked i) [ begins w i' h ↦ begins-as (λ u. G.listed i') (many-masked next-masked w h k) ]
range-masked G.empty = begins plain G.empty no-space

further-masked : (w : Where) (u s r : List ℕ) (a : Range) → Spaces u (masked w s) → ReadsFurther s a r → Masked ReadsFurther u a r
further-masked w u s r a h (G.further x k) = begins-as (λ v. G.further (separator-masked w h x)) (range-masked k)

-- the masked text is read as the text is
text-masked : {s : List ℕ} {rs : List Range} → ReadsText s rs → ReadsText (masked plain s) rs
unfolding masked
text-masked (G.whole k a l e) =
    elim (range-masked a) [ begins w a' h ↦ elim (many-masked further-masked w h l) [ begins v l' g ↦ G.whole (spaces-kept k) a' l' (spaces-masked v g e refl) ] ]

-- ---- alike texts

pub alike-length : {w : Where} {s t : List ℕ} → Alike w s t → length s ≡ length t
alike-length Alike.end = refl
alike-length (Alike.same h) = ap suc (alike-length h)
alike-length (Alike.unread e f h) = ap suc (alike-length h)

alike_masked : {w : Where} {s t : List ℕ} → Alike w s t → masked w s ≡ masked w t
unfolding masked
alike_masked Alike.end = refl
alike_masked (Alike.same {w} {c} h) = ap (λ l. shown w c ∷ l) (alike_masked h)
alike_masked (Alike.unread {c} {d} {s} {t} e f h) = hidden c s e ∙ ap (λ l. 32 ∷ l) (alike_masked h) ∙ sym (hidden d t f)

pub alike-syntax : {t t' : List ℕ} {as' bs : List Range} → Alike plain t t' → ReadsText t as' → ReadsText t' bs → as' ≡ bs
alike-syntax a h k = let h' = text-masked h in unambiguous (rw (alike_masked a) at h') (text-masked k)

alike-accepted : {m : Compat} {t t' : List ℕ} {rs rs' : Reading} → Alike plain t t' → Accepted m t rs → Accepted m t' rs' → rs ≡ rs'
alike-accepted {m} a (Accepted.reads l h f g) (Accepted.reads l' h' f' g') = ap (expand m) (alike-syntax a h h')

-- the readings are the same, the places of identifiers included
pub alike : (m : Compat) (t t' : List ℕ) (rs rs' : Reading) → Alike plain t t' → reading m t ≡ accepted rs → reading m t' ≡ accepted rs' → rs ≡ rs'
alike m t t' rs rs' a e e' = alike-accepted a (reading-accepted m t rs e) (reading-accepted m t' rs' e')
