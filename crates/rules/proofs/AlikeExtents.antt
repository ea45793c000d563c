-- Theorem 5 for the places and lengths: texts that are alike but for bytes behind a wildcard have their items at the same places. A partial ends
-- before the first byte that ends one, and alike texts have these at the same places.
-- Assumes nothing.
use mathlib.Core.Path.{◌≡◌, refl, sym, ap, ap₂, ◌∙◌}
use Prim.Native.Nat.{ℕ}
use native.Mathlib.Omega.{arith}
use mathlib.Core.Bool.{Bool, true, false, not, ◌||◌}
use mathlib.Core.List.{List, [], ◌∷◌}
use lib.Dec.{eqb}
use Rattle.rules.specs.Bytes.{is_space, within}
use Rattle.rules.specs.Syntax.{Partial, Prefix, Item, Range}
use Rattle.rules.specs.Grammar as G
use Rattle.rules.specs.Grammar.{OneOf, byte, done, Many, Spaces, spaces₁, ReadsPartial, ReadsPrefix, ReadsItem, Gap, ReadsNext, Dash, ReadsRange, Separator, ReadsFurther, ReadsText}
use Rattle.rules.specs.Parse.{ok, count, skip}
use Rattle.rules.specs.Expansion.{Compat, Reading}
use Rattle.rules.specs.Extents.{up_to, text_extents}
use Rattle.rules.specs.DerivedExtents.{next_extents, extents_in, further_in, extents_of}
use Rattle.rules.specs.Rows.{comparator_words}
use Rattle.rules.specs.Answers.{accepted, reading}
use Rattle.rules.specs.Alike.{Where, plain, named, behind, ends_partial, after, Alike, end, same, unread}
use Rattle.rules.proofs.Follows.{Stops, begins-none, partial-stops, item-stops, passes, Ends, ends-stops, After, after-ends, items-ends, ranges-after}
use Rattle.rules.proofs.Complete.{past, spaces-past, past-none, skip-spaces, skip-none, item-space, dash-ends, complete}
use Rattle.rules.proofs.Accepted.{Accepted, reads, reading-accepted}
use Rattle.rules.proofs.PartialBytes.{other, PartialBytes, no_byte, a_byte, partial-bytes}
use Rattle.rules.proofs.DerivedExtentsLaws.{grammar-extents}
use Rattle.rules.proofs.Unread.{spaces, alike-length, alike-syntax}

-- ---- bytes of a class at the same places

-- alike, wherever they begin
abbrev AlikeSomewhere : List ℕ → List ℕ → Type 0
AlikeSomewhere s t = (w : Where) × Alike w s t

past-step : (q : ℕ → Bool) {w : Where} {c d : ℕ} {s t : List ℕ} (b : Bool) → q c ≡ b → q d ≡ b → Alike w (c ∷ s) (d ∷ t) → AlikeSomewhere (past q s) (past q t)
    → AlikeSomewhere (past q (c ∷ s)) (past q (d ∷ t))
unfolding count
past-step q true e f h m = rw (e, f) m
past-step q {w} false e f h m = rw (e, f) (w, h)

-- a class that does not tell two bytes of partials apart
past-alike : (q : ℕ → Bool) → ((c d : ℕ) → ends_partial c ≡ false → ends_partial d ≡ false → q c ≡ q d)
    → {w : Where} {s t : List ℕ} → Alike w s t → AlikeSomewhere (past q s) (past q t)
unfolding count
past-alike q f {w} end = (w, end)
past-alike q f (same {c} h) = past-step q (q c) refl refl (same h) (past-alike q f h)
past-alike q f (unread {c} {d} i j h) = past-step q (q c) refl (sym (f c d i j)) (unread i j h) (past-alike q f h)

inner-space : (c : ℕ) → ends_partial c ≡ false → is_space c ≡ false
inner-space c e = go (is_space c) (eqb c 44 || eqb c 124) e
  where
    go : (a b : Bool) → (a || b) ≡ false → a ≡ false
    go true b f = f
    go false b f = refl

skip-alike : {w : Where} {s t : List ℕ} → Alike w s t → AlikeSomewhere (skip s) (skip t)
skip-alike h = past-alike is_space (λ c d i j. inner-space c i ∙ sym (inner-space d j)) h

-- a class that has no wildcard and no sign: behind its bytes the texts are still plain
plain-class : (q : ℕ → Bool) → q 120 ≡ false → q 88 ≡ false → q 42 ≡ false → q 45 ≡ false → q 43 ≡ false → (c : ℕ) → q c ≡ true → after plain c ≡ plain
unfolding after
plain-class q i j k l m c e = rw (other q 120 i e, other q 88 j e, other q 42 k e, other q 45 l e, other q 43 m e)

past-plain : (q : ℕ → Bool) → ((c : ℕ) → q c ≡ true → after plain c ≡ plain) → {w : Where} {s t : List ℕ} → w ≡ plain → Alike w s t → Alike plain (past q s) (past q t)
unfolding count
past-plain q f e end = end
past-plain q f e (same {w} {c} {s} {t} h) = go (q c) refl (λ g. past-plain q f (ap (λ v. after v c) e ∙ f c g) h)
  where
    go : (b : Bool) → q c ≡ b → (q c ≡ true → Alike plain (past q s) (past q t)) → Alike plain (past q (c ∷ s)) (past q (c ∷ t))
    go true g k = rw g (k g)
    go false g k = rw g (let x = same h in rw e at x)
past-plain q f e (unread i j h) = let z : ◌≡◌ {A = ℕ} 0 1 = cc in absurd (omega arith)

skip-plain : {s t : List ℕ} → Alike plain s t → Alike plain (skip s) (skip t)
skip-plain h = past-plain is_space (plain-class is_space refl refl refl refl refl) refl h

-- ---- behind a byte that ends a partial the texts are plain

ends-plain : (w : Where) (c : ℕ) → ends_partial c ≡ true → after w c ≡ plain
unfolding after
ends-plain plain c e = plain-class ends_partial refl refl refl refl refl c e
ends-plain named c e = rw e
ends-plain behind c e = rw e

never : {A : Type 0} (c : ℕ) → ends_partial c ≡ true → ends_partial c ≡ false → A
never c e f = let z : ◌≡◌ {A = ℕ} 0 1 = cc in absurd (omega arith)

ends_on : {w : Where} {c d : ℕ} {s t : List ℕ} → ends_partial c ≡ true → Alike w (c ∷ s) (d ∷ t) → Alike plain s t
ends_on e (same {w} {c} h) = rw (ends-plain w c e) at h
ends_on e (unread {c} i j h) = never c e i

gap-past : {s r : List ℕ} → Gap s r → past ends_partial s ≡ past ends_partial r
unfolding count
gap-past (Gap.plain k) = spaces-past ends_partial (λ c e. rw e) (spaces k)
gap-past (Gap.comma (byte done) k) = spaces-past ends_partial (λ c e. rw e) (spaces k)

past-ends : {w : Where} {c : ℕ} {s t : List ℕ} → ends_partial c ≡ true → Alike w (c ∷ s) t → Alike plain (past ends_partial (c ∷ s)) (past ends_partial t)
unfolding count
past-ends e (same {w} {c} h) = rw e (past-plain ends_partial (ends-plain plain) (ends-plain w c e) h)
past-ends e (unread {c} i j h) = never c e i

gap-on : {w : Where} {s t r : List ℕ} → Gap s r → Alike w s t → Alike plain (past ends_partial s) (past ends_partial t)
gap-on (Gap.plain (spaces₁ (OneOf.one e) k)) h = past-ends (rw e) h
gap-on (Gap.comma (byte done) k) h = past-ends refl h

gap-alike : {w : Where} {s s' t t' : List ℕ} → Alike w s s' → Gap s t → Gap s' t' → Stops ends_partial t → Stops ends_partial t' → Alike plain t t'
gap-alike {t} {t'} h g g' i j = let x = gap-on g h in rw (gap-past g, gap-past g', past-none ends_partial t i, past-none ends_partial t' j) at x

dash-on : {s t : List ℕ} → Alike plain (45 ∷ s) (45 ∷ t) → AlikeSomewhere s t
dash-on (same h) = (_, h)

dash-alike : {w : Where} {s s' r r' : List ℕ} → Alike w s s' → Dash s r → Dash s' r' → Stops ends_partial r → Stops ends_partial r' → Alike plain r r'
dash-alike h (G.dash k (byte done) l) (G.dash k' (byte done) l') i j =
    let x = dash-on (gap-alike h (Gap.plain k) (Gap.plain k') refl refl) in gap-alike x.1 (Gap.plain l) (Gap.plain l') i j

-- ---- items

-- a space, or a byte of what stands before an item's partial
abbrev leads : ℕ → Bool
leads c = is_space c || (within 60 62 c || (eqb c 94 || eqb c 126))

prefix-past : {s r : List ℕ} {f : Prefix} → ReadsPrefix s f r → past leads s ≡ past leads r
unfolding count
prefix-past (G.is-lte (byte (byte done))) = refl
prefix-past (G.is-gte (byte (byte done))) = refl
prefix-past (G.is_gt (byte done)) = refl
prefix-past (G.is_lt (byte done)) = refl
prefix-past (G.is_eq (byte done)) = refl
prefix-past (G.is-tilde₂ (byte (byte done))) = refl
prefix-past (G.is-tilde₁ (byte done)) = refl
prefix-past (G.is-caret (byte done)) = refl

-- a byte that does not end a partial
abbrev inner : ℕ → Bool
inner c = not (ends_partial c)

bytes-end : {s r : List ℕ} → PartialBytes s r → Ends r → past inner s ≡ r
unfolding count
bytes-end {r} no_byte e = past-none inner r (ends-stops inner refl refl refl refl e)
bytes-end (a_byte b k) e = rw b (bytes-end k e)

partial-end : {s r : List ℕ} {p : Partial} → ReadsPartial s p r → Ends r → past inner (past leads s) ≡ r
unfolding begins-none passes
partial-end {s} p e = rw (past-none leads s (partial-stops leads refl p)) (bytes-end (partial-bytes p) e)

item-end : {s r : List ℕ} {i : Item} → ReadsItem s i r → Ends r → past inner (past leads s) ≡ r
item-end (G.alone p) e = partial-end p e
item-end (G.prefixed f k p) e = rw (prefix-past f, spaces-past leads (λ c h. rw h) k) (partial-end p e)

item-alike : {s s' r r' : List ℕ} {i j : Item} → Alike plain s s' → ReadsItem s i r → ReadsItem s' j r' → Ends r → Ends r' → AlikeSomewhere r r'
item-alike h i j e e' =
    let x = past-plain leads (plain-class leads refl refl refl refl refl) refl h in
    let y = past-alike inner (λ c d i j. ap not i ∙ sym (ap not j)) x in
    rw (← item-end i e, ← item-end j e') y

-- an item begins with no byte that ends a partial
item-first : {s r : List ℕ} {i : Item} → ReadsItem s i r → Stops ends_partial s
unfolding begins-none passes
item-first i = item-stops ends_partial refl refl i

-- from one place in both texts to another
extent-alike : {v w : Where} {s s' r r' : List ℕ} → Alike v s s' → Alike w r r' → up_to s r ≡ up_to s' r'
extent-alike h k = rw (alike-length h, alike-length k)

items_alike : {w : Where} {s s' r r' : List ℕ} {is : List Item} → Alike w s s' → (k : Many ReadsNext s is r) (k' : Many ReadsNext s' is r') → After r → After r'
    → (next_extents k ≡ next_extents k') × AlikeSomewhere r r'
unfolding next_extents
items_alike {w} h Many.stop Many.stop a a' = (refl, (w, h))
items_alike {w = w} h (Many.more (G.next g i) k) (Many.more (G.next g' i') k') a a' =
    let x = gap-alike h g g' (item-first i) (item-first i') in
    let y = item-alike x i i' (items-ends k a) (items-ends k' a') in
    let z = items_alike {w = y.0} y.1 k k' a a' in
    (ap₂ (λ e es. e ∷ es) (extent-alike x y.1) z.0, z.1)

-- ---- ranges and texts

-- from behind the spaces before both to behind those that follow
range-alike : {s s' r r' : List ℕ} {a : Range} → Alike plain (skip s) (skip s') → (d : ReadsRange s a r) (d' : ReadsRange s' a r') → After r → After r'
    → (extents_in d ≡ extents_in d') × AlikeSomewhere (skip r) (skip r')
unfolding extents_in begins-none passes
range-alike h G.empty G.empty a a' = (rw (alike-length h), (plain, h))
range-alike {s} {s'} h (G.listed i k) (G.listed i' k') a a' =
    let g = rw (skip-none s (item-space i), skip-none s' (item-space i')) at h in
    let x = item-alike g i i' (items-ends k a) (items-ends k' a') in
    let y = items_alike x.1 k k' a a' in
    (ap₂ (λ e es. e ∷ es) (extent-alike g x.1) y.0, skip-alike y.1.1)
range-alike {s} {s'} h (G.hyphened p d q) (G.hyphened p' d' q') a a' =
    let g = rw (skip-none s (partial-stops is_space refl p), skip-none s' (partial-stops is_space refl p')) at h in
    let x = item-alike g (G.alone p) (G.alone p') (dash-ends d) (dash-ends d') in
    let y = dash-alike x.1 d d' (partial-stops ends_partial refl q) (partial-stops ends_partial refl q') in
    let z = item-alike y (G.alone q) (G.alone q') (after-ends a) (after-ends a') in
    (ap (λ e. e ∷ e ∷ []) (extent-alike g z.1), skip-alike z.1)

separator-alike : {w : Where} {s s' r r' : List ℕ} → Alike w (skip s) (skip s') → Separator s r → Separator s' r' → Alike plain (skip r) (skip r')
unfolding count
separator-alike h (G.separator k (byte (byte done)) l) (G.separator k' (byte (byte done)) l') =
    let g = rw (skip-spaces k, skip-spaces k') at h in
    rw (← skip-spaces l, ← skip-spaces l') (skip-plain (ends_on refl (ends_on refl g)))

further-alike : {w : Where} {s s' r r' : List ℕ} {l : List Range} → Alike w (skip s) (skip s') → (k : Many ReadsFurther s l r) (k' : Many ReadsFurther s' l r')
    → Spaces r [] → Spaces r' [] → further_in k ≡ further_in k'
unfolding further_in
further-alike h Many.stop Many.stop e e' = refl
further-alike {w = w} h (Many.more (G.further b a) k) (Many.more (G.further b' a') k') e e' =
    let x = range-alike (separator-alike h b b') a a' (ranges-after k e) (ranges-after k' e') in
    ap₂ (λ e es. e ∷ es) x.0 (further-alike {w = x.1.0} x.1.1 k k' e e')

text-alike : {t t' : List ℕ} {rs : List Range} → Alike plain t t' → (d : ReadsText t rs) (d' : ReadsText t' rs) → extents_of d ≡ extents_of d'
unfolding extents_of
text-alike h (G.whole k a l e) (G.whole k' a' l' e') =
    let g = skip-plain h in
    let x = range-alike (rw (skip-spaces k, skip-spaces k') at g) a a' (ranges-after l e) (ranges-after l' e') in
    ap₂ (λ e es. e ∷ es) x.0 (further-alike x.1.1 l l' e e')

pub alike-extents : {t t' : List ℕ} {rs ss : List Range} → Alike plain t t' → ReadsText t rs → ReadsText t' ss → text_extents t ≡ text_extents t'
alike-extents h d d' =
    let x = rw (← alike-syntax h d d') at d' in grammar-extents d ∙ ap (λ es. ok es []) (text-alike h d x) ∙ sym (grammar-extents x)

words-alike : {m : Compat} {t t' : List ℕ} {rs rs' : Reading} → Alike plain t t' → Accepted m t rs → Accepted m t' rs' → comparator_words m t ≡ comparator_words m t'
unfolding comparator_words
words-alike h (reads l d f g) (reads l' d' f' g') = rw (complete d, complete d', alike-syntax h d d', alike-length h, alike-extents h d d')

-- the same comparator words, places and lengths included
pub alike-words : (m : Compat) (t t' : List ℕ) (rs rs' : Reading) → Alike plain t t' → reading m t ≡ accepted rs → reading m t' ≡ accepted rs'
    → comparator_words m t ≡ comparator_words m t'
alike-words m t t' rs rs' h e e' = words-alike h (reading-accepted m t rs e) (reading-accepted m t' rs' e')
