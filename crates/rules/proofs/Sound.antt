-- What the function reads, the grammar derives.
-- Assumes nothing.
use mathlib.Core.Path.{◌≡◌, refl}
use Prim.Native.Nat.{ℕ, zero, suc}
use mathlib.Core.Bool.{Bool, true, false}
use mathlib.Core.List.{List, [], ◌∷◌}
use lib.Dec.{eqb}
use lib.ListN.{length, take, drop}
use borrow.Author.Tests.{eqb-true}
use Rattle.rules.specs.Bytes.{bytes, pick, is_space, is_digit, is_nonzero, is_letter, is_word, is_wild, is_sign}
use Rattle.rules.specs.Syntax.{Partial, Prefix, bare, tilde, caret, op, Item, item, Range}
use Rattle.rules.specs.Grammar as G
use Rattle.rules.specs.Grammar.{OneOf, Run, Literal, Many, Spaces, Spaces₁, ReadsNumber, ReadsComponent, ReadsIdentifier, ReadsDotIdentifier, ReadsIdentifiers, ReadsQualifier, ReadsPartial, ReadsPrefix, ReadsItem, Gap, ReadsNext, Dash, ReadsRange, Separator, ReadsFurther, ReadsText}
use Rattle.rules.specs.Parse.{Result, fail, ok, ◌then◌, many, one_of, count, run, literal, skip, spaces₁, read_number, read_component, read_identifier, read_dot_identifier, read_identifiers, read_qualifier, read_dot, after_three, after_two, after_one, read_partial, spelled, read_prefix, read_item, read_gap, read_next, read_dash, read_items, after_item, read_range, read_separator, read_further, at_end, read_text}
use Rattle.rules.proofs.Results.{Gives, nothing, gives, given, gives-map, gives_then, gives-choose}

-- ---- bytes

pub one_of-sound : (p : ℕ → Bool) (s : List ℕ) → Gives (OneOf p s) (one_of p s)
unfolding one_of
one_of-sound p [] = nothing
one_of-sound p (c ∷ s) = go (p c) refl
  where
    go : (b : Bool) → p c ≡ b → Gives (OneOf p (c ∷ s)) (pick b (ok c s) fail)
    go true e = gives (OneOf.one e)
    go false e = nothing

pub run_sound : (p : ℕ → Bool) (s : List ℕ) → Run p s (take (count p s) s) (drop (count p s) s)
unfolding count
run_sound p [] = Run.stop
run_sound p (c ∷ s) = go (p c) refl (run_sound p s)
  where
    go : (b : Bool) → p c ≡ b → Run p s (take (count p s) s) (drop (count p s) s)
        → Run p (c ∷ s) (take (pick b (suc (count p s)) 0) (c ∷ s)) (drop (pick b (suc (count p s)) 0) (c ∷ s))
    go true e h = Run.more e h
    go false e h = Run.stop

pub literal-sound : (w s : List ℕ) → Gives (λ u. Literal w s) (literal w s)
unfolding literal
literal-sound [] s = gives G.done
literal-sound (b ∷ w) [] = nothing
literal-sound (b ∷ w) (c ∷ s) = go (eqb c b) refl (literal-sound w s)
  where
    go : (t : Bool) → eqb c b ≡ t → Gives (λ u. Literal w s) (literal w s) → Gives (λ u. Literal (b ∷ w) (c ∷ s)) (pick t (literal w s) fail)
    go true e h = rw (eqb-true c b e) (gives-map h λ u r k. G.byte k)
    go false e h = nothing

pub many-sound : {A : Type 0} {P : List ℕ → A → List ℕ → Type 0} (f : List ℕ → Result A) → ((s : List ℕ) → Gives (P s) (f s))
    → (k : ℕ) (s : List ℕ) → Gives (Many P s) (many f k s)
unfolding many
many-sound f h zero s = gives Many.stop
many-sound f h (suc k) s = gives-choose (h s) (λ a t u. gives_then (many-sound f h k t) λ l r v. gives (Many.more u v)) (gives Many.stop)

skip-sound : (s : List ℕ) → Spaces s (skip s)
unfolding count
skip-sound [] = G.no-space
skip-sound (c ∷ s) = go (is_space c) refl (skip-sound s)
  where
    go : (b : Bool) → is_space c ≡ b → Spaces s (skip s) → Spaces (c ∷ s) (drop (pick b (suc (count is_space s)) 0) (c ∷ s))
    go true e h = G.space e h
    go false e h = G.no-space

spaces₁-sound : (s : List ℕ) → Gives (λ u. Spaces₁ s) (spaces₁ s)
unfolding spaces₁
spaces₁-sound s = gives_then (one_of-sound is_space s) λ c t h. gives (Spaces₁.spaces₁ h (skip-sound t))

-- ---- partials

pub number-sound : (s : List ℕ) → Gives (ReadsNumber s) (read_number s)
unfolding read_number run ◌then◌
number-sound s =
    gives-choose (literal-sound (bytes "0") s) (λ u r h. gives (ReadsNumber.zero h))
    (gives_then (one_of-sound is_nonzero s) λ c t h. gives (G.digits h (run_sound is_digit t)))

component-sound : (s : List ℕ) → Gives (ReadsComponent s) (read_component s)
unfolding read_component
component-sound s =
    gives-choose (one_of-sound is_wild s) (λ c r h. gives (G.wildcard h)) (gives_then (number-sound s) λ w r h. gives (ReadsComponent.number h))

pub identifier-sound : (s : List ℕ) → Gives (ReadsIdentifier s) (read_identifier s)
unfolding read_identifier run ◌then◌
identifier-sound s =
    gives-choose (number-sound s) (λ w r h. gives (ReadsIdentifier.number h))
    (gives_then (one_of-sound is_letter s) λ c t h. gives (G.word h (run_sound is_word t)))

dot_identifier-sound : (s : List ℕ) → Gives (ReadsDotIdentifier s) (read_dot_identifier s)
unfolding read_dot_identifier
dot_identifier-sound s = gives_then (literal-sound (bytes ".") s) λ u t h. gives-map (identifier-sound t) λ i r k. G.dot h k

pub identifiers-sound : (s : List ℕ) → Gives (ReadsIdentifiers s) (read_identifiers s)
unfolding read_identifiers
identifiers-sound s =
    gives_then (identifier-sound s) λ i t h. gives_then (many-sound read_dot_identifier dot_identifier-sound (length t) t) λ is r k. gives (G.identifiers h k)

qualifier-sound : (s : List ℕ) → Gives (ReadsQualifier s) (read_qualifier s)
unfolding read_qualifier
qualifier-sound s =
    gives-choose (gives_then {Q = ReadsQualifier s} (one_of-sound is_sign s) λ c t h. gives-map (identifiers-sound t) λ is r k. G.signed h k)
    (λ is r h. gives h) (gives G.absent)

partial-sound : (s : List ℕ) → Gives (ReadsPartial s) (read_partial s)
unfolding read_partial after_one after_two after_three read_dot
partial-sound s =
    gives_then (component-sound s) λ c t hc.
    gives-choose (dot t) (λ d v hd.
    gives-choose (dot v) (λ e z he. gives_then (qualifier-sound z) λ is r hq. gives (G.three hc hd.1 hd.2 he.1 he.2 hq))
    (gives (G.two hc hd.1 hd.2))) (gives (ReadsPartial.one hc))
  where
    dot : (s : List ℕ) → Gives (λ c r. (t : List ℕ) × Literal (bytes ".") s t × ReadsComponent t c r) (read_dot s)
    dot s = gives_then (literal-sound (bytes ".") s) λ u t h. gives-map (component-sound t) λ c r k. (t, h, k)

-- ---- items and ranges

spelled-sound : (w : List ℕ) (f : Prefix) (s : List ℕ) {h : Result Prefix} → ((r : List ℕ) → Literal w s r → ReadsPrefix s f r)
    → Gives (ReadsPrefix s) h → Gives (ReadsPrefix s) (spelled w f s h)
spelled-sound w f s k q = gives-choose (literal-sound w s) (λ u r h. gives (k r h)) q

prefix-sound : (s : List ℕ) → Gives (ReadsPrefix s) (read_prefix s)
unfolding read_prefix
prefix-sound s =
    spelled-sound _ _ s (λ r. G.is-lte) (spelled-sound _ _ s (λ r. G.is-gte) (spelled-sound _ _ s (λ r. G.is_gt) (spelled-sound _ _ s (λ r. G.is_lt)
    (spelled-sound _ _ s (λ r. G.is_eq) (spelled-sound _ _ s (λ r. G.is-tilde₂) (spelled-sound _ _ s (λ r. G.is-tilde₁) (spelled-sound _ _ s (λ r. G.is-caret) nothing)))))))

item-sound : (s : List ℕ) → Gives (ReadsItem s) (read_item s)
unfolding read_item
item-sound s =
    gives-choose (prefix-sound s) (λ f t h. gives_then (partial-sound (skip t)) λ p r k. gives (G.prefixed h (skip-sound t) k))
    (gives_then (partial-sound s) λ p r k. gives (G.alone k))

gap-sound : (s : List ℕ) → Gives (λ u. Gap s) (read_gap s)
unfolding read_gap
gap-sound s =
    gives-choose (literal-sound (bytes ",") s) (λ u t h. gives-map (spaces₁-sound t) λ u r k. G.comma h k) (gives-map (spaces₁-sound s) λ u r k. Gap.plain k)

next-sound : (s : List ℕ) → Gives (ReadsNext s) (read_next s)
unfolding read_next
next-sound s = gives_then (gap-sound s) λ u t h. gives-map (item-sound t) λ i r k. G.next h k

dash-sound : (s : List ℕ) → Gives (λ u. Dash s) (read_dash s)
unfolding read_dash
dash-sound s =
    gives_then (spaces₁-sound s) λ u t h. gives_then (literal-sound (bytes "-") t) λ u v k. gives-map (spaces₁-sound v) λ u r l. G.dash h k l

items-sound : {s t : List ℕ} (i : Item) → ReadsItem s i t → Gives (ReadsRange s) (read_items i t)
unfolding read_items
items-sound {t} i h = gives_then (many-sound read_next next-sound (length t) t) λ is r k. gives (G.listed h k)

-- an item that is bare has no prefix
bare-sound : {s t : List ℕ} {p : Partial} → ReadsItem s (item bare p) t → ReadsPartial s p t
bare-sound (G.alone h) = h
bare-sound (G.prefixed o k h) = elim o [ ]

after_item-sound : {s t : List ℕ} (i : Item) → ReadsItem s i t → Gives (ReadsRange s) (after_item i t)
unfolding after_item
after_item-sound {t} (item bare p) h =
    gives-choose (dash-sound t) (λ u v k. gives_then (partial-sound v) λ q r l. gives (G.hyphened (bare-sound h) k l)) (items-sound (item bare p) h)
after_item-sound (item tilde p) h = items-sound (item tilde p) h
after_item-sound (item caret p) h = items-sound (item caret p) h
after_item-sound (item (op o) p) h = items-sound (item (op o) p) h

range-sound : (s : List ℕ) → Gives (ReadsRange s) (read_range s)
unfolding read_range
range-sound s = gives-choose (item-sound s) (λ i t h. after_item-sound i h) (gives G.empty)

separator-sound : (s : List ℕ) → Gives (λ u. Separator s) (read_separator s)
unfolding read_separator
separator-sound s = gives_then (literal-sound _ (skip s)) λ u r h. gives (Separator.separator (skip-sound s) h (skip-sound r))

further-sound : (s : List ℕ) → Gives (ReadsFurther s) (read_further s)
unfolding read_further
further-sound s = gives_then (separator-sound s) λ u t h. gives-map (range-sound t) λ a r k. G.further h k

pub at_end-sound : (s : List ℕ) → Gives (λ u r. s ≡ []) (at_end s)
unfolding at_end
at_end-sound [] = gives refl
at_end-sound (c ∷ s) = nothing

text-sound : (s : List ℕ) → Gives (λ rs r. ReadsText s rs) (read_text s)
unfolding read_text
text-sound s =
    gives_then (range-sound (skip s)) λ a t h. gives_then (many-sound read_further further-sound (length t) t) λ l v k.
    gives_then (at_end-sound (skip v)) λ u r e. gives (G.whole (skip-sound s) h k (rw e at (skip-sound v)))

pub sound : (s : List ℕ) (rs : List Range) (r : List ℕ) → read_text s ≡ ok rs r → ReadsText s rs
sound s rs r e = given (rw e at (text-sound s))
