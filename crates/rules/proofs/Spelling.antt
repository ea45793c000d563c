-- The normal text of a reading that keeps its spelling is derived by the grammar, as ranges that under every mode mean that reading.
-- Assumes nothing.
use mathlib.Core.Path.{◌≡◌, refl, ap₂}
use Prim.Native.Nat.{ℕ}
use mathlib.Core.Bool.{Bool, true, false}
use mathlib.Core.Option.{none, some}
use mathlib.Core.List.{List, [], ◌∷◌, ◌++◌, append_assoc, append-nil, map}
use lib.Dec.{leb}
use lib.ListN.{length}
use Rattle.rules.specs.Bytes.{bytes, largest, pick, value}
use Rattle.rules.specs.Lists.{each, All, all[], all∷}
use Rattle.rules.specs.Syntax.{Identifier, number, text, of_digits, major_minor_patch, up_to₃, Op, lt, lte, gt, gte, eq, op, Item, item, Range, items}
use Rattle.rules.specs.Grammar as G
use Rattle.rules.specs.Grammar.{OneOf, Run, byte, done, Many, ReadsNumber, ReadsIdentifier, ReadsDotIdentifier, ReadsQualifier, ReadsPrefix, ReadsItem, ReadsNext, ReadsRange, ReadsFurther, ReadsText}
use Rattle.rules.specs.Expansion.{Compat, Comparator, comparator, piece, comparators_of, expand_op, expand_item, expand_range, Reading, expand}
use Rattle.rules.specs.Rows.{identifiers_in, placeless, placeless_comparator, placeless_reading}
use Rattle.rules.specs.NormalText.{decimal, spell_op, spell_identifier, tailed, joined, spell_identifiers, spell_comparator, spell_range, spell}
use Rattle.rules.specs.Answers.{item_fits, range_fits, comparator_fits, reading_fits}
use Rattle.rules.proofs.Pairwise.{All₁, all₁, Pairwise, pairs[], pairs∷, pairwise_map, pairwise-each}
use Rattle.rules.proofs.Decimal.{decimal-number, decimal-value, decimal-component}

-- ---- bytes that are read back

-- Before any text the bytes w are read as a value that is the same as b.
abbrev Spells : {A B : Type 0} → (List ℕ → A → List ℕ → Type 0) → (A → B → Type 0) → List ℕ → B → Type 0
Spells {A} P Same w b = (r : List ℕ) → (a : A) × Same a b × P (w ++ r) a r

-- a piece, and further pieces behind it
data Joined {A : Type 0} (P Q : List ℕ → A → List ℕ → Type 0) : List ℕ → List A → List ℕ → Type 0 where
  first : {s t r : List ℕ} {a : A} {l : List A} → P s a t → Many Q t l r → Joined P Q s (a ∷ l) r

module _ {A B : Type 0} (P Q : List ℕ → A → List ℕ → Type 0) (Same : A → B → Type 0) (f : B → List ℕ) (sep : List ℕ) (Keeps : B → Type 0)
    (spelled : (b : B) → Keeps b → Spells P Same (f b) b) (behind : (s t : List ℕ) (a : A) → P s a t → Q (sep ++ s) a t) where
  tailed-spelled : {l : List B} → All Keeps l → Spells (Many Q) (Pairwise Same) (tailed f sep l) l
  unfolding tailed
  tailed-spelled all[] r = ([], pairs[], Many.stop)
  tailed-spelled (all∷ {a = b} {l} h k) r =
      let x = spelled b h (tailed f sep l ++ r) in
      let y = tailed-spelled k r in
      (x.0 ∷ y.0, pairs∷ x.1 y.1, simp append_assoc (Many.more (behind _ _ _ x.2) y.2))

  joined-spelled : {l : List B} → All₁ Keeps l → Spells (Joined P Q) (Pairwise Same) (joined f sep l) l
  unfolding joined
  joined-spelled (all₁ {a = b} {l} h k) r =
      let x = spelled b h (tailed f sep l ++ r) in
      let y = tailed-spelled k r in
      (x.0 ∷ y.0, pairs∷ x.1 y.1, simp append_assoc (first x.2 y.2))

-- ---- identifiers

-- the same but for the place
abbrev SameIdentifier : Identifier → Identifier → Type 0
SameIdentifier j i = placeless j ≡ placeless i

-- an identifier that keeps its spelling
pub KeepsIdentifier : Identifier → Type 0
KeepsIdentifier i = Spells ReadsIdentifier SameIdentifier (spell_identifier i) i

run-again : {p : ℕ → Bool} {s w r : List ℕ} (t : List ℕ) → Run p s w r → Run p (w ++ t) w t
run-again t Run.stop = Run.stop
run-again t (Run.more e k) = Run.more e (run-again t k)

number-again : {s w r : List ℕ} (t : List ℕ) → ReadsNumber s w r → ReadsNumber (w ++ t) w t
number-again t (G.zero l) = G.zero (byte done)
number-again t (G.digits (OneOf.one e) k) = G.digits (OneOf.one e) (run-again t k)

of_digits-keeps : {s w r : List ℕ} (left : ℕ) → ReadsNumber s w r → KeepsIdentifier (of_digits left w)
unfolding KeepsIdentifier of_digits spell_identifier placeless
of_digits-keeps {w} left h = go (leb (value w) largest) refl
  where
    go : (b : Bool) → leb (value w) largest ≡ b → KeepsIdentifier (pick b (number (value w)) (text left w))
    go true e r =
        let v = value w in
        (of_digits (length (decimal v ++ r)) (decimal v), rw (decimal-value v, e), ReadsIdentifier.number (decimal-number v r))
    go false e r = (of_digits (length (w ++ r)) w, rw e, ReadsIdentifier.number (number-again r h))

pub identifier-keeps : {s r : List ℕ} {i : Identifier} → ReadsIdentifier s i r → KeepsIdentifier i
unfolding KeepsIdentifier spell_identifier placeless
identifier-keeps {s} (ReadsIdentifier.number h) = of_digits-keeps (length s) h
identifier-keeps (ReadsIdentifier.word (OneOf.one e) k) = λ r. (_, refl, ReadsIdentifier.word (OneOf.one e) (run-again r k))

qualifier-spelled : {is : List Identifier} → All KeepsIdentifier is → Spells ReadsQualifier (Pairwise SameIdentifier) (spell_identifiers is) is
unfolding spell_identifiers KeepsIdentifier
qualifier-spelled all[] r = ([], pairs[], G.absent)
qualifier-spelled (all∷ h k) r =
    let x = joined-spelled ReadsIdentifier ReadsDotIdentifier SameIdentifier spell_identifier (bytes ".") KeepsIdentifier (λ i k. k) dotted (all₁ h k) r in
    (x.0, x.1, signed x.2)
  where
    dotted : (s t : List ℕ) (i : Identifier) → ReadsIdentifier s i t → ReadsDotIdentifier (bytes "." ++ s) i t
    dotted s t i d = G.dot (byte done) d

    signed : {s r : List ℕ} {js : List Identifier} → Joined ReadsIdentifier ReadsDotIdentifier s js r → ReadsQualifier (bytes "-" ++ s) js r
    signed (first d ds) = G.signed (OneOf.one refl) (G.identifiers d ds)

-- ---- comparators

-- a comparator whose identifiers keep their spelling
abbrev pub KeepsComparator : Comparator → Type 0
KeepsComparator c = All KeepsIdentifier (identifiers_in c)

-- an item that is a comparator, but for places
data SameItem : Item → Comparator → Type 0 where
  same_item : {o : Op} {a b c : ℕ} {js is : List Identifier} → map placeless js ≡ map placeless is
      → SameItem (item (op o) (major_minor_patch a b c js)) (comparator o a b c is)

op-spelled : (o : Op) (r : List ℕ) → ReadsPrefix (spell_op o ++ r) (op o) r
unfolding spell_op
op-spelled lt r = G.is_lt (byte done)
op-spelled lte r = G.is-lte (byte (byte done))
op-spelled gt r = G.is_gt (byte done)
op-spelled gte r = G.is-gte (byte (byte done))
op-spelled eq r = G.is_eq (byte done)

comparator-spelled : (c : Comparator) → KeepsComparator c → Spells ReadsItem SameItem (spell_comparator c) c
unfolding spell_comparator up_to₃
comparator-spelled (comparator o a b c is) h r =
    let x = qualifier-spelled h r in (
      item (op o) (major_minor_patch a b c x.0),
      same_item (pairwise_map placeless placeless (λ j i e. e) x.1),
      simp append_assoc (G.prefixed (op-spelled o _) G.no-space
          (G.three (decimal-component a _) (byte done) (decimal-component b _) (byte done) (decimal-component c _) x.2)),
    )

-- ---- ranges

-- a range of one comparator at least, and a reading of one such range at least
abbrev pub KeepsRange : List Comparator → Type 0
KeepsRange cs = All₁ KeepsComparator cs

abbrev pub Keeps : Reading → Type 0
Keeps rs = All₁ KeepsRange rs

-- a range that is these comparators, but for places
data SameRange : Range → List Comparator → Type 0 where
  same-range : {i : Item} {is : List Item} {cs : List Comparator} → Pairwise SameItem (i ∷ is) cs → SameRange (items i is) cs

range-spelled : (cs : List Comparator) → KeepsRange cs → Spells ReadsRange SameRange (spell_range cs) cs
unfolding spell_range
range-spelled cs h r =
    let x = joined-spelled ReadsItem ReadsNext SameItem spell_comparator (0x20 ∷ []) KeepsComparator comparator-spelled next h r in
    listed x.2 x.1
  where
    next : (s t : List ℕ) (i : Item) → ReadsItem s i t → ReadsNext (0x20 ∷ s) i t
    next s t i d = G.next (G.plain (G.spaces₁ (OneOf.one refl) G.no-space)) d

    listed : {s : List ℕ} {is : List Item} → Joined ReadsItem ReadsNext s is r → Pairwise SameItem is cs
        → (a : Range) × SameRange a cs × ReadsRange s a r
    listed (first d ds) k = (_, same-range k, G.listed d ds)

text-spelled : (rs : Reading) → Keeps rs → (bs : List Range) × Pairwise SameRange bs rs × ReadsText (spell rs) bs
unfolding spell
text-spelled rs h =
    let x = joined-spelled ReadsRange ReadsFurther SameRange spell_range (bytes " || ") KeepsRange range-spelled further h [] in
    (x.0, x.1, whole (rw append-nil at x.2))
  where
    further : (s t : List ℕ) (a : Range) → ReadsRange s a t → ReadsFurther (bytes " || " ++ s) a t
    further s t a d = G.further (G.separator (G.space refl G.no-space) (byte (byte done)) (G.space refl G.no-space)) d

    whole : {s : List ℕ} {bs : List Range} → Joined ReadsRange ReadsFurther s bs [] → ReadsText s bs
    whole (first d ds) = G.whole G.no-space d ds G.no-space

-- ---- what the ranges mean

full-op : (o : Op) (a b c : ℕ) (is : List Identifier) → expand_op o (major_minor_patch a b c is) ≡ piece (some o) none (major_minor_patch a b c is)
unfolding expand_op
full-op lt a b c is = refl
full-op lte a b c is = refl
full-op gt a b c is = refl
full-op gte a b c is = refl
full-op eq a b c is = refl

items-same : (m : Compat) {is : List Item} {cs : List Comparator} → Pairwise SameItem is cs
    → map placeless_comparator (comparators_of (map (expand_item m) is)) ≡ map placeless_comparator cs
unfolding comparators_of expand_item placeless_comparator
items-same m pairs[] = refl
items-same m (pairs∷ (same_item {o} {a} {b} {c} {js} e) k) =
    rw (full-op o a b c js) (ap₂ (λ ids cs. comparator o a b c ids ∷ cs) e (items-same m k))

range_same : (m : Compat) {a : Range} {cs : List Comparator} → SameRange a cs
    → map placeless_comparator (comparators_of (expand_range m a)) ≡ map placeless_comparator cs
unfolding expand_range
range_same m (same-range k) = items-same m k

reading-same : (m : Compat) {bs : List Range} {rs : Reading} → Pairwise SameRange bs rs → placeless_reading (expand m bs) ≡ placeless_reading rs
unfolding expand placeless_reading
reading-same m pairs[] = refl
reading-same m (pairs∷ h k) = ap₂ (λ cs rs. cs ∷ rs) (range_same m h) (reading-same m k)

item-fits : (i : Item) (c : Comparator) → SameItem i c → item_fits i ≡ comparator_fits c
unfolding item_fits comparator_fits
item-fits i c (same_item e) = refl

range-fits : (a : Range) (cs : List Comparator) → SameRange a cs → range_fits a ≡ each comparator_fits cs
unfolding range_fits
range-fits a cs (same-range k) = pairwise-each item_fits comparator_fits item-fits k

reading-fits : {bs : List Range} {rs : Reading} → Pairwise SameRange bs rs → each range_fits bs ≡ reading_fits rs
unfolding reading_fits
reading-fits h = pairwise-each range_fits (each comparator_fits) range-fits h

-- The normal text is derived, as ranges that are this reading under every mode, but for places, and whose numbers fit where the reading's do.
pub spelling : (rs : Reading) → Keeps rs
    → (bs : List Range) × ReadsText (spell rs) bs × ((m : Compat) → placeless_reading (expand m bs) ≡ placeless_reading rs) × (each range_fits bs ≡ reading_fits rs)
spelling rs h = let x = text-spelled rs h in (x.0, x.2, λ m. reading-same m x.1, reading-fits x.1)
