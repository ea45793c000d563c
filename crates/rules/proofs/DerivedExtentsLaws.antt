-- Theorem 18: the extents of a text are those of the items of its derivation. The readers of Extents against the grammar, as in Complete.
-- Assumes nothing.
use mathlib.Core.Path.{◌≡◌, refl, sym, ap, ◌∙◌}
use Prim.Native.Nat.{ℕ, zero, suc, ◌≤◌}
use native.Mathlib.Omega.{arith}
use mathlib.Core.List.{List, [], ◌∷◌}
use lib.ListN.{length}
use Rattle.rules.specs.Bytes.{is_space}
use Rattle.rules.specs.Syntax.{Partial, bare, tilde, caret, op, Item, item, Range}
use Rattle.rules.specs.Grammar as G
use Rattle.rules.specs.Grammar.{Many, Spaces, ReadsPartial, ReadsItem, Gap, ReadsNext, Dash, ReadsRange, ReadsFurther, ReadsText}
use Rattle.rules.specs.Parse.{Result, fail, ok, ◌then◌, choose, many, count, skip, read_item, read_gap, read_next, read_dash, at_end}
use Rattle.rules.specs.Extents.{Extent, up_to, next_extent, items_extents, after_extents, range_extents, further_extents, text_extents}
use Rattle.rules.specs.DerivedExtents.{next_extents, extents_in, further_in, extents_of}
use Rattle.rules.proofs.Follows.{begins-none, partial-stops, Ends, After, then-end, then-bar, after-ends, items-ends, ranges-after}
use Rattle.rules.proofs.Complete.{next-left, many-left, skip-spaces, skip-none, many-fails, partial-read, item-read, item-space, gap-read, end-item, bar-item, after_next, items-dash, dash-ends, dash-read, skip-left, separator-read, separator-skip, ranges-left, end-separator}

-- ---- items

-- where no further item is read, none has an extent
after-extent : {s : List ℕ} → After s → next_extent s ≡ fail
unfolding next_extent read_next ◌then◌
after-extent {s} a = go _ (read_gap s) (after_next a)
  where
    go : (f : List ℕ → List ℕ → Extent) (x : Result (Unit {0})) → (x then λ u t. read_item t) ≡ fail
        → (x then λ u t. read_item t then λ i r. ok (f t r) r) ≡ fail
    go f fail e = refl
    go f (ok u t) e = rw e

item-extent : {s t r : List ℕ} {i : Item} → Gap s t → ReadsItem t i r → Ends r → next_extent s ≡ ok (up_to t r) r
unfolding next_extent ◌then◌
item-extent {t} g i e = rw (gap-read g, skip-none t (item-space i), item-read i e)

items-extents : {s r : List ℕ} {is : List Item} (f : ℕ) → length is ≤ f → (k : Many ReadsNext s is r) → After r → many next_extent f s ≡ ok (next_extents k) r
unfolding many ◌then◌ choose next_extents
items-extents {r} f h Many.stop a = many-fails next_extent f r (after-extent a)
items-extents zero h (Many.more p k) a = absurd (omega arith)
items-extents (suc f) h (Many.more (G.next g i) k) a = rw (item-extent g i (items-ends k a), items-extents f (omega arith) k a)

-- ---- ranges

list-extents : {t r : List ℕ} {is : List Item} (s : List ℕ) (i : Item) (k : Many ReadsNext t is r) → After r → after_extents s i t ≡ ok (up_to s t ∷ next_extents k) r
unfolding after_extents items_extents choose ◌then◌
list-extents {t} s i k a = go i (items-extents (length t) (let h = many-left (λ s r i. next-left) k in omega arith) k a) (items-dash k a)
  where
    go : {r : List ℕ} {es : List Extent} (i : Item) → many next_extent (length t) t ≡ ok es r → read_dash t ≡ fail → after_extents s i t ≡ ok (up_to s t ∷ es) r
    go (item bare p) e d = rw (d, e)
    go (item tilde p) e d = rw e
    go (item caret p) e d = rw e
    go (item (op o) p) e d = rw e

hyphen-extents : {t u r : List ℕ} (s : List ℕ) (p : Partial) {q : Partial} → Dash t u → ReadsPartial u q r → Ends r → after_extents s (item bare p) t ≡ ok (up_to s r ∷ up_to s r ∷ []) r
unfolding after_extents choose ◌then◌
hyphen-extents s p d q e = rw (dash-read d q, partial-read q e)

-- the reader skips the spaces that the grammar may leave to either side of an empty range
range-extents : {s r : List ℕ} {a : Range} (d : ReadsRange s a r) → After r → (t : List ℕ) × (range_extents (skip s) ≡ ok (extents_in d) t) × (skip t ≡ skip r)
unfolding range_extents extents_in choose begins-none count
range-extents G.empty (then-end k) = ([], rw (skip-spaces k, end-item), sym (skip-spaces k))
range-extents G.empty (then-bar {t} k) = (124 ∷ t, rw (skip-spaces k, bar-item t), sym (skip-spaces k))
range-extents {s} {r} (G.listed i k) a = (r, rw (skip-none s (item-space i), item-read i (items-ends k a), list-extents s _ k a), refl)
range-extents {s} {r} (G.hyphened p d q) a =
    (r, rw (skip-none s (partial-stops is_space refl p), item-read (G.alone p) (dash-ends d), hyphen-extents s _ d q (after-ends a)), refl)

-- ---- the text

-- the reader reads the ranges behind the first from the text t that it left; the grammar, from s
further-extents : {s r : List ℕ} {l : List Range} (f : ℕ) → length l ≤ f → (k : Many ReadsFurther s l r) → Spaces r [] → (t : List ℕ) → skip t ≡ skip s
    → (u : List ℕ) × (many further_extents f t ≡ ok (further_in k) u) × (skip u ≡ [])
unfolding many further_extents further_in ◌then◌ choose count
further-extents {s} f h Many.stop e t q = (t, many-fails further_extents f t (rw (separator-skip s t q, end-separator e)), q ∙ skip-spaces e)
further-extents zero h (Many.more p k) e t q = absurd (omega arith)
further-extents {s} (suc f) h (Many.more (G.further b a) k) e t q =
    let x = range-extents a (ranges-after k e) in
    let y = further-extents f (omega arith) k e x.0 x.2 in
    (y.0, rw (separator-skip s t q, separator-read b, x.1, y.1), y.2)

pub grammar-extents : {t : List ℕ} {rs : List Range} (d : ReadsText t rs) → text_extents t ≡ ok (extents_of d) []
unfolding text_extents extents_of ◌then◌ at_end
grammar-extents (G.whole k a l e) =
    let x = range-extents a (ranges-after l e) in
    let y = further-extents (length x.0) (omega (arith, ranges-left l, skip-left x.0, ap length x.2)) l e x.0 x.2 in
    rw (skip-spaces k, x.1, y.1, y.2)
