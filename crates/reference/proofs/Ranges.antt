-- Ranges: the crate's `range` meets a reader that is 01's but for one case (proofs/Near), and its pairs are expanded as 01 expands the range.
-- Assumes nothing.
use mathlib.Core.Path.{◌≡◌, refl, ap, ◌∙◌}
use Prim.Native.Nat.{ℕ}
use mathlib.Core.Bool.{Bool, true, false, ◌&&◌}
use mathlib.Core.Option.{none}
use mathlib.Core.List.{List, [], ◌∷◌, ◌++◌, map, append-nil}
use Rattle.rules.specs.Lists.{each}
use Rattle.rules.specs.Bytes.{bytes, is_space}
use Rattle.rules.specs.Syntax as S
use Rattle.rules.specs.Syntax.{Item, Range, nothing, items, hyphen}
use Rattle.rules.specs.Rows.{placeless_comparator}
use Rattle.rules.specs.Expansion.{Comparator, comparators, expand_item, expand_left, expand_right, expand_range, comparators_of, as_read, raised}
use Rattle.rules.specs.Answers.{partial_fits, item_fits, comparator_fits, range_fits}
use Rattle.rules.specs.Parse as P
use Rattle.rules.specs.Parse.{Result, ◌then◌, choose, literal, one_of, read_partial, read_item, read_gap, read_next, read_dash, read_items}
use Rattle.rules.proofs.LeftItems.{next_item-behind}
use Rattle.reference.specs.Rule.{Rule}
use Rattle.reference.specs.Pest.{Pairs, end, pair, ◌⊕◌, ok, and_then, optionally, sequenced, span, ruled, matched, run}
use Rattle.reference.specs.Generated as G
use Rattle.reference.specs.Rust.{OrPanic, gives, panics, ◌and◌, joined}
use Rattle.reference.specs.Range.{Compat, new, kind, parse-partial, as-comparator, zero-missing, first-partial, hyphen-left, hyphen-right, hyphen-second, from-hyphen-range, range-record, range-from-pair-iterator}
use Rattle.reference.specs.Seen.{mode}
use Rattle.reference.proofs.Meets.{queued-end, chain₂, chain₃, chain₁₃₁, Meets, Within, inside, via, within-map, or-meets, sequence-meets, rule-meets, and-within, matched-meets, gets-inside, star-meets, starred, Each, none, more}
use Rattle.reference.proofs.Lexed.{space-one, spaces-run}
use Rattle.reference.proofs.Partials.{view_of, given, IsPartial, is_partial, partial-meets}
use Rattle.reference.proofs.Expands.{said, expands-left, expands-right}
use Rattle.reference.proofs.Items.{◌or◌, item_said, given-and, given-same, joined-none, IsItem, is_item, simple-meets}

-- ---- what the crate answers to a range

unfoldable pub range_said : Compat → Range → OrPanic (List Comparator)
range_said m a = given (range_fits a) (said (comparators_of (expand_range (mode m) a)))

pub each_append : {A : Type 0} (p : A → Bool) (k l : List A) → each p (k ++ l) ≡ (each p k && each p l)
each_append p [] l = refl
each_append p (a ∷ k) l = rw (each_append p k l) (go (p a))
  where
    go : (x : Bool) → (x && (each p k && each p l)) ≡ ((x && each p k) && each p l)
    go true = refl
    go false = refl

map-append : {A B : Type 0} (f : A → B) (k l : List A) → map f (k ++ l) ≡ map f k ++ map f l
map-append f [] l = refl
map-append f (a ∷ k) l = ap (f a ∷◌) (map-append f k l)

pub joined-given : {A : Type 0} (a b : Bool) (x y : OrPanic (List A)) → joined (given a x) (given b y) ≡ given (a && b) (joined x y)
unfolding joined
joined-given true true x y = refl
joined-given true false (gives l) y = refl
joined-given true false panics y = refl
joined-given false b x y = refl

said-joined : (cs ds : List Comparator) → joined (said cs) (said ds) ≡ said (cs ++ ds)
unfolding said joined
said-joined cs ds = joined-given (each comparator_fits cs) (each comparator_fits ds) _ _ ∙ rw (each_append comparator_fits cs ds, map-append placeless_comparator cs ds) refl

given-given : {A : Type 0} (a b : Bool) (x : OrPanic A) → given a (given b x) ≡ given (a && b) x
given-given true b x = refl
given-given false b x = refl

-- ---- a hyphen range

from-hyphen : (p q : S.Partial) (w v : List ℕ) (k l : Pairs) → parse-partial k ≡ given (partial_fits p) (gives (view_of p)) → parse-partial l ≡ given (partial_fits q) (gives (view_of q))
    → from-hyphen-range (pair Rule.partial w k (pair Rule.partial v l end)) ≡ given (partial_fits p && partial_fits q) (said (comparators (expand_left p) ++ comparators (expand_right p q)))
unfolding from-hyphen-range hyphen-second first-partial
from-hyphen p q w v k l e f =
    ap (λ x. x and λ p. parse-partial l and λ q. joined (gives (hyphen-left (kind p) p)) (hyphen-right (kind p) (kind q) q)) e
    ∙ given-and (partial_fits p) (view_of p) _
    ∙ given-same (partial_fits p) (λ h. ap (λ x. x and λ q. joined (gives (hyphen-left (kind (view_of p)) (view_of p))) (hyphen-right (kind (view_of p)) (kind q) q)) f
    ∙ given-and (partial_fits q) (view_of q) _
    ∙ given-same (partial_fits q) (λ j. rw (expands-left p h, expands-right p q j) (said-joined _ _)))
    ∙ given-given (partial_fits p) (partial_fits q) _

-- pairs in a range
pub data IsRanged : Range → Pairs → Type 0 where
  is_ranged : {a : Range} {k : Pairs} → ((m : Compat) → range-from-pair-iterator m k ≡ range_said m a) → IsRanged a k

pub data IsRange : Range → Pairs → Type 0 where
  is_range : {a : Range} {w : List ℕ} {k : Pairs} → ((m : Compat) → range-from-pair-iterator m k ≡ range_said m a) → IsRange a (pair Rule.range w k end)

hyphen-ranged : (p q : S.Partial) (w : List ℕ) (x y : Pairs) → IsPartial p x → IsPartial q y → IsRanged (hyphen p q) (pair Rule.hyphen w (x ⊕ y) end)
unfolding range-from-pair-iterator range-record range_said range_fits comparators_of expand_range ◌⊕◌
hyphen-ranged p q w x y (is_partial {w = u} {k} h) (is_partial {w = v} {k = l} j) =
    is_ranged {a = hyphen p q} λ m. joined-none _ ∙ from-hyphen p q u v k l h j ∙ rw (append-nil (comparators (expand_right p q))) refl

empty-ranged : (w : List ℕ) → IsRanged nothing (pair Rule.empty w end end)
unfolding range-from-pair-iterator range-record joined range_said range_fits comparators_of expand_range comparators as_read raised said comparator_fits placeless_comparator as-comparator zero-missing new
empty-ranged w = is_ranged λ m. refl

-- ---- items

each-items : (is : List Item) (k : Pairs) → Each IsItem is k → (m : Compat) → range-from-pair-iterator m k ≡ given (each item_fits is) (said (comparators_of (map (expand_item (mode m)) is)))
unfolding range-from-pair-iterator range-record comparators_of said item_said ◌⊕◌
each-items [] k none m = refl
each-items (i ∷ is) k (more {q} (is_item h) z) m =
    ap (λ x. joined x (range-from-pair-iterator m q)) (h m) ∙ ap (joined (item_said m i)) (each-items is q z m) ∙ both
  where
    both : joined (item_said m i) (given (each item_fits is) (said (comparators_of (map (expand_item (mode m)) is)))) ≡ given (item_fits i && each item_fits is) (said (comparators (expand_item (mode m) i) ++ comparators_of (map (expand_item (mode m)) is)))
    both =
        joined-given (item_fits i) (each item_fits is) (said (comparators (expand_item (mode m) i))) (said (comparators_of (map (expand_item (mode m)) is)))
        ∙ ap (given (item_fits i && each item_fits is)) (said-joined (comparators (expand_item (mode m) i)) (comparators_of (map (expand_item (mode m)) is)))

items-ranged : (i : Item) (is : List Item) (k : Pairs) → Each IsItem (i ∷ is) k → IsRanged (items i is) k
unfolding range_said range_fits expand_range
items-ranged i is k h = is_ranged λ m. each-items (i ∷ is) k h m

-- ---- the rules

-- a hyphen range; items
unfoldable pub read_hyphen : List ℕ → Result Range
read_hyphen s = read_partial s then λ p t. read_dash t then λ u v. read_partial v then λ q r. P.ok (hyphen p q) r

unfoldable pub read_listed : List ℕ → Result Range
read_listed s = read_item s then λ i t. read_items i t

-- a range in the crate's order
unfoldable pub range_in_order : List ℕ → Result Range
range_in_order s = choose (read_hyphen s or read_listed s) (λ a r. P.ok a r) (P.ok nothing s)

module _ (t : List ℕ) where
  spaces₁-meets : (s : List ℕ) → Meets (λ u p. p ≡ end) s (P.spaces₁ s) (run t G.spaces₁ s)
  unfolding run G.spaces₁ P.spaces₁ ◌⊕◌
  spaces₁-meets s =
      sequence-meets s (via (chain₂ _ _ ∙ ap (λ o. and_then o (run t G.spaces)) (space-one t s)) (and-within (inside (matched-meets s (one_of is_space s))) λ c r p e.
      via (spaces-run t r) (Within.reads (rw e))))

  dash-within : (s : List ℕ) → Within (λ u p. p ≡ end) (read_dash s) (and_then (run t G.spaces₁ s) λ r. and_then (matched r (literal (bytes "-") r)) (run t G.spaces₁))
  unfolding read_dash ◌⊕◌
  dash-within s =
      and-within (inside (spaces₁-meets s)) λ u r p e. and-within (inside (matched-meets r (literal (bytes "-") r))) λ u r q f.
      rw (e, f) (inside (spaces₁-meets r))

  hyphen-meets : (s : List ℕ) → Meets IsRanged s (read_hyphen s) (run t G.hyphen s)
  unfolding run G.hyphen read_hyphen ◌⊕◌
  hyphen-meets s =
      rule-meets {Q = λ a k. (w : List ℕ) → IsRanged a (pair Rule.hyphen w k end)} Rule.hyphen
      (sequence-meets s (via (chain₁₃₁ _ _ _ _ _) (and-within {R = λ a k. (w : List ℕ) → IsRanged a (pair Rule.hyphen w k end)} (inside (partial-meets t s)) λ p r x hx.
      and-within (dash-within r) λ u r d e. within-map (hyphen p) (inside (partial-meets t r)) λ q y hy w. rw e (hyphen-ranged p q w x y hx hy)))) λ a r k e h. h (span s r)

  spaced-item : (s : List ℕ) → Within IsItem (P.spaces₁ s then λ u t. read_item t) (and_then (run t G.spaces₁ s) (run t G.simple))
  unfolding ◌⊕◌
  spaced-item s = and-within (inside (spaces₁-meets s)) λ u r p e. rw e (inside (simple-meets t r))

  comma-item : (s : List ℕ) (g : Result (Unit {0}))
      → Within IsItem (choose g (λ u t. P.spaces₁ t) (P.spaces₁ s) then λ u t. read_item t) (and_then (optionally (matched s g)) λ r. and_then (run t G.spaces₁ r) (run t G.simple))
  unfolding choose ◌then◌ matched optionally and_then
  comma-item s P.fail = via (queued-end _) (spaced-item s)
  comma-item s (P.ok u r) = via (queued-end _) (spaced-item r)

  next-meets : (s : List ℕ) → Meets IsItem s (read_next s) (run t G.next-simple s)
  unfolding run G.next-simple read_next read_gap
  next-meets s = sequence-meets s (via (chain₃ _ _ _) (comma-item s (literal (bytes ",") s)))

  listed-meets : (s : List ℕ) → Meets IsRanged s (read_listed s) (sequenced s (and_then (and_then (run t G.simple s) (λ s. ok s end)) (starred (run t G.next-simple))))
  unfolding read_listed read_items
  listed-meets s =
      sequence-meets s (via (chain₂ _ _) (and-within {R = IsRanged} (inside (simple-meets t s)) λ i r x hx.
      within-map (items i) (gets-inside (star-meets read_next (run t G.next-simple) next-meets next_item-behind r)) λ is q hq. items-ranged i is (x ⊕ q) (more hx hq)))

  pub range-meets : (s : List ℕ) → Meets IsRange s (range_in_order s) (run t G.range s)
  unfolding run G.range G.empty range_in_order literal matched ruled
  range-meets s =
      rule-meets {Q = IsRanged} Rule.range
      (or-meets (λ a. a) (run t G.empty) (or-meets (λ a. a) _ (hyphen-meets s) (λ a p q. q) λ z. listed-meets s) (λ a p q. q) λ z. Meets.reads (empty-ranged (span s s))) fin
    where
      fin : (a : Range) (r : List ℕ) (k : Pairs) → range_in_order s ≡ P.ok a r → IsRanged a k → IsRange a (pair Rule.range (span s r) k end)
      fin a r k e (is_ranged h) = is_range h
