-- Whole texts: the crate's `range_set` meets 01's reader of a text in the crate's order, and its pairs give 01's reading.
-- Assumes nothing.
use mathlib.Core.Path.{◌≡◌, refl, ap, ◌∙◌}
use Prim.Native.Nat.{ℕ}
use native.Mathlib.Omega.{arith}
use mathlib.Core.Bool.{Bool, true, false, ◌&&◌}
use mathlib.Core.List.{List, [], ◌∷◌, map}
use lib.ListN.{length}
use borrow.Author.Tests.{eq-eqb}
use Rattle.rules.specs.Lists.{each}
use Rattle.rules.specs.Bytes.{pick}
use Rattle.rules.specs.Syntax.{Range}
use Rattle.rules.specs.Rows.{placeless_comparator, placeless_reading}
use Rattle.rules.specs.Expansion.{Reading, expand_range, comparators_of, expand}
use Rattle.rules.specs.Answers.{comparator_fits, range_fits, reading_fits}
use Rattle.rules.specs.Parse.{Result, skip, read_next, read_items, read_separator, at_end}
use Rattle.rules.proofs.Results as Results
use Rattle.rules.proofs.Results.{Gives, gives_then, gives-choose, gives-map}
use Rattle.rules.proofs.Left.{Behind, behind-none, behind-both, literal-behind, many-behind, partial-behind}
use Rattle.rules.proofs.LeftItems.{skip-behind, item-behind, next_item-behind, dash-behind}
use Rattle.reference.specs.Rule.{Rule}
use Rattle.reference.specs.Pest.{Pairs, end, pair, ◌⊕◌, ParseResult, ok, err, and_then, span, run}
use Rattle.reference.specs.Generated as G
use Rattle.reference.specs.Rust.{OrPanic, gives, panics, ◌and◌, joined}
use Rattle.reference.specs.Range.{Compat, range-from-pair-iterator}
use Rattle.reference.specs.RangeSet.{set-record, set-records}
use Rattle.reference.specs.Seen.{mode}
use Rattle.reference.proofs.Meets.{queued-end, chain₂, chain₃, chain₆, Meets, Within, inside, via, within-map, sequence-meets, rule-meets, and-within, matched-meets, gets-inside, star-meets, Each, none, more}
use Rattle.reference.proofs.Lexed.{spaces-run}
use Rattle.reference.proofs.Partials.{given}
use Rattle.reference.proofs.Expands.{said}
use Rattle.reference.proofs.Items.{spaced}
use Rattle.reference.proofs.Ranges.{range_said, joined-given, IsRange, is_range, range-meets, read_hyphen, read_listed, range_in_order}
use Rattle.reference.proofs.Near.{further_in_order, text_in_order}

-- ---- what the crate answers to ranges

unfoldable pub set_said : Compat → List Range → OrPanic Reading
set_said m rs = given (each range_fits rs) (given (reading_fits (expand (mode m) rs)) (gives (placeless_reading (expand (mode m) rs))))

joined-first : {A : Type 0} (x : OrPanic (List A)) → joined (gives []) x ≡ x
unfolding joined
joined-first (gives l) = refl
joined-first panics = refl

given-given-and : {A B : Type 0} (a b : Bool) (x : A) (f : A → OrPanic B) → (given a (given b (gives x)) and f) ≡ given a (given b (f x))
unfolding ◌and◌
given-given-and true true x f = refl
given-given-and true false x f = refl
given-given-and false b x f = refl

set_more : (m : Compat) (a : Range) (rs : List Range) (k q : Pairs) → range-from-pair-iterator m k ≡ range_said m a → set-records m q ≡ set_said m rs
    → joined (set-record m Rule.range k) (set-records m q) ≡ set_said m (a ∷ rs)
unfolding set-record set_said range_said said reading_fits placeless_reading expand joined
set_more m a rs k q e f =
    ap (λ x. joined (x and λ cs. gives (cs ∷ [])) (set-records m q)) e
    ∙ ap (λ x. joined x (set-records m q)) (given-given-and (range_fits a) (each comparator_fits (comparators_of (expand_range (mode m) a))) _ _)
    ∙ ap (joined (given (range_fits a) (given (each comparator_fits (comparators_of (expand_range (mode m) a))) (gives (map placeless_comparator (comparators_of (expand_range (mode m) a)) ∷ []))))) f
    ∙ joined-given (range_fits a) (each range_fits rs) _ _
    ∙ ap (given (range_fits a && each range_fits rs)) (joined-given (each comparator_fits (comparators_of (expand_range (mode m) a))) (each (each comparator_fits) (expand (mode m) rs)) _ _)

-- ---- separators and further ranges

data IsBars : Unit {0} → Pairs → Type 0 where
  is_bars : {u : Unit {0}} {w : List ℕ} → IsBars u (pair Rule.logical-or w end end)

data IsNext : Range → Pairs → Type 0 where
  is_next : {a : Range} {v w : List ℕ} {k : Pairs} → ((m : Compat) → range-from-pair-iterator m k ≡ range_said m a) → IsNext a (pair Rule.logical-or v end (pair Rule.range w k end))

next_of : (a : Range) (u : Unit {0}) (x y : Pairs) → IsBars u x → IsRange a y → IsNext a (x ⊕ y)
unfolding ◌⊕◌
next_of a u x y is_bars (is_range h) = is_next h

set_next : (m : Compat) (w : List ℕ) (rs : List Range) (q : Pairs) → Each IsNext rs q → set-records m (q ⊕ pair Rule.EOI w end end) ≡ set_said m rs
unfolding set-records set-record joined set_said reading_fits placeless_reading expand ◌⊕◌
set_next m w [] q none = refl
set_next m w (a ∷ rs) q (more {q = l} (is_next {k} h) z) =
    joined-first (joined (set-record m Rule.range k) (set-records m (l ⊕ pair Rule.EOI w end end))) ∙ set_more m a rs k (l ⊕ pair Rule.EOI w end end) (h m) (set_next m w rs l z)

set_all : (m : Compat) (a : Range) (rs : List Range) (w : List ℕ) (x q : Pairs) → IsRange a x → Each IsNext rs q → set-records m (x ⊕ (q ⊕ pair Rule.EOI w end end)) ≡ set_said m (a ∷ rs)
unfolding set-records ◌⊕◌
set_all m a rs w x q (is_range {k} h) z = set_more m a rs k (q ⊕ pair Rule.EOI w end end) (h m) (set_next m w rs q z)

-- ---- how much is left

items-behind : (s : List ℕ) → Gives (λ a. Behind 1 s) (read_listed s)
unfolding read_listed read_items
items-behind s = gives_then (item-behind s) λ i t h. gives_then (many-behind read_next next_item-behind (length t) t) λ is r k. Results.gives (behind-both h k (omega arith))

hyphen-behind : (s : List ℕ) → Gives (λ a. Behind 1 s) (read_hyphen s)
unfolding read_hyphen
hyphen-behind s =
    gives_then (partial-behind s) λ p t h. gives_then (dash-behind t) λ u v k. gives_then (partial-behind v) λ q r l.
    Results.gives (behind-both h (behind-both {l = 1} k l (omega arith)) (omega arith))

range-behind : (s : List ℕ) → Gives (λ a. Behind 0 s) (range_in_order s)
unfolding range_in_order
range-behind s =
    gives-choose (gives-choose {Q = λ a. Behind 1 s} (hyphen-behind s) (λ a r h. Results.gives h) (items-behind s)) (λ a r h. Results.gives (behind-both h behind-none (omega arith))) (Results.gives behind-none)

separator-behind : (s : List ℕ) → Gives (λ u. Behind 1 s) (read_separator s)
unfolding read_separator
separator-behind s =
    gives_then (literal-behind (0x7C ∷ 0x7C ∷ []) (skip s)) λ u r h.
    Results.gives (behind-both (skip-behind s) (behind-both {l = 1} h (skip-behind r) (omega arith)) (omega arith))

further-behind : (s : List ℕ) → Gives (λ a. Behind 1 s) (further_in_order s)
unfolding further_in_order
further-behind s = gives_then (separator-behind s) λ u t h. gives-map (range-behind t) λ a r k. behind-both h k (omega arith)

-- ---- the rules

pub data IsSet : List Range → Pairs → Type 0 where
  is_set : {rs : List Range} {w : List ℕ} {k : Pairs} → ((m : Compat) → set-records m k ≡ set_said m rs) → IsSet rs (pair Rule.range-set w k end)

module _ (t : List ℕ) where
  bars-meets : (s : List ℕ) → Meets IsBars s (read_separator s) (run t G.logical-or s)
  unfolding run G.logical-or read_separator ◌⊕◌
  bars-meets s =
      rule-meets {Q = λ u p. p ≡ end} Rule.logical-or (sequence-meets s (via (chain₃ _ _ _ ∙ spaced t _ s) (and-within (inside (matched-meets (skip s) _)) λ u r p e.
      via (spaces-run t r) (Within.reads (rw e))))) λ u r p e z. rw z is_bars

  further-meets : (s : List ℕ) → Meets IsNext s (further_in_order s) (run t G.next-range s)
  unfolding run G.next-range further_in_order
  further-meets s =
      sequence-meets s (via (chain₂ _ _) (and-within {R = IsNext} (inside (bars-meets s)) λ u r x hx. within-next u x hx (inside (range-meets t r))))
    where
      within-next : (u : Unit {0}) (x : Pairs) → IsBars u x → {g : Result Range} {o : ParseResult} → Within IsRange g o → Within (λ a q. IsNext a (x ⊕ q)) g o
      within-next u x hx (Within.reads {a} {p} h) = Within.reads (next_of a u x p hx h)
      within-next u x hx Within.misses = Within.misses

  end-meets : (s : List ℕ) → Meets (λ u p. (w : List ℕ) × (p ≡ pair Rule.EOI w end end)) s (at_end s) (run t G.EOI s)
  unfolding run G.EOI
  end-meets s = rule-meets Rule.EOI (matched-meets s (at_end s)) λ u r p e z. (span s r, rw z refl)

  start : (f : List ℕ → ParseResult) → and_then (run t G.SOI t) f ≡ f t
  unfolding run G.SOI and_then
  start f = ap (λ b. and_then (pick b (ok t end) (err t end)) f) (eq-eqb (length t) (length t) refl) ∙ queued-end (f t)

  pub set-meets : Meets IsSet t (text_in_order t) (run t G.range-set t)
  unfolding run G.range-set text_in_order
  set-meets =
      rule-meets {Q = λ rs k. (m : Compat) → set-records m k ≡ set_said m rs} Rule.range-set
      (sequence-meets t (via (chain₆ _ _ _ _ _ _ ∙ start _ ∙ spaced t _ t)
      (and-within {R = λ rs k. (m : Compat) → set-records m k ≡ set_said m rs} (inside (range-meets t (skip t))) λ a r x hx.
      and-within {R = λ rs k. (m : Compat) → set-records m (x ⊕ k) ≡ set_said m rs} (gets-inside (star-meets further_in_order (run t G.next-range) further-meets further-behind r)) λ rs r q hq.
      via (spaced t (run t G.EOI) r) (within-map (λ u. a ∷ rs) (inside (end-meets (skip r))) λ u y hy m. rw hy.1 (set_all m a rs hy.0 x q hx hq))))) λ rs r k e h. is_set h
