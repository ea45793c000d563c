-- What is left behind the readers of items and ranges is the text from a place on. Each takes a byte at least, but for a range, which may be
-- empty.
-- Assumes nothing.
use Prim.Native.Nat.{ℕ}
use native.Mathlib.Omega.{arith}
use mathlib.Core.List.{List, [], ◌∷◌}
use lib.ListN.{length}
use Rattle.rules.specs.Bytes.{bytes, is_space}
use Rattle.rules.specs.Syntax.{bare, tilde, caret, op, Item, item}
use Rattle.rules.specs.Parse.{skip, spaces₁, read_item, read_gap, read_next, read_dash, read_items, after_item, read_range, read_separator, read_further}
use Rattle.rules.proofs.Results.{Gives, gives, gives-map, gives_then, gives-choose}
use Rattle.rules.proofs.Left.{Behind, behind-none, behind-both, one-behind, literal-behind, count-behind, many-behind, partial-behind, prefix-behind}

pub skip-behind : (s : List ℕ) → Behind 0 s (skip s)
skip-behind s = count-behind is_space s

pub spaces₁-behind : (s : List ℕ) → Gives (λ u. Behind 1 s) (spaces₁ s)
unfolding spaces₁
spaces₁-behind s = gives_then (one-behind is_space s) λ c t h. gives (behind-both h (skip-behind t) (omega arith))

pub item-behind : (s : List ℕ) → Gives (λ i. Behind 1 s) (read_item s)
unfolding read_item
item-behind s =
    gives-choose (prefix-behind s)
    (λ f t h. gives_then (partial-behind (skip t)) λ p r k. gives (behind-both h (behind-both {l = 1} (skip-behind t) k (omega arith)) (omega arith)))
    (gives_then (partial-behind s) λ p r h. gives h)

pub gap-behind : (s : List ℕ) → Gives (λ u. Behind 1 s) (read_gap s)
unfolding read_gap
gap-behind s =
    gives-choose (literal-behind (bytes ",") s) (λ u t h. gives-map (spaces₁-behind t) λ u r k. behind-both h k (omega arith)) (spaces₁-behind s)

pub next_item-behind : (s : List ℕ) → Gives (λ i. Behind 1 s) (read_next s)
unfolding read_next
next_item-behind s = gives_then (gap-behind s) λ u t h. gives-map (item-behind t) λ i r k. behind-both h k (omega arith)

pub dash-behind : (s : List ℕ) → Gives (λ u. Behind 1 s) (read_dash s)
unfolding read_dash
dash-behind s =
    gives_then (spaces₁-behind s) λ u t h. gives_then (literal-behind (bytes "-") t) λ u v k.
    gives-map (spaces₁-behind v) λ u r l. behind-both h (behind-both {l = 1} k l (omega arith)) (omega arith)

items-behind : (i : Item) (s : List ℕ) → Gives (λ a. Behind 0 s) (read_items i s)
unfolding read_items
items-behind i s = gives_then (many-behind read_next next_item-behind (length s) s) λ is r h. gives (behind-both h behind-none (omega arith))

after_item-behind : (i : Item) (s : List ℕ) → Gives (λ a. Behind 0 s) (after_item i s)
unfolding after_item
after_item-behind (item bare p) s =
    gives-choose (dash-behind s) (λ u t h. gives_then (partial-behind t) λ q r k. gives (behind-both h k (omega arith))) (items-behind (item bare p) s)
after_item-behind (item tilde p) s = items-behind (item tilde p) s
after_item-behind (item caret p) s = items-behind (item caret p) s
after_item-behind (item (op o) p) s = items-behind (item (op o) p) s

pub range-behind : (s : List ℕ) → Gives (λ a. Behind 0 s) (read_range s)
unfolding read_range
range-behind s = gives-choose (item-behind s) (λ i t h. gives-map (after_item-behind i t) λ a r k. behind-both h k (omega arith)) (gives behind-none)

pub separator-behind : (s : List ℕ) → Gives (λ u. Behind 1 s) (read_separator s)
unfolding read_separator
separator-behind s =
    gives_then (literal-behind (0x7C ∷ 0x7C ∷ []) (skip s)) λ u r h.
    gives (behind-both (skip-behind s) (behind-both {l = 1} h (skip-behind r) (omega arith)) (omega arith))

pub further-behind : (s : List ℕ) → Gives (λ a. Behind 1 s) (read_further s)
unfolding read_further
further-behind s = gives_then (separator-behind s) λ u t h. gives-map (range-behind t) λ a r k. behind-both h k (omega arith)
