-- Which bytes of the text each comparator comes from (02, N2). Read by the readers of Parse, each of which says what it leaves.
-- Assumes nothing.
use Rattle.std.specs.Prelude.{ℕ, ◌-◌, List, [], ◌∷◌, length}
use Rattle.rules.specs.Syntax.{bare, tilde, caret, op, Item, item}
use Rattle.rules.specs.Parse.{Result, ok, ◌then◌, choose, all, skip, read_partial, read_item, read_gap, read_dash, read_separator, at_end}

-- how many bytes of the text are left where the item begins, and its length
pub data Extent : Type 0 where
  extent : ℕ → ℕ → Extent

-- what stands between s and what is left behind it, r
abbrev pub up_to : List ℕ → List ℕ → Extent
up_to s r = extent (length s) (length s - length r)

-- "the item's first byte", "its length, commas and outer spaces left off"
unfoldable pub next_extent : List ℕ → Result Extent
unfolding read_gap read_item ◌then◌
next_extent s = read_gap s then λ u t. read_item t then λ i r. ok (up_to t r) r

unfoldable pub items_extents : Extent → List ℕ → Result (List Extent)
unfolding next_extent ◌then◌
items_extents e t = all next_extent t then λ es r. ok (e ∷ es) r

-- One for each piece of a range. "A hyphen range is one item": both its sides have it.
unfoldable pub after_extents : List ℕ → Item → List ℕ → Result (List Extent)
unfolding items_extents read_dash choose
after_extents s (item bare p) t = choose (read_dash t) (λ u v. read_partial v then λ q r. ok (up_to s r ∷ up_to s r ∷ []) r) (items_extents (up_to s t) t)
after_extents s (item tilde p) t = items_extents (up_to s t) t
after_extents s (item caret p) t = items_extents (up_to s t) t
after_extents s (item (op o) p) t = items_extents (up_to s t) t

-- "An empty range has length 0 and the place after the leading spaces or after the separator and its spaces."
unfoldable pub range_extents : List ℕ → Result (List Extent)
unfolding after_extents
range_extents s = choose (read_item s) (λ i t. after_extents s i t) (ok (extent (length s) 0 ∷ []) s)

unfoldable pub further_extents : List ℕ → Result (List Extent)
unfolding range_extents
further_extents s = read_separator s then λ u t. range_extents t

unfoldable pub text_extents : List ℕ → Result (List (List Extent))
unfolding range_extents further_extents
text_extents s = range_extents (skip s) then λ a t. all further_extents t then λ l r. at_end (skip r) then λ u e. ok (a ∷ l) e
