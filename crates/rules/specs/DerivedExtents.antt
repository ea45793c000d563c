-- Which bytes of the text each comparator comes from, by the grammar: the extents of the items of a derivation (02, N2). Cited by theorem 18 alone.
-- Assumes nothing.
use Rattle.std.specs.Prelude.{ℕ, List, [], ◌∷◌, length}
use Rattle.rules.specs.Syntax.{Item, Range}
use Rattle.rules.specs.Grammar.{Many, ReadsNext, next, ReadsRange, hyphened, listed, empty, ReadsFurther, further, ReadsText, whole}
use Rattle.rules.specs.Parse.{skip}
use Rattle.rules.specs.Extents.{Extent, extent, up_to}

-- "the item's first byte", "its length, commas and outer spaces left off": from where the item's own line of the grammar begins to what it leaves
unfoldable pub next_extents : {s r : List ℕ} {is : List Item} → Many ReadsNext s is r → List Extent
next_extents Many.stop = []
next_extents (Many.more (next {t} {r} g i) k) = up_to t r ∷ next_extents k

-- "A hyphen range is one item": both its sides have it. "An empty range has length 0 and the place after the leading spaces or after the separator
-- and its spaces": behind all of them, since the grammar may leave some to either side of an empty range.
unfoldable pub extents_in : {s r : List ℕ} {a : Range} → ReadsRange s a r → List Extent
unfolding next_extents
extents_in (hyphened {s} {r} p d q) = up_to s r ∷ up_to s r ∷ []
extents_in (listed {s} {t} i k) = up_to s t ∷ next_extents k
extents_in (empty {s}) = extent (length (skip s)) 0 ∷ []

unfoldable pub further_in : {s r : List ℕ} {l : List Range} → Many ReadsFurther s l r → List (List Extent)
unfolding extents_in
further_in Many.stop = []
further_in (Many.more (further b a) k) = extents_in a ∷ further_in k

-- one for each piece of each range
unfoldable pub extents_of : {t : List ℕ} {rs : List Range} → ReadsText t rs → List (List Extent)
unfolding extents_in further_in
extents_of (whole k a l e) = extents_in a ∷ further_in l
