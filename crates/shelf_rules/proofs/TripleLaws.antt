-- Laws of triples: their order, and that the bounds of a reading enclose every version that it admits.
-- Assumes nothing.
use Prim.Native.Nat.{ℕ, ◌≤◌}
use mathlib.Core.Path.{◌≡◌, refl}
use mathlib.Core.Bool.{Bool, true, false, ◌&&◌, ◌||◌}
use mathlib.Core.List.{List, [], ◌∷◌}
use native.Mathlib.Omega.{arith}
use borrow.Author.Tests.{leb-true, ltb-false, eq-eqb}
use lib.Dec.{ltb, eqb}
use Rattle.rules.specs.Lists.{each, some_of}
use Rattle.rules.specs.Bytes.{pick, largest}
use Rattle.rules.specs.Syntax.{Identifier, Op, lt, lte, gt, gte, eq}
use Rattle.rules.specs.Expansion.{Comparator, comparator, Reading}
use Rattle.rules.specs.Answers.{fits}
use Rattle.rules.specs.Version.{Version, version}
use Rattle.rules.specs.Precedence.{Order, less, equal, greater, ◌or_else◌, compare_numbers, compare_prereleases, precedence}
use Rattle.rules.specs.Admission.{holds, meets, admits, version_fits}
use Rattle.rules.proofs.Follows.{both}
use Rattle.rules.proofs.PrecedenceLaws.{Turned, less-turned, equal-turned, greater-turned, Chain, equal-first, equal-second, less-less, greater-greater, less-greater, greater-less, precedence-ordered}
use Rattle.shelf_rules.specs.Triples.{Triple, triple, triple_of, compare_triples, at_most, larger, smaller, lowest, highest, is_lower, is_upper, low_with, high_with, low_from, high_from, low_triple, high_triple, least_from, greatest_from, bounds_of, encloses}

-- ---- orders

or_else-assoc : (x y z : Order) → ((x or_else y) or_else z) ≡ (x or_else (y or_else z))
unfolding ◌or_else◌
or_else-assoc less y z = refl
or_else-assoc equal y z = refl
or_else-assoc greater y z = refl

-- what an operator says of versions it says of their triples, but for equal ones
lower-first : (o : Op) (x y : Order) → is_lower o ≡ true → holds o (x or_else y) ≡ true → holds gte x ≡ true
unfolding holds ◌or_else◌
lower-first lt x y l h = cc
lower-first lte x y l h = cc
lower-first gt less y l h = h
lower-first gt equal y l h = refl
lower-first gt greater y l h = refl
lower-first gte less y l h = h
lower-first gte equal y l h = refl
lower-first gte greater y l h = refl
lower-first eq less y l h = h
lower-first eq equal y l h = refl
lower-first eq greater y l h = refl

upper_first : (o : Op) (x y : Order) → is_upper o ≡ true → holds o (x or_else y) ≡ true → holds lte x ≡ true
unfolding holds ◌or_else◌
upper_first gt x y l h = cc
upper_first gte x y l h = cc
upper_first lt less y l h = refl
upper_first lt equal y l h = refl
upper_first lt greater y l h = h
upper_first lte less y l h = refl
upper_first lte equal y l h = refl
upper_first lte greater y l h = h
upper_first eq less y l h = refl
upper_first eq equal y l h = refl
upper_first eq greater y l h = h

-- a triple as a version without identifiers
abbrev plain : Triple → Version
plain t = version t.major t.minor t.patch []

or_else-equal : (x : Order) → (x or_else equal) ≡ x
unfolding ◌or_else◌
or_else-equal less = refl
or_else-equal equal = refl
or_else-equal greater = refl

as-versions : (t u : Triple) → precedence (plain t) (plain u) ≡ compare_triples t u
unfolding precedence compare_triples compare_prereleases
as-versions t u = rw or_else-equal

split : (v : Version) (o : Op) (a b c : ℕ) (is : List Identifier) → meets v (comparator o a b c is) ≡ true → (y : Order) × (holds o (compare_triples (triple_of v) (triple a b c) or_else y) ≡ true)
unfolding meets precedence compare_triples
split (version a' b' c' is') o a b c is h = (compare_prereleases is' is, simp or_else-assoc h)

-- ---- triples

turned-most : (t u : Triple) → holds gte (compare_triples t u) ≡ true → at_most u t ≡ true
unfolding at_most holds
turned-most t u h = rw (← as-versions u t) (go (precedence-ordered.turned (plain t) (plain u)) (rw (← as-versions t u) at h))
  where
    go : {x y : Order} → Turned x y → holds gte x ≡ true → holds lte y ≡ true
    go less-turned h = cc
    go equal-turned h = refl
    go greater-turned h = refl

most-chained : (t u v : Triple) → at_most t u ≡ true → at_most u v ≡ true → at_most t v ≡ true
unfolding at_most holds
most-chained t u v h k =
    rw (← as-versions t v)
    (go (precedence-ordered.chained (plain t) (plain u) (plain v)) (rw (← as-versions t u) at h) (rw (← as-versions u v) at k))
  where
    go : {x y z : Order} → Chain x y z → holds lte x ≡ true → holds lte y ≡ true → holds lte z ≡ true
    go equal-first h k = k
    go equal-second h k = h
    go less-less h k = refl
    go greater-greater h k = h
    go less-greater h k = cc
    go greater-less h k = cc

-- the larger of two is at most v where both are; the smaller is where one is
larger-most : (t u v : Triple) → at_most t v ≡ true → at_most u v ≡ true → at_most (larger t u) v ≡ true
larger-most t u v h k = go (at_most t u)
  where
    go : (b : Bool) → at_most (pick b u t) v ≡ true
    go true = k
    go false = h

smaller-least : (t u v : Triple) → at_most v t ≡ true → at_most v u ≡ true → at_most v (smaller t u) ≡ true
smaller-least t u v h k = go (at_most t u)
  where
    go : (b : Bool) → at_most v (pick b t u) ≡ true
    go true = h
    go false = k

total : (t u : Triple) → at_most t u ≡ false → at_most u t ≡ true
unfolding at_most holds
total t u h = turned-most t u (go (compare_triples t u) h)
  where
    go : (x : Order) → holds lte x ≡ false → holds gte x ≡ true
    go less e = cc
    go equal e = refl
    go greater e = refl

smaller-first : (t u v : Triple) → at_most t v ≡ true → at_most (smaller t u) v ≡ true
smaller-first t u v h = go (at_most t u) refl
  where
    go : (b : Bool) → at_most t u ≡ b → at_most (pick b t u) v ≡ true
    go true e = h
    go false e = most-chained u t v (total t u e) h

smaller-second : (t u v : Triple) → at_most u v ≡ true → at_most (smaller t u) v ≡ true
smaller-second t u v h = go (at_most t u) refl
  where
    go : (b : Bool) → at_most t u ≡ b → at_most (pick b t u) v ≡ true
    go true e = most-chained t u v e h
    go false e = h

larger-first : (t u v : Triple) → at_most v t ≡ true → at_most v (larger t u) ≡ true
larger-first t u v h = go (at_most t u) refl
  where
    go : (b : Bool) → at_most t u ≡ b → at_most v (pick b u t) ≡ true
    go true e = most-chained v t u h e
    go false e = h

larger-second : (t u v : Triple) → at_most v u ≡ true → at_most v (larger t u) ≡ true
larger-second t u v h = go (at_most t u) refl
  where
    go : (b : Bool) → at_most t u ≡ b → at_most v (pick b u t) ≡ true
    go true e = h
    go false e = most-chained v u t h (total t u e)

-- ---- a range

-- numbers that are at most others, each
number-most : (a b : ℕ) → a ≤ b → holds lte (compare_numbers a b) ≡ true
unfolding compare_numbers holds
number-most a b h = first (ltb a b) refl
  where
    first : (t : Bool) → ltb a b ≡ t → holds lte (pick t less (pick (eqb a b) equal greater)) ≡ true
    first true e = refl
    first false e = let g = ltb-false a b e in let q : a ≡ b = omega arith in rw (eq-eqb a b q)

components : (a b c a' b' c' : ℕ) → a ≤ a' → b ≤ b' → c ≤ c' → at_most (triple a b c) (triple a' b' c') ≡ true
unfolding at_most compare_triples holds ◌or_else◌
components a b c a' b' c' h k l = go (compare_numbers a a') (compare_numbers b b') (compare_numbers c c') (number-most a a' h) (number-most b b' k) (number-most c c' l)
  where
    go : (x y z : Order) → holds lte x ≡ true → holds lte y ≡ true → holds lte z ≡ true → holds lte (x or_else y or_else z) ≡ true
    go less y z p q r = refl
    go equal less z p q r = refl
    go equal equal z p q r = r
    go equal greater z p q r = q
    go greater y z p q r = p

zero-most : (v : Version) → at_most lowest (triple_of v) ≡ true
zero-most (version a b c is) = components 0 0 0 a b c (omega arith) (omega arith) (omega arith)

top-most : (v : Version) → version_fits v ≡ true → at_most (triple_of v) highest ≡ true
unfolding version_fits
top-most (version a b c is) f =
    let (x, g) = both (fits a) (fits b && fits c) f in
    let (y, z) = both (fits b) (fits c) g in
    components a b c largest largest largest (leb-true a largest x) (leb-true b largest y) (leb-true c largest z)

module _ (v : Version) where
  range-low : (cs : List Comparator) (t : Triple) → at_most t (triple_of v) ≡ true → each (meets v) cs ≡ true → at_most (low_from t cs) (triple_of v) ≡ true
  unfolding low_from
  range-low [] t i h = i
  range-low (comparator o a b c is ∷ cs) t i h =
      let (x, y) = both (meets v (comparator o a b c is)) (each (meets v) cs) h in
      range-low cs (low_with t (comparator o a b c is)) (go (is_lower o) refl (split v o a b c is x)) y
    where
      go : (d : Bool) → is_lower o ≡ d → ((y : Order) × (holds o (compare_triples (triple_of v) (triple a b c) or_else y) ≡ true))
          → at_most (pick d (larger t (triple a b c)) t) (triple_of v) ≡ true
      go true e (y, k) = larger-most t (triple a b c) (triple_of v) i (turned-most (triple_of v) (triple a b c) (lower-first o (compare_triples (triple_of v) (triple a b c)) y e k))
      go false e k = i

  range-high : (cs : List Comparator) (t : Triple) → at_most (triple_of v) t ≡ true → each (meets v) cs ≡ true → at_most (triple_of v) (high_from t cs) ≡ true
  unfolding high_from at_most
  range-high [] t i h = i
  range-high (comparator o a b c is ∷ cs) t i h =
      let (x, y) = both (meets v (comparator o a b c is)) (each (meets v) cs) h in
      range-high cs (high_with t (comparator o a b c is)) (go (is_upper o) refl (split v o a b c is x)) y
    where
      go : (d : Bool) → is_upper o ≡ d → ((y : Order) × (holds o (compare_triples (triple_of v) (triple a b c) or_else y) ≡ true))
          → at_most (triple_of v) (pick d (smaller t (triple a b c)) t) ≡ true
      go true e (y, k) = smaller-least t (triple a b c) (triple_of v) i (upper_first o (compare_triples (triple_of v) (triple a b c)) y e k)
      go false e k = i

  -- ---- all ranges

  least_kept : (rs : Reading) (t : Triple) → at_most t (triple_of v) ≡ true → at_most (least_from t rs) (triple_of v) ≡ true
  unfolding least_from
  least_kept [] t h = h
  least_kept (cs ∷ rs) t h = least_kept rs (smaller t (low_triple cs)) (smaller-first t (low_triple cs) (triple_of v) h)

  greatest-kept : (rs : Reading) (t : Triple) → at_most (triple_of v) t ≡ true → at_most (triple_of v) (greatest_from t rs) ≡ true
  unfolding greatest_from
  greatest-kept [] t h = h
  greatest-kept (cs ∷ rs) t h = greatest-kept rs (larger t (high_triple cs)) (larger-first t (high_triple cs) (triple_of v) h)

  admitted-low : (rs : Reading) (t : Triple) → some_of (each (meets v)) rs ≡ true → at_most (least_from t rs) (triple_of v) ≡ true
  unfolding least_from
  admitted-low [] t h = cc
  admitted-low (cs ∷ rs) t h = go (each (meets v) cs) refl h (admitted-low rs (smaller t (low_triple cs)))
    where
      go : (b : Bool) → each (meets v) cs ≡ b → b || some_of (each (meets v)) rs ≡ true
          → (some_of (each (meets v)) rs ≡ true → at_most (least_from (smaller t (low_triple cs)) rs) (triple_of v) ≡ true)
          → at_most (least_from (smaller t (low_triple cs)) rs) (triple_of v) ≡ true
      go true e k i = least_kept rs (smaller t (low_triple cs)) (smaller-second t (low_triple cs) (triple_of v) (range-low cs lowest (zero-most v) e))
      go false e k i = i k

  admitted-high : version_fits v ≡ true → (rs : Reading) (t : Triple) → some_of (each (meets v)) rs ≡ true → at_most (triple_of v) (greatest_from t rs) ≡ true
  unfolding greatest_from
  admitted-high f [] t h = cc
  admitted-high f (cs ∷ rs) t h = go (each (meets v) cs) refl h (admitted-high f rs (larger t (high_triple cs)))
    where
      go : (b : Bool) → each (meets v) cs ≡ b → b || some_of (each (meets v)) rs ≡ true
          → (some_of (each (meets v)) rs ≡ true → at_most (triple_of v) (greatest_from (larger t (high_triple cs)) rs) ≡ true)
          → at_most (triple_of v) (greatest_from (larger t (high_triple cs)) rs) ≡ true
      go true e k i = greatest-kept rs (larger t (high_triple cs)) (larger-second t (high_triple cs) (triple_of v) (range-high cs highest (top-most v f) e))
      go false e k i = i k

-- a version that is admitted is enclosed
pub enclosed : (rs : Reading) (v : Version) → version_fits v ≡ true → admits rs v ≡ true → encloses (bounds_of rs) (triple_of v) ≡ true
unfolding admits encloses bounds_of
enclosed rs v f h = rw (admitted-low v rs highest h, admitted-high v f rs lowest h)
