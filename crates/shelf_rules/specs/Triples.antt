-- The lowest and the highest triple that a shelf keeps of each entry (02, N3). A triple is a major, a minor and a patch number.
-- Assumes nothing.
use Rattle.std.specs.Prelude.{ℕ, Bool, true, false, ◌&&◌, List, [], ◌∷◌}
use Rattle.rules.specs.Bytes.{pick, largest}
use Rattle.rules.specs.Syntax.{Op, lt, lte, gt, gte, eq}
use Rattle.rules.specs.Expansion.{Comparator, comparator, Reading}
use Rattle.rules.specs.Version.{Version, version}
use Rattle.rules.specs.Precedence.{Order, ◌or_else◌, compare_numbers}
use Rattle.rules.specs.Admission.{holds}

-- ---- triples and their order

pub record Triple : Type 0 where
  pub major : ℕ
  pub minor : ℕ
  pub patch : ℕ

abbrev pub triple : ℕ → ℕ → ℕ → Triple
triple a b c = record { major = a; minor = b; patch = c }

-- "the version's triple"
abbrev pub triple_of : Version → Triple
triple_of (version a b c is) = triple a b c

-- as 01's precedence compares them: the first difference decides
unfoldable pub compare_triples : Triple → Triple → Order
unfolding ◌or_else◌ compare_numbers
compare_triples t u = compare_numbers t.major u.major or_else compare_numbers t.minor u.minor or_else compare_numbers t.patch u.patch

unfoldable pub at_most : Triple → Triple → Bool
unfolding holds compare_triples
at_most t u = holds lte (compare_triples t u)

abbrev pub larger : Triple → Triple → Triple
larger t u = pick (at_most t u) u t

abbrev pub smaller : Triple → Triple → Triple
smaller t u = pick (at_most t u) t u

-- ---- a range

-- "0.0.0"
abbrev pub lowest : Triple
lowest = triple 0 0 0

-- "three times 18446744073709551615"
abbrev pub highest : Triple
highest = triple largest largest largest

-- "its Gt, Gte and Eq comparators"
abbrev pub is_lower : Op → Bool
is_lower lt = false
is_lower lte = false
is_lower gt = true
is_lower gte = true
is_lower eq = true

-- "Lt, Lte and Eq"
abbrev pub is_upper : Op → Bool
is_upper lt = true
is_upper lte = true
is_upper gt = false
is_upper gte = false
is_upper eq = true

-- the low triple with a comparator more, and the high one
abbrev pub low_with : Triple → Comparator → Triple
low_with t (comparator o a b c is) = pick (is_lower o) (larger t (triple a b c)) t

abbrev pub high_with : Triple → Comparator → Triple
high_with t (comparator o a b c is) = pick (is_upper o) (smaller t (triple a b c)) t

unfoldable pub low_from : Triple → List Comparator → Triple
unfolding at_most
low_from t [] = t
low_from t (c ∷ cs) = low_from (low_with t c) cs

unfoldable pub high_from : Triple → List Comparator → Triple
unfolding at_most
high_from t [] = t
high_from t (c ∷ cs) = high_from (high_with t c) cs

-- "A range's low triple is the largest among its Gt, Gte and Eq comparators, or 0.0.0." No triple is below 0.0.0, so the largest is sought from there.
abbrev pub low_triple : List Comparator → Triple
low_triple cs = low_from lowest cs

-- "Its high triple is the smallest among Lt, Lte and Eq, or three times 18446744073709551615." No triple of an accepted text is above that.
abbrev pub high_triple : List Comparator → Triple
high_triple cs = high_from highest cs

-- ---- all ranges of a text

unfoldable pub least_from : Triple → Reading → Triple
unfolding at_most low_from
least_from t [] = t
least_from t (cs ∷ rs) = least_from (smaller t (low_triple cs)) rs

unfoldable pub greatest_from : Triple → Reading → Triple
unfolding at_most high_from
greatest_from t [] = t
greatest_from t (cs ∷ rs) = greatest_from (larger t (high_triple cs)) rs

-- "a lowest and a highest triple"
pub record Bounds : Type 0 where
  pub low : Triple
  pub high : Triple

-- "The entry keeps the least low and the greatest high over its ranges." A text has at least one range.
unfoldable pub bounds_of : Reading → Bounds
unfolding least_from greatest_from
bounds_of rs = record { low = least_from highest rs; high = greatest_from lowest rs }

-- "enclose the version's triple, both ends included"
unfoldable pub encloses : Bounds → Triple → Bool
unfolding at_most
encloses b t = at_most b.low t && at_most t b.high
