-- Two texts with a normal text each: their readings are equal exactly where these normal texts are the same. So code that compares the bytes
-- of two normal texts compares the readings (requirement 3).
-- Assumes nothing.
use mathlib.Core.Path.{◌≡◌, refl, sym, ap, ap₂, ◌∙◌}
use mathlib.Core.Logic.{◌↔◌}
use Prim.Native.Nat.{ℕ}
use mathlib.Core.Bool.{true}
use mathlib.Core.List.{List, [], ◌∷◌, ◌++◌, map}
use native.Mathlib.Omega.{arith}
use borrow.Author.Tests.{eqb-true, eq-eqb}
use lib.Dec.{eqb}
use lib.ListN.{length, length-append, length-map}
use Rattle.rules.specs.Lists.{concat}
use Rattle.rules.specs.Expansion.{Comparator, comparator, Reading}
use Rattle.rules.specs.Rows.{identifiers_in, all_identifiers, placeless, placeless_comparator, placeless_reading}
use Rattle.rules.specs.Answers.{accepted, comparator_rows, identifier_rows, reading_outcome}
use Rattle.rules.specs.Equality.{same_bytes}
use Rattle.rules.proofs.Follows.{both}

-- ---- bytes

pub same_bytes_lem : (w w' : List ℕ) → (same_bytes w w' ≡ true) ↔ (w ≡ w')
same_bytes_lem [] [] = (λ e. refl, λ e. refl)
same_bytes_lem [] (d ∷ w') = (λ e. cc, λ e. cc)
same_bytes_lem (c ∷ w) [] = (λ e. cc, λ e. cc)
same_bytes_lem (c ∷ w) (d ∷ w') =
    let k = same_bytes_lem w w' in (
      λ e. let x = both (eqb c d) (same_bytes w w') e in ap₂ (λ a b. a ∷ b) (eqb-true c d x.0) (k.0 x.1),
      λ e. let p : c ≡ d = cc in let q : w ≡ w' = cc in rw (eq-eqb c d p, k.1 q),
    )

-- ---- equal readings have as many rows

pub placeless-comparators : (rs ss : Reading) → placeless_reading rs ≡ placeless_reading ss → comparator_rows rs ≡ comparator_rows ss
unfolding placeless_reading
placeless-comparators rs ss e = sym (count rs) ∙ ap (λ x. length (concat x)) e ∙ count ss
  where
    count : (rs : Reading) → length (concat (map (map placeless_comparator) rs)) ≡ length (concat rs)
    count [] = refl
    count (cs ∷ rs) =
        omega (
          arith,
          length-append (map placeless_comparator cs) (concat (map (map placeless_comparator) rs)),
          length-map cs placeless_comparator,
          length-append cs (concat rs),
          count rs,
        )

pub placeless-identifiers : (rs ss : Reading) → placeless_reading rs ≡ placeless_reading ss → identifier_rows rs ≡ identifier_rows ss
unfolding placeless_reading identifier_rows all_identifiers placeless_comparator
placeless-identifiers rs ss e = sym (count rs) ∙ ap (λ x. length (concat (map identifiers_in (concat x)))) e ∙ count ss
  where
    one : (c : Comparator) → length (identifiers_in (placeless_comparator c)) ≡ length (identifiers_in c)
    one (comparator o a b c is) = length-map is placeless

    range : (cs : List Comparator) (ds es : List Comparator) → length (concat (map identifiers_in ds)) ≡ length (concat (map identifiers_in es))
        → length (concat (map identifiers_in (map placeless_comparator cs ++ ds))) ≡ length (concat (map identifiers_in (cs ++ es)))
    range [] ds es k = k
    range (c ∷ cs) ds es k =
        omega (
          arith,
          one c,
          range cs ds es k,
          length-append (identifiers_in (placeless_comparator c)) (concat (map identifiers_in (map placeless_comparator cs ++ ds))),
          length-append (identifiers_in c) (concat (map identifiers_in (cs ++ es))),
        )

    count : (rs : Reading) → length (concat (map identifiers_in (concat (map (map placeless_comparator) rs)))) ≡ length (concat (map identifiers_in (concat rs)))
    count [] = refl
    count (cs ∷ rs) = range cs (concat (map (map placeless_comparator) rs)) (concat rs) (count rs)

-- so they have the same counts
pub same-counts : (rs ss : Reading) → placeless_reading rs ≡ placeless_reading ss → reading_outcome (accepted rs) ≡ reading_outcome (accepted ss)
unfolding reading_outcome placeless_reading
same-counts rs ss e = rw (ranges, placeless-comparators rs ss e, placeless-identifiers rs ss e)
  where
    ranges : length rs ≡ length ss
    ranges = sym (length-map rs (map placeless_comparator)) ∙ ap length e ∙ length-map ss (map placeless_comparator)
