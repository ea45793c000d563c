-- The reading by what is counted of the pieces of the text, and the reading call's answer by the reading: a law for each refusal, and for
-- acceptance.
-- Assumes nothing.
use mathlib.Core.Path.{◌≡◌, sym, ◌∙◌}
use Prim.Native.Nat.{ℕ, ◌/◌, ◌≤◌, ◌<◌}
use mathlib.Core.Bool.{true, false}
use mathlib.Core.List.{List, map}
use lib.ListN.{length, length-map}
use borrow.Author.Tests.{le-leb, lt-leb, not-true, not-false}
use Rattle.rules.specs.Lists.{each}
use Rattle.rules.specs.Syntax.{Range}
use Rattle.rules.specs.Parse.{fail, ok, read_text}
use Rattle.rules.specs.Expansion.{Compat, expand_range, pieces, Reading, expand}
use Rattle.rules.specs.Rows.{comparator_width}
use Rattle.rules.specs.Answers.{accepted, refused, longest, range_fits, reading_fits, derived, derive, checked, reading, comparator_rows, identifier_rows, reading_call, Outcome, reading_outcome}
use Rattle.rules.specs.Walk.{Tally, tally}
use Rattle.rules.proofs.Sound.{sound}
use Rattle.rules.proofs.Accepted.{reads, accepted-reading, refused-1}
use Rattle.rules.proofs.Tallies.{expand-rows, expand-names, expand-large, expand-raised}

-- ---- the tally of ranges

abbrev pub tallied : Compat → List Range → Tally
tallied m rs = tally (map (expand_range m) rs)

module _ (m : Compat) (rs : List Range) where
  tallied-ranges : length (expand m rs) ≡ (tallied m rs).ranges
  unfolding expand tally
  tallied-ranges = length-map rs _ ∙ sym (length-map rs (expand_range m))

  pub tallied-comparators : comparator_rows (expand m rs) ≡ (tallied m rs).comparators
  unfolding tally pieces
  tallied-comparators = expand-rows m rs

  pub tallied-identifiers : identifier_rows (expand m rs) ≡ (tallied m rs).identifiers
  unfolding tally pieces
  tallied-identifiers = expand-names m rs

  tallied-small : (tallied m rs).large ≡ false → each range_fits rs ≡ true
  unfolding tally pieces
  tallied-small l = not-false (each range_fits rs) (expand-large m rs ∙ l)

-- ---- the reading

module _ (m : Compat) (t : List ℕ) where
  pub reading-1 : longest < length t → reading m t ≡ refused 1
  reading-1 = (refused-1 m t).1

  module _ (short : length t ≤ longest) where
    pub reading-2 : read_text t ≡ fail → reading m t ≡ refused 2
    unfolding reading checked derive derived
    reading-2 e = rw (reading, checked, le-leb (length t) longest short, e)

    module _ (rs : List Range) (r : List ℕ) (e : read_text t ≡ ok rs r) where
      pub reading-3 : (tallied m rs).large ≡ true → reading m t ≡ refused 3
      unfolding reading checked derive derived tally pieces
      reading-3 l = rw (reading, checked, le-leb (length t) longest short, e, not-true (each range_fits rs) (expand-large m rs ∙ l))

      module _ (l : (tallied m rs).large ≡ false) where
        pub reading-4 : (tallied m rs).over ≡ true → reading m t ≡ refused 4
        unfolding reading checked derive derived tally pieces
        reading-4 o =
            let f = tallied-small m rs l in
            rw (reading, checked, le-leb (length t) longest short, e, f, not-true (reading_fits (expand m rs)) (expand-raised m rs f ∙ o))

        pub reading-accepts : (tallied m rs).over ≡ false → reading m t ≡ accepted (expand m rs)
        unfolding tally pieces
        reading-accepts o =
            let f = tallied-small m rs l in
            accepted-reading (reads short (sound t rs r e) f (not-false (reading_fits (expand m rs)) (expand-raised m rs f ∙ o)))

-- ---- the reading call

module _ (m : Compat) (t : List ℕ) (cw iw : ℕ) where
  pub call-refused : (n : ℕ) → reading m t ≡ refused n → reading_call m t cw iw ≡ refused n
  unfolding reading_call
  call-refused n e = rw (reading_call, e)

  module _ (rs : Reading) (e : reading m t ≡ accepted rs) where
    pub call-5 : cw / comparator_width < comparator_rows rs → reading_call m t cw iw ≡ refused 5
    unfolding reading_call
    call-5 h = rw (reading_call, e, lt-leb (comparator_rows rs) (cw / comparator_width) h)

    module _ (h : comparator_rows rs ≤ cw / comparator_width) where
      pub call-6 : iw / 3 < identifier_rows rs → reading_call m t cw iw ≡ refused 6
      unfolding reading_call
      call-6 k = rw (reading_call, e, le-leb (comparator_rows rs) (cw / comparator_width) h, lt-leb (identifier_rows rs) (iw / 3) k)

      pub call-accepts : identifier_rows rs ≤ iw / 3 → reading_call m t cw iw ≡ accepted rs
      unfolding reading_call
      call-accepts k = rw (reading_call, e, le-leb (comparator_rows rs) (cw / comparator_width) h, le-leb (identifier_rows rs) (iw / 3) k)

-- the counts of an accepted reading are those of the tally
outcome-eq : (a b c d e f : ℕ) → a ≡ b → c ≡ d → e ≡ f
    → ◌≡◌ {A = Outcome} (record { refusal = 0; ranges = a; comparators = c; identifiers = e }) (record { refusal = 0; ranges = b; comparators = d; identifiers = f })
outcome-eq a b c d e f p q r = rw (p, q, r)

pub call-counts : (m : Compat) (rs : List Range) → reading_outcome (accepted (expand m rs))
    ≡ record { refusal = 0; ranges = (tallied m rs).ranges; comparators = (tallied m rs).comparators; identifiers = (tallied m rs).identifiers }
unfolding reading_outcome
call-counts m rs = outcome-eq _ _ _ _ _ _ (tallied-ranges m rs) (tallied-comparators m rs) (tallied-identifiers m rs)
