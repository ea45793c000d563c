-- The counts of a reading by the code's tests on the tally, and the reading call by its tests on the counts: a law for each way out.
-- Assumes nothing.
use Prim.Native.Nat.{ℕ, ◌<◌, ◌≤◌}
use mathlib.Core.Path.{◌≡◌, refl, sym, ap, ◌∙◌}
use mathlib.Core.List.{List}
use mathlib.Core.Bool.{true, false}
use native.Mathlib.Omega.{arith}
use lib.ListN.{length}
use Rattle.rules.specs.Syntax.{Range}
use Rattle.rules.specs.Parse.{Result, fail, ok, read_text}
use Rattle.rules.specs.Expansion as E
use Rattle.rules.specs.Expansion.{Compat}
use Rattle.rules.specs.Answers.{Answer, accepted, refused, longest, reading, comparator_rows, identifier_rows, reading_outcome}
use Rattle.rules.specs.Walk.{walk_of}
use Rattle.rules.proofs.Accepted.{reading-number}
use Rattle.rules.proofs.ReadingCall.{tallied, reading-1, reading-2, reading-3, reading-4, reading-accepts, call-counts}
use Rattle.passes.specs.Views.{Accepts, first_step}
use Rattle.rangeset.proofs.Measuring.{measured_none}
use Rattle.refusals.specs.Views.{number_of}
use Rattle.rangeset.specs.Views.{counted, tally_of, outcome_of}
use Rattle.rangeset.specs.declared.Tally.{Tally}
use Rattle.rangeset.specs.declared.Counts.{Counts}
use Rattle.refusals.specs.declared.Refusal.{Refusal}
use Rattle.refusals.specs.declared.Refusal.TheVariants as Refusals
use Rattle.std.specs.Prelude as Std
use Rattle.std.specs.Prelude.{Some, None, Ok, Err}

pub outcome-refused : (a : Answer E.Reading) (w : Refusal) → a ≡ refused (number_of w) → outcome_of (Err w) ≡ reading_outcome a
unfolding reading_outcome
outcome-refused a w e = rw e refl

-- ---- count

module _ (m : Compat) (s : List ℕ) where
  pub count_long : longest < length s → outcome_of (Err Refusals.TooLong) ≡ reading_outcome (reading m s)
  count_long h = outcome-refused (reading m s) Refusals.TooLong (reading-1 m s h)

  module _ (h : length s ≤ longest) where
    pub count-unread : None ≡ tally_of (walk_of m (read_text s)) → outcome_of (Err Refusals.NoReading) ≡ reading_outcome (reading m s)
    unfolding tally_of
    count-unread e = outcome-refused (reading m s) Refusals.NoReading (reading-2 m s h (go (read_text s) refl))
      where
        go : (x : Result (List Range)) → read_text s ≡ x → x ≡ fail
        go fail k = refl
        go (ok rs r) k = let z : None ≡ Some (counted (tallied m rs)) = e ∙ ap (λ x. tally_of (walk_of m x)) k in let y : ◌≡◌ {A = ℕ} 0 1 = cc in absurd (omega arith)

    module _ (t : Tally) (e : Some t ≡ tally_of (walk_of m (read_text s))) where
      -- the ranges that were counted
      record Found : Type 0 where
        pub ranges : List Range
        pub rest : List ℕ
        pub reads : read_text s ≡ ok ranges rest
        pub tallies : t ≡ counted (tallied m ranges)

      found : Found
      unfolding tally_of
      found = go (read_text s) refl
        where
          go : (x : Result (List Range)) → read_text s ≡ x → Found
          go fail k = let z : Some t ≡ None = e ∙ ap (λ x. tally_of (walk_of m x)) k in let y : ◌≡◌ {A = ℕ} 0 1 = cc in absurd (omega arith)
          go (ok rs r) k = let z : Some t ≡ Some (counted (tallied m rs)) = e ∙ ap (λ x. tally_of (walk_of m x)) k in record { ranges = rs; rest = r; reads = k; tallies = cc }

      large_is : (tallied m found.ranges).large ≡ t.large
      large_is = ap (λ x. x.large) (sym found.tallies)

      over-is : (tallied m found.ranges).over ≡ t.over
      over-is = ap (λ x. x.over) (sym found.tallies)

      pub count-large : t.large ≡ true → outcome_of (Err Refusals.TooLarge) ≡ reading_outcome (reading m s)
      count-large l = outcome-refused (reading m s) Refusals.TooLarge (reading-3 m s h found.ranges found.rest found.reads (large_is ∙ l))

      module _ (l : t.large ≡ false) where
        pub count-over : t.over ≡ true → outcome_of (Err Refusals.Over) ≡ reading_outcome (reading m s)
        count-over o = outcome-refused (reading m s) Refusals.Over (reading-4 m s h found.ranges found.rest found.reads (large_is ∙ l) (over-is ∙ o))

        pub count-accepts : t.over ≡ false
            → outcome_of (Ok t.counts) ≡ reading_outcome (reading m s)
        count-accepts o =
            ap (λ y. outcome_of (Ok y.counts)) found.tallies
            ∙ sym (call-counts m found.ranges)
            ∙ ap reading_outcome (sym (reading-accepts m s h found.ranges found.rest found.reads (large_is ∙ l) (over-is ∙ o)))

-- a text without a first step
pub count_stuck : (m : Compat) (s : List ℕ) → length s ≤ longest → None ≡ first_step m s → outcome_of (Err Refusals.NoReading) ≡ reading_outcome (reading m s)
count_stuck m s h e = count-unread m s h (measured_none m s e)

pub ruleset counting = (count_long, count_stuck, count-unread, count-large, count-over, count-accepts)

-- ---- what the counts say of the reading

-- an accepted text has these counts
pub record Counted (m : Compat) (s : List ℕ) (c : Counts) : Type 0 where
  pub reads : E.Reading
  pub is : reading m s ≡ accepted reads
  pub comparators : c.comparators ≡ comparator_rows reads
  pub identifiers : c.identifiers ≡ identifier_rows reads

-- no refusal has the number 0
pub refusal-number : (w : Refusal) → number_of w ≡ 0 → ⊥
refusal-number Refusals.TooLong e = omega arith
refusal-number Refusals.NoReading e = omega arith
refusal-number Refusals.TooLarge e = omega arith
refusal-number Refusals.Over e = omega arith
refusal-number Refusals.ComparatorsShort e = omega arith
refusal-number Refusals.IdentifiersShort e = omega arith
refusal-number Refusals.BytesShort e = omega arith
refusal-number Refusals.NoVersion e = omega arith
refusal-number Refusals.VersionTooLarge e = omega arith
refusal-number Refusals.NotShelf e = omega arith
refusal-number Refusals.Full e = omega arith
refusal-number Refusals.Code e = omega arith

pub counted-reading : (m : Compat) (s : List ℕ) (c : Counts) → outcome_of (Ok c) ≡ reading_outcome (reading m s) → Counted m s c
unfolding reading_outcome
counted-reading m s c e = go (reading m s) refl
  where
    go : (a : Answer E.Reading) → reading m s ≡ a → Counted m s c
    go (accepted rs) q =
        record {
          reads = rs;
          is = q;
          comparators = ap (λ x. x.comparators) (e ∙ ap reading_outcome q);
          identifiers = ap (λ x. x.identifiers) (e ∙ ap reading_outcome q);
        }
    go (refused n) q = absurd (reading-number m s n q (sym (ap (λ x. x.refusal) (e ∙ ap reading_outcome q))))

pub counted-accepts : (m : Compat) (s : List ℕ) (r : Std.Result Counts Refusal) → outcome_of r ≡ reading_outcome (reading m s) → (c : Counts) → r ≡ Ok c → Accepts m s
counted-accepts m s r e c q = let h = counted-reading m s c (ap outcome_of (sym q) ∙ e) in record { reads = h.reads; is = h.is }

pub refused-reading : (m : Compat) (s : List ℕ) (w : Refusal) → outcome_of (Err w) ≡ reading_outcome (reading m s) → reading m s ≡ refused (number_of w)
unfolding reading_outcome
refused-reading m s w e = go (reading m s) refl
  where
    go : (a : Answer E.Reading) → reading m s ≡ a → reading m s ≡ refused (number_of w)
    go (accepted rs) q = absurd (refusal-number w (ap (λ x. x.refusal) (e ∙ ap reading_outcome q)))
    go (refused n) q = q ∙ ap refused (sym (ap (λ x. x.refusal) (e ∙ ap reading_outcome q)))
