-- The reading call by the code's tests on the counts: a law for each way out.
-- Assumes nothing.
use Prim.Native.Nat.{ℕ, ◌*◌, ◌/◌, ◌<◌, ◌≤◌}
use mathlib.Core.Path.{◌≡◌, refl, sym, ap, ◌∙◌}
use mathlib.Core.List.{List}
use native.Mathlib.Omega.{arith}
use lib.ListN.{length}
use Rattle.rules.specs.Expansion as E
use Rattle.range.specs.declared.Compat.{Compat}
use Rattle.range.specs.Views.{compat_of}
use Rattle.rules.specs.Rows.{comparator_width}
use Rattle.rules.specs.Answers.{Answer, accepted, refused, reading, reading_call, reading_outcome, written, comparator_words_after, identifier_words_after}
use Rattle.rules.proofs.ReadingCall.{call-refused, call-5, call-6, call-accepts}
use Rattle.refusals.specs.Views.{number_of}
use Rattle.rangeset.specs.Views.{outcome_of}
use Rattle.rangeset.specs.declared.Counts.{Counts}
use Rattle.refusals.specs.declared.Refusal.{Refusal}
use Rattle.refusals.specs.declared.Refusal.TheVariants as Refusals
use Rattle.std.specs.Prelude.{Ok, Err}
use Rattle.rangeset.proofs.Outcomes.{outcome-refused, refusal-number, counted-reading, refused-reading}
use Rattle.rangeset.specs.declared.RangeSet.{RangeSet}
use Rattle.rangeset.specs.Sets.{IsSetOf}
use Rattle.std.specs.Borrow.{Bor}
use Rattle.reading.specs.Views.{CallsAnswer}

-- ---- counts_within

module _ (c : Counts) (cw iw : ℕ) where
  pub within_comparators : cw / comparator_width < c.comparators → CallsAnswer c cw iw (Err Refusals.ComparatorsShort)
  within_comparators k =
      record {
        is =
            λ m s e.
            let h = counted-reading m s c e in
            outcome-refused (reading_call m s cw iw) Refusals.ComparatorsShort (call-5 m s cw iw h.reads h.is (rw h.comparators at k));
      }

  module _ (k : c.comparators ≤ cw / comparator_width) where
    pub within_identifiers : iw / 3 < c.identifiers → CallsAnswer c cw iw (Err Refusals.IdentifiersShort)
    within_identifiers j =
        record {
          is =
              λ m s e.
              let h = counted-reading m s c e in
              outcome-refused (reading_call m s cw iw) Refusals.IdentifiersShort (call-6 m s cw iw h.reads h.is (rw h.comparators at k) (rw h.identifiers at j));
        }

    module _ (j : c.identifiers ≤ iw / 3) where
      whole : (m : E.Compat) (s : List ℕ) → outcome_of (Ok c) ≡ reading_outcome (reading m s) → reading m s ≡ reading_call m s cw iw
      whole m s e = let h = counted-reading m s c e in h.is ∙ sym (call-accepts m s cw iw h.reads h.is (rw h.comparators at k) (rw h.identifiers at j))

      pub within_both : CallsAnswer c cw iw (Ok c)
      within_both = record { is = λ m s e. e ∙ ap reading_outcome (whole m s e) }

pub ruleset within = (within_comparators, within_identifiers, within_both)

-- ---- read

-- no accepted reading has a refusal's number
refused_answer : (a : Answer E.Reading) (y : Refusal) → outcome_of (Err y) ≡ reading_outcome a → a ≡ refused (number_of y)
unfolding reading_outcome
refused_answer (accepted rs) y e = absurd (refusal-number y (ap (λ x. x.refusal) e))
refused_answer (refused n) y e = ap refused (sym (ap (λ x. x.refusal) e))

module _ (m : E.Compat) (s w i : List ℕ) where
  abbrev answer : Answer E.Reading
  answer = reading_call m s (length w) (length i)

  -- a refused call changes no word
  refused_words : (y : Refusal) → outcome_of (Err y) ≡ reading_outcome answer → w ≡ comparator_words_after m s answer w
  unfolding comparator_words_after written
  refused_words y e = rw (refused_answer answer y e) refl

  refused_ids : (y : Refusal) → outcome_of (Err y) ≡ reading_outcome answer → i ≡ identifier_words_after s answer i
  unfolding identifier_words_after written
  refused_ids y e = rw (refused_answer answer y e) refl

  -- no range set is read
  module _ (y : Refusal) (e : outcome_of (Err y) ≡ reading_outcome (reading m s)) where
    pub unread_answer : outcome_of (Err y) ≡ reading_outcome answer
    unread_answer = outcome-refused answer y (call-refused m s (length w) (length i) (number_of y) (refused-reading m s y e))

    pub unread_words : w ≡ comparator_words_after m s answer w
    unread_words = refused_words y unread_answer

    pub unread_ids : i ≡ identifier_words_after s answer i
    unread_ids = refused_ids y unread_answer

  -- one is, of these counts
  module _ (c : Counts) (e : outcome_of (Ok c) ≡ reading_outcome (reading m s)) where
    pub short_answer : (y : Refusal) → CallsAnswer c (length w) (length i) (Err y) → outcome_of (Err y) ≡ reading_outcome answer
    short_answer y a = a.is m s e

    pub short_words : (y : Refusal) → CallsAnswer c (length w) (length i) (Err y) → w ≡ comparator_words_after m s answer w
    short_words y a = refused_words y (a.is m s e)

    pub short_ids : (y : Refusal) → CallsAnswer c (length w) (length i) (Err y) → i ≡ identifier_words_after s answer i
    short_ids y a = refused_ids y (a.is m s e)

    pub read_answer : (d : Counts) → CallsAnswer c (length w) (length i) (Ok d) → outcome_of (Ok d) ≡ reading_outcome answer
    read_answer d a = a.is m s e

-- the rows of a range set go into the words
module _ (t : Bor (List ℕ)) (m : Compat) (w i : List ℕ) (set : RangeSet) (of : IsSetOf t m set) (e : outcome_of (Ok set.counts) ≡ reading_outcome (reading (compat_of m) t.now))
    (room : (comparator_width * set.counts.comparators ≤ length w) × (3 * set.counts.identifiers ≤ length i)) where
  accepts : reading (compat_of m) t.now ≡ reading_call (compat_of m) t.now (length w) (length i)
  accepts = let k = room.0 in let j = room.1 in whole set.counts (length w) (length i) (omega arith) (omega arith) (compat_of m) t.now e

  pub read_words : (x : List ℕ) → x ≡ comparator_words_after (compat_of set.compat) set.text.now (reading (compat_of set.compat) set.text.now) w
      → x ≡ comparator_words_after (compat_of m) t.now (reading_call (compat_of m) t.now (length w) (length i)) w
  read_words x p = rw (of.0, of.1) at p ∙ ap (λ a. comparator_words_after (compat_of m) t.now a w) accepts

  pub read_ids : (x : List ℕ) → x ≡ identifier_words_after set.text.now (reading (compat_of set.compat) set.text.now) i
      → x ≡ identifier_words_after t.now (reading_call (compat_of m) t.now (length w) (length i)) i
  read_ids x p = rw (of.0, of.1) at p ∙ ap (λ a. identifier_words_after t.now a i) accepts

pub ruleset outcomes = (unread_answer, unread_words, unread_ids, short_answer, short_words, short_ids, read_answer, read_words, read_ids)
