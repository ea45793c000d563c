-- The calls under the modes with two numbers: what a function that is exported hands back, where both are modes and where one is none.
-- Assumes nothing.
use Prim.Native.Nat.{ℕ}
use mathlib.Core.Path.{◌≡◌, refl, sym, ap, ◌∙◌}
use mathlib.Core.Bool.{Bool}
use mathlib.Core.List.{List}
use mathlib.Core.Option.{Option, none, some}
use Rattle.rules.specs.Expansion as E
use Rattle.rules.specs.Answers.{Answer, accepted, refused, or_refused, map_answer, reading_outcome, written, and_then}
use Rattle.rules.specs.Equality as Q
use Rattle.rules.specs.Equality.{reread_outcome, reread_bytes_after, reread_comparators_after, reread_identifiers_after, Texts, texts_equal, first_after, second_after}
use Rattle.rules.specs.Exported.{modes_of, under_both, reread_under, RereadNumbers, reread_numbers, Verdict, verdict}
use Rattle.std.specs.Prelude.{Result, Ok, Err}
use Rattle.range.specs.Views.{compat_of}
use Rattle.range.specs.declared.Compat.{Compat}
use Rattle.refusals.specs.declared.Refusal.{Refusal}
use Rattle.refusals.specs.Views.{answer_of}
use Rattle.rangeset.specs.Views.{outcome_of}
use Rattle.rangeset.specs.declared.Counts.{Counts}
use Rattle.equality.specs.Views.{reread_of}
use Rattle.equality.specs.declared.RereadError.{RereadError}
use Rattle.numbers.specs.Views.{outcome, verdict_is}
use Rattle.maluwesi_equality.specs.Views.{reread_is}

-- ---- the modes

-- the modes with these numbers, where each is a mode or none
abbrev modes_from : Option E.Compat → Option E.Compat → Answer (E.Compat × E.Compat)
modes_from a b = and_then (or_refused 255 a) (λ m. map_answer (λ m'. (m, m')) (or_refused 255 b))

module _ (k l : ℕ) where
  pub first-none : none ≡ E.mode_from k → refused 255 ≡ modes_of k l
  first-none e = ap (λ a. modes_from a (E.mode_from l)) e

  module _ (m : E.Compat) (e : some m ≡ E.mode_from k) where
    second : modes_from (some m) (E.mode_from l) ≡ modes_of k l
    second = ap (λ a. modes_from a (E.mode_from l)) e

    pub second_none : none ≡ E.mode_from l → refused 255 ≡ modes_of k l
    second_none i = ap (modes_from (some m)) i ∙ second

    pub both-modes : (m' : E.Compat) → some m' ≡ E.mode_from l → accepted (m, m') ≡ modes_of k l
    both-modes m' i = ap (modes_from (some m)) i ∙ second

pub ruleset modes = (first-none, second_none, both-modes)

-- ---- the answer, as a number

module _ (k : Counts) (n a b c : ℕ) (e : outcome n a b c ≡ outcome_of (Ok k)) where
  pub counted-again : reread_is n 0 a b c ≡ reread_numbers (reread_of (Ok k))
  counted-again = ap (λ o. record { outcome = o; normal = 0 }) e

module _ (y : Refusal) (n a b c : ℕ) (e : outcome n a b c ≡ outcome_of (Err y)) where
  pub text-refused : reread_is n 0 a b c ≡ reread_numbers (reread_of (Err (RereadError.Text y)))
  text-refused = ap (λ o. record { outcome = o; normal = 0 }) e

  pub normal-refused : reread_is n 1 a b c ≡ reread_numbers (reread_of (Err (RereadError.NormalText y)))
  normal-refused = ap (λ o. record { outcome = o; normal = 1 }) e

pub ruleset rereads = (counted-again, text-refused, normal-refused)

-- ---- a call under two modes

module _ (k l : ℕ) where
  -- both numbers are modes'
  module _ (c c' : Compat) (e : accepted (compat_of c, compat_of c') ≡ modes_of k l) where
    under-both : {A : Type 0} (f : E.Compat → E.Compat → Answer A) → f (compat_of c) (compat_of c') ≡ under_both k l f
    unfolding under_both
    under-both f = rw (sym e) refl

    under-reread : (f : E.Compat → E.Compat → Q.Reread) → f (compat_of c) (compat_of c') ≡ reread_under k l f
    unfolding reread_under
    under-reread f = rw (sym e) refl

    pub both-counts : (f : E.Compat → E.Compat → Q.Reread) (r : Result Counts RereadError) → reread_of r ≡ reread_outcome (f (compat_of c) (compat_of c'))
        → (x : RereadNumbers) → x ≡ reread_numbers (reread_of r) → x ≡ reread_numbers (reread_outcome (reread_under k l f))
    both-counts f r h x p = p ∙ ap reread_numbers (h ∙ ap reread_outcome (under-reread f))

    module _ (f : E.Compat → E.Compat → Q.Reread) (o x : List ℕ) where
      pub both_bytes : x ≡ reread_bytes_after (f (compat_of c) (compat_of c')) o → x ≡ reread_bytes_after (reread_under k l f) o
      both_bytes p = p ∙ ap (λ a. reread_bytes_after a o) (under-reread f)

      pub both_words : x ≡ reread_comparators_after (f (compat_of c) (compat_of c')) o → x ≡ reread_comparators_after (reread_under k l f) o
      both_words p = p ∙ ap (λ a. reread_comparators_after a o) (under-reread f)

      pub both-ids : x ≡ reread_identifiers_after (f (compat_of c) (compat_of c')) o → x ≡ reread_identifiers_after (reread_under k l f) o
      both-ids p = p ∙ ap (λ a. reread_identifiers_after a o) (under-reread f)

    pub both-verdict : (f : E.Compat → E.Compat → Answer Texts) (r : Result Bool Refusal) → answer_of r ≡ texts_equal (f (compat_of c) (compat_of c'))
        → (x : Verdict) → x ≡ verdict (answer_of r) → x ≡ verdict (texts_equal (under_both k l f))
    both-verdict f r h x p = p ∙ ap verdict (h ∙ ap texts_equal (under-both f))

    module _ (f : E.Compat → E.Compat → Answer Texts) (o x : List ℕ) where
      pub both_first : x ≡ first_after (f (compat_of c) (compat_of c')) o → x ≡ first_after (under_both k l f) o
      both_first p = p ∙ ap (λ a. first_after a o) (under-both f)

      pub both-second : x ≡ second_after (f (compat_of c) (compat_of c')) o → x ≡ second_after (under_both k l f) o
      both-second p = p ∙ ap (λ a. second_after a o) (under-both f)

  -- one is none
  module _ (e : refused 255 ≡ modes_of k l) where
    under-neither : {A : Type 0} (f : E.Compat → E.Compat → Answer A) → under_both k l f ≡ refused 255
    unfolding under_both
    under-neither f = rw (sym e) refl

    neither-reread : (f : E.Compat → E.Compat → Q.Reread) → reread_under k l f ≡ Q.text_refused 255
    unfolding reread_under
    neither-reread f = rw (sym e) refl

    pub neither-counts : (f : E.Compat → E.Compat → Q.Reread) (a b c : ℕ) → a ≡ 0 → b ≡ 0 → c ≡ 0
        → reread_is 255 0 a b c ≡ reread_numbers (reread_outcome (reread_under k l f))
    unfolding reread_outcome reading_outcome
    neither-counts f a b c h i j = rw (neither-reread f, h, i, j)

    module _ (f : E.Compat → E.Compat → Q.Reread) (o : List ℕ) where
      pub neither-bytes : o ≡ reread_bytes_after (reread_under k l f) o
      unfolding reread_bytes_after
      neither-bytes = rw (neither-reread f) refl

      pub neither-words : o ≡ reread_comparators_after (reread_under k l f) o
      unfolding reread_comparators_after
      neither-words = rw (neither-reread f) refl

      pub neither-ids : o ≡ reread_identifiers_after (reread_under k l f) o
      unfolding reread_identifiers_after
      neither-ids = rw (neither-reread f) refl

    pub neither-verdict : (f : E.Compat → E.Compat → Answer Texts) → verdict_is 255 0 ≡ verdict (texts_equal (under_both k l f))
    unfolding verdict texts_equal
    neither-verdict f = rw (under-neither f) refl

    module _ (f : E.Compat → E.Compat → Answer Texts) (o : List ℕ) where
      pub neither-first : o ≡ first_after (under_both k l f) o
      unfolding first_after written
      neither-first = rw (under-neither f) refl

      pub neither-second : o ≡ second_after (under_both k l f) o
      unfolding second_after written
      neither-second = rw (under-neither f) refl

pub ruleset both = (both-counts, both_bytes, both_words, both-ids, both-verdict, both_first, both-second)

pub ruleset neither = (neither-counts, neither-bytes, neither-words, neither-ids, neither-verdict, neither-first, neither-second)
