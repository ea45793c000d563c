-- The calls under the mode with a number: what a function that is exported hands back, where the number is a mode and where it is none; and the
-- identifier bytes as a place and a size.
-- Assumes nothing.
use Prim.Native.Nat.{ℕ, zero, suc, ◌+◌}
use mathlib.Core.Path.{◌≡◌, refl, ap, ◌∙◌}
use mathlib.Core.Bool.{Bool, true, false}
use mathlib.Core.List.{List, [], ◌∷◌}
use mathlib.Core.Option.{none, some}
use native.Mathlib.Omega.{arith}
use lib.Dec.{leb}
use lib.ListN.{length, take, drop}
use Rattle.rules.specs.Bytes.{pick}
use Rattle.rules.specs.Expansion as E
use Rattle.rules.specs.Answers.{Answer, refused, or_refused, reading_outcome, written, identifier_words_after, identifier_bytes, normal_text_outcome, bytes_after, Outcome, Length}
use Rattle.rules.specs.Exported.{under, after_mode, words_under, Verdict, verdict, part_at}
use Rattle.range.specs.Views.{compat_of}
use Rattle.range.specs.declared.Compat.{Compat}
use Rattle.std.specs.Prelude.{Result}
use Rattle.refusals.specs.declared.Refusal.{Refusal}
use Rattle.refusals.specs.Views.{answer_of}
use Rattle.range.proofs.Modes.{under-mode, under_none}
use Rattle.rangeset.specs.Views.{outcome_of}
use Rattle.rangeset.specs.declared.Counts.{Counts}
use Rattle.normal_text.specs.Views.{length_of}
use Rattle.numbers.specs.Views.{outcome, length_is, verdict_is, part_is}

-- ---- a call under a mode

module _ (k : ℕ) where
  -- the number is a mode's: what the call hands back
  module _ (c : Compat) (e : some (compat_of c) ≡ E.mode_from k) where
    under-this : {A : Type 0} (f : E.Compat → Answer A) → f (compat_of c) ≡ under k f
    under-this f = under-mode k f (compat_of c) e

    pub mode-counts : (f : E.Compat → Answer E.Reading) (r : Result Counts Refusal) → outcome_of r ≡ reading_outcome (f (compat_of c))
        → (x : Outcome) → x ≡ outcome_of r → x ≡ reading_outcome (under k f)
    mode-counts f r h x p = p ∙ h ∙ ap reading_outcome (under-this f)

    pub mode-words : (f : E.Compat → List ℕ) (w x : List ℕ) → x ≡ f (compat_of c) → x ≡ words_under k f w
    unfolding words_under
    mode-words f w x p = p ∙ ap (λ o. after_mode (or_refused 255 o) f w) e

    pub mode-ids : (f : E.Compat → Answer E.Reading) (s i x : List ℕ) → x ≡ identifier_words_after s (f (compat_of c)) i → x ≡ identifier_words_after s (under k f) i
    mode-ids f s i x p = p ∙ ap (λ a. identifier_words_after s a i) (under-this f)

    pub mode-length : (f : E.Compat → Answer (List ℕ)) (r : Result ℕ Refusal) → length_of r ≡ normal_text_outcome (f (compat_of c))
        → (x : Length) → x ≡ length_of r → x ≡ normal_text_outcome (under k f)
    mode-length f r h x p = p ∙ h ∙ ap normal_text_outcome (under-this f)

    pub mode-bytes : (f : E.Compat → Answer (List ℕ)) (o x : List ℕ) → x ≡ bytes_after (f (compat_of c)) o → x ≡ bytes_after (under k f) o
    mode-bytes f o x p = p ∙ ap (λ a. bytes_after a o) (under-this f)

    pub mode-verdict : (f : E.Compat → Answer Bool) (r : Result Bool Refusal) → answer_of r ≡ f (compat_of c) → (x : Verdict) → x ≡ verdict (answer_of r) → x ≡ verdict (under k f)
    mode-verdict f r h x p = p ∙ ap verdict (h ∙ under-this f)

  -- it is none: zero counts, and nothing that was lent changes
  module _ (e : none ≡ E.mode_from k) where
    no_mode : {A : Type 0} (f : E.Compat → Answer A) → under k f ≡ refused 255
    no_mode f = under_none k f e

    pub none-counts : (f : E.Compat → Answer E.Reading) (a b c : ℕ) → a ≡ 0 → b ≡ 0 → c ≡ 0 → outcome 255 a b c ≡ reading_outcome (under k f)
    unfolding reading_outcome
    none-counts f a b c h i j = rw (no_mode f, h, i, j)

    pub none-words : (f : E.Compat → List ℕ) (w : List ℕ) → w ≡ words_under k f w
    unfolding words_under
    none-words f w = ap (λ o. after_mode (or_refused 255 o) f w) e

    pub none-ids : (f : E.Compat → Answer E.Reading) (s i : List ℕ) → i ≡ identifier_words_after s (under k f) i
    unfolding identifier_words_after written
    none-ids f s i = rw (no_mode f) refl

    pub none-length : (f : E.Compat → Answer (List ℕ)) → length_is 255 0 ≡ normal_text_outcome (under k f)
    unfolding normal_text_outcome
    none-length f = rw (no_mode f) refl

    pub none-bytes : (f : E.Compat → Answer (List ℕ)) (o : List ℕ) → o ≡ bytes_after (under k f) o
    unfolding bytes_after written
    none-bytes f o = rw (no_mode f) refl

    pub none-verdict : (f : E.Compat → Answer Bool) → verdict_is 255 0 ≡ verdict (under k f)
    unfolding verdict
    none-verdict f = rw (no_mode f) refl

pub ruleset known = (mode-counts, mode-words, mode-ids, mode-length, mode-bytes, mode-verdict)

pub ruleset unknown = (none-counts, none-words, none-ids, none-length, none-bytes, none-verdict)

-- ---- the identifier bytes

-- a part taken once more
take_again : (n : ℕ) (t : List ℕ) → take (length (take n t)) t ≡ take n t
take_again zero t = refl
take_again (suc n) [] = refl
take_again (suc n) (c ∷ t) = ap (λ w. c ∷ w) (take_again n t)

module _ (t : List ℕ) (place n : ℕ) (w : List ℕ) (e : w ≡ identifier_bytes t place n) where
  module _ (z : length w ≡ 0) where
    pub empty-part : part_is 0 (length w) ≡ part_at place (identifier_bytes t place n)
    empty-part = go w z ∙ ap (part_at place) e
      where
        go : (w : List ℕ) → length w ≡ 0 → part_is 0 (length w) ≡ part_at place w
        go [] z = refl
        go (c ∷ w) z = absurd (omega arith)

    pub empty-bytes : take (length w) (drop 0 t) ≡ identifier_bytes t place n
    empty-bytes = go w z ∙ e
      where
        go : (w : List ℕ) → length w ≡ 0 → take (length w) (drop 0 t) ≡ w
        go [] z = refl
        go (c ∷ w) z = absurd (omega arith)

  module _ (z : length w ≡ 0 → ⊥) where
    pub some-part : part_is place (length w) ≡ part_at place (identifier_bytes t place n)
    some-part = go w z ∙ ap (part_at place) e
      where
        go : (w : List ℕ) → (length w ≡ 0 → ⊥) → part_is place (length w) ≡ part_at place w
        go [] z = absurd (z refl)
        go (c ∷ w) z = refl

    pub some_bytes : take (length w) (drop place t) ≡ identifier_bytes t place n
    some_bytes = go (leb (place + n) (length t)) e
      where
        go : (b : Bool) → w ≡ pick b (take n (drop place t)) [] → take (length w) (drop place t) ≡ pick b (take n (drop place t)) []
        go true p = ap (λ v. take (length v) (drop place t)) p ∙ take_again n (drop place t)
        go false p = absurd (z (ap length p))

pub ruleset parts = (empty-part, empty-bytes, some-part, some_bytes)
