-- The reader of a version's prerelease identifier: a word that is a number, or a text.
-- Assumes nothing.
use Rattle.std.proofs.Common.{ℕ, ◌+◌, ◌<◌, ◌≤◌, ◌≡◌, refl, sym, subst, ap, ◌∙◌, Bool, true, false, List, [], ◌∷◌, length, arith, append-nil, Option, Some, None}
use lib.Dec.{leb}
use lib.ListN.{length-take}
use Rattle.rules.specs.Lists.{each}
use Rattle.rules.specs.Bytes.{is_digit, value, largest, pick}
use Rattle.rules.specs.Syntax as S
use Rattle.rules.specs.Syntax.{of_digits}
use Rattle.rules.specs.Grammar.{OneOf, Run, ReadsNumber}
use Rattle.rules.specs.Parse.{Result, fail, ok, ◌then◌, read_number}
use Rattle.rules.specs.Version.{ReadsWord, read_word, leads_zero, read_version_identifier}
use Rattle.rules.proofs.Results.{given}
use Rattle.rules.proofs.Sound.{number-sound}
use Rattle.rules.proofs.Complete.{number_read}
use Rattle.rules.proofs.ReadIn.{number-literal}
use Rattle.rules.proofs.Source.{literal-bytes}
use Rattle.rules.proofs.VersionSound.{word_sound, word_number}
use Rattle.rules.proofs.VersionComplete.{number_digits}
use Rattle.lexer.specs.Views.{rest_of, before, number_of}
use Rattle.lexer.proofs.Series.{repeat_fewer}
use Rattle.version.specs.Takes.{identifier-takes}
use Rattle.version.proofs.Words.{word_before}

-- a word is one by itself
run_own : {p : ℕ → Bool} {s w r : List ℕ} → Run p s w r → Run p w w []
run_own Run.stop = Run.stop
run_own (Run.more e k) = Run.more e (run_own k)

word_own : {s w r : List ℕ} → ReadsWord s w r → ReadsWord w w []
word_own (ReadsWord.word (OneOf.one e) k) = ReadsWord.word (OneOf.one e) (run_own k)

-- a number behind which nothing is left is all digits
all_digits : (w d : List ℕ) → read_number w ≡ ok d [] → each is_digit w ≡ true
all_digits w d q =
    let h : ReadsNumber w d [] = given (rw q at (number-sound w)) in
    let e : w ≡ d = literal-bytes (number-literal h) ∙ append-nil d in
    rw e (number_digits h)

module _ (s r : List ℕ) (e : Some r ≡ rest_of (read_version_identifier s)) where
  pub identifier_within : length r ≤ length s
  identifier_within = omega (arith, repeat_fewer read_version_identifier identifier-takes s r e)

  -- the word that was read, and what it is by its digits
  record Read (w : List ℕ) : Type 0 where
    word : read_word s ≡ ok w r
    is : read_version_identifier s ≡ pick (each is_digit w) (ok (of_digits (length s) w) r) (ok (S.text (length s) w) r)
    leads : each is_digit w ≡ true → leads_zero w ≡ false

  read : (w : List ℕ) × Read w
  unfolding read_version_identifier ◌then◌
  read = go (read_word s) refl e
    where
      kind : (w t : List ℕ) (d z : Bool) → each is_digit w ≡ d → leads_zero w ≡ z → read_word s ≡ ok w t
          → Some r ≡ rest_of (pick d (pick z fail (ok (of_digits (length s) w) t)) (ok (S.text (length s) w) t)) → (w : List ℕ) × Read w
      kind w t true true x y q e = cc
      kind w t true false x y q e = let k : t ≡ r = cc in (w, record { word = rw k at q; is = rw (q, x, y, k); leads = λ a. y })
      kind w t false z x y q e = let k : t ≡ r = cc in (w, record { word = rw k at q; is = rw (q, x, k); leads = λ a. let b : true ≡ false = sym a ∙ x in cc })

      go : (g : Result (List ℕ)) → read_word s ≡ g
          → Some r ≡ rest_of (g then λ w r. pick (each is_digit w) (pick (leads_zero w) fail (ok (of_digits (length s) w) r)) (ok (S.text (length s) w) r)) → (w : List ℕ) × Read w
      go fail q e = cc
      go (ok w t) q e = kind w t (each is_digit w) (leads_zero w) refl refl q e

  module _ (w : List ℕ) (j : w ≡ before s r) where
    found : Read w
    found = let (d, h) = read in let k : d ≡ w = (word_before s d r h.word).0 ∙ sym j in subst Read k h

    size : length w + length r ≡ length s
    size = let l = (word_before s w r found.word).1 in rw j (simp length-take (omega arith))

    digits-read : each is_digit w ≡ true → read_number w ≡ ok w []
    digits-read e =
        let h : ReadsWord s w r = given (rw found.word at (word_sound s)) in
        number_read (word_number (word_own h) e (found.leads e)) tt

    pub identifier_number : (v : ℕ) (t : List ℕ) → ok (Some v) t ≡ number_of (read_number w) → length t < 1 → ok (S.number v) r ≡ read_version_identifier s
    unfolding of_digits
    identifier_number v [] q l = go (each is_digit w) refl
      where
        fits : (b : Bool) → leb (value w) largest ≡ b → Some v ≡ pick b (Some (value w)) None → S.number v ≡ pick b (S.number (value w)) (S.text (length s) w)
        fits true x e = cc
        fits false x e = cc

        mixed : each is_digit w ≡ false → (g : Result (List ℕ)) → read_number w ≡ g → ok (Some v) [] ≡ number_of g → ok (S.number v) r ≡ read_version_identifier s
        mixed x fail k q = cc
        mixed x (ok d u) k q =
            let i : u ≡ [] = cc in
            let y : true ≡ false = sym (all_digits w d (rw i at k)) ∙ x in
            cc

        go : (b : Bool) → each is_digit w ≡ b → ok (S.number v) r ≡ read_version_identifier s
        go true x =
            let i : Some v ≡ pick (leb (value w) largest) (Some (value w)) None = let k = rw (digits-read x) at q in cc in
            sym (found.is ∙ rw (x, ← fits (leb (value w) largest) refl i))
        go false x = mixed x (read_number w) refl q
    identifier_number v (c ∷ t) q l = absurd (omega arith)

    -- a text, where the word is no number that fits
    text : ((v : ℕ) → ok (Some v) [] ≡ number_of (read_number w) → ⊥) → ok (S.text (length w + length r) w) r ≡ read_version_identifier s
    unfolding of_digits
    text z = rw size (go (each is_digit w) refl)
      where
        large : each is_digit w ≡ true → (b : Bool) → leb (value w) largest ≡ b → S.text (length s) w ≡ pick b (S.number (value w)) (S.text (length s) w)
        large x true l = absurd (z (value w) (rw (digits-read x, l)))
        large x false l = refl

        go : (b : Bool) → each is_digit w ≡ b → ok (S.text (length s) w) r ≡ read_version_identifier s
        go true x = sym (found.is ∙ rw (x, ← large x (leb (value w) largest) refl))
        go false x = sym (found.is ∙ rw x)

    pub identifier_longer : (o : Option ℕ) (t : List ℕ) → ok o t ≡ number_of (read_number w) → 1 ≤ length t → ok (S.text (length w + length r) w) r ≡ read_version_identifier s
    identifier_longer o t q l = text λ v k. let i : t ≡ [] = cc in let m : length t ≡ 0 = ap length i in omega arith

    pub identifier_large : (t : List ℕ) → ok None t ≡ number_of (read_number w) → ok (S.text (length w + length r) w) r ≡ read_version_identifier s
    identifier_large t q = text λ v k. cc

    pub identifier_text : fail ≡ number_of (read_number w) → ok (S.text (length w + length r) w) r ≡ read_version_identifier s
    identifier_text q = text λ v k. cc

pub identifier_none : (s : List ℕ) → None ≡ rest_of (read_version_identifier s) → fail ≡ read_version_identifier s
identifier_none s e = go (read_version_identifier s) e
  where
    go : (g : Result S.Identifier) → None ≡ rest_of g → fail ≡ g
    go fail e = refl
    go (ok i r) e = cc

pub ruleset identifiers = (identifier_none, identifier_within, identifier_number, identifier_longer, identifier_large, identifier_text)
