-- Two normal texts that are compared: what the loop knows, a law for each way out, and that the answer tells whether the readings are equal.
-- Assumes nothing.
use Prim.Native.Nat.{ℕ, ◌≤◌}
use mathlib.Core.Path.{◌≡◌, refl, sym, ap, ap₂, ◌∙◌}
use mathlib.Core.Bool.{Bool, true, false, ◌&&◌}
use mathlib.Core.List.{List, [], ◌∷◌}
use native.Mathlib.Omega.{arith}
use lib.Dec.{eqb}
use lib.Pointwise.{pointwise}
use lib.ListN.{length, take}
use Rattle.rules.specs.Expansion as E
use Rattle.rules.specs.Expansion.{Compat}
use Rattle.rules.specs.NormalText.{spell}
use Rattle.rules.specs.Answers.{Answer, accepted, refused, text_of, reading, normal_text, normal_text_call, normal_text_outcome, written, bytes_after}
use Rattle.rules.specs.Equality.{same_bytes, Texts, texts_call, texts_equal, first_after, second_after, Tells}
use Rattle.rules.proofs.NormalTextCall.{normal-accepts}
use Rattle.rules.proofs.RoundTrip.{same-reading}
use Rattle.rules.proofs.Equal.{same_bytes_lem}
use Rattle.refusals.specs.Views.{number_of, answer_of}
use Rattle.std.specs.Prelude.{Result, Ok, Err, nat_eq}
use Rattle.refusals.specs.declared.Refusal.{Refusal}
use Rattle.normal_text.specs.Views.{length_of}
use Rattle.normal_text.proofs.Calls.{Writes, written-call, refused-call}
use Rattle.equality.specs.Views.{Fits}
use Rattle.equality.proofs.Fitting.{normal, part-within, part-is, part_length, call_fits}

-- ---- compare

-- what `==` answers at two slices
pointwise-same : (w w' : List ℕ) → pointwise nat_eq w w' ≡ same_bytes w w'
pointwise-same [] [] = refl
pointwise-same [] (d ∷ w') = refl
pointwise-same (c ∷ w) [] = refl
pointwise-same (c ∷ w) (d ∷ w') = ap (λ b. eqb c d && b) (pointwise-same w w')

module _ (m m' : Compat) (s t a a' b b' : List ℕ) (p : a' ≡ bytes_after (normal_text m s) a) (n : ℕ) (q : n ≡ (normal_text_outcome (normal_text m s)).length)
    (p' : b' ≡ bytes_after (normal_text m' t) b) (k : ℕ) (q' : k ≡ (normal_text_outcome (normal_text m' t)).length) where
  pub compare-result : (r : Bool) → r ≡ pointwise nat_eq (take n a') (take k b') → Fits m s (length a) → Fits m' t (length b)
      → r ≡ same_bytes (text_of (normal_text m s)) (text_of (normal_text m' t))
  compare-result r e f g =
      e ∙ pointwise-same (take n a') (take k b') ∙ ap₂ same_bytes (part-is m s a a' p n q f ∙ ap text_of (sym (normal m s (length a) f))) (part-is m' t b b' p' k q' g ∙ ap text_of (sym (normal m' t (length b) g)))

pub ruleset comparing = (part-within, part_length, compare-result)

-- ---- check_both

module _ (m : Compat) (s : List ℕ) (lent : ℕ) (m' : Compat) (t : List ℕ) (lent' : ℕ) (r : Result ℕ Refusal)
    (e : length_of r ≡ normal_text_outcome (normal_text_call m s lent)) where
  pub first-refused : (y : Refusal) → r ≡ Err y → texts_call m s lent m' t lent' ≡ refused (number_of y)
  unfolding texts_call
  first-refused y q = rw (texts_call, refused-call m s lent y (ap length_of (sym q) ∙ e))

  module _ (n : ℕ) (q : r ≡ Ok n) (r' : Result ℕ Refusal) (e' : length_of r' ≡ normal_text_outcome (normal_text_call m' t lent')) where
    first-writes : Writes m s lent n
    first-writes = written-call m s lent n (ap length_of (sym q) ∙ e)

    pub second-refused : (y : Refusal) → r' ≡ Err y → texts_call m s lent m' t lent' ≡ refused (number_of y)
    unfolding texts_call
    second-refused y q' = rw (texts_call, first-writes.call, refused-call m' t lent' y (ap length_of (sym q') ∙ e'))

    pub second-accepted : (k : ℕ) → r' ≡ Ok k → (x : Texts) × (texts_call m s lent m' t lent' ≡ accepted x)
    unfolding texts_call
    second-accepted k q' =
        let w = written-call m' t lent' k (ap length_of (sym q') ∙ e') in
        (record { first = spell first-writes.reads; second = spell w.reads }, texts-are (spell first-writes.reads) (spell w.reads) first-writes.call w.call)
      where
        texts-are : (x y : List ℕ) → normal_text_call m s lent ≡ accepted x → normal_text_call m' t lent' ≡ accepted y
            → texts_call m s lent m' t lent' ≡ accepted (record { first = x; second = y })
        texts-are x y p q = rw (texts_call, p, q)

-- ---- equal_readings

module _ (m : Compat) (s : List ℕ) (lent : ℕ) (m' : Compat) (t : List ℕ) (lent' : ℕ) where
  -- the call where both texts are accepted and fit
  texts-accepted : (rs rs' : E.Reading) → reading m s ≡ accepted rs → reading m' t ≡ accepted rs' → length (spell rs) ≤ lent → length (spell rs') ≤ lent'
      → texts_call m s lent m' t lent' ≡ accepted (record { first = spell rs; second = spell rs' })
  unfolding texts_call
  texts-accepted rs rs' e e' h h' = rw (texts_call, normal-accepts m s lent rs e h, normal-accepts m' t lent' rs' e' h')

  -- the answer of the call tells whether the readings are equal
  tells : (x : Answer Bool) → x ≡ texts_equal (texts_call m s lent m' t lent') → Tells m s lent m' t lent' x
  unfolding texts_equal
  tells x q =
      record {
        equal =
            λ rs rs' e e' h h' p.
            q ∙ ap texts_equal (texts-accepted rs rs' e e' h h')
            ∙ ap accepted ((same_bytes_lem (spell rs) (spell rs')).1 ((same-reading m m' s t rs rs' e e').0 p));
        different =
            λ rs rs' e e' h h' z.
            q ∙ ap texts_equal (texts-accepted rs rs' e e' h h')
            ∙ ap accepted (is_false (same_bytes (spell rs) (spell rs')) (λ k. z ((same-reading m m' s t rs rs' e e').1 ((same_bytes_lem (spell rs) (spell rs')).0 k))));
      }
    where
      is_false : (b : Bool) → (b ≡ true → ⊥) → b ≡ false
      is_false true z = absurd (z refl)
      is_false false z = refl

record Both (m : Compat) (s : List ℕ) (lent : ℕ) (m' : Compat) (t : List ℕ) (lent' : ℕ) : Type 0 where
  pub first : Fits m s lent
  pub second : Fits m' t lent'

both-fit : (m : Compat) (s : List ℕ) (lent : ℕ) (m' : Compat) (t : List ℕ) (lent' : ℕ) (x : Texts) → texts_call m s lent m' t lent' ≡ accepted x → Both m s lent m' t lent'
unfolding texts_call
both-fit m s lent m' t lent' x e = go (normal_text_call m s lent) refl (normal_text_call m' t lent') refl
  where
    apart : {A : Type 0} (n : ℕ) → texts_call m s lent m' t lent' ≡ refused n → A
    apart n k = let z : ◌≡◌ {A = ℕ} 0 1 = cc in absurd (omega arith)

    go : (a : Answer (List ℕ)) → normal_text_call m s lent ≡ a → (b : Answer (List ℕ)) → normal_text_call m' t lent' ≡ b → Both m s lent m' t lent'
    go (accepted w) p (accepted w') q = record { first = call_fits m s lent w p; second = call_fits m' t lent' w' q }
    go (accepted w) p (refused n) q = apart n (rw (texts_call, p, q))
    go (refused n) p b q = apart n (rw (texts_call, p))

module _ (m : Compat) (s a : List ℕ) (m' : Compat) (t b : List ℕ) where
  abbrev call : Answer Texts
  call = texts_call m s (length a) m' t (length b)

  module _ (y : Refusal) (refused-is : call ≡ refused (number_of y)) where
    pub refused-result : answer_of {A = Bool} (Err y) ≡ texts_equal call
    unfolding texts_equal
    refused-result = ap texts_equal (sym refused-is)

    pub refused-first : a ≡ first_after call a
    unfolding first_after written
    refused-first = ap (λ x. first_after x a) (sym refused-is)

    pub refused-second : b ≡ second_after call b
    unfolding second_after written
    refused-second = ap (λ x. second_after x b) (sym refused-is)

    pub refused-tells : Tells m s (length a) m' t (length b) (answer_of {A = Bool} (Err y))
    refused-tells = tells m s (length a) m' t (length b) (answer_of {A = Bool} (Err y)) refused-result

  module _ (x : (x : Texts) × (call ≡ accepted x)) where
    both : Both m s (length a) m' t (length b)
    both = both-fit m s (length a) m' t (length b) x.0 x.1

    pub writes-first : Fits m s (length a)
    writes-first = both.first

    pub writes-second : Fits m' t (length b)
    writes-second = both.second

    abbrev texts : Texts
    texts = record { first = spell both.first.reads; second = spell both.second.reads }

    accepted-is : call ≡ accepted texts
    accepted-is =
        texts-accepted m s (length a) m' t (length b) both.first.reads both.second.reads both.first.is both.second.is both.first.room both.second.room

    pub written-first : (a' : List ℕ) → a' ≡ bytes_after (normal_text m s) a → a' ≡ first_after call a
    unfolding bytes_after first_after written
    written-first a' e = e ∙ ap (λ x. bytes_after x a) (normal m s (length a) both.first) ∙ ap (λ x. first_after x a) (sym accepted-is)

    pub written-second : (b' : List ℕ) → b' ≡ bytes_after (normal_text m' t) b → b' ≡ second_after call b
    unfolding bytes_after second_after written
    written-second b' e = e ∙ ap (λ x. bytes_after x b) (normal m' t (length b) both.second) ∙ ap (λ x. second_after x b) (sym accepted-is)

    module _ (z : Bool) (e : z ≡ same_bytes (text_of (normal_text m s)) (text_of (normal_text m' t))) where
      answer-is : accepted z ≡ texts_equal call
      unfolding texts_equal
      answer-is =
          ap accepted (e ∙ ap₂ (λ v w. same_bytes (text_of v) (text_of w)) (normal m s (length a) both.first) (normal m' t (length b) both.second))
          ∙ ap texts_equal (sym accepted-is)

      pub equal-result : answer_of (Ok z) ≡ texts_equal call
      equal-result = answer-is

      pub equal-tells : Tells m s (length a) m' t (length b) (answer_of (Ok z))
      equal-tells = tells m s (length a) m' t (length b) (answer_of (Ok z)) equal-result

pub ruleset written_ways =
    (written-first, written-second, equal-result, equal-tells)
