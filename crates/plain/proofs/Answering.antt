-- The writer of an answer: a law for each of its ways.
-- Assumes nothing.
use Prim.Native.Nat.{ℕ, ◌+◌, ◌-◌, ◌<◌, ◌≤◌}
use mathlib.Core.Path.{◌≡◌, refl, sym, subst, ap, ◌∙◌}
use mathlib.Core.List.{List, []}
use native.Mathlib.Omega.{arith}
use borrow.Rule.Slice.PartMut.{put_mid}
use lib.ListN.{length, take, drop, length-take, length-drop}
use Rattle.rules.specs.Expansion.{Compat, Reading}
use Rattle.rules.specs.NormalText.{spell}
use Rattle.rules.specs.Answers.{Answer, accepted, refused, map_answer, reading, normal_text, normal_text_call, normal_text_outcome, written, bytes_after}
use Rattle.rules.specs.Plainform.{spell_refusal, spell_answer}
use Rattle.rules.proofs.Accepted.{reading-number}
use Rattle.rules.proofs.PlainformLaws.{never-7}
use Rattle.rows.specs.Put.{Put}
use Rattle.rows.proofs.Puts.{put-part}
use Rattle.rows.proofs.Stores.{part-back, sets-onto}
use Rattle.std.specs.Prelude.{Result, Ok, Err}
use Rattle.refusals.specs.Views.{number_of}
use Rattle.refusals.specs.declared.Refusal.{Refusal}
use Rattle.rangeset.proofs.Outcomes.{refusal-number}
use Rattle.normal_text.specs.Views.{length_of}

-- ---- put_answer

module _ (m : Compat) (t : List ℕ) where
  -- the normal text, which has n bytes
  record Spelled (n : ℕ) : Type 0 where
    pub text : List ℕ
    pub is : normal_text m t ≡ accepted text
    pub long : n ≡ length text

  spelled : (n : ℕ) → length_of (Ok n) ≡ normal_text_outcome (normal_text m t) → Spelled n
  unfolding normal_text normal_text_outcome
  spelled n e = go (reading m t) refl e
    where
      go : (a : Answer Reading) → reading m t ≡ a → length_of (Ok n) ≡ normal_text_outcome (map_answer spell a) → Spelled n
      go (accepted rs) q e = record { text = spell rs; is = rw q; long = ap (λ x. x.length) e }
      go (refused k) q e = absurd (reading-number m t k q (sym (ap (λ x. x.refusal) e)))

  unspelled : (r : Refusal) → length_of (Err r) ≡ normal_text_outcome (normal_text m t) → normal_text m t ≡ refused (number_of r)
  unfolding normal_text_outcome
  unspelled r e = go (normal_text m t) e
    where
      go : (a : Answer (List ℕ)) → length_of (Err r) ≡ normal_text_outcome a → a ≡ refused (number_of r)
      go (accepted w) e = absurd (refusal-number r (ap (λ x. x.refusal) e))
      go (refused k) e = ap refused (sym (ap (λ x. x.refusal) e))

  module _ (l : List ℕ) (at : ℕ) (h : at + length (spell_answer (normal_text m t)) ≤ length l) where
    -- the part that is lent
    abbrev part : List ℕ
    part = take (length l - at) (drop at l)

    part_room : length (spell_answer (normal_text m t)) ≤ length part
    part_room = simp (length-take, length-drop) (omega arith)

    enough : normal_text_call m t (length part) ≡ normal_text m t
    enough = never-7 m t (length part) part_room

    module _ (r : Result ℕ Refusal) (e : length_of r ≡ normal_text_outcome (normal_text_call m t (length part))) where
      module _ (n : ℕ) (q : r ≡ Ok n) where
        given : Spelled n
        given = spelled n (ap length_of (sym q) ∙ e ∙ ap normal_text_outcome enough)

        spelled-length : length (spell_answer (normal_text m t)) ≡ n
        unfolding spell_answer
        spelled-length = ap (λ a. length (spell_answer a)) given.is ∙ sym given.long

        pub answer-fits : length l < 18446744073709551616 → at + n < 18446744073709551616
        answer-fits k = omega (arith, spelled-length)

        pub answer-put : (y : List ℕ) → y ≡ bytes_after (normal_text_call m t (length part)) part
            → Put l at (spell_answer (normal_text m t)) (put_mid at (length l - at) l y) (at + n)
        unfolding spell_answer bytes_after written
        answer-put y b =
            let o = sets-onto given.text part (rw given.is at part_room) in
            let s = b ∙ ap (λ a. bytes_after a part) (enough ∙ given.is) ∙ sym o in
            put-part {y = y} (record { stored = rw given.is s; place = omega (arith, spelled-length) })

      module _ (x : Refusal) (q : r ≡ Err x) where
        none : normal_text m t ≡ refused (number_of x)
        none = unspelled x (ap length_of (sym q) ∙ e ∙ ap normal_text_outcome enough)

        module _ (y : List ℕ) (b : y ≡ bytes_after (normal_text_call m t (length part)) part) where
          unchanged : put_mid at (length l - at) l y ≡ l
          unfolding bytes_after written
          unchanged = part-back l at [] (b ∙ ap (λ a. bytes_after a part) (enough ∙ none))

          module _ (n : ℕ) (f : n ≡ number_of x) where
            pub refusal-room : at + length (spell_refusal n) ≤ length (put_mid at (length l - at) l y)
            unfolding spell_answer
            refusal-room = subst (λ j. at + length (spell_refusal j) ≤ length (put_mid at (length l - at) l y)) (sym f) (rw unchanged (rw none at h))

            pub refusal-put : (z : List ℕ) (k : ℕ) → Put (put_mid at (length l - at) l y) at (spell_refusal n) z k
                → Put l at (spell_answer (normal_text m t)) z k
            unfolding spell_answer
            refusal-put z k p = rw none (subst (λ j. Put l at (spell_refusal j) z k) f (rw unchanged at p))

pub ruleset answers = (answer-fits, answer-put, refusal-room, refusal-put)
