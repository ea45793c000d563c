-- Requirement 3 of the two calls: what they hand back, by their numbers and by the lent memory, whatever this held before.
-- Assumes nothing.
use mathlib.Core.Path.{◌≡◌, refl, sym, ap, ap₂, ◌∙◌}
use mathlib.Core.Logic.{◌↔◌}
use Prim.Native.Nat.{ℕ, ◌*◌, ◌/◌, ◌≤◌}
use native.Mathlib.Omega.{arith}
use mathlib.Core.Bool.{Bool, true, false}
use mathlib.Core.List.{List, ◌++◌}
use lib.ListN.{length, take, drop}
use lib.Seq.{take-append_seam}
use Rattle.rules.specs.Bytes.{pick}
use Rattle.rules.specs.Expansion.{Compat, Reading}
use Rattle.rules.specs.Rows.{comparator_width, comparator_words, identifier_words, placeless_reading}
use Rattle.rules.specs.NormalText.{spell}
use Rattle.rules.specs.Answers.{Answer, accepted, refused, unless, longest, reading, comparator_rows, identifier_rows, reading_call, reading_outcome, written, comparator_words_after, identifier_words_after, normal_text, normal_text_call, normal_text_outcome, bytes_after}
use Rattle.rules.specs.ReadBack.{read_back}
use Rattle.rules.specs.Equality.{handed_back, reading_handed_back, text_handed_back}
use Rattle.rules.proofs.Accepted.{reading-number}
use Rattle.rules.proofs.RowsLaws.{words-length, names-length}
use Rattle.rules.proofs.ReadBackLaws.{read_back_lem}
use Rattle.rules.proofs.NormalTextCall.{normal_text-refused, normal-reading}
use Rattle.rules.proofs.RoundTrip.{same-reading, round_trip}
use Rattle.rules.proofs.Equal.{placeless-comparators, placeless-identifiers, same-counts}
use Rattle.rules.proofs.ReadingCall.{call-accepts}

-- ---- an answer behind a test

module _ {A : Type 0} (n : ℕ) (p : A → Bool) where
  -- what is accepted was accepted before
  unless-accepted : (x : Answer A) (a : A) → unless n p x ≡ accepted a → x ≡ accepted a
  unless-accepted (refused k) a e = e
  unless-accepted (accepted b) a e = go (p b) e
    where
      go : (c : Bool) → pick c (accepted b) (refused n) ≡ accepted a → accepted b ≡ accepted a
      go true e = e
      go false e = let z : ◌≡◌ {A = ℕ} 0 1 = cc in absurd (omega arith)

  -- and if no refusal before has the number 0, none has behind it
  unless-number : (n ≡ 0 → ⊥) → (x : Answer A) → ((k : ℕ) → x ≡ refused k → k ≡ 0 → ⊥) → (k : ℕ) → unless n p x ≡ refused k → k ≡ 0 → ⊥
  unless-number z (refused j) h k e = h k e
  unless-number z (accepted b) h k e = go (p b) e
    where
      go : (c : Bool) → pick c (accepted b) (refused n) ≡ refused k → k ≡ 0 → ⊥
      go true e i = let y : ◌≡◌ {A = ℕ} 0 1 = cc in omega arith
      go false e i = let y : n ≡ k = cc in z (omega arith)

-- ---- each call, with what it hands back

-- the reading call accepts, with the text's reading, and hands it back
pub record Reads (m : Compat) (t words ids : List ℕ) : Type 0 where
  pub reads : Reading
  pub is : reading m t ≡ accepted reads
  pub call : reading_call m t (length words) (length ids) ≡ accepted reads
  pub back : reading_handed_back m t words ids ≡ reads

-- what stands at the start, of as many as there are
pub start : (w old now : List ℕ) (n : ℕ) → length w ≡ n → now ≡ w ++ drop (length w) old → take n now ≡ w
start w old now n e h = ap₂ take (sym e) h ∙ take-append_seam w (drop (length w) old)

-- the rows of a text's reading, at the start of each slice, give it back
module _ (m : Compat) (t : List ℕ) (rs : Reading) (i : reading m t ≡ accepted rs) (words ids : List ℕ) where
  pub handed-rows : handed_back t (reading_outcome (accepted rs)) (comparator_words_after m t (accepted rs) words) (identifier_words_after t (accepted rs) ids) ≡ rs
  unfolding handed_back reading_outcome comparator_words_after identifier_words_after written
  handed-rows = ap₂ (λ cws iws. read_back t cws iws) cs is ∙ read_back_lem m t rs i
    where
      cs : take (comparator_width * comparator_rows rs) (comparator_words_after m t (accepted rs) words) ≡ comparator_words m t
      cs = start (comparator_words m t) words _ _ (words-length m t rs i) refl

      is : take (3 * identifier_rows rs) (identifier_words_after t (accepted rs) ids) ≡ identifier_words (length t) rs
      is = start (identifier_words (length t) rs) ids _ _ (names-length (length t) rs) refl

module _ (m : Compat) (t words ids : List ℕ) where
  abbrev called : Answer Reading
  called = reading_call m t (length words) (length ids)

  handed-reading : (rs : Reading) → reading m t ≡ accepted rs → called ≡ accepted rs → reading_handed_back m t words ids ≡ rs
  unfolding reading_handed_back
  handed-reading rs i e = rw e (handed-rows m t rs i words ids)

  pub call-reading : (rs : Reading) → called ≡ accepted rs → reading m t ≡ accepted rs
  unfolding reading_call
  call-reading rs e = unless-accepted _ _ _ rs (unless-accepted _ _ _ rs e)

  call-number : (k : ℕ) → called ≡ refused k → k ≡ 0 → ⊥
  unfolding reading_call
  call-number = unless-number _ _ (λ e. omega arith) _ (unless-number _ _ (λ e. omega arith) _ (reading-number m t))

  pub reads-back : (reading_outcome called).refusal ≡ 0 → Reads m t words ids
  unfolding reading_outcome
  reads-back z = go called refl
    where
      go : (a : Answer Reading) → called ≡ a → Reads m t words ids
      go (refused k) e = absurd (call-number k e (sym (ap (λ a. (reading_outcome a).refusal) e) ∙ z))
      go (accepted rs) e = let i = call-reading rs e in record { reads = rs; is = i; call = e; back = handed-reading rs i e }

-- the normal text call accepts, and hands back the spelling of the text's reading
pub record Spells (m : Compat) (t out : List ℕ) : Type 0 where
  pub reads : Reading
  pub is : reading m t ≡ accepted reads
  pub back : text_handed_back m t out ≡ spell reads

module _ (m : Compat) (t out : List ℕ) where
  abbrev answered : Answer (List ℕ)
  answered = normal_text_call m t (length out)

  answer-number : (k : ℕ) → answered ≡ refused k → k ≡ 0 → ⊥
  unfolding normal_text_call
  answer-number = unless-number _ _ (λ e. omega arith) _ (λ k e. reading-number m t k ((normal_text-refused m t k).0 e))

  answer-text : (w : List ℕ) → answered ≡ accepted w → normal_text m t ≡ accepted w
  unfolding normal_text_call
  answer-text w e = unless-accepted _ _ _ w e

  pub spells-back : (normal_text_outcome answered).refusal ≡ 0 → Spells m t out
  unfolding normal_text_outcome text_handed_back bytes_after written
  spells-back z = go answered refl
    where
      go : (a : Answer (List ℕ)) → answered ≡ a → Spells m t out
      go (refused k) e = absurd (answer-number k e (sym (ap (λ a. (normal_text_outcome a).refusal) e) ∙ z))
      go (accepted w) e =
          let x = normal-reading m t w (answer-text w e) in
          record { reads = x.0; is = x.1; back = rw (e, take-append_seam) x.2 }

-- ---- the two calls together

-- A text by both calls; then the bytes that the first handed back, by the reading call under any mode, with words for as many rows: the counts
-- are the same, and the readings equal.
module _ (m m' : Compat) (t out words ids words' ids' : List ℕ) where
  pub calls-round-trip : (normal_text_outcome (answered m t out)).refusal ≡ 0 → (reading_outcome (called m t words ids)).refusal ≡ 0
      → length (text_handed_back m t out) ≤ longest
      → (reading_outcome (called m t words ids)).comparators ≤ length words' / comparator_width → (reading_outcome (called m t words ids)).identifiers ≤ length ids' / 3
      → (reading_outcome (called m' (text_handed_back m t out) words' ids') ≡ reading_outcome (called m t words ids))
      × (placeless_reading (reading_handed_back m' (text_handed_back m t out) words' ids') ≡ placeless_reading (reading_handed_back m t words ids))
  unfolding reading_outcome
  calls-round-trip y z l k j = rw (b.back, a.call, a.back, texts) (ap reading_outcome c ∙ same-counts ss rs x.2, ap placeless_reading (handed-reading m' (spell rs) words' ids' ss x.1 c) ∙ x.2)
    where
      a : Reads m t words ids
      a = reads-back m t words ids z

      b : Spells m t out
      b = spells-back m t out y

      rs : Reading
      rs = a.reads

      texts : spell b.reads ≡ spell rs
      texts = let e : b.reads ≡ rs = cc (a.is, b.is) in ap spell e

      x : (ss : Reading) × (reading m' (spell rs) ≡ accepted ss) × (placeless_reading ss ≡ placeless_reading rs)
      x = round_trip m m' t rs a.is (rw (b.back, texts) at l)

      ss : Reading
      ss = x.0

      c : called m' (spell rs) words' ids' ≡ accepted ss
      c = call-accepts m' (spell rs) (length words') (length ids') ss x.1
          (rw (a.call, sym (placeless-comparators ss rs x.2)) at k) (rw (a.call, sym (placeless-identifiers ss rs x.2)) at j)

-- Two texts, each by both calls: the readings handed back are equal exactly where the bytes handed back are the same.
module _ (m m' : Compat) (t t' out out' words ids words' ids' : List ℕ) where
  pub calls-equal : (normal_text_outcome (answered m t out)).refusal ≡ 0 → (reading_outcome (called m t words ids)).refusal ≡ 0
      → (normal_text_outcome (answered m' t' out')).refusal ≡ 0 → (reading_outcome (called m' t' words' ids')).refusal ≡ 0
      → (placeless_reading (reading_handed_back m t words ids) ≡ placeless_reading (reading_handed_back m' t' words' ids')) ↔ (text_handed_back m t out ≡ text_handed_back m' t' out')
  calls-equal y z y' z' =
      let a = reads-back m t words ids z in
      let b = spells-back m t out y in
      let a' = reads-back m' t' words' ids' z' in
      let b' = spells-back m' t' out' y' in
      let e : b.reads ≡ a.reads = cc (a.is, b.is) in
      let e' : b'.reads ≡ a'.reads = cc (a'.is, b'.is) in
      rw (a.back, a'.back, b.back, b'.back, e, e') (same-reading m m' t t' a.reads a'.reads a.is a'.is)
