-- What the calls hand back, and two calls that are made of the others, in which requirement 3 is used: a normal text that is read again under
-- another mode, and two texts whose readings are compared by their normal texts.
-- Assumes nothing.
use Rattle.std.specs.Prelude.{◌≡◌, ℕ, ◌*◌, ◌/◌, ◌≤◌, Bool, true, false, ◌&&◌, List, [], ◌∷◌, eqb, length, take}
use Rattle.rules.specs.Expansion.{Compat, Reading}
use Rattle.rules.specs.Rows.{comparator_width, placeless_reading}
use Rattle.rules.specs.NormalText.{spell}
use Rattle.rules.specs.Answers.{Answer, accepted, refused, map_answer, longest, reading, comparator_rows, identifier_rows, reading_call, Outcome, reading_outcome, written, comparator_words_after, identifier_words_after, normal_text_call, normal_text_outcome, bytes_after, and_then}
use Rattle.rules.specs.ReadBack.{read_back}

-- ---- what the calls hand back

-- the reading that a call hands back of the text t: by its counts, and by that many rows from the start of each slice
unfoldable pub handed_back : List ℕ → Outcome → List ℕ → List ℕ → Reading
unfolding read_back
handed_back t o words ids = read_back t (take (comparator_width * o.comparators) words) (take (3 * o.identifiers) ids)

-- that of the reading call, where the lent words held these
unfoldable pub reading_handed_back : Compat → List ℕ → List ℕ → List ℕ → Reading
unfolding handed_back reading_call reading_outcome comparator_words_after identifier_words_after
reading_handed_back m t words ids =
    let a = reading_call m t (length words) (length ids) in handed_back t (reading_outcome a) (comparator_words_after m t a words) (identifier_words_after t a ids)

-- the bytes that the normal text call hands back, where the lent bytes held these: as many as its length, from the start
unfoldable pub text_handed_back : Compat → List ℕ → List ℕ → List ℕ
unfolding normal_text_call normal_text_outcome bytes_after
text_handed_back m t out = let a = normal_text_call m t (length out) in take (normal_text_outcome a).length (bytes_after a out)

-- ---- a normal text, read again

-- The answer of both calls, one after the other: the normal text with its reading under the second mode; or the number of the refusal, which is the text's (1 to 4, 7)
-- or the normal text's (1, 5, 6).
pub data Reread : Type 0 where
  reread : Compat → List ℕ → Reading → Reread
  text_refused normal_refused : ℕ → Reread

unfoldable pub read_again : Compat → List ℕ → Answer Reading → Reread
read_again m w (accepted rs) = reread m w rs
read_again m w (refused n) = normal_refused n

unfoldable pub then_read : Compat → Answer (List ℕ) → (List ℕ → Answer Reading) → Reread
unfolding read_again
then_read m (accepted w) f = read_again m w (f w)
then_read m (refused n) f = text_refused n

-- the normal text of t under m, read under m': of so many lent bytes, comparator words and identifier words
unfoldable pub reread_call : Compat → Compat → List ℕ → ℕ → ℕ → ℕ → Reread
unfolding then_read normal_text_call reading_call
reread_call m m' t lent cw iw = then_read m' (normal_text_call m t lent) (λ w. reading_call m' w cw iw)

-- which of the two is refused
pub data Refuses : Type 0 where
  neither the_text its_normal_text : Refuses

-- that, with the number and the counts
pub record RereadOutcome : Type 0 where
  pub refuses : Refuses
  pub outcome : Outcome

unfoldable pub reread_outcome : Reread → RereadOutcome
unfolding reading_outcome
reread_outcome (reread m w rs) = record { refuses = neither; outcome = reading_outcome (accepted rs) }
reread_outcome (text_refused n) = record { refuses = the_text; outcome = reading_outcome (refused n) }
reread_outcome (normal_refused n) = record { refuses = its_normal_text; outcome = reading_outcome (refused n) }

-- the lent bytes and words after the call; a refused one changes none
unfoldable pub reread_bytes_after : Reread → List ℕ → List ℕ
unfolding bytes_after
reread_bytes_after (reread m w rs) old = bytes_after (accepted w) old
reread_bytes_after (text_refused n) old = old
reread_bytes_after (normal_refused n) old = old

unfoldable pub reread_comparators_after : Reread → List ℕ → List ℕ
unfolding comparator_words_after
reread_comparators_after (reread m w rs) old = comparator_words_after m w (accepted rs) old
reread_comparators_after (text_refused n) old = old
reread_comparators_after (normal_refused n) old = old

unfoldable pub reread_identifiers_after : Reread → List ℕ → List ℕ
unfolding identifier_words_after
reread_identifiers_after (reread m w rs) old = identifier_words_after w (accepted rs) old
reread_identifiers_after (text_refused n) old = old
reread_identifiers_after (normal_refused n) old = old

-- "a normal text of at most 65,535 bytes is accepted under either mode and gives an equal reading": wherever the lent space is enough, the
-- reading handed back of the bytes that were written equals that of the text t
pub record Restores (m : Compat) (t : List ℕ) (lent cw iw : ℕ) (o : Outcome) (bytes words ids : List ℕ) : Type 0 where
  pub equal : (rs : Reading) → reading m t ≡ accepted rs → length (spell rs) ≤ longest → length (spell rs) ≤ lent
      → comparator_rows rs ≤ cw / comparator_width → identifier_rows rs ≤ iw / 3
      → (o.refusal ≡ 0) × (placeless_reading (handed_back (take (length (spell rs)) bytes) o words ids) ≡ placeless_reading rs)

-- ---- two normal texts, compared

-- "equal byte by byte"
abbrev pub same_bytes : List ℕ → List ℕ → Bool
same_bytes [] [] = true
same_bytes [] (d ∷ w') = false
same_bytes (c ∷ w) [] = false
same_bytes (c ∷ w) (d ∷ w') = eqb c d && same_bytes w w'

pub record Texts : Type 0 where
  pub first : List ℕ
  pub second : List ℕ

-- the normal texts of t under m and of t' under m': of so many bytes lent for each
unfoldable pub texts_call : Compat → List ℕ → ℕ → Compat → List ℕ → ℕ → Answer Texts
unfolding normal_text_call
texts_call m t lent m' t' lent' = and_then (normal_text_call m t lent) (λ w. map_answer (λ w'. record { first = w; second = w' }) (normal_text_call m' t' lent'))

-- whether they are the same
unfoldable pub texts_equal : Answer Texts → Answer Bool
texts_equal a = map_answer (λ x. same_bytes x.first x.second) a

-- the bytes lent for each after the call
unfoldable pub first_after : Answer Texts → List ℕ → List ℕ
unfolding written
first_after a old = written (λ x. x.first) a old

unfoldable pub second_after : Answer Texts → List ℕ → List ℕ
unfolding written
second_after a old = written (λ x. x.second) a old

-- "Two readings are equal exactly when their normal texts are equal byte by byte": wherever both texts are accepted and the lent bytes are
-- enough, the answer is yes where the readings are equal, and no where they are not
pub record Tells (m : Compat) (t : List ℕ) (lent : ℕ) (m' : Compat) (t' : List ℕ) (lent' : ℕ) (answer : Answer Bool) : Type 0 where
  pub equal : (rs rs' : Reading) → reading m t ≡ accepted rs → reading m' t' ≡ accepted rs' → length (spell rs) ≤ lent → length (spell rs') ≤ lent'
      → placeless_reading rs ≡ placeless_reading rs' → answer ≡ accepted true
  pub different : (rs rs' : Reading) → reading m t ≡ accepted rs → reading m' t' ≡ accepted rs' → length (spell rs) ≤ lent → length (spell rs') ≤ lent'
      → (placeless_reading rs ≡ placeless_reading rs' → ⊥) → answer ≡ accepted false
