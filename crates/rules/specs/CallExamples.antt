-- The calls with what they are lent: what each hands back, and all lent words and bytes before and after it. A lent word holds 9 before the call,
-- and a lent byte `_`. Theorem 15 holds the definitions to them.
-- Assumes nothing.
use Rattle.std.specs.Prelude.{ℕ, Bool, true, false, List, [], ◌∷◌, length, replicate}
use Prim.Native.String.{String}
use Rattle.rules.specs.Bytes.{bytes}
use Rattle.rules.specs.Syntax.{Identifier, number, text}
use Rattle.rules.specs.Parse.{left_of, read_number, found_in}
use Rattle.rules.specs.Expansion.{Compat, cargo, npm}
use Rattle.rules.specs.NormalText.{spell}
use Rattle.rules.specs.Answers.{Answer, accepted, refused, reading_call, Outcome, reading_outcome, comparator_words_after, identifier_words_after, identifier_bytes, normal_text_call, Length, normal_text_outcome, bytes_after}
use Rattle.rules.specs.Equality.{reading_handed_back, text_handed_back, text_refused, normal_refused, reread_call, Refuses, neither, the_text, its_normal_text, RereadOutcome, reread_outcome, reread_bytes_after, reread_comparators_after, reread_identifiers_after, texts_call, texts_equal, first_after, second_after}
use Rattle.rules.specs.Version.{version_identifiers_in}
use Rattle.rules.specs.Exported.{mode_of, under, modes_of, under_both, reread_under, RereadNumbers, reread_numbers, Verdict, verdict, Span, part_at}

abbrev pub nines : ℕ → List ℕ
nines n = replicate n 9

-- "A refused call hands back its number and zero counts"
abbrev pub counts : ℕ → ℕ → ℕ → Outcome
counts a b c = record { refusal = 0; ranges = a; comparators = b; identifiers = c }

abbrev pub refused_with : ℕ → Outcome
refused_with n = record { refusal = n; ranges = 0; comparators = 0; identifiers = 0 }

-- ---- the reading call

-- the mode, the text, the lent words; the number and the counts; and the words after the call
pub data Reads : Type 0 where
  reads : Compat → String → List ℕ → List ℕ → Outcome → List ℕ → List ℕ → Reads

-- rows at the start, and later words kept; just enough words; a word too few for the comparators, and for the identifiers; and texts that are
-- refused whatever is lent
unfoldable pub reading_calls : List Reads
reading_calls =
    reads npm "^1.2.3-a.0 || <2" (nines 26) (nines 7) (counts 2 3 2)
    (0 ∷ 3 ∷ 1 ∷ 2 ∷ 3 ∷ 2 ∷ 0 ∷ 10 ∷ 0 ∷ 0 ∷ 2 ∷ 0 ∷ 0 ∷ 0 ∷ 0 ∷ 10 ∷ 1 ∷ 0 ∷ 2 ∷ 0 ∷ 0 ∷ 0 ∷ 14 ∷ 2 ∷ 9 ∷ 9 ∷ []) (1 ∷ 7 ∷ 1 ∷ 0 ∷ 0 ∷ 0 ∷ 9 ∷ [])
    ∷ reads cargo "1.2.3-a" (nines 16) (nines 3) (counts 1 2 1)
    (0 ∷ 3 ∷ 1 ∷ 2 ∷ 3 ∷ 1 ∷ 0 ∷ 7 ∷ 0 ∷ 0 ∷ 2 ∷ 0 ∷ 0 ∷ 0 ∷ 0 ∷ 7 ∷ []) (1 ∷ 6 ∷ 1 ∷ [])
    ∷ reads cargo "1.2.3-a" (nines 15) (nines 3) (refused_with 5) (nines 15) (nines 3)
    ∷ reads npm "1.2.3-a" (nines 8) (nines 3) (counts 1 1 1) (0 ∷ 4 ∷ 1 ∷ 2 ∷ 3 ∷ 1 ∷ 0 ∷ 7 ∷ []) (1 ∷ 6 ∷ 1 ∷ [])
    ∷ reads npm "1.2.3-a" (nines 8) (nines 2) (refused_with 6) (nines 8) (nines 2)
    ∷ reads npm "1.2.3-a" (nines 7) (nines 2) (refused_with 5) (nines 7) (nines 2)
    ∷ reads npm "1.2.3-a.b" (nines 8) (nines 5) (refused_with 6) (nines 8) (nines 5)
    ∷ reads npm "1,2" [] [] (refused_with 2) [] []
    ∷ reads npm "1,2" (nines 16) (nines 3) (refused_with 2) (nines 16) (nines 3)
    ∷ reads npm "18446744073709551616" (nines 16) [] (refused_with 3) (nines 16) []
    ∷ reads npm "18446744073709551615" (nines 1) [] (refused_with 4) (nines 1) []
    ∷ []

unfoldable pub reads_answered : Reads → Outcome × List ℕ × List ℕ
unfolding reading_call reading_outcome comparator_words_after identifier_words_after
reads_answered (reads m t cws iws o cws' iws') =
    let a = reading_call m (bytes t) (length cws) (length iws) in (reading_outcome a, comparator_words_after m (bytes t) a cws, identifier_words_after (bytes t) a iws)

abbrev pub reads_expected : Reads → Outcome × List ℕ × List ℕ
reads_expected (reads m t cws iws o cws' iws') = (o, cws', iws')

-- the reading that is handed back where 35 words and 10 are lent, spelled; a refused call hands back nothing
unfoldable pub read_of : String → List ℕ
unfolding reading_handed_back spell
read_of t = spell (reading_handed_back npm (bytes t) (nines 35) (nines 10))

unfoldable pub readings : List (List ℕ × List ℕ)
unfolding read_of
readings =
    (read_of "^1.2.3-a.0 || <2", bytes ">=1.2.3-a.0 <2.0.0 || <2.0.0")
    ∷ (read_of "1.2.3-a.b - 2.0.0+7 || x || <3", bytes ">=1.2.3-a.b <=2.0.0-7 || >=0.0.0 || <3.0.0")
    ∷ (read_of "1.2.3-a.b.c.d", [])
    ∷ (read_of "1,2", [])
    ∷ []

-- ---- the identifier bytes call

-- a text, a place, a length, and the part
pub data Part : Type 0 where
  part : String → ℕ → ℕ → String → Part

unfoldable pub parts : List Part
parts =
    part "abc" 0 3 "abc" ∷ part "abc" 1 1 "b" ∷ part "abc" 2 1 "c" ∷ part "abc" 3 0 "" ∷ part "abc" 1 3 "" ∷ part "abc" 3 1 "" ∷ part "abc" 4 0 "" ∷ []

abbrev pub part_answered : Part → List ℕ
part_answered (part t place n w) = identifier_bytes (bytes t) place n

abbrev pub part_expected : Part → List ℕ
part_expected (part t place n w) = bytes w

-- ---- the normal text call

-- the mode, the text, the lent bytes; the number and the length; and the bytes after the call
pub data Writes : Type 0 where
  writes : Compat → String → String → ℕ → ℕ → String → Writes

unfoldable pub normal_text_calls : List Writes
normal_text_calls =
    writes npm "1.2.3" "_______" 0 6 "=1.2.3_"
    ∷ writes npm "1.2.3" "______" 0 6 "=1.2.3"
    ∷ writes npm "1.2.3" "_____" 7 0 "_____"
    ∷ writes cargo "1.2.3" "______________" 0 14 ">=1.2.3 <2.0.0"
    ∷ writes cargo "1.2.3" "_____________" 7 0 "_____________"
    ∷ writes npm "1,2" "" 2 0 ""
    ∷ writes npm "18446744073709551616" "_" 3 0 "_"
    ∷ writes npm "18446744073709551615" "_" 4 0 "_"
    ∷ []

unfoldable pub writes_answered : Writes → Length × List ℕ
unfolding normal_text_call normal_text_outcome bytes_after
writes_answered (writes m t out n k out') = let a = normal_text_call m (bytes t) (length (bytes out)) in (normal_text_outcome a, bytes_after a (bytes out))

abbrev pub writes_expected : Writes → Length × List ℕ
writes_expected (writes m t out n k out') = (record { refusal = n; length = k }, bytes out')

-- the bytes that are handed back where seven are lent
unfoldable pub written_of : String → List ℕ
unfolding text_handed_back
written_of t = text_handed_back npm (bytes t) (bytes "_______")

unfoldable pub normal_texts : List (List ℕ × List ℕ)
unfolding written_of
normal_texts = (written_of "1.2.3", bytes "=1.2.3") ∷ (written_of "1.2.3-a", []) ∷ (written_of "1,2", []) ∷ []

-- ---- a normal text, read again

-- two modes, the text, the lent bytes and words; whose refusal it is, the number and the counts; and the bytes and words after the call
pub data Rereads : Type 0 where
  rereads : Compat → Compat → String → String → List ℕ → List ℕ → Refuses → Outcome → String → List ℕ → List ℕ → Rereads

-- a byte and a word more than are needed; just enough; one less of each; and a text that is refused
unfoldable pub reread_calls : List Rereads
reread_calls =
    rereads cargo npm "1.2.3-a" "_________________" (nines 17) (nines 4) neither (counts 1 2 1)
    ">=1.2.3-a <2.0.0_" (0 ∷ 3 ∷ 1 ∷ 2 ∷ 3 ∷ 1 ∷ 0 ∷ 9 ∷ 0 ∷ 0 ∷ 2 ∷ 0 ∷ 0 ∷ 0 ∷ 10 ∷ 6 ∷ 9 ∷ []) (1 ∷ 8 ∷ 1 ∷ 9 ∷ [])
    ∷ rereads npm cargo "1.2.3-a" "________" (nines 8) (nines 3) neither (counts 1 1 1) "=1.2.3-a" (0 ∷ 4 ∷ 1 ∷ 2 ∷ 3 ∷ 1 ∷ 0 ∷ 8 ∷ []) (1 ∷ 7 ∷ 1 ∷ [])
    ∷ rereads npm cargo "1.2.3-a" "________" (nines 8) (nines 2) its_normal_text (refused_with 6) "________" (nines 8) (nines 2)
    ∷ rereads npm cargo "1.2.3-a" "________" (nines 7) (nines 2) its_normal_text (refused_with 5) "________" (nines 7) (nines 2)
    ∷ rereads npm cargo "1.2.3-a" "_______" (nines 7) (nines 2) the_text (refused_with 7) "_______" (nines 7) (nines 2)
    ∷ rereads npm cargo "1,2" "_______" (nines 7) (nines 2) the_text (refused_with 2) "_______" (nines 7) (nines 2)
    ∷ []

unfoldable pub rereads_answered : Rereads → RereadOutcome × List ℕ × List ℕ × List ℕ
unfolding reread_call reread_outcome reread_bytes_after reread_comparators_after reread_identifiers_after
rereads_answered (rereads m m' t out cws iws w o out' cws' iws') =
    let a = reread_call m m' (bytes t) (length (bytes out)) (length cws) (length iws) in
    (reread_outcome a, reread_bytes_after a (bytes out), reread_comparators_after a cws, reread_identifiers_after a iws)

abbrev pub rereads_expected : Rereads → RereadOutcome × List ℕ × List ℕ × List ℕ
rereads_expected (rereads m m' t out cws iws w o out' cws' iws') = (record { refuses = w; outcome = o }, bytes out', cws', iws')

-- ---- two texts, compared

-- a mode, a text and the bytes lent for it, twice; the answer; and the bytes after the call
pub data Compares : Type 0 where
  compares : Compat → String → String → Compat → String → String → Answer Bool → String → String → Compares

unfoldable pub texts_calls : List Compares
texts_calls =
    compares npm "1.2.3" "_______" cargo "=1.2.3" "________" (accepted true) "=1.2.3_" "=1.2.3__"
    ∷ compares npm "1.2.3-a.1" "__________" npm "1.2.3+a.1" "__________" (accepted true) "=1.2.3-a.1" "=1.2.3-a.1"
    ∷ compares npm "1.2.3" "______" cargo "1.2.3" "______________" (accepted false) "=1.2.3" ">=1.2.3 <2.0.0"
    ∷ compares npm "=1.2.3" "_______" npm "<4.5.6" "_______" (accepted false) "=1.2.3_" "<4.5.6_"
    ∷ compares npm "1.2.3" "_____" npm "1,2" "_" (refused 7) "_____" "_"
    ∷ compares npm "1.2.3" "______" npm "1.2.3" "_____" (refused 7) "______" "_____"
    ∷ compares npm "1.2.3" "______" npm "1,2" "_____" (refused 2) "______" "_____"
    ∷ compares npm "18446744073709551616" "_" npm "1,2" "_" (refused 3) "_" "_"
    ∷ []

unfoldable pub compares_answered : Compares → Answer Bool × List ℕ × List ℕ
unfolding texts_call texts_equal first_after second_after
compares_answered (compares m t a m' t' b x a' b') =
    let c = texts_call m (bytes t) (length (bytes a)) m' (bytes t') (length (bytes b)) in (texts_equal c, first_after c (bytes a), second_after c (bytes b))

abbrev pub compares_expected : Compares → Answer Bool × List ℕ × List ℕ
compares_expected (compares m t a m' t' b x a' b') = (x, bytes a', bytes b')

-- ---- the calls as they are exported

-- a mode by its number, and a call under it
unfoldable pub modes : List (Answer Compat × Answer Compat)
unfolding under
modes =
    (mode_of 0, accepted cargo)
    ∷ (mode_of 1, accepted npm)
    ∷ (mode_of 2, refused 255)
    ∷ (mode_of 255, refused 255)
    ∷ (under 0 (λ m. accepted m), accepted cargo)
    ∷ (under 1 (λ m. accepted m), accepted npm)
    ∷ (under 1 (λ m. refused 3), refused 3)
    ∷ (under 2 (λ m. refused 3), refused 255)
    ∷ []

-- two modes by their numbers, and calls under both
unfoldable pub mode_pairs : List (Answer (Compat × Compat) × Answer (Compat × Compat))
unfolding under_both
mode_pairs =
    (modes_of 0 1, accepted (cargo, npm))
    ∷ (modes_of 1 0, accepted (npm, cargo))
    ∷ (modes_of 2 0, refused 255)
    ∷ (modes_of 0 2, refused 255)
    ∷ (under_both 0 1 (λ m m'. accepted (m', m)), accepted (npm, cargo))
    ∷ (under_both 0 2 (λ m m'. refused 3), refused 255)
    ∷ []

-- whose refusal it is, by a number
unfoldable pub reread_numbered : List (RereadNumbers × RereadNumbers)
unfolding reread_under reread_outcome reread_call
reread_numbered =
    (reread_numbers (reread_outcome (reread_under 0 1 (λ m m'. normal_refused 5))), record { outcome = refused_with 5; normal = 1 })
    ∷ (reread_numbers (reread_outcome (reread_under 0 1 (λ m m'. text_refused 7))), record { outcome = refused_with 7; normal = 0 })
    ∷ (reread_numbers (reread_outcome (reread_under 0 2 (λ m m'. normal_refused 5))), record { outcome = refused_with 255; normal = 0 })
    ∷ (reread_numbers (reread_outcome (reread_under 1 0 (λ m m'. reread_call m m' (bytes "1.2.3") 6 8 0))), record { outcome = counts 1 1 0; normal = 0 })
    ∷ []

-- where a part begins, and its size
abbrev pub spans : List (Span × Span)
spans = (part_at 3 (bytes "ab"), record { from = 3; size = 2 }) ∷ (part_at 3 [], record { from = 0; size = 0 }) ∷ []

-- yes and no by their numbers
unfoldable pub verdicts : List (Verdict × Verdict)
unfolding verdict
verdicts =
    (verdict (accepted true), record { refusal = 0; yes = 1 })
    ∷ (verdict (accepted false), record { refusal = 0; yes = 0 })
    ∷ (verdict (refused 8), record { refusal = 8; yes = 0 })
    ∷ []

-- ---- what code looks at again

-- how many bytes are left behind a number
abbrev pub left_behind : String → ℕ
left_behind t = left_of (bytes t) (read_number (bytes t))

unfoldable pub lefts : List (ℕ × ℕ)
lefts = (left_behind "12ab", 2) ∷ (left_behind "012", 2) ∷ (left_behind "ab", 2) ∷ (left_behind "", 0) ∷ []

-- the identifiers that a text begins with: a range's, and a version's
unfoldable pub identifiers : List (List Identifier × List Identifier)
unfolding found_in version_identifiers_in
identifiers =
    (found_in (bytes "a.1 x"), text 5 (bytes "a") ∷ number 1 ∷ [])
    ∷ (found_in (bytes "1a"), number 1 ∷ [])
    ∷ (version_identifiers_in (bytes "a.1+x"), text 5 (bytes "a") ∷ number 1 ∷ [])
    ∷ (version_identifiers_in (bytes "1a"), text 2 (bytes "1a") ∷ [])
    ∷ []
