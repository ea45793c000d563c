-- THE THEOREMS about the definitions of specs/, each in its final form; its proof is cited. A reader who believes the definitions and
-- reads this file knows what is proved of them. That the answers are those of the crate semver-parser (requirement 2) is proved above, in
-- conformance/proofs/Theorems.antt.
-- Assumes nothing.
use mathlib.Core.Logic.{◌↔◌, ◌⊎◌}
use mathlib.Core.Path.{◌≡◌}
use Prim.Native.Nat.{ℕ, ◌/◌, ◌≤◌, ◌<◌}
use mathlib.Core.Bool.{true, false}
use mathlib.Core.List.{List, [], map}
use lib.ListN.{length}
use Rattle.rules.specs.Lists.{each, All, Some}
use Rattle.rules.specs.Bytes.{bytes, is_digit, value, largest}
use Rattle.rules.specs.Syntax.{Range, text, of_digits, components_read}
use Rattle.rules.specs.Grammar.{ReadsNumber, ReadsText}
use Rattle.rules.specs.Parse.{ok, read_text}
use Rattle.rules.specs.Expansion.{Compat, Reading, Adds, pieces}
use Rattle.rules.specs.Extents.{text_extents}
use Rattle.rules.specs.DerivedExtents.{extents_of}
use Rattle.rules.specs.Rows.{comparator_width, comparator_words, RowsInText, identifier_words, all_identifiers, InText, placeless_reading}
use Rattle.rules.specs.NormalText.{spell}
use Rattle.rules.specs.Answers.{accepted, refused, longest, range_fits, reading, normal_text, reading_call, reading_outcome, normal_text_call, normal_text_outcome}
use Rattle.rules.specs.Equality.{reading_handed_back, text_handed_back}
use Rattle.rules.specs.Alike.{Alike, plain}
use Rattle.rules.specs.ReadBack.{read_back}
use Rattle.rules.specs.Plainform.{without_newline, mode_lines, longest_input, plainform, input_sheet, output_of, output_given}
use Rattle.rules.specs.Examples.{bench_sheet, worked, expected, answered, worked_rows, worked_items, said, given, rows_answered, rows_expected, items_answered, items_expected}
use Rattle.rules.proofs.Sound as Sound
use Rattle.rules.proofs.Complete as Complete
use Rattle.rules.proofs.Accepted as Accepted
use Rattle.rules.proofs.HighBytes as HighBytes
use Rattle.rules.proofs.Exceeded as Exceeded
use Rattle.rules.proofs.Raised as Raised
use Rattle.rules.proofs.Tables as Tables
use Rattle.rules.proofs.Unread as Unread
use Rattle.rules.proofs.AlikeExtents as AlikeExtents
use Rattle.rules.proofs.RoundTrip as RoundTrip
use Rattle.rules.proofs.HandedBack as HandedBack
use Rattle.rules.proofs.ReadBackLaws as ReadBackLaws
use Rattle.rules.proofs.Places as Places
use Rattle.rules.proofs.RowPlaces as RowPlaces
use Rattle.rules.proofs.DerivedExtentsLaws as DerivedExtentsLaws
use Rattle.rules.specs.Version.{Version, placeless_version, ReadsVersion, read_version}
use Rattle.rules.specs.Precedence.{less, equal, greater, compare_numbers, compare_identifiers, precedence}
use Rattle.rules.specs.Admission.{admits, version_fits, version_of, admission_call}
use Rattle.rules.specs.Admits.{verdict_line, answer_line, sessions, session_output, session_given, range_lines}
use Rattle.rules.specs.AdmissionExamples.{chain, comparisons, order_expected, order_answered, admissions, admission_expected, admission_answered}
use Rattle.rules.specs.CallExamples.{reading_calls, reads_answered, reads_expected, readings, parts, part_answered, part_expected, normal_text_calls, writes_answered, writes_expected, normal_texts, reread_calls, rereads_answered, rereads_expected, texts_calls, compares_answered, compares_expected, modes, mode_pairs, reread_numbered, spans, verdicts, lefts, identifiers}
use Rattle.rules.specs.ByteExamples.{classes, members_of, members_given}
use Rattle.rules.specs.LimitExamples.{limits}
use Rattle.rules.proofs.VersionSound as VersionSound
use Rattle.rules.proofs.VersionComplete as VersionComplete
use Rattle.rules.proofs.VersionAccepted as VersionAccepted
use Rattle.rules.proofs.PrecedenceLaws as PrecedenceLaws
use Rattle.rules.proofs.DigitOrder as DigitOrder
use Rattle.rules.proofs.AdmissionLaws as AdmissionLaws
use Rattle.rules.proofs.PlainformLaws as PlainformLaws
use Rattle.rules.proofs.AdmitsLaws as AdmitsLaws

-- ---- 1. The function that reads is sound and complete for the grammar, and the grammar is unambiguous.

pub sound : (t : List ℕ) (rs : List Range) (r : List ℕ) → read_text t ≡ ok rs r → ReadsText t rs
sound = Sound.sound

pub complete : {t : List ℕ} {rs : List Range} → ReadsText t rs → read_text t ≡ ok rs []
complete = Complete.complete

pub unambiguous : {t : List ℕ} {rs ss : List Range} → ReadsText t rs → ReadsText t ss → rs ≡ ss
unambiguous = Complete.unambiguous

-- So a text is refused with 1 exactly when it is longer than 65,535 bytes, and one that is not, with 2 exactly when no reading exists.
pub refused-1 : (m : Compat) (t : List ℕ) → (reading m t ≡ refused 1) ↔ (longest < length t)
refused-1 = Accepted.refused-1

pub refused-2 : (m : Compat) (t : List ℕ) → length t ≤ longest → (reading m t ≡ refused 2) ↔ ((rs : List Range) → ReadsText t rs → ⊥)
refused-2 = Accepted.refused-2

-- "Bytes outside these forms, all at or above 80 hexadecimal included, have no reading": a text with such a byte is refused with 2, if not with 1.
pub high-unread : (t : List ℕ) → Some (λ c. 0x80 ≤ c) t → (rs : List Range) → ReadsText t rs → ⊥
high-unread = HighBytes.high-unread

pub high-refused : (m : Compat) (t : List ℕ) → length t ≤ longest → Some (λ c. 0x80 ≤ c) t → reading m t ≡ refused 2
high-refused = HighBytes.high-refused

-- ---- 2. Refusals 3 and 4 as 01 says them. Where 1 and 2 do not apply, 3 is given exactly when a component that is read exceeds
-- 18446744073709551615; where 3 does not apply either, 4 exactly when an expansion adds one to a component equal to it.

pub refused-3 : (m : Compat) (t : List ℕ) (rs : List Range) → length t ≤ longest → ReadsText t rs
    → (reading m t ≡ refused 3) ↔ Some (λ n. largest < n) (components_read rs)
refused-3 = Exceeded.refused-3

pub refused-4 : (m : Compat) (t : List ℕ) (rs : List Range) → length t ≤ longest → ReadsText t rs → each range_fits rs ≡ true
    → (reading m t ≡ refused 4) ↔ Some (Adds largest) (pieces m rs)
refused-4 = Raised.refused-4

-- ---- 3. The bench sheet of 01.

pub bench-sheet : map answered bench_sheet ≡ map expected bench_sheet
bench-sheet = (Tables.tables).bench-sheet

-- ---- 4. Further worked examples: the misreadings that 01 shuts out, its edges, numbers that are too large, what is partly read, spaces, texts that
-- have no reading, and examples of node-semver's README.

pub worked-examples : map answered worked ≡ map expected worked
worked-examples = (Tables.tables).worked-examples

-- and the words of four readings
pub worked-rows : map rows_answered worked_rows ≡ map rows_expected worked_rows
worked-rows = (Tables.tables).worked-rows

-- and the place and length of the item that each comparator comes from
pub worked-items : map items_answered worked_items ≡ map items_expected worked_items
worked-items = (Tables.tables).worked-items

-- ---- 5. Two accepted texts that are alike but for bytes behind a wildcard in the same partial have the same reading, places included, and the same
-- comparator words, so that words seven and eight of each row are the same too.

pub alike : (m : Compat) (t t' : List ℕ) (rs rs' : Reading) → Alike plain t t' → reading m t ≡ accepted rs → reading m t' ≡ accepted rs' → rs ≡ rs'
alike = Unread.alike

pub alike-words : (m : Compat) (t t' : List ℕ) (rs rs' : Reading) → Alike plain t t' → reading m t ≡ accepted rs → reading m t' ≡ accepted rs'
    → comparator_words m t ≡ comparator_words m t'
alike-words = AlikeExtents.alike-words

pub alike-length : (t t' : List ℕ) → Alike plain t t' → length t ≡ length t'
alike-length t t' h = Unread.alike-length h

-- ---- 6. Requirement 3. Two accepted texts, each under a mode of its own, have equal readings exactly when they have equal normal texts,
-- however long these are.

pub equal-readings : (m m' : Compat) (t t' : List ℕ) (rs rs' : Reading) → reading m t ≡ accepted rs → reading m' t' ≡ accepted rs'
    → (placeless_reading rs ≡ placeless_reading rs') ↔ (spell rs ≡ spell rs')
equal-readings = RoundTrip.same-reading

-- A normal text of at most 65,535 bytes is accepted under every mode, and its reading equals the one that it was written from.
pub round_trip : (m m' : Compat) (t : List ℕ) (rs : Reading) → reading m t ≡ accepted rs → length (spell rs) ≤ longest
    → (ss : Reading) × (reading m' (spell rs) ≡ accepted ss) × (placeless_reading ss ≡ placeless_reading rs)
round_trip = RoundTrip.round_trip

-- So it is its own normal text.
pub normal-normal : (m m' : Compat) (t w : List ℕ) → normal_text m t ≡ accepted w → length w ≤ longest → normal_text m' w ≡ accepted w
normal-normal = RoundTrip.normal-normal

-- The same of the two calls and of what they hand back, whatever the lent memory held. Where both accept a text, and the reading call is given
-- the bytes that the normal text call handed back, at most 65,535, under any mode, with words enough for as many rows: it hands back the same
-- counts and an equal reading.
pub calls-round-trip : (m m' : Compat) (t out words ids words' ids' : List ℕ)
    → (normal_text_outcome (normal_text_call m t (length out))).refusal ≡ 0
    → (reading_outcome (reading_call m t (length words) (length ids))).refusal ≡ 0
    → length (text_handed_back m t out) ≤ longest
    → (reading_outcome (reading_call m t (length words) (length ids))).comparators ≤ length words' / comparator_width
    → (reading_outcome (reading_call m t (length words) (length ids))).identifiers ≤ length ids' / 3
    → (reading_outcome (reading_call m' (text_handed_back m t out) (length words') (length ids')) ≡ reading_outcome (reading_call m t (length words) (length ids)))
    × (placeless_reading (reading_handed_back m' (text_handed_back m t out) words' ids') ≡ placeless_reading (reading_handed_back m t words ids))
calls-round-trip = HandedBack.calls-round-trip

-- Where both accept two texts, the readings handed back are equal exactly when the bytes handed back are.
pub calls-equal : (m m' : Compat) (t t' out out' words ids words' ids' : List ℕ)
    → (normal_text_outcome (normal_text_call m t (length out))).refusal ≡ 0
    → (reading_outcome (reading_call m t (length words) (length ids))).refusal ≡ 0
    → (normal_text_outcome (normal_text_call m' t' (length out'))).refusal ≡ 0
    → (reading_outcome (reading_call m' t' (length words') (length ids'))).refusal ≡ 0
    → (placeless_reading (reading_handed_back m t words ids) ≡ placeless_reading (reading_handed_back m' t' words' ids'))
    ↔ (text_handed_back m t out ≡ text_handed_back m' t' out')
calls-equal = HandedBack.calls-equal

-- ---- 7. The words of the rows, with the text, determine the reading.

pub read_back_lem : (m : Compat) (t : List ℕ) (rs : Reading) → reading m t ≡ accepted rs → read_back t (comparator_words m t) (identifier_words (length t) rs) ≡ rs
read_back_lem = ReadBackLaws.read_back_lem

-- ---- 8. Each text identifier of an accepted reading lies within the text, where its bytes stand.

pub places : (m : Compat) (t : List ℕ) (rs : Reading) → reading m t ≡ accepted rs → All (InText t) (all_identifiers rs)
places = Places.places

-- ---- 9. The program `plainform`: 01's example, and further inputs.

pub input-sheet : map output_of input_sheet ≡ map output_given input_sheet
input-sheet = (Tables.tables).input-sheet

-- "Over 4,096 bytes left: it prints the line `too long`. Otherwise two lines"
pub too_long : (input : List ℕ) → longest_input < length (without_newline input) → plainform input ≡ bytes "too long\n"
too_long = PlainformLaws.too_long

pub two-lines : (input : List ℕ) → length (without_newline input) ≤ longest_input → plainform input ≡ mode_lines (without_newline input)
two-lines = PlainformLaws.two-lines

-- ---- 10. Versions. The function that reads a version is sound and complete for the grammar of Semantic Versioning 2.0.0, which is unambiguous.

pub version-sound : (s : List ℕ) (v : Version) (r : List ℕ) → read_version s ≡ ok v r → ReadsVersion s v
version-sound = VersionSound.sound

pub version-complete : {s : List ℕ} {v : Version} → ReadsVersion s v → read_version s ≡ ok v []
version-complete = VersionComplete.complete

pub version-unambiguous : {s : List ℕ} {v w : Version} → ReadsVersion s v → ReadsVersion s w → v ≡ w
version-unambiguous = VersionComplete.unambiguous

-- So a version text is refused with 8 exactly when it is longer than 65,535 bytes or no version, and with 9 exactly when it is one whose major,
-- minor or patch is above the largest number.
pub refused-8 : (s : List ℕ) → (version_of s ≡ refused 8) ↔ ((longest < length s) ⊎ ((v : Version) → ReadsVersion s v → ⊥))
refused-8 = VersionAccepted.refused-8

pub refused-9 : (s : List ℕ) (v : Version) → length s ≤ longest → ReadsVersion s v → (version_of s ≡ refused 9) ↔ (version_fits v ≡ false)
refused-9 = VersionAccepted.refused-9

-- ---- 11. Precedence is a total order of versions: one is below the other or they are equal, in their triples and in their identifiers, and
-- no two of these at once.

pub trichotomy : (v w : Version) → (precedence v w ≡ less) ⊎ ((placeless_version v ≡ placeless_version w) ⊎ (precedence w v ≡ less))
trichotomy = PrecedenceLaws.trichotomy PrecedenceLaws.precedence-ordered

pub precedence-equal : (v w : Version) → (precedence v w ≡ equal) ↔ (placeless_version v ≡ placeless_version w)
precedence-equal = PrecedenceLaws.equal-same PrecedenceLaws.precedence-ordered

pub precedence-turned : (v w : Version) → (precedence v w ≡ less) ↔ (precedence w v ≡ greater)
precedence-turned = PrecedenceLaws.turned-less PrecedenceLaws.precedence-ordered

pub precedence-transitive : (u v w : Version) → precedence u v ≡ less → precedence v w ≡ less → precedence u w ≡ less
precedence-transitive = PrecedenceLaws.transitive PrecedenceLaws.precedence-ordered

-- Semantic Versioning 2.0.0's rule 11 for identifiers of digits, as ranges and versions have them: they compare "by number at any length", though
-- those above the largest number are read as texts, and are "below all others" (02, N4).
pub digits-by-number : {s w r s' w' r' : List ℕ} → ReadsNumber s w r → ReadsNumber s' w' r' → (left left' : ℕ)
    → compare_identifiers (of_digits left w) (of_digits left' w') ≡ compare_numbers (value w) (value w')
digits-by-number = DigitOrder.digits-by-number

pub digits-below : {s w r : List ℕ} → ReadsNumber s w r → (w' : List ℕ) → each is_digit w' ≡ false → (left left' : ℕ)
    → compare_identifiers (of_digits left w) (text left' w') ≡ less
digits-below = DigitOrder.digits-below

-- the chain of Semantic Versioning 2.0.0's own example, and further comparisons
pub precedence-chain : map order_answered chain ≡ map order_expected chain
precedence-chain = (Tables.tables).precedence-chain

pub worked-comparisons : map order_answered comparisons ≡ map order_expected comparisons
worked-comparisons = (Tables.tables).worked-comparisons

-- ---- 12. The table of admissions: prereleases on both ends of a range, `||`, an empty range, `+` in ranges and in versions, kinds of
-- identifiers, and the refusals 8 and 9 after 1 to 4.

pub worked-admissions : map admission_answered admissions ≡ map admission_expected admissions
worked-admissions = (Tables.tables).worked-admissions

-- ---- 13. Equal readings admit the same versions.

pub equal-admits : (rs ss : Reading) → placeless_reading rs ≡ placeless_reading ss → (v : Version) → admits rs v ≡ admits ss v
equal-admits = AdmissionLaws.admits-same

-- Hence a normal text of at most 65,535 bytes, under every mode, admits what its text admits.
pub normal-admits : (m m' : Compat) (t s : List ℕ) (rs : Reading) → reading m t ≡ accepted rs → length (spell rs) ≤ longest
    → admission_call m' (spell rs) s ≡ admission_call m t s
normal-admits = AdmissionLaws.admission-normal

-- ---- 14. The program `admits`: what it prints, and the line for a version by its length.

pub admits-sessions : map session_output sessions ≡ map session_given sessions
admits-sessions = (Tables.tables).admits-sessions

pub refused-ranges : map said range_lines ≡ map given range_lines
refused-ranges = (Tables.tables).refused-ranges

pub long-line : (m : Compat) (t s : List ℕ) → longest < length s → answer_line m t s ≡ bytes "refused 8\n"
long-line = AdmitsLaws.long-line

pub short-line : (m : Compat) (t s : List ℕ) → length s ≤ longest → answer_line m t s ≡ verdict_line s (admission_call m t s)
short-line = AdmitsLaws.short-line

-- ---- 15. The tables of calls: what each hands back, with all that it is lent before and after. The reading call, and the reading that a caller has of
-- it; identifier bytes; the normal text call, and the bytes that a caller has of it; a normal text read again; two texts compared.

pub reading-calls : map reads_answered reading_calls ≡ map reads_expected reading_calls
reading-calls = (Tables.tables).reading-calls

pub handed-readings : map said readings ≡ map given readings
handed-readings = (Tables.tables).handed-readings

pub identifier-parts : map part_answered parts ≡ map part_expected parts
identifier-parts = (Tables.tables).identifier-parts

pub normal-text-calls : map writes_answered normal_text_calls ≡ map writes_expected normal_text_calls
normal-text-calls = (Tables.tables).normal-text-calls

pub handed-texts : map said normal_texts ≡ map given normal_texts
handed-texts = (Tables.tables).handed-texts

pub reread-calls : map rereads_answered reread_calls ≡ map rereads_expected reread_calls
reread-calls = (Tables.tables).reread-calls

pub texts-calls : map compares_answered texts_calls ≡ map compares_expected texts_calls
texts-calls = (Tables.tables).texts-calls

-- modes, verdicts, whose refusal it is and where a part lies, by their numbers, as they are exported; and what code looks at again
pub mode-numbers : map said modes ≡ map given modes
mode-numbers = (Tables.tables).mode-numbers

pub mode-pairs : map said mode_pairs ≡ map given mode_pairs
mode-pairs = (Tables.tables).mode-pairs

pub reread-numbers : map said reread_numbered ≡ map given reread_numbered
reread-numbers = (Tables.tables).reread-numbers

pub part-spans : map said spans ≡ map given spans
part-spans = (Tables.tables).part-spans

pub verdict-numbers : map said verdicts ≡ map given verdicts
verdict-numbers = (Tables.tables).verdict-numbers

pub numbers-left : map said lefts ≡ map given lefts
numbers-left = (Tables.tables).numbers-left

pub identifiers-found : map said identifiers ≡ map given identifiers
identifiers-found = (Tables.tables).identifiers-found

-- ---- 16. The classes over all 256 bytes, and the limits.

pub byte-classes : map members_of classes ≡ map members_given classes
byte-classes = (Tables.tables).byte-classes

pub all-limits : map said limits ≡ map given limits
all-limits = (Tables.tables).all-limits

-- ---- 17. Each comparator row's place and length, words seven and eight, lie in the text.

pub rows-in-text : (m : Compat) (t : List ℕ) → RowsInText (length t) (comparator_words m t)
rows-in-text = RowPlaces.rows-in-text

-- ---- 18. The places and lengths are those of the grammar's items: what the rows of a text take them from are the extents of the items of its
-- derivation.

pub grammar-extents : {t : List ℕ} {rs : List Range} (d : ReadsText t rs) → text_extents t ≡ ok (extents_of d) []
grammar-extents = DerivedExtentsLaws.grammar-extents
