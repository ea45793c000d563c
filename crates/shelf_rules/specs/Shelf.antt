-- A shelf of parts in lent bytes (02, N1 and N3). "Shelf", "part code", "entry", "listing" and "first fit" are 02's words for its bytes and its
-- calls. The definitions read any bytes, also those "that no call built".
-- Assumes nothing.
use Rattle.std.specs.Prelude.{ℕ, suc, ◌+◌, ◌*◌, ◌-◌, Bool, true, false, ◌&&◌, List, [], ◌∷◌, ◌++◌, leb, ltb, eqb, length, take, drop, get_or, replicate}
use Rattle.std.proofs.Math.Option.{Option, none, some}
use Rattle.rules.specs.Bytes.{pick}
use Rattle.rules.specs.Expansion.{Compat, mode_number, mode_from, Reading}
use Rattle.rules.specs.Answers.{Answer, accepted, refused, unless, map_answer, or_refused, reading, and_then}
use Rattle.rules.specs.Version.{Version}
use Rattle.rules.specs.Admission.{Question, admits_if, version_of}
use Rattle.shelf_rules.specs.Table.{rows_of, low_first, number_in, row_added, row_removed}
use Rattle.shelf_rules.specs.Triples.{Triple, triple, Bounds, bounds_of}

-- ---- sizes

-- "37,890 bytes in all"
abbrev pub shelf_size : ℕ
shelf_size = 37890

-- "holds at most 256 entries"
abbrev pub capacity : ℕ
capacity = 256

-- "256 times 100 bytes"
abbrev pub entry_width : ℕ
entry_width = 100

-- "a range text of at most 96 bytes"
abbrev pub longest_text : ℕ
longest_text = 96

-- "six 64-bit numbers", and three of them
abbrev pub kept_width : ℕ
kept_width = 48

abbrev pub triple_width : ℕ
triple_width = 24

-- "after all the entries": where the kept triples begin
abbrev pub kept_place : ℕ
kept_place = 2 + entry_width * capacity

-- ---- an entry's 100 bytes

-- "code in two, mode, text length, text; low bytes first"; "add fills its text with zeros to 96 bytes"
unfoldable pub entry_row : ℕ → Compat → List ℕ → List ℕ
unfolding low_first
entry_row code m t = low_first 2 code ++ (mode_number m ∷ length t ∷ (t ++ replicate (longest_text - length t) 0))

-- of any 100 bytes: the part code, the number of the mode, the text length, and the text
abbrev pub code_in : List ℕ → ℕ
code_in e = number_in (take 2 e)

abbrev pub mode_in : List ℕ → ℕ
mode_in e = get_or e 2 0

abbrev pub length_in : List ℕ → ℕ
length_in e = get_or e 3 0

-- "a length over 96 lists as the empty text"
abbrev pub text_in : List ℕ → List ℕ
text_in e = pick (leb (length_in e) longest_text) (take (length_in e) (drop 4 e)) []

-- ---- the 48 bytes of a lowest and a highest triple

-- "six 64-bit numbers with low bytes first"
unfoldable pub triple_row : Triple → List ℕ
unfolding low_first
triple_row t = low_first 8 t.major ++ (low_first 8 t.minor ++ low_first 8 t.patch)

unfoldable pub kept_row : Bounds → List ℕ
unfolding triple_row
kept_row b = triple_row b.low ++ triple_row b.high

-- of any bytes: the triple that the first 24 are, and the two that the first 48 are
abbrev pub triple_in : List ℕ → Triple
triple_in k = triple (number_in (take 8 k)) (number_in (take 8 (drop 8 k))) (number_in (take 8 (drop 16 k)))

abbrev pub bounds_in : List ℕ → Bounds
bounds_in k = record { low = triple_in k; high = triple_in (drop triple_width k) }

-- ---- the shelf's bytes

-- "The count stands first in two bytes"
abbrev pub count_in : List ℕ → ℕ
count_in l = number_in (take 2 l)

-- "then 256 times 100 bytes": the entries' bytes, in their order. Places behind the count are no entries, whatever they hold.
unfoldable pub entries_in : List ℕ → List (List ℕ)
unfolding rows_of number_in
entries_in l = rows_of entry_width (count_in l) (drop 2 l)

-- "after all the entries and in their order": the bytes of their triples
unfoldable pub kept_in : List ℕ → List (List ℕ)
unfolding rows_of number_in
kept_in l = rows_of kept_width (count_in l) (drop kept_place l)

-- the place of the first entry with this code, of entries that begin at place k: "of equal codes the first is the one listed or removed"
unfoldable pub find_from : ℕ → ℕ → List (List ℕ) → Option ℕ
unfolding number_in
find_from k code [] = none
find_from k code (e ∷ es) = pick (eqb (code_in e) code) (some k) (find_from (suc k) code es)

abbrev pub find_code : ℕ → List (List ℕ) → Option ℕ
find_code code es = find_from 0 code es

-- "Make empty writes zeros everywhere"
abbrev pub emptied : List ℕ
emptied = replicate shelf_size 0

-- all 256 places of entries
abbrev pub entry_places : List ℕ → List ℕ
entry_places l = take (entry_width * capacity) (drop 2 l)

-- "Entries stand in the order they were added." The triples are "part of their entry": e is its bytes, and b theirs.
unfoldable pub with_entry : List ℕ → List ℕ → List ℕ → List ℕ
unfolding row_added low_first number_in
with_entry e b l =
    low_first 2 (suc (count_in l)) ++ (row_added entry_width (count_in l) e (entry_places l) ++ row_added kept_width (count_in l) b (drop kept_place l))

-- "remove .. closes the gap so that its space serves again"; it "leaves zeros where the last entry stood"
unfoldable pub without_entry : ℕ → List ℕ → List ℕ
unfolding row_removed low_first number_in
without_entry k l =
    low_first 2 (count_in l - 1) ++ (row_removed entry_width (count_in l) k (entry_places l) ++ row_removed kept_width (count_in l) k (drop kept_place l))

-- ---- refusal 10

-- "Memory of the wrong length .. gives 10, checked first"
unfoldable pub sized : List ℕ → Answer (List ℕ)
sized l = unless 10 (λ l. eqb (length l) shelf_size) (accepted l)

-- "or, except for make empty, with a count over 256"
unfoldable pub shelf_in : List ℕ → Answer (List ℕ)
unfolding sized number_in
shelf_in l = unless 10 (λ l. leb (count_in l) capacity) (sized l)

-- ---- the calls that change a shelf: the bytes that they leave

-- the number of a call's refusal; 0 where it is accepted
abbrev pub refusal_of : {A : Type 0} → Answer A → ℕ
refusal_of (accepted a) = 0
refusal_of (refused n) = n

-- "A refused call changes nothing."
abbrev pub shelf_after : Answer (List ℕ) → List ℕ → List ℕ
shelf_after (accepted l) old = l
shelf_after (refused n) old = old

unfoldable pub empty_call : List ℕ → Answer (List ℕ)
unfolding sized
empty_call l = map_answer (λ l. emptied) (sized l)

-- "1 to 4 for the text, with 96 as its length limit"
unfoldable pub entry_reading : Compat → List ℕ → Answer Reading
unfolding reading
entry_reading m t = pick (leb (length t) longest_text) (reading m t) (refused 1)

abbrev pub is_none : {A : Type 0} → Option A → Bool
is_none none = true
is_none (some a) = false

-- "add then gives 1 to 4 for the text ..; then 12 for a code already there on add ..; then 11 for an add to 256 entries"
unfoldable pub add_call : ℕ → Compat → List ℕ → List ℕ → Answer (List ℕ)
unfolding shelf_in entry_reading find_from entries_in with_entry entry_row kept_row bounds_of number_in
add_call code m t l =
    and_then (shelf_in l) (λ l. and_then (entry_reading m t) (λ rs.
    map_answer (with_entry (entry_row code m t) (kept_row (bounds_of rs)))
    (unless 11 (λ l. ltb (count_in l) capacity) (unless 12 (λ l. is_none (find_code code (entries_in l))) (accepted l)))))

-- an entry's place, or 12 for a code "missing on remove or listing"
unfoldable pub located : ℕ → List ℕ → Answer ℕ
unfolding find_from entries_in
located code l = or_refused 12 (find_code code (entries_in l))

-- "remove by code"
unfoldable pub remove_call : ℕ → List ℕ → Answer (List ℕ)
unfolding shelf_in located without_entry
remove_call code l = and_then (shelf_in l) (λ l. map_answer (λ k. without_entry k l) (located code l))

-- ---- the listing

abbrev pub entry_at : ℕ → List ℕ → List ℕ
entry_at k l = get_or (entries_in l) k []

-- "A listing by code gives the text."
unfoldable pub text_call : ℕ → List ℕ → Answer (List ℕ)
unfolding shelf_in located entries_in
text_call code l = and_then (shelf_in l) (λ l. map_answer (λ k. text_in (entry_at k l)) (located code l))

-- where that text stands in the shelf, and how long it is
pub record Part : Type 0 where
  pub place : ℕ
  pub length : ℕ

abbrev pub text_part : ℕ → List ℕ → Part
text_part k l = record { place = 2 + entry_width * k + 4; length = length (text_in (entry_at k l)) }

unfoldable pub list_call : ℕ → List ℕ → Answer Part
unfolding shelf_in located entries_in
list_call code l = and_then (shelf_in l) (λ l. map_answer (λ k. text_part k l) (located code l))

-- ---- first fit

abbrev pub under_mode : Option Compat → (Compat → Bool) → Bool
under_mode none f = false
under_mode (some m) f = f m

-- "an entry with another mode, a length over 96 or a text the reader refuses fits no version". The length is tested apart from the text: the empty
-- text, as which a length over 96 lists, fits every version.
unfoldable pub entry_fits : Question → Version → List ℕ → Bool
unfolding mode_from reading
entry_fits q v e = leb (length_in e) longest_text && under_mode (mode_from (mode_in e)) (λ m. admits_if q v (reading m (text_in e)))

-- the code of the first entry that passes: "first fit tries every entry"
unfoldable pub first_code : (List ℕ → Bool) → List (List ℕ) → Option ℕ
unfolding number_in
first_code p [] = none
first_code p (e ∷ es) = pick (p e) (some (code_in e)) (first_code p es)

-- "First fit takes a version and gives the part code of the first entry whose text admits it, or the answer none"; "first fit then gives 8 and 9".
-- The question is 01's admission, `admits`.
unfoldable pub first_fit_call : Question → List ℕ → List ℕ → Answer (Option ℕ)
unfolding shelf_in version_of first_code entry_fits entries_in
first_fit_call q s l = and_then (shelf_in l) (λ l. map_answer (λ v. first_code (entry_fits q v) (entries_in l)) (version_of s))
