-- A shelf as a list of entries, and the shelves that calls build from an empty one. The theorems are about these.
-- Assumes nothing.
use Rattle.std.specs.Prelude.{ℕ, ◌≤◌, ◌<◌, ◌≡◌, Bool, List, [], ◌∷◌, ◌++◌, map, eqb, length}
use Rattle.std.proofs.Math.Option.{Option, none, some}
use Rattle.rules.specs.Bytes.{pick}
use Rattle.rules.specs.Lists.{All}
use Rattle.rules.specs.Expansion.{Compat, Reading}
use Rattle.rules.specs.Answers.{Answer, accepted, refused}
use Rattle.shelf_rules.specs.Table.{low_first, table}
use Rattle.shelf_rules.specs.Triples.{bounds_of}
use Rattle.shelf_rules.specs.Shelf.{entry_width, capacity, kept_width, entry_row, kept_row, entry_reading, empty_call, add_call, remove_call}

-- "An entry has a part code (16 bits), a mode .. and a range text of at most 96 bytes."
pub record Entry : Type 0 where
  pub code : ℕ
  pub mode : Compat
  pub text : List ℕ

abbrev pub entry : ℕ → Compat → List ℕ → Entry
entry code m t = record { code = code; mode = m; text = t }

-- ---- the bytes of entries

abbrev pub row_of : Entry → List ℕ
row_of e = entry_row e.code e.mode e.text

-- the bytes of its triples, by how its text is read; none of a text that is refused
abbrev pub kept_from : Answer Reading → List ℕ
kept_from (accepted rs) = kept_row (bounds_of rs)
kept_from (refused n) = []

abbrev pub kept_for : Entry → List ℕ
kept_for e = kept_from (entry_reading e.mode e.text)

-- "The count stands first in two bytes, then 256 times 100 bytes"; the triples "after all the entries and in their order". Zeros behind the last
-- entry, and behind its triples.
unfoldable pub shelf_of : List Entry → List ℕ
unfolding table low_first entry_row kept_row bounds_of entry_reading
shelf_of es = low_first 2 (length es) ++ (table entry_width capacity (map row_of es) ++ table kept_width capacity (map kept_for es))

-- a code of 16 bits, and a text to which none of 1 to 4 applies, "with 96 as its length limit"
pub record WellFormed (e : Entry) : Type 0 where
  pub bits : e.code < 65536
  pub reads : Reading
  pub is : entry_reading e.mode e.text ≡ accepted reads

-- no two entries have the same code
pub data Distinct : List Entry → Type 0 where
  distinct[] : Distinct []
  distinct∷ : {e : Entry} {es : List Entry} → All (λ f. f.code ≡ e.code → ⊥) es → Distinct es → Distinct (e ∷ es)

-- the bytes l are the shelf of the entries es
pub record IsShelf (es : List Entry) (l : List ℕ) : Type 0 where
  pub is : l ≡ shelf_of es
  pub few : length es ≤ capacity
  pub distinct : Distinct es
  pub formed : All WellFormed es

-- ---- the calls' meaning on entries

-- the entries without the first one of this code
unfoldable pub without_code : ℕ → List Entry → List Entry
without_code code [] = []
without_code code (e ∷ es) = pick (eqb e.code code) es (e ∷ without_code code es)

-- the text of the first entry of this code
unfoldable pub text_with : ℕ → List Entry → Option (List ℕ)
text_with code [] = none
text_with code (e ∷ es) = pick (eqb e.code code) (some e.text) (text_with code es)

-- the code of the first entry that passes
unfoldable pub first_entry : (Entry → Bool) → List Entry → Option ℕ
first_entry p [] = none
first_entry p (e ∷ es) = pick (p e) (some e.code) (first_entry p es)

-- ---- shelves built by calls from an empty one; a part code is a number of 16 bits

pub data Built : List ℕ → Type 0 where
  empty : (l : List ℕ) {l' : List ℕ} → empty_call l ≡ accepted l' → Built l'
  added : {l l' : List ℕ} (code : ℕ) (m : Compat) (t : List ℕ) → code < 65536 → Built l → add_call code m t l ≡ accepted l' → Built l'
  removed : {l l' : List ℕ} (code : ℕ) → Built l → remove_call code l ≡ accepted l' → Built l'
