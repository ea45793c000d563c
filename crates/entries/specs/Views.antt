-- What the code hands back of a shelf's bytes.
-- Assumes nothing.
use Rattle.std.specs.Prelude as Std
use Rattle.std.specs.Prelude.{◌≡◌, ℕ, ◌+◌, ◌*◌, ◌<◌, Bool, true, false, List, length, take, drop, Result, Ok, Err}
use Rattle.std.proofs.Math.Option.{Option, none, some}
use Rattle.rules.specs.Answers.{Answer, accepted, refused}
use Rattle.refusals.specs.Views.{number_of}
use Rattle.refusals.specs.declared.Refusal.{Refusal}
use Rattle.shelf_rules.specs.Shelf as S
use Rattle.shelf_rules.specs.Shelf.{shelf_in, entry_width, kept_width, kept_place, code_in, text_in}
use Rattle.entries.specs.Counted.{Counted}
use Rattle.entries.specs.declared.entries.Part.{Part}
use Rattle.entries.specs.declared.entries.Entries.{Entries}

-- the library's options for the rules'
abbrev pub option_of : {A : Type 0} → Std.Option A → Option A
option_of (Std.Some a) = some a
option_of Std.None = none

-- the shelf whose entries are handed back with their count, or 10
abbrev pub entries_of : Result Entries Refusal → Answer (List ℕ × ℕ)
entries_of (Ok e) = accepted (e.bytes.now, e.count)
entries_of (Err r) = refused (number_of r)

-- e are the entries of the shelf l, to which 10 does not apply
pub record OfShelf (l : List ℕ) (e : Entries) : Type 0 where
  pub bytes : e.bytes.now ≡ l
  pub counted : Counted l e.count
  pub shelf : shelf_in l ≡ accepted l

-- the bytes of the entry's place k, and of its triples
abbrev pub row_at : ℕ → List ℕ → List ℕ
row_at k l = take entry_width (drop (entry_width * k) (drop 2 l))

abbrev pub kept_at : ℕ → List ℕ → List ℕ
kept_at k l = take kept_width (drop (kept_width * k) (drop kept_place l))

abbrev pub part_of : Part → S.Part
part_of p = record { place = p.place; length = p.length }

-- where the text of the place k stands
abbrev pub part_at : ℕ → List ℕ → Part
part_at k l = record { place = 2 + entry_width * k + 4; length = length (text_in (row_at k l)) }

-- the part code c is that of the first of n entries in the bytes l whose place passes the test p, or none passes
abbrev pub IsFirst : (ℕ → Bool) → ℕ → List ℕ → Std.Option ℕ → Type 0
IsFirst p n l (Std.Some c) = (k : ℕ) × (k < n) × (p k ≡ true) × ((j : ℕ) → j < k → p j ≡ false) × (c ≡ code_in (row_at k l))
IsFirst p n l Std.None = (k : ℕ) → k < n → p k ≡ false
