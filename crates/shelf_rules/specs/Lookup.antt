-- The lookup by the kept triples (02, N3), on any bytes: the triples are taken as they stand.
-- Assumes nothing.
use Rattle.std.specs.Prelude.{ℕ, ◌≡◌, Bool, true, ◌&&◌, List, [], ◌∷◌}
use Rattle.std.proofs.Math.Option.{Option, none, some}
use Rattle.rules.specs.Bytes.{pick}
use Rattle.rules.specs.Expansion.{Reading}
use Rattle.rules.specs.Answers.{Answer, map_answer, and_then}
use Rattle.rules.specs.Version.{Version}
use Rattle.rules.specs.Admission.{Question, admits, version_of}
use Rattle.shelf_rules.specs.Table.{number_in}
use Rattle.shelf_rules.specs.Triples.{triple_of, encloses}
use Rattle.shelf_rules.specs.Shelf.{code_in, bounds_in, entries_in, kept_in, shelf_in, entry_fits}

-- an entry's bytes, and those of its triples: "whose kept triples enclose the version's triple, both ends included, and whose text admits it"
unfoldable pub kept_fits : Question → Version → List ℕ → List ℕ → Bool
unfolding encloses number_in entry_fits
kept_fits q v e b = encloses (bounds_in b) (triple_of v) && entry_fits q v e

-- "the part code of the first entry" that passes with its triples
unfoldable pub first_kept : (List ℕ → List ℕ → Bool) → List (List ℕ) → List (List ℕ) → Option ℕ
unfolding number_in
first_kept p [] bs = none
first_kept p (e ∷ es) [] = none
first_kept p (e ∷ es) (b ∷ bs) = pick (p e b) (some (code_in e)) (first_kept p es bs)

-- "Refusal 10 comes first, then 8 and 9, and no entry found is the answer none."
unfoldable pub lookup_call : Question → List ℕ → List ℕ → Answer (Option ℕ)
unfolding shelf_in version_of first_kept kept_fits entries_in kept_in
lookup_call q s l = and_then (shelf_in l) (λ l. map_answer (λ v. first_kept (kept_fits q v) (entries_in l) (kept_in l)) (version_of s))

-- a yes to the question is a yes to 01's admission
abbrev pub Implies : Question → Type 0
Implies q = (rs : Reading) (v : Version) → q rs v ≡ true → admits rs v ≡ true
