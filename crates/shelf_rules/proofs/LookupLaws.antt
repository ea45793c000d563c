-- The lookup on a shelf that calls built from an empty one: it answers as first fit does.
-- Assumes nothing.
use Prim.Native.Nat.{ℕ, ◌≤◌}
use mathlib.Core.Path.{◌≡◌, refl, sym, ap, ap₂, ◌∙◌}
use mathlib.Core.Bool.{Bool, true, false, ◌&&◌}
use mathlib.Core.List.{List, [], ◌∷◌, map}
use native.Mathlib.Omega.{arith}
use lib.ListN.{length}
use Rattle.rules.specs.Lists.{All, all[], all∷}
use Rattle.rules.specs.Expansion.{Reading}
use Rattle.rules.specs.Answers.{Answer, accepted, refused}
use Rattle.rules.specs.Version.{Version}
use Rattle.rules.specs.Admission.{Question, admits_if, version_fits, version_of}
use Rattle.rules.proofs.VersionAccepted as VA
use Rattle.shelf_rules.specs.Triples.{triple_of, bounds_of, encloses}
use Rattle.shelf_rules.specs.Shelf.{capacity, entry_fits, first_code, first_fit_call}
use Rattle.shelf_rules.specs.Lookup.{kept_fits, first_kept, lookup_call, Implies}
use Rattle.shelf_rules.specs.Entries.{Entry, row_of, kept_for, shelf_of, WellFormed, IsShelf, Built}
use Rattle.shelf_rules.proofs.TripleLaws.{enclosed}
use Rattle.shelf_rules.proofs.EntryLaws.{formed-read, formed-fits, formed-bounds}
use Rattle.shelf_rules.proofs.ShelfLaws.{shelf-accepted, shelf-entries, shelf-kept, built-shelf}

version-fits : (s : List ℕ) (v : Version) → version_of s ≡ accepted v → version_fits v ≡ true
version-fits s v q = go (VA.decided s) q
  where
    go : {a : Answer Version} → VA.Decided s a → a ≡ accepted v → version_fits v ≡ true
    go (VA.long l) p = let z : ◌≡◌ {A = ℕ} 0 1 = cc in absurd (omega arith)
    go (VA.underivable u) p = let z : ◌≡◌ {A = ℕ} 0 1 = cc in absurd (omega arith)
    go (VA.large l d f) p = let z : ◌≡◌ {A = ℕ} 0 1 = cc in absurd (omega arith)
    go (VA.accepts {v = w} l d f) p = let e : w ≡ v = cc in rw e at f

and_none : (b : Bool) → b && false ≡ false
and_none true = refl
and_none false = refl

module _ (q : Question) (i : Implies q) (v : Version) (f : version_fits v ≡ true) where
  -- where the answer is yes, the triples enclose the version's
  enclosed-asks : (rs : Reading) → encloses (bounds_of rs) (triple_of v) && q rs v ≡ q rs v
  enclosed-asks rs = go (q rs v) refl
    where
      go : (b : Bool) → q rs v ≡ b → encloses (bounds_of rs) (triple_of v) && b ≡ b
      go true e = rw (enclosed rs v f (i rs v e))
      go false e = and_none (encloses (bounds_of rs) (triple_of v))

  entry-same : (e : Entry) → WellFormed e → kept_fits q v (row_of e) (kept_for e) ≡ entry_fits q v (row_of e)
  unfolding kept_fits
  entry-same e h =
      let a : entry_fits q v (row_of e) ≡ q h.reads v = formed-fits e h q v ∙ ap (admits_if q v) (formed-read e h) in
      ap₂ (λ b c. encloses b (triple_of v) && c) (formed-bounds e h) a ∙ enclosed-asks h.reads ∙ sym a

  first-same : (es : List Entry) → All WellFormed es → first_kept (kept_fits q v) (map row_of es) (map kept_for es) ≡ first_code (entry_fits q v) (map row_of es)
  unfolding first_kept first_code
  first-same [] all[] = refl
  first-same (e ∷ es) (all∷ h hs) = rw (entry-same e h, first-same es hs)

module _ (q : Question) (i : Implies q) (s : List ℕ) where
  entries-same : (es : List Entry) → length es ≤ capacity → All WellFormed es → lookup_call q s (shelf_of es) ≡ first_fit_call q s (shelf_of es)
  unfolding lookup_call first_fit_call
  entries-same es few formed = go (version_of s) refl
    where
      go : (a : Answer Version) → version_of s ≡ a → lookup_call q s (shelf_of es) ≡ first_fit_call q s (shelf_of es)
      go (refused n) e = rw (shelf-accepted es few formed, e)
      go (accepted v) e =
          rw (shelf-accepted es few formed, e, shelf-entries es few formed, shelf-kept es few formed)
          (ap accepted (first-same q i v (version-fits s v e) es formed))

  shelf-same : {es : List Entry} {l : List ℕ} → IsShelf es l → lookup_call q s l ≡ first_fit_call q s l
  shelf-same {es} h = rw h.is (entries-same es h.few h.formed)

  pub lookup-same : {l : List ℕ} → Built l → lookup_call q s l ≡ first_fit_call q s l
  lookup-same b = shelf-same (built-shelf b).1
