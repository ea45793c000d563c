-- The lookup: a law for each of its ways.
-- Assumes nothing.
use Rattle.std.specs.Prelude as Std
use Rattle.std.proofs.Common.{◌≡◌, sym, ap, ap₂, ◌∙◌, ℕ, ◌+◌, ◌*◌, ◌≤◌, ◌<◌, ◌&&◌, List, length, arith, Result, Ok, Err}
use Rattle.rules.specs.Answers.{accepted, refused, map_answer}
use Rattle.rules.specs.Admission.{admits, version_of}
use Rattle.refusals.specs.Views.{number_of}
use Rattle.refusals.specs.declared.Refusal.{Refusal}
use Rattle.version.specs.Views.{version_is}
use Rattle.version.specs.declared.version.Version.{Version}
use Rattle.shelf_rules.specs.Triples.{triple, encloses}
use Rattle.shelf_rules.specs.Shelf.{bounds_in, count_in, shelf_in, entry_fits}
use Rattle.shelf_rules.specs.Lookup.{kept_fits, lookup_call}
use Rattle.triples.specs.Views.{triple_is, bounds_is}
use Rattle.triples.specs.declared.Triple.{Triple}
use Rattle.triples.specs.declared.Bounds.{Bounds}
use Rattle.entries.specs.Views.{entries_of, OfShelf, row_at, kept_at, IsFirst}
use Rattle.entries.specs.declared.entries.Entries.{Entries}
use Rattle.entries.proofs.Counting.{not_shelf, shelf_rows, shelf_kepts}
use Rattle.entries.proofs.Finding.{first_kept_row}
use Rattle.first_fit.specs.Views.{fit_of}

-- ---- kept_fits

pub kept_as : (e b : List ℕ) (v : Version) → (k : Bounds) → bounds_is k ≡ bounds_in b → (u : Triple) → triple_is u ≡ triple v.major v.minor v.patch
    → kept_fits admits (version_is v) e b ≡ encloses (bounds_is k) (triple_is u) && entry_fits admits (version_is v) e
unfolding kept_fits
kept_as e b v k i u j = ap (λ c. c && entry_fits admits (version_is v) e) (ap₂ encloses (sym i) (sym j))

-- ---- lookup

module _ (l t : List ℕ) where
  pub not_looked : (r : Result Entries Refusal) → entries_of r ≡ map_answer (λ l. (l, count_in l)) (shelf_in l)
      → (y : Refusal) → r ≡ Err y → fit_of (Err y) ≡ lookup_call admits t l
  unfolding lookup_call
  not_looked r f y q = rw (not_shelf l r f y q)

  module _ (e : Entries) (h : OfShelf l e) where
    pub no_version : (y : Refusal) → version_of t ≡ refused (number_of y) → fit_of (Err y) ≡ lookup_call admits t l
    unfolding lookup_call
    no_version y q = rw (h.shelf, q)

    pub entry_room : (k : ℕ) → k < e.count → 2 + 100 * k + 100 ≤ length e.bytes.now
    entry_room k i = let w = e.within in omega arith

    pub kept_room : (k : ℕ) → k < e.count → 25602 + 48 * k + 48 ≤ length e.bytes.now
    kept_room k i = let s = h.counted.sized in let f = h.counted.few in omega (arith, ap length h.bytes)

    pub looked : (v : Version) → version_of t ≡ accepted (version_is v) → (o : Std.Option ℕ)
        → IsFirst (λ k. kept_fits admits (version_is v) (row_at k e.bytes.now) (kept_at k e.bytes.now)) e.count e.bytes.now o → fit_of (Ok o) ≡ lookup_call admits t l
    unfolding lookup_call
    looked v g o f =
        ap accepted (first_kept_row e.bytes.now e.count (kept_fits admits (version_is v)) o f) ∙ rw (h.shelf, g, shelf_rows l e h, shelf_kepts l e h)
