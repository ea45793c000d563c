-- First fit: a law for each of its ways.
-- Assumes nothing.
use Rattle.std.specs.Prelude as Std
use Rattle.std.proofs.Common.{◌≡◌, ap, ◌∙◌, ℕ, ◌+◌, ◌-◌, ◌≤◌, ◌<◌, Bool, false, List, take, drop, get_or, arith, Result, Ok, Err}
use borrow.Author.Tests.{le-leb, lt-leb}
use Rattle.rules.specs.Expansion.{mode_from}
use Rattle.rules.specs.Answers.{accepted, refused, map_answer, reading}
use Rattle.rules.specs.Admission.{admits, admits_if, version_of}
use Rattle.refusals.specs.Views.{number_of}
use Rattle.refusals.specs.declared.Refusal.{Refusal}
use Rattle.range.specs.Views.{compat_of, mode_is}
use Rattle.range.specs.declared.Compat.{Compat}
use Rattle.range.specs.declared.UnknownMode.{UnknownMode}
use Rattle.rules.specs.Version as R
use Rattle.version.specs.Views.{version_is}
use Rattle.version.specs.declared.version.Version.{Version}
use Rattle.shelf_rules.specs.Shelf.{count_in, shelf_in, entry_fits, first_fit_call}
use Rattle.entries.specs.Views.{entries_of, OfShelf, row_at, IsFirst}
use Rattle.entries.specs.declared.entries.Entries.{Entries}
use Rattle.entries.proofs.Counting.{not_shelf, shelf_rows}
use Rattle.entries.proofs.Finding.{first_row}
use Rattle.first_fit.specs.Views.{fit_of}

-- ---- entry_fits

module _ (row : List ℕ) (v : R.Version) (n : ℕ) (l : n ≡ get_or row 3 0) where
  pub fits_long : 96 < n → false ≡ entry_fits admits v row
  unfolding entry_fits
  fits_long h = rw (← l, lt-leb n 96 h)

  module _ (m : Result Compat UnknownMode) (e : mode_is m ≡ mode_from (get_or row 2 0)) (h : n ≤ 96) where
    pub fits_text : (c : Compat) → m ≡ Ok c → (b : Bool) → b ≡ admits_if admits v (reading (compat_of c) (take (4 + n - 4) (drop 4 row)))
        → b ≡ entry_fits admits v row
    unfolding entry_fits
    fits_text c q b i =
        let k : 4 + n - 4 ≡ n = omega arith in
        let o : b ≡ admits_if admits v (reading (compat_of c) (take n (drop 4 row))) = rw k at i in
        o ∙ rw (← l, le-leb n 96 h, ← e, q)

    pub fits_other : (u : UnknownMode) → m ≡ Err u → false ≡ entry_fits admits v row
    unfolding entry_fits
    fits_other u q = rw (← l, le-leb n 96 h, ← e, q)

pub ruleset entry_fitting = (fits_long, fits_text, fits_other)

-- ---- first_fit

module _ (l t : List ℕ) where
  pub not_fitted : (r : Result Entries Refusal) → entries_of r ≡ map_answer (λ l. (l, count_in l)) (shelf_in l)
      → (y : Refusal) → r ≡ Err y → fit_of (Err y) ≡ first_fit_call admits t l
  unfolding first_fit_call
  not_fitted r f y q = rw (not_shelf l r f y q)

  module _ (e : Entries) (h : OfShelf l e) where
    pub no_version : (y : Refusal) → version_of t ≡ refused (number_of y) → fit_of (Err y) ≡ first_fit_call admits t l
    unfolding first_fit_call
    no_version y q = rw (h.shelf, q)

    pub fitted : (v : Version) → version_of t ≡ accepted (version_is v) → (o : Std.Option ℕ) → IsFirst (λ k. entry_fits admits (version_is v) (row_at k e.bytes.now)) e.count e.bytes.now o
        → fit_of (Ok o) ≡ first_fit_call admits t l
    unfolding first_fit_call
    fitted v g o f = ap accepted (first_row e.bytes.now e.count (entry_fits admits (version_is v)) o f) ∙ rw (h.shelf, g, shelf_rows l e h)
