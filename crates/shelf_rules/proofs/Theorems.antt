-- THE THEOREMS about the shelf's definitions, each in its final form; its proof is cited.
-- Assumes nothing.
use mathlib.Core.Path.{◌≡◌}
use Prim.Native.Nat.{ℕ, ◌<◌}
use mathlib.Core.Bool.{true}
use mathlib.Core.Option.{none, some}
use mathlib.Core.List.{List, [], ◌∷◌, ◌++◌, map}
use lib.ListN.{take, drop}
use Rattle.rules.specs.Bytes.{bytes}
use Rattle.rules.specs.Expansion.{Compat, Reading}
use Rattle.rules.specs.Answers.{accepted, map_answer, or_refused, reading}
use Rattle.rules.specs.Version.{Version}
use Rattle.rules.specs.Admission.{Question, admits, admits_if, version_fits, version_of}
use Rattle.shelf_rules.specs.Triples.{triple_of, bounds_of, encloses}
use Rattle.shelf_rules.specs.Shelf.{empty_call, add_call, remove_call, Part, list_call, text_call, first_fit_call}
use Rattle.shelf_rules.specs.Lookup.{lookup_call, Implies}
use Rattle.shelf_rules.specs.Entries.{Entry, entry, IsShelf, without_code, text_with, first_entry, Built}
use Rattle.shelf_rules.specs.Examples.{changes, change_answered, change_expected, listings, listing_answered, listing_expected, fits, fit_answered, fit_expected, other_triples, lookups, lookup_answered, boundeds, bounded_answered, bounded_expected}
use Rattle.shelf_rules.proofs.ShelfLaws as ShelfLaws
use Rattle.shelf_rules.proofs.ListingLaws as ListingLaws
use Rattle.shelf_rules.proofs.TripleLaws as TripleLaws
use Rattle.shelf_rules.proofs.LookupLaws as LookupLaws
use Rattle.shelf_rules.proofs.Tables as Tables

-- ---- 1. A shelf built by calls from an empty one is the bytes of at most 256 entries with different codes, each with a text that is accepted.

pub built-shelf : {l : List ℕ} → Built l → (es : List Entry) × IsShelf es l
built-shelf = ShelfLaws.built-shelf

-- ---- 2. The calls on the shelf of such entries: none after make empty; one more, behind the others, after an add; one less after a remove, the
-- others in their order.

pub shelf-empty : (l l' : List ℕ) → empty_call l ≡ accepted l' → IsShelf [] l'
shelf-empty = ShelfLaws.shelf-empty

pub shelf-added : {es : List Entry} {l : List ℕ} (l' : List ℕ) (code : ℕ) (m : Compat) (t : List ℕ) → code < 65536 → IsShelf es l
    → add_call code m t l ≡ accepted l' → IsShelf (es ++ (entry code m t ∷ [])) l'
shelf-added = ShelfLaws.shelf-added

pub shelf-removed : {es : List Entry} {l : List ℕ} (l' : List ℕ) (code : ℕ) → IsShelf es l → remove_call code l ≡ accepted l' → IsShelf (without_code code es) l'
shelf-removed = ShelfLaws.shelf-removed

-- The listing gives the text that was added with the code, and first fit the code of the first entry whose text admits the version.
pub shelf-listed : {es : List Entry} {l : List ℕ} (code : ℕ) → IsShelf es l → text_call code l ≡ or_refused 12 (text_with code es)
shelf-listed = ShelfLaws.shelf-listed

pub shelf-fits : {es : List Entry} {l : List ℕ} (q : Question) (s : List ℕ) → IsShelf es l
    → first_fit_call q s l ≡ map_answer (λ v. first_entry (λ e. admits_if q v (reading e.mode e.text)) es) (version_of s)
shelf-fits = ShelfLaws.shelf-fits

-- ---- 3. In any memory, the place and the length that a listing gives are those of its text.

pub listed-part : (code : ℕ) (l : List ℕ) (p : Part) → list_call code l ≡ accepted p → text_call code l ≡ accepted (take p.length (drop p.place l))
listed-part = ListingLaws.listed-part

-- ---- 4. For a shelf built by calls from an empty one, the lookup by the kept triples and trying every entry give the same answer for every version
-- text: by 01's admission, and by any question whose yes is a yes to the admission. A version that a text admits lies between its triples.

pub lookup-same : {l : List ℕ} → Built l → (s : List ℕ) → lookup_call admits s l ≡ first_fit_call admits s l
lookup-same b s = LookupLaws.lookup-same admits (λ rs v e. e) s b

pub lookup-same-asked : (q : Question) → Implies q → {l : List ℕ} → Built l → (s : List ℕ) → lookup_call q s l ≡ first_fit_call q s l
lookup-same-asked q i b s = LookupLaws.lookup-same q i s b

pub enclosed : (rs : Reading) (v : Version) → version_fits v ≡ true → admits rs v ≡ true → encloses (bounds_of rs) (triple_of v) ≡ true
enclosed = TripleLaws.enclosed

-- In memory that no call built they may differ: the entry `^1.2.3`, with triples that are not its own.
pub lookup-differs : (lookup_call admits (bytes "1.5.0") (other_triples []) ≡ accepted none) × (first_fit_call admits (bytes "1.5.0") (other_triples []) ≡ accepted (some 7))
lookup-differs = ((Tables.tables).5, (Tables.tables).6)

-- ---- 5. The tables of examples: the calls on whole memories, also those that no call built, and the triples of texts.

pub worked-changes : map change_answered changes ≡ map change_expected changes
worked-changes = (Tables.tables).0

pub worked-listings : map listing_answered listings ≡ map listing_expected listings
worked-listings = (Tables.tables).1

pub worked-fits : map fit_answered fits ≡ map fit_expected fits
worked-fits = (Tables.tables).2

pub worked-lookups : map lookup_answered lookups ≡ map fit_expected lookups
worked-lookups = (Tables.tables).3

pub worked-bounds : map bounded_answered boundeds ≡ map bounded_expected boundeds
worked-bounds = (Tables.tables).4
