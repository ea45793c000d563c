-- THE THEOREMS of requirement 2: acceptance and comparators are those of `RangeSet::parse` of the crate semver-parser 0.10.3, for every text. `parse` is
-- that function as it is transcribed (reference/specs), in the build with overflow checks. A release build wraps where this one panics at a sum:
-- there `18446744073709551615` is `Ok` with `<0.0.0`.
-- The theorems are about the crate's two modes, Cargo and Npm. When 02 adds modes and rules to 01's, they stay as they are.
-- Assumes nothing.
use mathlib.Core.Logic.{◌↔◌, ◌⊎◌}
use mathlib.Core.Path.{◌≡◌}
use Prim.Native.Nat.{ℕ, ◌≤◌}
use mathlib.Core.List.{List}
use lib.ListN.{length}
use Rattle.rules.specs.Syntax.{Range}
use Rattle.rules.specs.Grammar.{ReadsText}
use Rattle.rules.specs.Expansion.{Reading}
use Rattle.rules.specs.Rows.{placeless_reading}
use Rattle.rules.specs.Answers.{accepted, refused, longest, reading}
use Rattle.rules.specs.Exported.{mode_of}
use Rattle.range.specs.Views.{compat_of}
use Rattle.rangeset.specs.Views.{outcome_of}
use Rattle.reading.proofs.read.Reads as Read
use Rattle.numbers.specs.Views.{outcome}
use Rattle.maluwesi.proofs.maluwesi_read.Reads as MaluwesiRead
use Rattle.reference.specs.Range.{Compat}
use Rattle.reference.specs.RangeSet.{Ok, Err, panicked, endless, parse}
use Rattle.reference.specs.Seen.{mode, seen}
use Rattle.reference.specs.Utf8.{utf8}
use Rattle.reference.proofs.Parsed as Parsed
use Rattle.conformance.specs.Handed.{handed, RowsFit}
use Rattle.conformance.proofs.Calls as Calls

-- ---- 1. `RangeSet::parse` of a text of at most 65,535 bytes returns what 01 answers, as a user of the crate sees it.

pub parse-reading : (m : Compat) (t : List ℕ) → length t ≤ longest → parse m t ≡ seen (reading (mode m) t)
parse-reading = Parsed.parse-reading

-- So it is `Ok` with these comparators exactly where 01 accepts with them, `Err` exactly where 01 refuses with 2,
pub ok-accepted : (m : Compat) (t : List ℕ) → length t ≤ longest
    → (qs : Reading) → (parse m t ≡ Ok qs) ↔ ((rs : Reading) × (reading (mode m) t ≡ accepted rs) × (placeless_reading rs ≡ qs))
ok-accepted = Parsed.ok-accepted

pub err-refused : (m : Compat) (t : List ℕ) → length t ≤ longest → (parse m t ≡ Err) ↔ (reading (mode m) t ≡ refused 2)
err-refused = Parsed.err-refused

-- and it panics exactly where 01 refuses with 3 or with 4.
pub panicked-refused : (m : Compat) (t : List ℕ) → length t ≤ longest → (parse m t ≡ panicked) ↔ ((reading (mode m) t ≡ refused 3) ⊎ (reading (mode m) t ≡ refused 4))
panicked-refused = Parsed.panicked-refused

-- ---- 2. Of a text of any length: it always ends, and it is `Err` exactly where 01's grammar has no reading.

pub parse-ends : (m : Compat) (t : List ℕ) → parse m t ≡ endless → ⊥
parse-ends = Parsed.parse-ends

pub err-grammar : (m : Compat) (t : List ℕ) → (parse m t ≡ Err) ↔ ((rs : List Range) → ReadsText t rs → ⊥)
err-grammar = Parsed.err-grammar

-- ---- 3. The same of a `&str`, whose characters the crate reads, and whose bytes in UTF-8 01 reads.

pub parse-str : (m : Compat) (s : List ℕ) → length (utf8 s) ≤ longest → parse m s ≡ seen (reading (mode m) (utf8 s))
parse-str = Parsed.parse-str

-- ---- 4. The compiled calls, by their promises. κs are a call's lifetimes, `args` its arguments, r (or n) its answer, `exit` its arguments as it leaves
-- them; `Post` is what its contract promises of these. `.0` is the text, `.1 .0` the mode, `.1 .1 .0` the comparator words, `.1 .1 .1 .0` the identifier words.
-- Of a text of at most 65,535 bytes, wherever the rows of what the crate returns fit the lent words, the call hands that back.

-- `rangeset::read`

pub read-parse : (m : Compat) (κs : _) (args : _) (r : _) (exit : _) → Read.Post κs args r exit → compat_of args.1.0 ≡ mode m
    → length args.0.now ≤ longest → RowsFit (parse m args.0.now) (length args.1.1.0.now) (length args.1.1.1.0.now)
    → parse m args.0.now ≡ handed args.0.now (outcome_of r) exit.1.1.0.now exit.1.1.1.0.now
read-parse = Calls.read-parse

-- `maluwesi_read`, which the export of that name, with the same clauses, calls; behind the words it is lent the places of the three counts
pub maluwesi-read-parse : (m : Compat) (κs : _) (args : _) (n : _) (exit : _) → MaluwesiRead.Post κs args n exit → mode_of args.1.0 ≡ accepted (mode m)
    → length args.0.now ≤ longest → RowsFit (parse m args.0.now) (length args.1.1.0.now) (length args.1.1.1.0.now)
    → parse m args.0.now ≡ handed args.0.now
    (outcome n exit.1.1.1.1.0.now exit.1.1.1.1.1.0.now exit.1.1.1.1.1.1.0.now) exit.1.1.0.now exit.1.1.1.0.now
maluwesi-read-parse = Calls.maluwesi-read-parse
