-- Which versions a reading admits, and the answer of the admission call (01, "Admission" and refusals 8 and 9).
-- Assumes nothing.
use Rattle.std.specs.Prelude.{ℕ, Bool, true, false, ◌&&◌, List, leb, length}
use Rattle.rules.specs.Lists.{each, some_of}
use Rattle.rules.specs.Bytes.{pick}
use Rattle.rules.specs.Syntax.{Op, lt, lte, gt, gte, eq}
use Rattle.rules.specs.Parse.{Result, fail, ok}
use Rattle.rules.specs.Expansion.{Compat, Comparator, comparator, Reading}
use Rattle.rules.specs.Answers.{Answer, accepted, refused, unless, fits, longest, map_answer, reading}
use Rattle.rules.specs.Version.{Version, version, read_version}
use Rattle.rules.specs.Precedence.{Order, less, equal, greater, precedence}

-- ---- admission

-- the operator holds of two that stand so
unfoldable pub holds : Op → Order → Bool
holds lt less = true
holds lt equal = false
holds lt greater = false
holds lte less = true
holds lte equal = true
holds lte greater = false
holds gt less = false
holds gt equal = false
holds gt greater = true
holds gte less = false
holds gte equal = true
holds gte greater = true
holds eq less = false
holds eq equal = true
holds eq greater = false

-- "it meets" a comparator "by Semantic Versioning 2.0.0 precedence"; "a range's `+` identifiers count as prerelease, as read"
unfoldable pub meets : Version → Comparator → Bool
unfolding holds precedence
meets v (comparator o a b c is) = holds o (precedence v (version a b c is))

-- "A version is admitted if in some range it meets every comparator"
unfoldable pub admits : Reading → Version → Bool
unfolding meets
admits rs v = some_of (each (meets v)) rs

-- a question that is asked of a reading and a version, as `admits` is
abbrev pub Question : Type 0
Question = Reading → Version → Bool

-- its answer for a text that was read so; no version fits a text that is refused
abbrev pub admits_if : Question → Version → Answer Reading → Bool
admits_if q v (accepted rs) = q rs v
admits_if q v (refused n) = false

-- ---- the admission call

-- "is not a version by Semantic Versioning 2.0.0"
unfoldable pub versioned : Result Version → Answer Version
versioned fail = refused 8
versioned (ok v r) = accepted v

-- neither major, minor nor patch exceeds the largest number
unfoldable pub version_fits : Version → Bool
version_fits (version a b c is) = fits a && (fits b && fits c)

-- "8. .. The version text is longer than 65,535 bytes or is not a version by Semantic Versioning 2.0.0." "9. .. The version's major, minor or
-- patch exceeds 18446744073709551615."
unfoldable pub version_of : List ℕ → Answer Version
unfolding versioned read_version version_fits
version_of s = unless 9 version_fits (pick (leb (length s) longest) (versioned (read_version s)) (refused 8))

-- of two answers; the first refusal stays
abbrev pub map_answer₂ : {A B C : Type 0} → (A → B → C) → Answer A → Answer B → Answer C
map_answer₂ f (refused n) b = refused n
map_answer₂ f (accepted a) b = map_answer (f a) b

-- "range text, mode, version text. Yes or no": the refusals 1 to 4 of the range text, then 8, then 9
unfoldable pub admission_call : Compat → List ℕ → List ℕ → Answer Bool
unfolding reading version_of admits
admission_call m t s = map_answer₂ admits (reading m t) (version_of s)
