-- Versions with their precedence, and range texts with the versions that they admit, worked by hand from 01 and from Semantic Versioning
-- 2.0.0. Theorems 11 and 12 hold the definitions to them.
-- Assumes nothing.
use Prim.Native.String.{String}
use Rattle.std.specs.Prelude.{Bool, true, false, List, [], ◌∷◌, ◌++◌, map}
use Rattle.rules.specs.Bytes.{bytes}
use Rattle.rules.specs.Expansion.{Compat, cargo, npm}
use Rattle.rules.specs.Answers.{Answer, accepted, refused}
use Rattle.rules.specs.Precedence.{Order, less, equal, greater, precedence}
use Rattle.rules.specs.Admission.{map_answer₂, version_of, admission_call}
use Rattle.rules.specs.Examples.{both}

-- ---- precedence

-- a version, how it stands to another, and the other
pub data Comparison : Type 0 where
  comparison : String → Order → String → Comparison

-- Semantic Versioning 2.0.0's own chain (11.4): "1.0.0-alpha < 1.0.0-alpha.1 < 1.0.0-alpha.beta < 1.0.0-beta < 1.0.0-beta.2 < 1.0.0-beta.11 <
-- 1.0.0-rc.1 < 1.0.0"
unfoldable pub chain : List Comparison
chain =
    comparison "1.0.0-alpha" less "1.0.0-alpha.1"
    ∷ comparison "1.0.0-alpha.1" less "1.0.0-alpha.beta"
    ∷ comparison "1.0.0-alpha.beta" less "1.0.0-beta"
    ∷ comparison "1.0.0-beta" less "1.0.0-beta.2"
    ∷ comparison "1.0.0-beta.2" less "1.0.0-beta.11"
    ∷ comparison "1.0.0-beta.11" less "1.0.0-rc.1"
    ∷ comparison "1.0.0-rc.1" less "1.0.0"
    ∷ []

-- its chain of triples (11.2), "1.0.0 < 2.0.0 < 2.1.0 < 2.1.1"; components by value; the build part ignored; identifiers by kind, numbers by
-- value, texts by bytes; digits by number at any length, below the others (19, 20 and 21 digits, equal lengths, a letter or a hyphen beside them)
unfoldable pub comparisons : List Comparison
comparisons =
    comparison "1.0.0" less "2.0.0"
    ∷ comparison "2.0.0" less "2.1.0"
    ∷ comparison "2.1.0" less "2.1.1"
    ∷ comparison "1.10.0" greater "1.9.0"
    ∷ comparison "1.0.0+a" equal "1.0.0+b.01"
    ∷ comparison "1.0.0-rc+7" equal "1.0.0-rc"
    ∷ comparison "1.0.0-1a" greater "1.0.0-99"
    ∷ comparison "1.0.0-a" greater "1.0.0-A"
    ∷ comparison "1.0.0-a" less "1.0.0-aa"
    ∷ comparison "1.0.0-aa" less "1.0.0-b"
    ∷ comparison "1.0.0--" less "1.0.0-0a"
    ∷ comparison "1.0.0-18446744073709551615" less "1.0.0-18446744073709551616"
    ∷ comparison "1.0.0-9999999999999999999" less "1.0.0-10000000000000000000"
    ∷ comparison "1.0.0-9999999999999999999" less "1.0.0-99999999999999999999"
    ∷ comparison "1.0.0-99999999999999999999" less "1.0.0-100000000000000000000"
    ∷ comparison "1.0.0-18446744073709551617" greater "1.0.0-18446744073709551616"
    ∷ comparison "1.0.0-100000000000000000000" less "1.0.0-100000000000000000001"
    ∷ comparison "1.0.0-100000000000000000000" equal "1.0.0-100000000000000000000"
    ∷ comparison "1.0.0-999999999999999999999" less "1.0.0-1a"
    ∷ comparison "1.0.0--" greater "1.0.0-100000000000000000000"
    ∷ []

-- ---- admissions

-- the modes, a range text, a version, and the answer or the refusal under each of the modes
pub data Admission : Type 0 where
  admission : List Compat → String → String → Answer Bool → Admission

abbrev pub yes : Answer Bool
yes = accepted true

abbrev pub no : Answer Bool
no = accepted false

-- prereleases on both ends, `>=1.2.3-a <2.0.0` and others; every comparator of a range, and some range
unfoldable pub ends : List Admission
ends =
    admission both "^1.2.3-a" "1.2.3-a" yes
    ∷ admission both "^1.2.3-a" "1.2.3-b" yes
    ∷ admission both "^1.2.3-a" "1.2.3" yes
    ∷ admission both "^1.2.3-a" "1.2.3-Z" no
    ∷ admission both "^1.2.3-a" "1.2.3-9" no
    ∷ admission both "^1.2.3-a" "1.2.2" no
    ∷ admission both "^1.2.3-a" "1.2.4-0" yes
    ∷ admission both "^1.2.3-a" "2.0.0-rc" yes
    ∷ admission both "^1.2.3-a" "2.0.0" no
    ∷ admission both "<2.0.0" "2.0.0-rc" yes
    ∷ admission both "<2.0.0" "2.0.0" no
    ∷ admission both ">1.2.3-a" "1.2.3-a" no
    ∷ admission both ">1.2.3-a" "1.2.3-a.0" yes
    ∷ admission both "=1.2.3" "1.2.2" no
    ∷ admission both "=1.2.3" "1.2.4" no
    ∷ admission both "<=1.2.3" "1.2.2" yes
    ∷ admission both "<=1.2.3-a" "1.2.3-a" yes
    ∷ admission both "<=1.2.3-a" "1.2.3-a.0" no
    ∷ admission both "1.2.3 - 2.3" "2.3.9" yes
    ∷ admission both "1.2.3 - 2.3" "2.4.0" no
    ∷ admission (npm ∷ []) "1.2.3 || >=2.0.0 <3.0.0" "1.2.3" yes
    ∷ admission (npm ∷ []) "1.2.3 || >=2.0.0 <3.0.0" "1.2.4" no
    ∷ admission (cargo ∷ []) "1.2.3 || >=2.0.0 <3.0.0" "1.2.4" yes
    ∷ admission both "1.2.3 || >=2.0.0 <3.0.0" "2.5.0" yes
    ∷ admission both "1.2.3 || >=2.0.0 <3.0.0" "3.0.0" no
    ∷ admission both "1.2.3 || >=2.0.0 <3.0.0" "3.0.0-a" yes
    ∷ admission both "" "0.0.0" yes
    ∷ admission both "" "0.0.0-a" no
    ∷ admission both "<1 ||" "1.2.3-a" yes
    ∷ admission both ">*" "0.0.0" no
    ∷ admission both ">*" "0.0.0-a" yes
    ∷ []

-- "The version's own build part is ignored; a range's `+` identifiers count as prerelease, as read."
unfoldable pub builds : List Admission
builds =
    admission (npm ∷ []) "1.2.3+b7" "1.2.3-b7" yes
    ∷ admission (npm ∷ []) "1.2.3+b7" "1.2.3-b7+c" yes
    ∷ admission (npm ∷ []) "1.2.3+b7" "1.2.3+b7" no
    ∷ admission (npm ∷ []) "1.2.3+b7" "1.2.3" no
    ∷ admission (cargo ∷ []) "1.2.3+b7" "1.2.3" yes
    ∷ admission both ">=1.2.3+b7" "1.2.3-b7" yes
    ∷ admission both ">=1.2.3+b7" "1.2.3-b6+b9" no
    ∷ admission both "=1.2.3" "1.2.3+b7" yes
    ∷ []

-- "a number below a text", digits by number at any length and below the others; texts by bytes
unfoldable pub kinds : List Admission
kinds =
    admission both ">1.0.0-18446744073709551615" "1.0.0-18446744073709551616" yes
    ∷ admission both ">1.0.0-18446744073709551616" "1.0.0-18446744073709551615" no
    ∷ admission both "=1.0.0-18446744073709551616" "1.0.0-18446744073709551616" yes
    ∷ admission both ">=1.0.0-99999999999999999999" "1.0.0-100000000000000000000" yes
    ∷ admission both ">1.0.0-99999999999999999999" "1.0.0-9999999999999999999" no
    ∷ admission both ">1.0.0-100000000000000000000" "1.0.0-100000000000000000001" yes
    ∷ admission both "<1.0.0-100000000000000000000" "1.0.0-100000000000000000000" no
    ∷ admission both "<1.0.0-a" "1.0.0-999999999999999999999" yes
    ∷ admission both ">1.0.0--" "1.0.0-100000000000000000000" no
    ∷ admission both ">1.0.0-999999999999999999999" "1.0.0-1a" yes
    ∷ admission both ">1.0.0-aa" "1.0.0-b" yes
    ∷ admission both ">1.0.0-9" "1.0.0-10" yes
    ∷ admission both ">1.0.0-a9" "1.0.0-a10" no
    ∷ admission both ">1.0.0-9" "1.0.0-1a" yes
    ∷ []

-- 8, then 9, each after 1 to 4; and texts that are versions
unfoldable pub refusals : List Admission
refusals =
    admission both "" "" (refused 8)
    ∷ admission both "" "1.0" (refused 8)
    ∷ admission both "" "1.0.0.0" (refused 8)
    ∷ admission both "" "1.0.x" (refused 8)
    ∷ admission both "" "01.0.0" (refused 8)
    ∷ admission both "" "v1.0.0" (refused 8)
    ∷ admission both "" "=1.0.0" (refused 8)
    ∷ admission both "" "1. 0.0" (refused 8)
    ∷ admission both "" "1.0.0\n" (refused 8)
    ∷ admission both "" " 1.0.0" (refused 8)
    ∷ admission both "" "1.0.0 " (refused 8)
    ∷ admission both "" "1.0.0-" (refused 8)
    ∷ admission both "" "1.0.0+" (refused 8)
    ∷ admission both "" "1.0.0-a..b" (refused 8)
    ∷ admission both "" "1.0.0-a." (refused 8)
    ∷ admission both "" "1.0.0-a_b" (refused 8)
    ∷ admission both "" "1.0.0-01" (refused 8)
    ∷ admission both "" "1.0.0-a.00" (refused 8)
    ∷ admission both "" "1.0.0+a+b" (refused 8)
    ∷ admission both "" "1.0.0-0" yes
    ∷ admission both "" "1.0.0-0a.-.10" yes
    ∷ admission both "" "1.0.0+01.-" yes
    ∷ admission both "" "1.0.0-a-b+c-d" yes
    ∷ admission both "" "18446744073709551615.0.0" yes
    ∷ admission both "" "18446744073709551616.0.0" (refused 9)
    ∷ admission both "" "0.18446744073709551616.0" (refused 9)
    ∷ admission both "" "0.0.18446744073709551616" (refused 9)
    ∷ admission both "" "18446744073709551616.0.0-01" (refused 8)
    ∷ admission both "1,2" "1.0" (refused 2)
    ∷ admission both "18446744073709551616" "1.0" (refused 3)
    ∷ admission both "18446744073709551615" "18446744073709551616.0.0" (refused 4)
    ∷ []

-- the table
unfoldable pub admissions : List Admission
unfolding ends builds kinds refusals
admissions = ends ++ (builds ++ (kinds ++ refusals))

-- ---- what a table says, and what the definitions say

abbrev pub order_expected : Comparison → Answer Order
order_expected (comparison v o w) = accepted o

unfoldable pub order_answered : Comparison → Answer Order
unfolding version_of precedence
order_answered (comparison v o w) = map_answer₂ precedence (version_of (bytes v)) (version_of (bytes w))

abbrev pub admission_expected : Admission → List (Answer Bool)
admission_expected (admission ms t v a) = map (λ m. a) ms

unfoldable pub admission_answered : Admission → List (Answer Bool)
unfolding admission_call
admission_answered (admission ms t v a) = map (λ m. admission_call m (bytes t) (bytes v)) ms
