-- The parts of a version's reader, each with what the code hands back of it: numbers as 64 bits hold them, and identifiers by how many they
-- are and the text that they begin.
-- Assumes nothing.
use Rattle.std.specs.Prelude as Std
use Rattle.std.specs.Prelude.{Ok, Err, ℕ, List, [], Bool, ◌&&◌, eqb, length, drop, Option, Some, None}
use Rattle.std.specs.Borrow.{Bor}
use Rattle.rules.specs.Lists.{each}
use Rattle.rules.specs.Bytes.{bytes, pick, is_digit, value}
use Rattle.rules.specs.Syntax.{Identifier}
use Rattle.rules.specs.Parse.{Result, fail, ok, ◌then◌, read_number, at_end}
use Rattle.rules.specs.Answers.{Answer, accepted, refused}
use Rattle.rules.specs.Version as R
use Rattle.rules.specs.Version.{version, read_word, leads_zero, read_version_identifier, read_after_dot, read_series, version_identifiers_in}
use Rattle.lexer.specs.Views.{fitting, begun, on_rest}
use Rattle.rules.specs.Admission.{version_of}
use Rattle.lexer.specs.declared.Identifiers.{Identifiers}
use Rattle.version.specs.declared.Numbers.{Numbers}
use Rattle.version.specs.declared.version.Version.{Version}
use Rattle.refusals.specs.declared.Refusal.{Refusal}
use Rattle.refusals.specs.declared.Refusal.TheVariants.{NoVersion, VersionTooLarge}

-- ---- identifiers

-- a word is digits alone that begin with a zero, and not 0
unfoldable pub padded : List ℕ → Bool
padded w = each is_digit w && leads_zero w

-- ---- the numbers

-- three numbers with dots between, as a version without identifiers
unfoldable pub read_numbers : List ℕ → Result R.Version
unfolding read_after_dot
read_numbers s =
    read_number s then λ a t. read_after_dot read_number t then λ b u. read_after_dot read_number u then λ c v. ok (version (value a) (value b) (value c) []) v

-- each where 64 bits hold it
abbrev pub numbers_of : Result R.Version → Result (Option ℕ × Option ℕ × Option ℕ)
numbers_of fail = fail
numbers_of (ok (version a b c is) r) = ok (fitting a, fitting b, fitting c) r

abbrev pub numbers_in : Option Numbers → Result (Option ℕ × Option ℕ × Option ℕ)
numbers_in None = fail
numbers_in (Some n) = ok (n.major, n.minor, n.patch) n.left.now

-- ---- what follows the numbers

-- to the end of the text: the prerelease identifiers, and a build part that is not kept
unfoldable pub read_tail : List ℕ → Result (List Identifier)
unfolding read_version_identifier read_word read_series
read_tail s = read_series (bytes "-") read_version_identifier s then λ is t. read_series (bytes "+") read_word t then λ build r. at_end r then λ u e. ok is e

abbrev pub tail_of : Result (List Identifier) → Option (ℕ × List Identifier)
tail_of fail = None
tail_of (ok is r) = Some (length is, is)

abbrev pub tail_in : Option Identifiers → Option (ℕ × List Identifier)
tail_in None = None
tail_in (Some q) = Some (q.count, version_identifiers_in q.text.now)

-- ---- versions

-- what the code's version holds
abbrev pub Parts : Type 0
Parts = ℕ × ℕ × ℕ × ℕ × Bor (List ℕ)

abbrev pub parts_in : Option Version → Option Parts
parts_in None = None
parts_in (Some v) = Some (v.major, v.minor, v.patch, v.count, v.prerelease)

-- with what follows the numbers, where none is too large
abbrev pub numbered : Option ℕ → Option ℕ → Option ℕ → Identifiers → Option Parts
numbered None b c q = None
numbered (Some a) None c q = None
numbered (Some a) (Some b) None q = None
numbered (Some a) (Some b) (Some c) q = Some (a, b, c, q.count, q.text)

-- the rules' version for the code's
abbrev pub version_is : Version → R.Version
version_is v = version v.major v.minor v.patch (version_identifiers_in v.prerelease.now)

-- with how many prerelease identifiers it has
abbrev pub version_in : Std.Result Version Refusal → Std.Result (R.Version × ℕ) Refusal
version_in (Ok v) = Ok (version_is v, v.count)
version_in (Err r) = Err r

-- the version, or which of 01's refusals 8 and 9 it is
unfoldable pub version_text_of : Answer R.Version → Std.Result (R.Version × ℕ) Refusal
version_text_of (accepted (version a b c is)) = Ok (version a b c is, length is)
version_text_of (refused n) = Err (pick (eqb n 8) NoVersion VersionTooLarge)

abbrev pub prerelease_of : Answer R.Version → List Identifier
prerelease_of (accepted (version a b c is)) = is
prerelease_of (refused n) = []

-- the text that the prerelease identifiers of the version s begin: what stands behind the sign, which is behind the numbers; where there are
-- none, it is empty
unfoldable pub beginning : List ℕ → List ℕ
unfolding read_numbers
beginning s = begun (prerelease_of (version_of s)) (on_rest (drop 1) (read_numbers s))
