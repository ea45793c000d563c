-- A version by Semantic Versioning 2.0.0, as a grammar and as a function that computes. That the function finds exactly what the grammar
-- derives is theorem 10. Numbers in brackets are those of its rules.
-- Assumes nothing.
use Rattle.std.specs.Prelude.{◌≡◌, ℕ, Bool, false, List, [], ◌∷◌, map, eqb, length}
use Rattle.rules.specs.Lists.{each}
use Rattle.rules.specs.Bytes.{bytes, pick, is_digit, is_word, value}
use Rattle.rules.specs.Syntax.{Identifier, text, of_digits}
use Rattle.rules.specs.Grammar.{OneOf, Run, Literal, Many, ReadsNumber}
use Rattle.rules.specs.Parse.{Result, fail, ok, ◌then◌, choose, all, one_of, run, literal, read_number, at_end, list_of}
use Rattle.rules.specs.Rows.{placeless}

-- Major, minor and patch, and the prerelease identifiers. "The version's own build part is ignored": it is read, and not kept.
pub data Version : Type 0 where
  version : ℕ → ℕ → ℕ → List Identifier → Version

-- the version, its identifiers without their places
unfoldable pub placeless_version : Version → Version
unfolding placeless
placeless_version (version a b c is) = version a b c (map placeless is)

-- ---- the grammar

-- "Identifiers MUST comprise only ASCII alphanumerics and hyphens [0-9A-Za-z-]. Identifiers MUST NOT be empty." (9, 10): all of a build
-- identifier's rule
pub data ReadsWord : List ℕ → List ℕ → List ℕ → Type 0 where
  word : {c : ℕ} {s t w r : List ℕ} → OneOf is_word s c t → Run is_word t w r → ReadsWord s (c ∷ w) r

-- A prerelease identifier: "Numeric identifiers MUST NOT include leading zeroes." (9) Any other has a letter or a hyphen.
pub data ReadsVersionIdentifier : List ℕ → Identifier → List ℕ → Type 0 where
  number : {s w r : List ℕ} → ReadsNumber s w r → ReadsVersionIdentifier s (of_digits (length s) w) r
  mixed : {s w r : List ℕ} → ReadsWord s w r → each is_digit w ≡ false → ReadsVersionIdentifier s (text (length s) w) r

-- a dot, and a piece
pub data AfterDot {A : Type 0} (P : List ℕ → A → List ℕ → Type 0) : List ℕ → A → List ℕ → Type 0 where
  dot : {s t r : List ℕ} {a : A} → Literal (bytes ".") s t → P t a r → AfterDot P s a r

-- nothing, or a sign "and a series of dot separated identifiers" (9, 10)
pub data Series {A : Type 0} (sign : List ℕ) (P : List ℕ → A → List ℕ → Type 0) : List ℕ → List A → List ℕ → Type 0 where
  absent : {s : List ℕ} → Series sign P s [] s
  signed : {s t u r : List ℕ} {a : A} {l : List A} → Literal sign s t → P t a u → Many (AfterDot P) u l r → Series sign P s (a ∷ l) r

-- "the form X.Y.Z where X, Y, and Z are non-negative integers, and MUST NOT contain leading zeroes" (2); "a hyphen and a series .. immediately
-- following the patch version" (9); "a plus sign and a series .. immediately following the patch or pre-release version" (10); nothing after
pub data ReadsVersion : List ℕ → Version → Type 0 where
  whole : {s t u v w a b c : List ℕ} {is : List Identifier} {build : List (List ℕ)}
      → ReadsNumber s a t → AfterDot ReadsNumber t b u → AfterDot ReadsNumber u c v → Series (bytes "-") ReadsVersionIdentifier v is w
      → Series (bytes "+") ReadsWord w build [] → ReadsVersion s (version (value a) (value b) (value c) is)

-- ---- the function

unfoldable pub read_word : List ℕ → Result (List ℕ)
read_word s = one_of is_word s then λ c t. run is_word t then λ w r. ok (c ∷ w) r

-- the digits begin with a zero that is not all of them
abbrev pub leads_zero : List ℕ → Bool
leads_zero [] = false
leads_zero (c ∷ []) = false
leads_zero (c ∷ d ∷ ds) = eqb c 48

unfoldable pub read_version_identifier : List ℕ → Result Identifier
unfolding read_word of_digits
read_version_identifier s =
    read_word s then λ w r. pick (each is_digit w) (pick (leads_zero w) fail (ok (of_digits (length s) w) r)) (ok (text (length s) w) r)

unfoldable pub read_after_dot : {A : Type 0} → (List ℕ → Result A) → List ℕ → Result A
read_after_dot f s = literal (bytes ".") s then λ u t. f t

unfoldable pub read_series : {A : Type 0} → List ℕ → (List ℕ → Result A) → List ℕ → Result (List A)
unfolding read_after_dot
read_series sign f s = choose (literal sign s) (λ u t. f t then λ a v. all (read_after_dot f) v then λ l r. ok (a ∷ l) r) (ok [] s)

unfoldable pub read_version : List ℕ → Result Version
unfolding read_version_identifier read_word read_after_dot read_series
read_version s =
    read_number s then λ a t. read_after_dot read_number t then λ b u. read_after_dot read_number u then λ c v. read_series (bytes "-") read_version_identifier v then λ is w.
    read_series (bytes "+") read_word w then λ build r. at_end r then λ u e. ok (version (value a) (value b) (value c) is) e

-- ---- for code that looks again at what was read

-- the prerelease identifiers with dots between that s begins with
unfoldable pub version_identifiers_in : List ℕ → List Identifier
unfolding read_version_identifier read_after_dot
version_identifiers_in s = list_of (read_version_identifier s then λ i t. all (read_after_dot read_version_identifier) t then λ is r. ok (i ∷ is) r)
