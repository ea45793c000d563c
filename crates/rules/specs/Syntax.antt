-- What is read of a range text, before it is expanded (01, "Grammar").
-- Assumes nothing.
use Rattle.std.specs.Prelude.{ℕ, List, [], ◌∷◌, map, leb}
use Rattle.std.proofs.Math.Option.{Option, none, some}
use Rattle.rules.specs.Lists.{concat}
use Rattle.rules.specs.Bytes.{value, largest, pick}

-- An identifier: a number, or a text with its bytes. A text keeps its place, counted from the end: how many bytes of the range text
-- are left where it begins.
pub data Identifier : Type 0 where
  number : ℕ → Identifier
  text : ℕ → List ℕ → Identifier

-- "An identifier of digits is a number up to 18446744073709551615, above it text."
unfoldable pub of_digits : ℕ → List ℕ → Identifier
of_digits left ds = pick (leb (value ds) largest) (number (value ds)) (text left ds)

-- A partial, by how many of its components were read. Only a full one has identifiers.
pub data Partial : Type 0 where
  x_range_only : Partial
  major_only : ℕ → Partial
  major_minor : ℕ → ℕ → Partial
  major_minor_patch : ℕ → ℕ → ℕ → List Identifier → Partial

-- "Components are read left to right up to the first wildcard; the wildcard and all after it, qualifier included, are not read."
-- A component is a number, or none for a wildcard: of one component, of two, of three and a qualifier.
unfoldable pub up_to₁ : Option ℕ → Partial
up_to₁ none = x_range_only
up_to₁ (some a) = major_only a

unfoldable pub up_to₂ : Option ℕ → Option ℕ → Partial
up_to₂ none d = x_range_only
up_to₂ (some a) none = major_only a
up_to₂ (some a) (some b) = major_minor a b

unfoldable pub up_to₃ : Option ℕ → Option ℕ → Option ℕ → List Identifier → Partial
up_to₃ none d e is = x_range_only
up_to₃ (some a) none e is = major_only a
up_to₃ (some a) (some b) none is = major_minor a b
up_to₃ (some a) (some b) (some c) is = major_minor_patch a b c is

-- the identifiers of a partial
abbrev pub identifiers_of : Partial → List Identifier
identifiers_of x_range_only = []
identifiers_of (major_only a) = []
identifiers_of (major_minor a b) = []
identifiers_of (major_minor_patch a b c is) = is

-- the components of a partial that are read
abbrev pub components_of : Partial → List ℕ
components_of x_range_only = []
components_of (major_only a) = a ∷ []
components_of (major_minor a b) = a ∷ b ∷ []
components_of (major_minor_patch a b c is) = a ∷ b ∷ c ∷ []

-- The five operators.
pub data Op : Type 0 where
  lt lte gt gte eq : Op

-- What stands before an item's partial: nothing, an operator, a tilde or a caret.
pub data Prefix : Type 0 where
  bare tilde caret : Prefix
  op : Op → Prefix

pub data Item : Type 0 where
  item : Prefix → Partial → Item

pub data Range : Type 0 where
  nothing : Range
  items : Item → List Item → Range
  hyphen : Partial → Partial → Range

abbrev pub partial_of : Item → Partial
partial_of (item f p) = p

-- the partials of a range
abbrev pub partials_of : Range → List Partial
partials_of nothing = []
partials_of (items i is) = map partial_of (i ∷ is)
partials_of (hyphen p q) = p ∷ q ∷ []

-- all components that are read: refusal 3 is given where one of them is too large (theorem 2)
abbrev pub components_read : List Range → List ℕ
components_read rs = concat (map components_of (concat (map partials_of rs)))
