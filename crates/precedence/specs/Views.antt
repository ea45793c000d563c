-- What the code hands back of a comparison, and what it knows of the identifiers that a text begins with.
-- Assumes nothing.
use Rattle.std.specs.Prelude.{ℕ, List, [], Option, Some, None}
use Rattle.std.specs.declared.cmp.Ordering.{Ordering}
use Rattle.std.specs.declared.cmp.Ordering.TheVariants.{Less, Equal, Greater}
use Rattle.rules.specs.Bytes.{bytes}
use Rattle.rules.specs.Syntax as S
use Rattle.rules.specs.Parse.{literal, found_in}
use Rattle.rules.specs.Version.{version_identifiers_in}
use Rattle.rules.specs.Precedence as P
use Rattle.rules.specs.Precedence.{lexicographic, compare_identifiers}
use Rattle.lexer.specs.Views.{rest_of}
use Rattle.lexer.specs.declared.Identifier.{Identifier}

-- the rules' order for the code's
abbrev pub order_of : Ordering → P.Order
order_of Less = P.less
order_of Equal = P.equal
order_of Greater = P.greater

-- ---- the identifiers that a text begins with

-- the rules' identifier for the code's, without its place
abbrev pub known : Identifier → S.Identifier
known (Identifier.Number v) = S.number v
known (Identifier.Text w) = S.text 0 w.now

abbrev pub or_nothing : Option (List ℕ) → List ℕ
or_nothing None = []
or_nothing (Some t) = t

-- what is left behind a dot; nothing where t does not begin with one
abbrev pub behind_dot : List ℕ → List ℕ
behind_dot t = or_nothing (rest_of (literal (bytes ".") t))

-- how two texts stand by the identifiers that they begin with: a version text, and a range text
abbrev pub compared : List ℕ → List ℕ → P.Order
compared v s = lexicographic compare_identifiers (version_identifiers_in v) (found_in s)
