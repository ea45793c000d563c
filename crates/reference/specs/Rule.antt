-- src/generated.rs: the rules' names.
-- Assumes nothing.
use Rattle.std.specs.Prelude.{ℕ, eqb}
use Rattle.rules.specs.Bytes.{pick}

-- `pub enum Rule`, in its order
pub data Rule : Type 0 where
  EOI range-set logical-or range empty hyphen simple primitive primitive-op partial xr xr-op nr tilde caret qualifier parts part space : Rule

-- its place there
abbrev pub discriminant : Rule → ℕ
discriminant Rule.EOI = 0
discriminant Rule.range-set = 1
discriminant Rule.logical-or = 2
discriminant Rule.range = 3
discriminant Rule.empty = 4
discriminant Rule.hyphen = 5
discriminant Rule.simple = 6
discriminant Rule.primitive = 7
discriminant Rule.primitive-op = 8
discriminant Rule.partial = 9
discriminant Rule.xr = 10
discriminant Rule.xr-op = 11
discriminant Rule.nr = 12
discriminant Rule.tilde = 13
discriminant Rule.caret = 14
discriminant Rule.qualifier = 15
discriminant Rule.parts = 16
discriminant Rule.part = 17
discriminant Rule.space = 18

-- `match rule { name => value, .. }`: one arm, and behind it the others
abbrev pub arm : {A : Type 0} → Rule → Rule → A → A → A
arm rule name value others = pick (eqb (discriminant rule) (discriminant name)) value others
