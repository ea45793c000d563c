-- What the code of a pass knows of the comparators of a step.
-- Assumes nothing.
use Rattle.std.specs.Prelude.{◌≡◌, List, [], ◌∷◌, ◌++◌, ℕ, Bool, true, false, Option, Some, None}
use Rattle.std.specs.Borrow.{Bor}
use Rattle.rules.specs.Syntax as S
use Rattle.rules.specs.Expansion as E
use Rattle.rules.specs.Answers.{accepted, reading}
use Rattle.rules.specs.Walk.{Stage, item, range, right, only, end, bad}
use Rattle.partial.specs.Views.{Held, op_of, comparator_is, as_comparator}
use Rattle.partial.specs.declared.Partial.{Partial}
use Rattle.partial.specs.declared.Op.{Op}
use Rattle.partial.specs.declared.Comparator.{Comparator}
use Rattle.range.specs.Views.{raised_partial}
use Rattle.range.specs.declared.Component.{Component}
use Rattle.walk.specs.Views.{Stepped, step_at}

-- the step with which every pass over the text s begins
abbrev pub first_step : E.Compat → List ℕ → Option Stepped
first_step m s = step_at m range s

-- None of 1 to 4 applies to the text: what each pass behind the measure requires.
pub record Accepts (m : E.Compat) (s : List ℕ) : Type 0 where
  pub reads : E.Reading
  pub is : reading m s ≡ accepted reads

-- ---- the comparators of a step

-- the comparator, if there is one
abbrev pub listed : Option Comparator → List E.Comparator
listed None = []
listed (Some c) = comparator_is c ∷ []

-- it has so many identifiers
abbrev pub counted : ℕ → Option Comparator → Type 0
counted n None = Unit {0}
counted n (Some c) = c.count ≡ n

-- the comparator with this operator and what is held of a partial
abbrev pub under : S.Op → Held → E.Comparator
under o h = E.comparator o h.major h.minor h.patch h.identifiers

-- if an operator is kept
abbrev pub kept_under : Option Op → Held → List E.Comparator
kept_under None h = []
kept_under (Some o) h = under (op_of o) h ∷ []

-- if a component is raised
abbrev pub raised_under : Option Component → Held → List E.Comparator
raised_under None h = []
raised_under (Some c) h = under S.lt (raised_partial (Some c) h) ∷ []

-- with the numbers as they were read
abbrev pub kept_gives : Stepped → List E.Comparator
kept_gives x = kept_under x.kept x.partial

-- below the raised component
abbrev pub raised_gives : Stepped → List E.Comparator
raised_gives x = raised_under x.raised x.partial

-- The code's comparators. The numbers as they were read, with the identifiers, under the operator that is kept.
abbrev pub kept_with : Option Op → Partial → Option Comparator
kept_with None p = None
kept_with (Some o) p = Some (as_comparator p o)

-- of the numbers and marks that are held of a partial, with the identifiers that t begins
abbrev pub held_with : Op → Held → Bor (List ℕ) → Comparator
held_with o h t = record { op = o; major = h.major; minor = h.minor; patch = h.patch; count = h.count; identifiers = t; over = h.over }

-- below the raised component, without identifiers
abbrev pub RaisedTo : Stepped → Option Comparator → Type 0
RaisedTo x None = x.raised ≡ None
RaisedTo x (Some c) = (c ≡ held_with Op.Lt (raised_partial x.raised x.partial) c.identifiers) × (c.identifiers.now ≡ [])

-- both, in this order
unfoldable pub step_gives : Stepped → List E.Comparator
step_gives x = kept_gives x ++ raised_gives x

-- the component that is raised cannot be
abbrev pub over_of : Stepped → Bool
over_of x = (raised_partial x.raised x.partial).over

-- ---- where a range ends

-- behind a step that leads to this stage
abbrev pub ends_range : Stage → Bool
ends_range item = false
ends_range range = true
ends_range right = false
ends_range only = false
ends_range end = true
ends_range bad = false
