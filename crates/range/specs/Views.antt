-- What the code hands back of a prefix, and of an expansion: which comparators a partial gives, but for the partial.
-- Assumes nothing.
use Rattle.std.specs.Prelude as Std
use Rattle.std.specs.Prelude.{ℕ, List, [], Option, Some, None, Ok, Err}
use Rattle.std.specs.Borrow.{Bor}
use Rattle.std.proofs.Math.Option as Math
use Rattle.std.proofs.Math.Option.{none, some}
use Rattle.rules.specs.Syntax as S
use Rattle.rules.specs.Parse.{Result, fail, ok, choose, literal}
use Rattle.rules.specs.Expansion as E
use Rattle.partial.specs.Views.{Held, op_of, inc_major, inc_minor, inc_patch, zero_minor, zero_patch, no_pre}
use Rattle.partial.specs.declared.Op.{Op}
use Rattle.partial.specs.declared.Op.TheVariants.{Lt, Lte, Gt, Gte, Eq}
use Rattle.partial.specs.declared.Partial.{Partial}
use Rattle.partial.specs.declared.PartialKind.{PartialKind}
use Rattle.partial.specs.declared.PartialKind.TheVariants.{XRangeOnly, MajorOnly, MajorMinor, MajorMinorPatch}
use Rattle.range.specs.declared.Compat.{Compat}
use Rattle.range.specs.declared.Compat.TheVariants.{Cargo, Npm}
use Rattle.range.specs.declared.UnknownMode.{UnknownMode}
use Rattle.range.specs.declared.Prefix.{Prefix}
use Rattle.range.specs.declared.Component.{Component}
use Rattle.range.specs.declared.Component.TheVariants.{Major, Minor, Patch}
use Rattle.range.specs.declared.Expansion.{Expansion}

-- ---- what the code is given, as the rules have it

-- the mode
abbrev pub compat_of : Compat → E.Compat
compat_of Cargo = E.cargo
compat_of Npm = E.npm

-- the mode, or none where the number is no mode's
abbrev pub mode_is : Std.Result Compat UnknownMode → Math.Option E.Compat
mode_is (Ok m) = some (compat_of m)
mode_is (Err e) = none

-- what stands before a partial; a bare one has nothing there
abbrev pub prefix_of : Option Prefix → S.Prefix
prefix_of None = S.bare
prefix_of (Some Prefix.Tilde) = S.tilde
prefix_of (Some Prefix.Caret) = S.caret
prefix_of (Some (Prefix.Op o)) = S.op (op_of o)

-- a partial of this kind, with this major and this minor. No expansion depends on its patch and its identifiers.
abbrev pub shape_of : PartialKind → ℕ → ℕ → S.Partial
shape_of XRangeOnly a b = S.x_range_only
shape_of MajorOnly a b = S.major_only a
shape_of MajorMinor a b = S.major_minor a b
shape_of MajorMinorPatch a b = S.major_minor_patch a b 0 []

-- of the code's partial
abbrev pub shape_in : Partial → S.Partial
shape_in p = shape_of p.kind p.major p.minor

-- ---- what the code hands back

-- the code's operator for the rules'
abbrev pub op_for : S.Op → Op
op_for S.lt = Lt
op_for S.lte = Lte
op_for S.gt = Gt
op_for S.gte = Gte
op_for S.eq = Eq

-- a prefix, and what is left behind it
abbrev pub lead_is : Prefix × Bor (List ℕ) → Result S.Prefix
lead_is x = ok (prefix_of (Some x.0)) x.1.now

-- or nothing
abbrev pub lead_in : Option (Prefix × Bor (List ℕ)) → Result S.Prefix
lead_in None = fail
lead_in (Some x) = lead_is x

-- the prefix f, if s begins with its bytes; else g, behind which r is left
abbrev pub longer_of : List ℕ → List ℕ → Prefix → Prefix → List ℕ → Result S.Prefix
longer_of s w f g r = choose (literal w s) (λ u t. ok (prefix_of (Some f)) t) (ok (prefix_of (Some g)) r)

-- the code's optional operator for the rules'
abbrev pub kept_of : Math.Option S.Op → Option Op
kept_of none = None
kept_of (some o) = Some (op_for o)

-- and for its component
abbrev pub raised_of : Math.Option E.Component → Option Component
raised_of none = None
raised_of (some E.major) = Some Major
raised_of (some E.minor) = Some Minor
raised_of (some E.patch) = Some Patch

-- an expansion of these two
abbrev pub expanding : Option Op → Option Component → Expansion
expanding k r = record { kept = k; raised = r }

-- what a piece says but for its partial
abbrev pub expansion_of : E.Piece → Expansion
expansion_of (E.piece o c p) = expanding (kept_of o) (raised_of c)

-- ---- the comparators of an expansion

-- the raised component one more, those behind it zero, and no identifiers; where none is raised, the partial itself
abbrev pub raised_partial : Option Component → Held → Held
raised_partial (Some Major) p = no_pre (zero_patch (zero_minor (inc_major p)))
raised_partial (Some Minor) p = no_pre (zero_patch (inc_minor p))
raised_partial (Some Patch) p = no_pre (inc_patch p)
raised_partial None p = p

-- the text that its identifiers begin, where those of the partial as read begin t
abbrev pub raised_text : Option Component → List ℕ → List ℕ
raised_text (Some c) t = []
raised_text None t = t
