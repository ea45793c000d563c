-- What the code hands back of a step of the walk (rules, specs/Walk.antt).
-- Assumes nothing.
use Rattle.std.specs.Prelude.{ℕ, ◌≡◌, List, [], Bool, true, false, ◌&&◌, Option, Some, None}
use Rattle.std.specs.Borrow.{Bor}
use Rattle.rules.specs.Bytes.{pick}
use Rattle.rules.specs.Syntax as S
use Rattle.rules.specs.Parse.{Result, fail, ok, skip, read_partial}
use Rattle.rules.specs.Expansion as E
use Rattle.rules.specs.Walk as W
use Rattle.partial.specs.Views.{Held, held, partial_is, beginning}
use Rattle.partial.specs.declared.Op.{Op}
use Rattle.partial.specs.declared.PartialKind.TheVariants.{XRangeOnly, MajorOnly, MajorMinor, MajorMinorPatch}
use Rattle.range.specs.Views.{kept_of, raised_of, prefix_of, expansion_of}
use Rattle.range.specs.declared.Component.{Component}
use Rattle.range.specs.declared.Expansion.{Expansion}
use Rattle.walk.specs.declared.Stage.{Stage}
use Rattle.walk.specs.declared.Stage.TheVariants as Stages
use Rattle.walk.specs.declared.Behind.{Behind}
use Rattle.walk.specs.declared.Behind.TheVariants as Behinds
use Rattle.walk.specs.declared.Item.{Item}
use Rattle.walk.specs.declared.Step.{Step}

-- ---- what stands behind a piece

-- what the code says stands there, and the text from there on
abbrev pub behind_is : Behind → W.Behind
behind_is (Behinds.Item t) = W.behind W.item t.now
behind_is (Behinds.Range t) = W.behind W.range t.now
behind_is (Behinds.Dash t) = W.behind W.right t.now
behind_is Behinds.End = W.behind W.end []

-- or nowhere, where the code has nothing
abbrev pub behind_in : Option Behind → W.Behind
behind_in None = W.nowhere
behind_in (Some b) = behind_is b

-- behind a range: a further one, or the end
abbrev pub closed_is : Option (Bor (List ℕ)) → W.Behind
closed_is None = W.behind W.end []
closed_is (Some t) = W.behind W.range t.now

-- or nowhere, where it is neither
abbrev pub closed_in : Option (Option (Bor (List ℕ))) → W.Behind
closed_in None = W.nowhere
closed_in (Some b) = closed_is b

-- ---- where a step begins

-- the code's stage; a right side whose left side gives no row is another one in the rules
abbrev pub stage_of : Stage → W.Stage
stage_of Stages.Item = W.item
stage_of Stages.Range = W.range
stage_of (Stages.Right XRangeOnly) = W.only
stage_of (Stages.Right MajorOnly) = W.right
stage_of (Stages.Right MajorMinor) = W.right
stage_of (Stages.Right MajorMinorPatch) = W.right

-- where the next step begins; nothing is the end
abbrev pub next_is : Option (Stage × Bor (List ℕ)) → W.Stage × List ℕ
next_is None = (W.end, [])
next_is (Some x) = (stage_of x.0, x.1.now)

-- behind a dash the right side begins at this stage
abbrev pub next_behind : W.Behind → W.Stage → W.Stage × List ℕ
next_behind (W.behind W.item t) st = (W.item, t)
next_behind (W.behind W.range t) st = (W.range, t)
next_behind (W.behind W.right t) st = (st, t)
next_behind (W.behind W.only t) st = (W.only, t)
next_behind (W.behind W.end t) st = (W.end, t)
next_behind (W.behind W.bad t) st = (W.bad, t)

-- that a step begins there, as what stands behind the one before it
abbrev pub behind_next : W.Stage × List ℕ → W.Behind
behind_next n = W.behind n.0 n.1

-- an item, or the left side of a hyphen range, by what follows it
abbrev pub expansion_behind : E.Compat → S.Prefix → S.Partial → W.Behind → Expansion
expansion_behind m f p (W.behind W.item t) = expansion_of (E.expand_item m (S.item f p))
expansion_behind m f p (W.behind W.range t) = expansion_of (E.expand_item m (S.item f p))
expansion_behind m f p (W.behind W.right t) = expansion_of (E.expand_left p)
expansion_behind m f p (W.behind W.only t) = expansion_of (E.expand_item m (S.item f p))
expansion_behind m f p (W.behind W.end t) = expansion_of (E.expand_item m (S.item f p))
expansion_behind m f p (W.behind W.bad t) = expansion_of (E.expand_item m (S.item f p))

-- ---- a step

-- what the code holds of a step
pub record Stepped : Type 0 where
  pub kept : Option Op
  pub raised : Option Component
  pub partial : Held
  pub next : W.Stage × List ℕ
  pub begin : List ℕ
  pub end : List ℕ

-- of the code's step
abbrev pub step_is : Step → Stepped
step_is x = record { kept = x.kept; raised = x.raised; partial = partial_is x.partial; next = next_is x.next; begin = x.begin.now; end = x.end.now }

-- or nothing
abbrev pub step_in : Option Step → Option Stepped
step_in None = None
step_in (Some x) = Some (step_is x)

-- what it is to hold of a piece, from which the walk goes on at a stage
abbrev pub stepped : E.Piece → W.Stage × List ℕ → List ℕ → List ℕ → Stepped
stepped (E.piece o c p) n begin end = record { kept = kept_of o; raised = raised_of c; partial = held p; next = n; begin = begin; end = end }

-- there is no reading from there on
abbrev pub is_bad : W.Stage → Bool
is_bad W.item = false
is_bad W.range = false
is_bad W.right = false
is_bad W.only = false
is_bad W.end = false
is_bad W.bad = true

-- of a step whose item begins where `begin` does, and behind whose partial `end` stands; nothing where there is no reading from there on
abbrev pub step_of : List ℕ → List ℕ → W.Step → Option Stepped
step_of begin end (W.step x st r) = pick (is_bad st) None (Some (stepped x (st, r) begin end))

-- ---- where a step reads

-- a range begins
abbrev pub is_range : W.Stage → Bool
is_range W.item = false
is_range W.range = true
is_range W.right = false
is_range W.only = false
is_range W.end = false
is_range W.bad = false

-- where no item is read: a range is empty, and a further item is owed
abbrev pub unread : Bool → List ℕ → W.Step
unread first s = pick first (W.step_to E.everything (W.after_range s)) W.stuck

-- behind the partial of an item; where none is read, where the item would begin
abbrev pub item_end : List ℕ → List ℕ
item_end s = W.answer (read_partial (W.partial_at s)) (λ p r. r) s

-- where the item of the step from s on begins
abbrev pub begin_text : W.Stage → List ℕ → List ℕ
begin_text W.item s = s
begin_text W.range s = skip s
begin_text W.right s = s
begin_text W.only s = s
begin_text W.end s = s
begin_text W.bad s = s

-- behind the partial of the step from s on
abbrev pub end_text : W.Stage → List ℕ → List ℕ
end_text W.item s = item_end s
end_text W.range s = item_end (skip s)
end_text W.right s = W.answer (read_partial s) (λ p r. r) s
end_text W.only s = W.answer (read_partial s) (λ p r. r) s
end_text W.end s = s
end_text W.bad s = s

-- the step from s on
abbrev pub step_at : E.Compat → W.Stage → List ℕ → Option Stepped
step_at m st s = step_of (begin_text st s) (end_text st s) (W.next m st s)

-- the partial of the step from s on
abbrev pub partial_text : W.Stage → List ℕ → List ℕ
partial_text W.item s = W.partial_at s
partial_text W.range s = W.partial_at (skip s)
partial_text W.right s = s
partial_text W.only s = s
partial_text W.end s = s
partial_text W.bad s = s

-- the identifiers of x are given as the text that they begin in its partial, which s begins with; where there are none, as an empty text
abbrev pub Begins : List ℕ → Step → Type 0
Begins s x = x.partial.identifiers.now ≡ beginning s

-- ---- an item

-- what the code holds of an item, and what is left behind it
abbrev pub item_in : Option Item → Result (S.Prefix × Held)
item_in None = fail
item_in (Some i) = ok (prefix_of i.prefix, partial_is i.partial) i.end.now

-- what it is to hold of it, by what is read of its partial
abbrev pub item_of : List ℕ → Result S.Partial → Result (S.Prefix × Held)
item_of s fail = fail
item_of s (ok p r) = ok (W.prefix_at s, held p) r

-- i is what the code holds of an item of the partial p: then r is what it holds of its step
abbrev pub ItemStep : E.Compat → Bool → List ℕ → Item → Option Step → Type 0
ItemStep m first s i r =
    (p : S.Partial) → partial_is i.partial ≡ held p
    → step_in r ≡ step_of s i.end.now (W.taken m (prefix_of i.prefix) p (W.follow (first && W.is_bare (prefix_of i.prefix)) i.end.now))
