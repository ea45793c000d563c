-- The step of a piece, by what stands behind its partial.
-- Assumes nothing.
use Rattle.std.proofs.Common.{ℕ, ◌≡◌, Bool, true, false, not, is_some, List, [], refl, Option, Some, None, IfSome, Bor, ◌∙◌, ap, sym}
use Rattle.rules.specs.Syntax as S
use Rattle.rules.specs.Parse.{Result, fail, ok, read_partial}
use Rattle.rules.specs.Expansion as E
use Rattle.rules.specs.Expansion.{major_of, minor_of, partial_in, expand_item, expand_left, expand_right}
use Rattle.rules.specs.Walk as W
use Rattle.rules.proofs.Pieces.{gives-partial, item-gives, left-partial, right-partial}
use Rattle.lexer.specs.Views.{begun}
use Rattle.partial.specs.Views.{Held, held, kind_of, saturated, partial_of, beginning, identifiers_read, from_start}
use Rattle.partial.specs.declared.PartialKind.{PartialKind}
use Rattle.partial.specs.declared.PartialKind.TheVariants.{XRangeOnly, MajorOnly, MajorMinor, MajorMinorPatch}
use Rattle.range.specs.Views.{prefix_of, expansion_of, shape_of}
use Rattle.range.specs.declared.Prefix.{Prefix}
use Rattle.range.specs.declared.Expansion.{Expansion}
use Rattle.walk.specs.Views.{stage_of, behind_is, closed_is, next_behind, behind_next, expansion_behind, is_bad, Stepped, stepped, step_of, step_at, item_of, Begins}
use Rattle.walk.specs.declared.Stage.TheVariants as Stages
use Rattle.walk.specs.declared.Step.{Step}
use Rattle.walk.specs.declared.Behind.{Behind}
use Rattle.walk.specs.declared.Behind.TheVariants as Behinds
use Rattle.walk.proofs.Shapes.{item-shape, left-shape, numbers}

pub left_any : (k : PartialKind) (a b : ℕ) (x : Expansion) → x ≡ expansion_of (expand_left (shape_of k 0 0)) → x ≡ expansion_of (expand_left (shape_of k a b))
left_any k a b x e = e ∙ numbers expand_left left-shape k a b

-- what is held of a piece is its expansion and its partial
abbrev made : Expansion → Held → W.Stage × List ℕ → List ℕ → List ℕ → Stepped
made x h n begin end = record { kept = x.kept; raised = x.raised; partial = h; next = n; begin = begin; end = end }

made_is : (y : E.Piece) (n : W.Stage × List ℕ) (begin end : List ℕ) → made (expansion_of y) (held (partial_in y)) n begin end ≡ stepped y n begin end
made_is (E.piece o c p) n begin end = refl

right_by_kind : (p : S.Partial) → stage_of (Stages.Right (kind_of p)) ≡ W.right_of p
right_by_kind S.x_range_only = refl
right_by_kind (S.major_only a) = refl
right_by_kind (S.major_minor a b) = refl
right_by_kind (S.major_minor_patch a b c is) = refl

item_is : (m : E.Compat) (f : S.Prefix) (p : S.Partial) (n : W.Stage × List ℕ) (s end : List ℕ)
    → made (expansion_of (expand_item m (S.item f (shape_of (kind_of p) (saturated (major_of p)) (saturated (minor_of p)))))) (held p) n s end ≡ stepped (expand_item m (S.item f p)) n s end
item_is m f p n s end =
    ap (λ x. made x (held p) n s end) (sym (item-shape m f p))
    ∙ ap (λ q. made (expansion_of (expand_item m (S.item f p))) (held q) n s end) (sym (gives-partial (item-gives m f p)))
    ∙ made_is (expand_item m (S.item f p)) n s end

left_is : (p : S.Partial) (a b : ℕ) (n : W.Stage × List ℕ) (s end : List ℕ) → made (expansion_of (expand_left (shape_of (kind_of p) a b))) (held p) n s end ≡ stepped (expand_left p) n s end
left_is p a b n s end =
    ap (λ x. made x (held p) n s end) (sym (left-shape p a b))
    ∙ ap (λ q. made (expansion_of (expand_left p)) (held q) n s end) (sym (left-partial p))
    ∙ made_is (expand_left p) n s end

right_is : (l q : S.Partial) (n : W.Stage × List ℕ) (s end : List ℕ) → made (expansion_of (expand_right l (shape_of (kind_of q) 0 0))) (held q) n s end ≡ stepped (expand_right l q) n s end
unfolding expand_right
right_is l q n s end =
    ap (λ x. made x (held q) n s end) (sym (second q))
    ∙ ap (λ p. made (expansion_of (expand_right l q)) (held p) n s end) (sym (right-partial l q))
    ∙ made_is (expand_right l q) n s end
  where
    second : (q : S.Partial) → expansion_of (expand_right l q) ≡ expansion_of (expand_right l (shape_of (kind_of q) 0 0))
    second S.x_range_only = refl
    second (S.major_only a) = refl
    second (S.major_minor a b) = refl
    second (S.major_minor_patch a b c is) = refl

plain_right : (p : S.Partial) → is_bad (W.right_of p) ≡ false
plain_right S.x_range_only = refl
plain_right (S.major_only a) = refl
plain_right (S.major_minor a b) = refl
plain_right (S.major_minor_patch a b c is) = refl

taken_is : (m : E.Compat) (f : S.Prefix) (p : S.Partial) (s end : List ℕ) (b : Behind)
    → Some (made (expansion_behind m f (shape_of (kind_of p) (saturated (major_of p)) (saturated (minor_of p))) (behind_is b)) (held p)
    (next_behind (behind_is b) (stage_of (Stages.Right (kind_of p)))) s end) ≡ step_of s end (W.taken m f p (behind_is b))
taken_is m f p s end (Behinds.Item t) = ap Some (item_is m f p (W.item, t.now) s end)
taken_is m f p s end (Behinds.Range t) = ap Some (item_is m f p (W.range, t.now) s end)
taken_is m f p s end (Behinds.Dash t) = rw (right_by_kind p, plain_right p) (ap Some (left_is p _ _ (W.right_of p, t.now) s end))
taken_is m f p s end Behinds.End = ap Some (item_is m f p (W.end, []) s end)

pub taken_lem : (m : E.Compat) (f : S.Prefix) (p : S.Partial) (s end : List ℕ) (w : W.Behind) (b : Behind) (h : Held) (x : Expansion) (n : W.Stage × List ℕ)
    → h ≡ held p → x ≡ expansion_behind m f (shape_of h.kind h.major h.minor) (behind_is b) → n ≡ next_behind (behind_is b) (stage_of (Stages.Right h.kind)) → behind_is b ≡ w
    → Some (made x h n s end) ≡ step_of s end (W.taken m f p w)
unfolding held
taken_lem m f p s end w b h x n e q k j = rw (q, k, e) (taken_is m f p s end b ∙ ap (λ w. step_of s end (W.taken m f p w)) j)

pub right_lem : (l : PartialKind) (s end : List ℕ) (b : Option (Bor (List ℕ))) (h : Held) (x : Expansion) (n : W.Stage × List ℕ) → ok h end ≡ partial_of (read_partial s)
    → x ≡ expansion_of (expand_right (shape_of l 0 0) (shape_of h.kind 0 0)) → behind_next n ≡ closed_is b → closed_is b ≡ W.after_range end
    → Some (made x h n s end) ≡ step_of s (W.answer (read_partial s) (λ p r. r) s) (W.next_right (shape_of l 0 0) s)
unfolding W.next_right held
right_lem l s end b h x n e q k j = go (read_partial s) e
  where
    to : (y : E.Piece) (b : Option (Bor (List ℕ))) (n : W.Stage × List ℕ) → behind_next n ≡ closed_is b → Some (stepped y n s end) ≡ step_of s end (W.step_to y (closed_is b))
    to y (Some t) (st, r) k = let i : st ≡ W.range = cc in let j : r ≡ t.now = cc in rw (i, j) refl
    to y None (st, r) k = let i : st ≡ W.end = cc in let j : r ≡ [] = cc in rw (i, j) refl

    go : (g : Result S.Partial) → ok h end ≡ partial_of g
        → Some (made x h n s end) ≡ step_of s (W.answer g (λ p r. r) s) (W.answer g (λ q r. W.step_to (expand_right (shape_of l 0 0) q) (W.after_range r)) W.stuck)
    go fail e = cc
    go (ok p r) e =
        let i : h ≡ held p = cc in
        let u : end ≡ r = cc in
        rw (q, i)
        (ap Some (right_is (shape_of l 0 0) p n s end) ∙ to (expand_right (shape_of l 0 0) p) b n k
        ∙ ap (λ w. step_of s end (W.step_to (expand_right (shape_of l 0 0) p) w)) j
        ∙ ap (λ t. step_of s t (W.step_to (expand_right (shape_of l 0 0) p) (W.after_range t))) u)

-- of a left side the right side's expansion asks only whether it is a wildcard
number_left : (p : S.Partial) (s : List ℕ) → ((q : S.Partial) → expand_right p q ≡ expand_right (S.major_only 0) q) → W.next_right p s ≡ W.next_right (S.major_only 0) s
unfolding W.next_right
number_left p s h = go (read_partial s)
  where
    go : (g : Result S.Partial)
        → W.answer g (λ q r. W.step_to (expand_right p q) (W.after_range r)) W.stuck ≡ W.answer g (λ q r. W.step_to (expand_right (S.major_only 0) q) (W.after_range r)) W.stuck
    go fail = refl
    go (ok q r) = ap (λ x. W.step_to x (W.after_range r)) (h q)

pub right_at : (m : E.Compat) (l : PartialKind) (s : List ℕ)
    → step_of s (W.answer (read_partial s) (λ p r. r) s) (W.next_right (shape_of l 0 0) s) ≡ step_at m (stage_of (Stages.Right l)) s
unfolding W.next expand_right
right_at m XRangeOnly s = refl
right_at m MajorOnly s = refl
right_at m MajorMinor s = rw (number_left (S.major_minor 0 0) s two) refl
  where
    two : (q : S.Partial) → expand_right (S.major_minor 0 0) q ≡ expand_right (S.major_only 0) q
    two S.x_range_only = refl
    two (S.major_only a) = refl
    two (S.major_minor a b) = refl
    two (S.major_minor_patch a b c is) = refl
right_at m MajorMinorPatch s = rw (number_left (S.major_minor_patch 0 0 0 []) s three) refl
  where
    three : (q : S.Partial) → expand_right (S.major_minor_patch 0 0 0 []) q ≡ expand_right (S.major_only 0) q
    three S.x_range_only = refl
    three (S.major_only a) = refl
    three (S.major_minor a b) = refl
    three (S.major_minor_patch a b c is) = refl

-- where no partial is read, no identifiers are
unread_text : (s : List ℕ) → fail ≡ item_of s (read_partial (W.partial_at s)) → [] ≡ beginning (W.partial_at s)
unfolding beginning
unread_text s e = go (read_partial (W.partial_at s)) e
  where
    go : (g : Result S.Partial) → fail ≡ item_of s g → [] ≡ begun (identifiers_read g) (from_start (W.partial_at s))
    go fail e = refl
    go (ok p r) e = cc

-- so the step that no item gives is given what that text begins
pub unread_begins : (s : List ℕ) (o : Option Step) → fail ≡ item_of s (read_partial (W.partial_at s)) → IfSome o (λ x. x.partial.identifiers.now ≡ []) → IfSome o (Begins (W.partial_at s))
unread_begins s None e h = tt
unread_begins s (Some x) e h = h ∙ unread_text s e

-- a bare item has no prefix
pub bare_is : (f : Option Prefix) (b : Bool) → is_some f ≡ not b → b ≡ W.is_bare (prefix_of f)
bare_is None true e = refl
bare_is None false e = cc
bare_is (Some f) true e = cc
bare_is (Some Prefix.Tilde) false e = refl
bare_is (Some Prefix.Caret) false e = refl
bare_is (Some (Prefix.Op o)) false e = refl
