-- A pass over an accepted text: the extents of the items that are still to come (02, N2), and what a step says of its item's.
-- Assumes nothing.
use Rattle.std.proofs.Common.{ℕ, ◌-◌, ◌≤◌, ◌≡◌, Bool, true, false, List, [], ◌∷◌, length, refl, Some, ◌∙◌, ap, sym, arith}
use Rattle.std.proofs.Math.Option.{some}
use Rattle.rules.specs.Parse.{Result, fail, ok, list_of}
use Rattle.rules.specs.Expansion as E
use Rattle.rules.specs.Expansion.{Piece, piece}
use Rattle.rules.specs.Extents.{Extent, extent, text_extents}
use Rattle.rules.specs.Walk as W
use Rattle.rules.specs.Walk.{WalksExtents, goes_on, opening, push, map_option, begin_at, end_at, extent_at}
use Rattle.rules.proofs.ExtentLaws.{found, text-extents}
use Rattle.rules.proofs.ExtentSteps.{extents-on, extents-count, end-most, begin-most, rest-most}
use Rattle.walk.specs.Views.{Stepped, stepped, step_at, begin_text, end_text}
use Rattle.passes.proofs.Turn.{Turned, turned}
use Rattle.passes.proofs.Passing.{Passing, mapped}
use Rattle.passes.proofs.Ends.{is_side, ends, side_end, step_ends}

-- In the text s these extents are still to come, from n on. b bytes are left where the hyphen range begins whose right side stands here.
pub record Extending (m : E.Compat) (s : List ℕ) (n : W.Stage × List ℕ) (b : ℕ) : Type 0 where
  pub coming : List (List Extent)
  pub walks : WalksExtents m n.0 b n.1 (some coming)
  pub begun : b ≤ length s
  pub before : length n.1 ≤ b

-- ---- the start

-- all of them are to come
pub record ExtendingAll (m : E.Compat) (s : List ℕ) : Type 0 where
  pub extending : Extending m s (W.range, s) (length s)
  pub all : extending.coming ≡ [] ∷ list_of (text_extents s)

pub extending_all : (m : E.Compat) (s : List ℕ) → Passing m (W.range, s) → ExtendingAll m s
extending_all m s p = go (text_extents s) refl (text-extents m (length s) s)
  where
    go : (g : Result (List (List Extent))) → text_extents s ≡ g → WalksExtents m W.range (length s) s (map_option (λ es. [] ∷ es) (found g)) → ExtendingAll m s
    go fail e w = absurd (extents-count p.walks w)
    go (ok l r) e w = record { extending = record { coming = [] ∷ l; walks = w; begun = omega arith; before = omega arith }; all = rw e refl }

-- ---- a step

-- where an item is read, and not a right side
abbrev pub is_item : W.Stage → Bool
is_item W.item = true
is_item W.range = true
is_item W.right = false
is_item W.only = false
is_item W.end = false
is_item W.bad = false

item_begin : (st : W.Stage) → is_item st ≡ true → (b : ℕ) (s : List ℕ) → begin_at st b s ≡ length (begin_text st s)
item_begin W.item i b s = refl
item_begin W.range i b s = refl
item_begin W.right i b s = cc
item_begin W.only i b s = cc
item_begin W.end i b s = cc
item_begin W.bad i b s = cc

side_begin : (st : W.Stage) → is_side st ≡ true → (b : ℕ) (s : List ℕ) → begin_at st b s ≡ b
side_begin W.item i b s = cc
side_begin W.range i b s = cc
side_begin W.right i b s = refl
side_begin W.only i b s = refl
side_begin W.end i b s = cc
side_begin W.bad i b s = cc

own_ends : (st : W.Stage) → is_side st ≡ false → (v : List ℕ) (n : ℕ) → ends st v n ≡ n
own_ends W.item i v n = refl
own_ends W.range i v n = refl
own_ends W.right i v n = cc
own_ends W.only i v n = cc
own_ends W.end i v n = refl
own_ends W.bad i v n = refl

side_ends : (st : W.Stage) → is_side st ≡ true → (v : List ℕ) (n : ℕ) → ends st v n ≡ length (end_text st v)
side_ends W.item i v n = cc
side_ends W.range i v n = cc
side_ends W.right i v n = refl
side_ends W.only i v n = refl
side_ends W.end i v n = cc
side_ends W.bad i v n = cc

module _ (n : W.Stage × List ℕ) (b e : List ℕ) where
  begins_there : (y : Piece) → (stepped y n b e).begin ≡ b
  begins_there (piece o c p) = refl

  ends_there : (y : Piece) → (stepped y n b e).end ≡ e
  ends_there (piece o c p) = refl

pub step_end : (m : E.Compat) (n : W.Stage × List ℕ) (x : Stepped) → Some x ≡ step_at m n.0 n.1 → x.end ≡ end_text n.0 n.1
step_end m n x e = let t = turned m n.0 n.1 x e in ap (λ z. z.end) t.held ∙ ends_there _ _ _ t.of

-- The extent of a step's item: it begins where begin bytes are left, and ends where end are.
pub record Extends (s : List ℕ) (e : Extent) (begin end : ℕ) : Type 0 where
  pub is : e ≡ extent begin (begin - end)
  pub within : begin ≤ length s
  pub least : end ≤ begin

-- the step x: its item's extent, and those behind it
pub record Extended {m : E.Compat} {s : List ℕ} {n : W.Stage × List ℕ} {b : ℕ} (g : Extending m s n b) (x : Stepped) : Type 0 where
  pub next : Extending m s x.next (begin_at n.0 b n.1)
  pub is : g.coming ≡ opening n.0 (push (extent_at n.0 b n.1) next.coming)

module _ {m : E.Compat} {s : List ℕ} {n : W.Stage × List ℕ} {b : ℕ} (g : Extending m s n b) (t : goes_on n.0 ≡ true) (x : Stepped) (e : Some x ≡ step_at m n.0 n.1) where
  here : Turned m n.0 n.1 x
  here = turned m n.0 n.1 x e

  begin_own : x.begin ≡ begin_text n.0 n.1
  begin_own = ap (λ z. z.begin) here.held ∙ begins_there _ _ _ here.of

  end_own : x.end ≡ end_text n.0 n.1
  end_own = step_end m n x e

  within : begin_at n.0 b n.1 ≤ length s
  within = let c = g.before in let a = g.begun in begin-most n.0 b n.1 (length s) (omega arith) a

  pub extended : Extended g x
  extended =
      let o = extents-on here.of x.next.0 x.next.1 g.walks t here.is in
      let k = mapped (λ es. opening n.0 (push (extent_at n.0 b n.1) es)) g.coming o.behind o.is in
      record {
        next =
            record {
              coming = k.behind;
              walks = rw k.some_is at o.walks;
              begun = within;
              before = rest-most m n.0 b n.1 g.before here.of x.next.0 x.next.1 here.is;
            };
        is = k.is;
      }

  extends_at : (begin end : ℕ) → begin_at n.0 b n.1 ≡ begin → end_at n.0 n.1 ≡ end → Extends s (extent_at n.0 b n.1) begin end
  extends_at begin end h k =
      record { is = rw (h, k) refl; within = omega (arith, h, within); least = omega (arith, h, k, end-most n.0 b n.1 g.before) }

  end_is : end_at n.0 n.1 ≡ ends x.next.0 x.next.1 (length x.end)
  end_is = step_ends m n.0 n.1 here.of x.next.0 x.next.1 t here.is ∙ ap (λ z. ends x.next.0 x.next.1 (length z)) (sym end_own)

  pub item_begins : is_item n.0 ≡ true → begin_at n.0 b n.1 ≡ length x.begin
  item_begins i = item_begin n.0 i b n.1 ∙ ap length (sym begin_own)

  -- no right side follows
  pub own_item : is_item n.0 ≡ true → is_side x.next.0 ≡ false → Extends s (extent_at n.0 b n.1) (length x.begin) (length x.end)
  own_item i d = extends_at _ _ (item_begins i) (end_is ∙ own_ends x.next.0 d _ _)

  -- one does, which is y
  pub left_item : is_item n.0 ≡ true → is_side x.next.0 ≡ true → (y : Stepped) → y.end ≡ end_text x.next.0 x.next.1
      → Extends s (extent_at n.0 b n.1) (length x.begin) (length y.end)
  left_item i d y k = extends_at _ _ (item_begins i) (end_is ∙ side_ends x.next.0 d _ _ ∙ ap length (sym k))

  -- the right side itself
  pub right_item : is_side n.0 ≡ true → Extends s (extent_at n.0 b n.1) b (length x.end)
  right_item d = extends_at _ _ (side_begin n.0 d b n.1) (side_end n.0 n.1 d ∙ ap length (sym end_own))
