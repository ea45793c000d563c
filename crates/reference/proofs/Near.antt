-- 01's order of a range and the crate's. They differ in one case: a bare partial and a dash with no partial behind it. There 01's reader fails, and
-- the crate's reads the partial and leaves the dash, so that no separator and no end can follow. So both read the same texts.
-- Assumes nothing.
use mathlib.Core.Path.{◌≡◌, refl, sym, ap, ◌∙◌}
use Prim.Native.Nat.{ℕ, zero, suc}
use mathlib.Core.Bool.{Bool, true, false}
use mathlib.Core.List.{List, [], ◌∷◌}
use native.Mathlib.Omega.{arith}
use lib.Dec.{eqb}
use lib.ListN.{length}
use Rattle.rules.specs.Bytes.{bytes, pick, is_space, is_nonzero}
use Rattle.rules.specs.Syntax as S
use Rattle.rules.specs.Syntax.{Item, item, Range, nothing, items, hyphen, bare, Prefix}
use Rattle.rules.specs.Grammar as Gr
use Rattle.rules.specs.Grammar.{OneOf, Literal}
use Rattle.rules.specs.Parse as P
use Rattle.rules.specs.Parse.{Result, ◌then◌, choose, many, all, literal, one_of, count, skip, spaces₁, read_number, read_component, read_partial, read_prefix, read_item, read_gap, read_next, read_dash, read_items, after_item, read_range, read_separator, read_further, at_end, read_text}
use Rattle.rules.proofs.Results as Results
use Rattle.rules.proofs.Results.{Gives, gives_then}
use Rattle.rules.proofs.Sound.{literal-sound}
use Rattle.rules.proofs.Repeat.{many-answers}
use Rattle.rules.proofs.Complete.{many-fails, literal-fails}
use Rattle.rules.proofs.Follows.{space-stops}
use Rattle.reference.proofs.Items.{Marked, is-op, is-tilde, is-caret, prefix-marked}
use Rattle.reference.proofs.Ranges.{read_hyphen, read_listed, range_in_order}

-- ---- behind a partial, a dash

minus-item : {x v : List ℕ} → Literal (bytes "-") x v → read_item x ≡ P.fail
unfolding read_item read_prefix read_partial read_component read_number literal one_of choose ◌then◌ is_nonzero
minus-item (Gr.byte k) = refl

minus-bars : {x v : List ℕ} → Literal (bytes "-") x v → literal (0x7C ∷ 0x7C ∷ []) x ≡ P.fail
unfolding literal
minus-bars (Gr.byte k) = refl

minus-end : {x v : List ℕ} → Literal (bytes "-") x v → at_end x ≡ P.fail
unfolding at_end
minus-end (Gr.byte k) = refl

always : {A : Type 0} {Q : Type 0} → Q → (g : Result A) → Gives (λ a r. Q) g
always q P.fail = Results.nothing
always q (P.ok a r) = Results.gives q

-- no item follows, no separator, and not the end
record Stuck (s : List ℕ) : Type 0 where
  pub no-next : read_next s ≡ P.fail
  pub no-bars : read_separator s ≡ P.fail
  pub no_end : at_end (skip s) ≡ P.fail

skip-space : (c : ℕ) (s : List ℕ) → is_space c ≡ true → skip (c ∷ s) ≡ skip s
unfolding count
skip-space c s e = rw e refl

space-spaces : (c : ℕ) (s : List ℕ) → is_space c ≡ true → spaces₁ (c ∷ s) ≡ P.ok tt (skip s)
unfolding spaces₁ one_of ◌then◌
space-spaces c s e = rw e refl

space-stuck : (c : ℕ) (s : List ℕ) → is_space c ≡ true → {v : List ℕ} → Literal (bytes "-") (skip s) v → Stuck (c ∷ s)
unfolding read_next read_gap read_separator choose ◌then◌
space-stuck c s e k =
    let z : literal (44 ∷ []) (c ∷ s) ≡ P.fail = literal-fails 44 [] (c ∷ s) (space-stops (λ c. eqb c 44) {t = s} {c = c} refl refl (OneOf.one e)) in
    record {
      no-next = rw (z, space-spaces c s e, minus-item k) refl;
      no-bars = ap (λ x. literal (0x7C ∷ 0x7C ∷ []) x then λ u r. P.ok tt (skip r)) (skip-space c s e) ∙ rw (minus-bars k) refl;
      no_end = ap at_end (skip-space c s e) ∙ minus-end k;
    }

dash-stuck : (s : List ℕ) → Gives (λ u r. Stuck s) (read_dash s)
unfolding read_dash spaces₁ one_of ◌then◌
dash-stuck [] = Results.nothing
dash-stuck (c ∷ s) = go (is_space c) refl
  where
    go : (b : Bool) → is_space c ≡ b → Gives (λ u r. Stuck (c ∷ s)) ((pick b (P.ok c s) P.fail then λ c t. P.ok (tt {0}) (skip t)) then λ u t. literal (bytes "-") t then λ u v. spaces₁ v)
    go true e = gives_then (literal-sound (bytes "-") (skip s)) λ u v k. always (space-stuck c s e k) (spaces₁ v)
    go false e = Results.nothing

-- ---- ranges

-- 01's reader and the crate's
data Near : Result Range → Result Range → Type 0 where
  alike : {g : Result Range} → Near g g
  dashed : {a : Range} {r : List ℕ} → Stuck r → Near P.fail (P.ok a r)

near-alike : {g h : Result Range} → g ≡ h → Near g h
near-alike {g} e = rw (sym e) alike

-- items are always answered
items-or : (i : Item) (s : List ℕ) (h : Result Range) → choose (read_items i s) (λ a r. P.ok a r) h ≡ read_items i s
unfolding read_items choose ◌then◌
items-or i s h = let x = many-answers read_next (length s) s in rw x.2 refl

items-stuck : (i : Item) (s : List ℕ) → Stuck s → read_items i s ≡ P.ok (items i []) s
unfolding read_items ◌then◌
items-stuck i s h = rw (many-fails read_next (length s) s h.no-next) refl

marked-after : (f : Prefix) (p : S.Partial) (s : List ℕ) → Marked f → after_item (item f p) s ≡ read_items (item f p) s
unfolding after_item
marked-after f p s is-op = refl
marked-after f p s is-tilde = refl
marked-after f p s is-caret = refl

-- both readers of a range, of the prefix and the partial that s begins with
abbrev item_with : Result Prefix → Result S.Partial → Result Item
item_with g h = choose g (λ f t. read_partial (skip t) then λ p r. P.ok (item f p) r) (h then λ p r. P.ok (item bare p) r)

abbrev ours : List ℕ → Result Item → Result Range
ours s i = choose i (λ i t. after_item i t) (P.ok nothing s)

abbrev theirs : List ℕ → Result S.Partial → Result Item → Result Range
theirs s h i =
    choose (choose (h then λ p t. read_dash t then λ u v. read_partial v then λ q r. P.ok (hyphen p q) r) (λ a r. P.ok a r) (i then λ i t. read_items i t)) (λ a r. P.ok a r) (P.ok nothing s)

marked-near : (s : List ℕ) (f : Prefix) (k : Result S.Partial) → Marked f → Near (ours s (k then λ p r. P.ok (item f p) r)) (theirs s P.fail (k then λ p r. P.ok (item f p) r))
unfolding choose ◌then◌
marked-near s f P.fail m = alike
marked-near s f (P.ok p t) m = near-alike (marked-after f p t m ∙ sym (items-or (item f p) t _))

second-near : (s t : List ℕ) (p : S.Partial) (k : Result S.Partial) → Stuck t → Near (k then λ q r. P.ok (hyphen p q) r)
    (choose (choose (k then λ q r. P.ok (hyphen p q) r) (λ a r. P.ok a r) (read_items (item bare p) t)) (λ a r. P.ok a r) (P.ok nothing s))
unfolding choose ◌then◌
second-near s t p P.fail h = rw (items-or (item bare p) t (P.ok nothing s), items-stuck (item bare p) t h) (dashed h)
second-near s t p (P.ok q r) h = alike

dash-near : (s t : List ℕ) (p : S.Partial) (d : Result (Unit {0})) → Gives (λ u r. Stuck t) d → Near (choose d (λ u v. read_partial v then λ q r. P.ok (hyphen p q) r) (read_items (item bare p) t))
    (choose (choose (d then λ u v. read_partial v then λ q r. P.ok (hyphen p q) r) (λ a r. P.ok a r) (read_items (item bare p) t)) (λ a r. P.ok a r) (P.ok nothing s))
unfolding choose ◌then◌
dash-near s t p P.fail h = near-alike (sym (items-or (item bare p) t _))
dash-near s t p (P.ok u v) h = second-near s t p (read_partial v) (Results.given h)

prefix-near : (s : List ℕ) (g : Result Prefix) (h : Result S.Partial) → Gives (λ f r. (h ≡ P.fail) × Marked f) g → Near (ours s (item_with g h)) (theirs s h (item_with g h))
unfolding choose ◌then◌ after_item
prefix-near s (P.ok f r) P.fail v = marked-near s f (read_partial (skip r)) (Results.given v).1
prefix-near s (P.ok f r) (P.ok p t) v = let e = (Results.given v).0 in let z : ◌≡◌ {A = ℕ} 0 1 = cc in absurd (omega arith)
prefix-near s P.fail P.fail v = alike
prefix-near s P.fail (P.ok p t) v = dash-near s t p (read_dash t) (dash-stuck t)

range-near : (s : List ℕ) → Near (read_range s) (range_in_order s)
unfolding read_range range_in_order read_hyphen read_listed read_item
range-near s = prefix-near s (read_prefix s) (read_partial s) (prefix-marked s)

-- ---- texts

unfoldable pub further_in_order : List ℕ → Result Range
further_in_order s = read_separator s then λ u t. range_in_order t

unfoldable pub text_in_order : List ℕ → Result (List Range)
text_in_order s = range_in_order (skip s) then λ a t. all further_in_order t then λ l r. at_end (skip r) then λ u e. P.ok (a ∷ l) e

-- the same ranges, or such as are not behind the end
data Close : Result (List Range) → Result (List Range) → Type 0 where
  alike : {g : Result (List Range)} → Close g g
  neither : {k l : List Range} {r q : List ℕ} → at_end (skip r) ≡ P.fail → at_end (skip q) ≡ P.fail → Close (P.ok k r) (P.ok l q)

close_more : (a : Range) {g h : Result (List Range)} → Close g h → Close (g then λ l r. P.ok (a ∷ l) r) (h then λ l r. P.ok (a ∷ l) r)
unfolding ◌then◌
close_more a alike = alike
close_more a (neither e f) = neither e f

bars-end : {x v : List ℕ} → Literal (0x7C ∷ 0x7C ∷ []) x v → at_end x ≡ P.fail
unfolding at_end
bars-end (Gr.byte k) = refl

separator-end : (s : List ℕ) → Gives (λ u r. at_end (skip s) ≡ P.fail) (read_separator s)
unfolding read_separator
separator-end s = gives_then (literal-sound (0x7C ∷ 0x7C ∷ []) (skip s)) λ u r k. Results.gives (bars-end k)

stuck-further : (s : List ℕ) → Stuck s → further_in_order s ≡ P.fail
unfolding further_in_order ◌then◌
stuck-further s h = rw h.no-bars refl

many-close : (k : ℕ) (s : List ℕ) → Close (many read_further k s) (many further_in_order k s)
unfolding many read_further further_in_order choose ◌then◌
many-close zero s = alike
many-close (suc k) s = separated (read_separator s) (separator-end s) (many-close k)
  where
    same : (g : Result Range) → ((r : List ℕ) → Close (many read_further k r) (many further_in_order k r))
        → Close (choose g (λ a t. many read_further k t then λ l r. P.ok (a ∷ l) r) (P.ok [] s)) (choose g (λ a t. many further_in_order k t then λ l r. P.ok (a ∷ l) r) (P.ok [] s))
    same P.fail rec = alike
    same (P.ok a r) rec = close_more a (rec r)

    ranged : {g h : Result Range} → at_end (skip s) ≡ P.fail → Near g h → ((r : List ℕ) → Close (many read_further k r) (many further_in_order k r))
        → Close (choose g (λ a t. many read_further k t then λ l r. P.ok (a ∷ l) r) (P.ok [] s)) (choose h (λ a t. many further_in_order k t then λ l r. P.ok (a ∷ l) r) (P.ok [] s))
    ranged e (Near.alike {g}) rec = same g rec
    ranged e (Near.dashed {r} st) rec = rw (many-fails further_in_order k r (stuck-further r st)) (neither e st.no_end)

    separated : (g : Result (Unit {0})) → Gives (λ u r. at_end (skip s) ≡ P.fail) g → ((r : List ℕ) → Close (many read_further k r) (many further_in_order k r))
        → Close (choose (g then λ u t. read_range t) (λ a t. many read_further k t then λ l r. P.ok (a ∷ l) r) (P.ok [] s)) (choose (g then λ u t. range_in_order t) (λ a t. many further_in_order k t then λ l r. P.ok (a ∷ l) r) (P.ok [] s))
    separated P.fail h rec = alike
    separated (P.ok u t) h rec = ranged (Results.given h) (range-near t) rec

close-ending : (a : Range) {g h : Result (List Range)} → Close g h
    → (g then λ l r. at_end (skip r) then λ u e. P.ok (a ∷ l) e) ≡ (h then λ l r. at_end (skip r) then λ u e. P.ok (a ∷ l) e)
unfolding ◌then◌
close-ending a alike = refl
close-ending a (neither e f) = rw (e, f) refl

near-ending : {g h : Result Range} → Near g h → (g then λ a t. all read_further t then λ l r. at_end (skip r) then λ u e. P.ok (a ∷ l) e)
    ≡ (h then λ a t. all further_in_order t then λ l r. at_end (skip r) then λ u e. P.ok (a ∷ l) e)
unfolding ◌then◌
near-ending (Near.alike {g}) = go g
  where
    go : (g : Result Range) → (g then λ a t. all read_further t then λ l r. at_end (skip r) then λ u e. P.ok (a ∷ l) e)
        ≡ (g then λ a t. all further_in_order t then λ l r. at_end (skip r) then λ u e. P.ok (a ∷ l) e)
    go P.fail = refl
    go (P.ok a t) = close-ending a (many-close (length t) t)
near-ending (Near.dashed {r} st) = sym (rw (many-fails further_in_order (length r) r (stuck-further r st)) (rw st.no_end refl))

-- both read the same texts, as the same ranges
pub text-as : (s : List ℕ) → read_text s ≡ text_in_order s
unfolding read_text text_in_order
text-as s = near-ending (range-near (skip s))
