-- Items: the crate's `simple` meets 01's reader, and its pairs are expanded as 01 expands the item.
-- Assumes nothing.
use mathlib.Core.Path.{◌≡◌, refl, sym, ap, ◌∙◌}
use Prim.Native.Nat.{ℕ}
use mathlib.Core.Bool.{Bool, true, false}
use mathlib.Core.List.{List, [], ◌∷◌, append-nil}
use Rattle.rules.specs.Bytes.{bytes, is_nonzero}
use Rattle.rules.specs.Syntax as S
use Rattle.rules.specs.Syntax.{Op, lt, lte, gt, gte, eq, Item, item, bare, tilde, caret, op}
use Rattle.rules.specs.Expansion.{Comparator, comparators, expand_item}
use Rattle.rules.specs.Answers.{partial_fits, item_fits}
use Rattle.rules.specs.Grammar as Gr
use Rattle.rules.specs.Grammar.{Literal}
use Rattle.rules.specs.Parse as P
use Rattle.rules.specs.Parse.{Result, ◌then◌, choose, literal, one_of, skip, read_number, read_component, read_partial, read_prefix, read_item}
use Rattle.rules.proofs.Results as Results
use Rattle.rules.proofs.Results.{Gives, gives_then, gives-choose}
use Rattle.rules.proofs.Sound.{literal-sound}
use Rattle.reference.specs.Rule.{Rule}
use Rattle.reference.specs.Pest.{Pairs, end, pair, ◌⊕◌, ParseResult, and_then, or_else, span, matched, run}
use Rattle.reference.specs.Generated as G
use Rattle.reference.specs.Rust.{OrPanic, gives, panics, ◌and◌, same, joined}
use Rattle.reference.specs.Range.{Compat, kind, parse-partial, op-of, from-partial, from-op, from-tilde, handle-caret-range, first-partial, from-primitive, simple-record, simple-from-pair-iterator}
use Rattle.reference.specs.Seen.{mode}
use Rattle.reference.proofs.Meets.{queued-end, chain₃, Meets, Within, inside, via, within-map, meets-map, or-meets, sequence-meets, rule-meets, and-within, matched-meets}
use Rattle.reference.proofs.Texts.{span_of, literal-text}
use Rattle.reference.proofs.Lexed.{spaces-run}
use Rattle.reference.proofs.Partials.{view_of, given, IsPartial, is_partial, partial-meets}
use Rattle.reference.proofs.Expands.{said, expands-bare, expands-op, expands-caret, expands-tilde}

-- ---- what the crate answers to an item

unfoldable pub item_said : Compat → Item → OrPanic (List Comparator)
item_said m i = given (item_fits i) (said (comparators (expand_item (mode m) i)))

pub given-and : {A B : Type 0} (b : Bool) (a : A) (f : A → OrPanic B) → (given b (gives a) and f) ≡ given b (f a)
unfolding ◌and◌
given-and true a f = refl
given-and false a f = refl

pub given-same : {A : Type 0} (b : Bool) {x y : OrPanic A} → (b ≡ true → x ≡ y) → given b x ≡ given b y
given-same true h = h refl
given-same false h = refl

pub joined-none : {A : Type 0} (x : OrPanic (List A)) → joined x (gives []) ≡ x
unfolding joined
joined-none (gives l) = rw append-nil
joined-none panics = refl

-- a partial that is read, and expanded
then-expand : (p : S.Partial) (k : Pairs) (f : _ → OrPanic (List Comparator)) (cs : List Comparator) → parse-partial k ≡ given (partial_fits p) (gives (view_of p))
    → (partial_fits p ≡ true → f (view_of p) ≡ said cs) → (parse-partial k and f) ≡ given (partial_fits p) (said cs)
then-expand p k f cs e h = ap (λ x. x and f) e ∙ given-and (partial_fits p) (view_of p) f ∙ given-same (partial_fits p) h

-- one pair in `simple`
pub data IsRecord : Item → Pairs → Type 0 where
  is_record : {i : Item} {n : Rule} {w : List ℕ} {k : Pairs} → ((m : Compat) → simple-record m n k ≡ item_said m i) → IsRecord i (pair n w k end)

pub data IsItem : Item → Pairs → Type 0 where
  is_item : {i : Item} {w : List ℕ} {k : Pairs} → ((m : Compat) → simple-from-pair-iterator m k ≡ item_said m i) → IsItem i (pair Rule.simple w k end)

bare-record : (p : S.Partial) (q : Pairs) → IsPartial p q → IsRecord (item bare p) q
unfolding simple-record item_said item_fits expand_item
bare-record p q (is_partial {k} h) = is_record λ m. then-expand p k (λ p. from-partial m (kind p) p) (comparators (expand_item (mode m) (item bare p))) h (expands-bare m p)

tilde-record : (p : S.Partial) (w : List ℕ) (q : Pairs) → IsPartial p q → IsRecord (item tilde p) (pair Rule.tilde w q end)
unfolding simple-record first-partial item_said item_fits expand_item
tilde-record p w q (is_partial {k} h) = is_record λ m. then-expand p k (λ p. from-tilde (kind p) p) (comparators (expand_item (mode m) (item tilde p))) h (expands-tilde p)

caret-record : (p : S.Partial) (w : List ℕ) (q : Pairs) → IsPartial p q → IsRecord (item caret p) (pair Rule.caret w q end)
unfolding simple-record first-partial item_said item_fits expand_item
caret-record p w q (is_partial {k} h) = is_record λ m. then-expand p k handle-caret-range (comparators (expand_item (mode m) (item caret p))) h (expands-caret p)

-- ---- operators

pub data IsOp : Op → Pairs → Type 0 where
  is_op : {o : Op} {w : List ℕ} → op-of w ≡ gives o → IsOp o (pair Rule.primitive-op w end end)

op-record : (o : Op) (p : S.Partial) (w : List ℕ) (x q : Pairs) → IsOp o x → IsPartial p q → IsRecord (item (op o) p) (pair Rule.primitive w (x ⊕ q) end)
unfolding simple-record from-primitive first-partial item_said item_fits expand_item ◌⊕◌ ◌and◌
op-record o p w x q (is_op e) (is_partial {k} h) =
    is_record λ m. ap (λ y. y and λ o. parse-partial k and λ p. from-op o (kind p) p) e ∙ then-expand p k (λ p. from-op o (kind p) p) (comparators (expand_item (mode m) (item (op o) p))) h (expands-op o p)

abbrev read_as : {A : Type 0} → List ℕ → A → List ℕ → Result A
read_as w o s = literal w s then λ u r. P.ok o r

-- one, or else the other
abbrev pub ◌or◌ : {A : Type 0} → Result A → Result A → Result A
g or h = choose g (λ a r. P.ok a r) h

infixl 20 ◌or◌
unfoldable read_op : List ℕ → Result Op
read_op s = read_as (bytes "<=") lte s or read_as (bytes ">=") gte s or read_as (bytes ">") gt s or read_as (bytes "<") lt s or read_as (bytes "=") eq s

unfoldable read_tilde : List ℕ → Result (Unit {0})
read_tilde s = literal (bytes "~>") s or literal (bytes "~") s

-- behind it spaces and a partial
abbrev spaced_item : {A : Type 0} → (A → S.Partial → Item) → Result A → Result Item
spaced_item k g = g then λ a r. read_partial (skip r) then λ p r. P.ok (k a p) r

-- the crate's order: operators, a bare partial, tilde, caret
unfoldable item_in_order : List ℕ → Result Item
item_in_order s = spaced_item (λ o. item (op o)) (read_op s) or (read_partial s then λ p r. P.ok (item bare p) r) or spaced_item (λ u. item tilde) (read_tilde s) or spaced_item (λ u. item caret) (literal (bytes "^") s)

-- ---- 01's order is as good: what begins with an operator, a tilde or a caret is no partial

data Opens : List ℕ → Type 0 where
  opens-lt : {s : List ℕ} → Opens (60 ∷ s)
  opens-gt : {s : List ℕ} → Opens (62 ∷ s)
  opens-eq : {s : List ℕ} → Opens (61 ∷ s)

or-gives : {A : Type 0} {Q : A → List ℕ → Type 0} {g h : Result A} → Gives Q g → Gives Q h → Gives Q (g or h)
or-gives x y = gives-choose x (λ a r q. Results.gives q) y

op-opens : (s : List ℕ) → Gives (λ o r. Opens s) (read_op s)
unfolding read_op
op-opens s =
    or-gives (or-gives (or-gives (or-gives (spelled (bytes "<=") lte λ r. lt₂) (spelled (bytes ">=") gte λ r. gt₂)) (spelled (bytes ">") gt λ r. gt₁)) (spelled (bytes "<") lt λ r. lt₁))
    (spelled (bytes "=") eq λ r. eq₁)
  where
    spelled : (w : List ℕ) (o : Op) → ((r : List ℕ) → Literal w s r → Opens s) → Gives (λ o r. Opens s) (read_as w o s)
    spelled w o h = gives_then (literal-sound w s) λ u r k. Results.gives (h r k)

    lt₂ : {s r : List ℕ} → Literal (bytes "<=") s r → Opens s
    lt₂ (Gr.byte k) = opens-lt

    gt₂ : {s r : List ℕ} → Literal (bytes ">=") s r → Opens s
    gt₂ (Gr.byte k) = opens-gt

    gt₁ : {s r : List ℕ} → Literal (bytes ">") s r → Opens s
    gt₁ (Gr.byte k) = opens-gt

    lt₁ : {s r : List ℕ} → Literal (bytes "<") s r → Opens s
    lt₁ (Gr.byte k) = opens-lt

    eq₁ : {s r : List ℕ} → Literal (bytes "=") s r → Opens s
    eq₁ (Gr.byte k) = opens-eq

opens-partial : {s : List ℕ} → Opens s → read_partial s ≡ P.fail
unfolding read_partial read_component read_number literal one_of choose ◌then◌ is_nonzero
opens-partial opens-lt = refl
opens-partial opens-gt = refl
opens-partial opens-eq = refl

opens-tilde : {s : List ℕ} → Opens s → read_tilde s ≡ P.fail
unfolding read_tilde literal choose
opens-tilde opens-lt = refl
opens-tilde opens-gt = refl
opens-tilde opens-eq = refl

opens-caret : {s : List ℕ} → Opens s → literal (bytes "^") s ≡ P.fail
unfolding literal
opens-caret opens-lt = refl
opens-caret opens-gt = refl
opens-caret opens-eq = refl

data Tilded : List ℕ → Type 0 where
  tilded : {s : List ℕ} → Tilded (126 ∷ s)

tilde-opens : (s : List ℕ) → Gives (λ u r. Tilded s) (read_tilde s)
unfolding read_tilde
tilde-opens s = gives-choose (literal-sound (bytes "~>") s) (λ u r k. Results.gives (two k)) (Results.gives-map (literal-sound (bytes "~") s) λ u r k. one k)
  where
    two : {s r : List ℕ} → Literal (bytes "~>") s r → Tilded s
    two (Gr.byte k) = tilded

    one : {s r : List ℕ} → Literal (bytes "~") s r → Tilded s
    one (Gr.byte k) = tilded

tilded-partial : {s : List ℕ} → Tilded s → read_partial s ≡ P.fail
unfolding read_partial read_component read_number literal one_of choose ◌then◌ is_nonzero
tilded-partial tilded = refl

tilded-caret : {s : List ℕ} → Tilded s → literal (bytes "^") s ≡ P.fail
unfolding literal
tilded-caret tilded = refl

careted-partial : {s r : List ℕ} → Literal (bytes "^") s r → read_partial s ≡ P.fail
unfolding read_partial read_component read_number literal one_of choose ◌then◌ is_nonzero
careted-partial (Gr.byte k) = refl

-- a prefix is an operator, or a tilde, or a caret
prefix-as : (s : List ℕ) → read_prefix s ≡ choose (read_op s) (λ o r. P.ok (op o) r) (choose (read_tilde s) (λ u r. P.ok tilde r) (choose (literal (bytes "^") s) (λ u r. P.ok caret r) P.fail))
unfolding read_prefix read_op read_tilde choose ◌then◌
prefix-as s = go (literal (bytes "<=") s) (literal (bytes ">=") s) (literal (bytes ">") s) (literal (bytes "<") s) (literal (bytes "=") s) (literal (bytes "~>") s) (literal (bytes "~") s)
  where
    go : (a b c d e f g : Result (Unit {0}))
        → choose a (λ u r. P.ok (op lte) r) (choose b (λ u r. P.ok (op gte) r) (choose c (λ u r. P.ok (op gt) r) (choose d (λ u r. P.ok (op lt) r)
        (choose e (λ u r. P.ok (op eq) r) (choose f (λ u r. P.ok tilde r) (choose g (λ u r. P.ok tilde r) (choose (literal (bytes "^") s) (λ u r. P.ok caret r) P.fail)))))))
        ≡ choose ((a then λ u r. P.ok lte r) or (b then λ u r. P.ok gte r) or (c then λ u r. P.ok gt r) or (d then λ u r. P.ok lt r) or (e then λ u r. P.ok eq r)) (λ o r. P.ok (op o) r)
        (choose (f or g) (λ u r. P.ok tilde r) (choose (literal (bytes "^") s) (λ u r. P.ok caret r) P.fail))
    go (P.ok u r) b c d e f g = refl
    go P.fail (P.ok u r) c d e f g = refl
    go P.fail P.fail (P.ok u r) d e f g = refl
    go P.fail P.fail P.fail (P.ok u r) e f g = refl
    go P.fail P.fail P.fail P.fail (P.ok u r) f g = refl
    go P.fail P.fail P.fail P.fail P.fail (P.ok u r) g = refl
    go P.fail P.fail P.fail P.fail P.fail P.fail (P.ok u r) = refl
    go P.fail P.fail P.fail P.fail P.fail P.fail P.fail = refl

-- a prefix is one that is written, and behind nothing of it stands a partial
pub data Marked : S.Prefix → Type 0 where
  is-op : {o : Op} → Marked (op o)
  is-tilde : Marked tilde
  is-caret : Marked caret

pub prefix-marked : (s : List ℕ) → Gives (λ f r. (read_partial s ≡ P.fail) × Marked f) (read_prefix s)
prefix-marked s =
    rw (prefix-as s) (gives-choose (op-opens s) (λ o r h. Results.gives (opens-partial h, is-op))
    (gives-choose (tilde-opens s) (λ u r h. Results.gives (tilded-partial h, is-tilde))
    (gives-choose (literal-sound (bytes "^") s) (λ u r k. Results.gives (careted-partial k, is-caret)) Results.nothing)))

none_or : {A : Type 0} (g : Result A) → (g or P.fail) ≡ g
unfolding choose
none_or P.fail = refl
none_or (P.ok a r) = refl

item-as : (s : List ℕ) → read_item s ≡ item_in_order s
unfolding read_item item_in_order choose ◌then◌
item-as s = rw (prefix-as s) (go (read_op s) refl (op-opens s))
  where
    caret-go : (g : Result (Unit {0})) → Gives (λ u. Literal (bytes "^") s) g
        → choose (choose g (λ u r. P.ok caret r) P.fail) (λ f t. read_partial (skip t) then λ p r. P.ok (item f p) r) (read_partial s then λ p r. P.ok (item bare p) r)
        ≡ ((P.fail or (read_partial s then λ p r. P.ok (item bare p) r) or P.fail) or spaced_item (λ u. item caret) g)
    caret-go P.fail h = sym (none_or _ ∙ none_or _)
    caret-go (P.ok u r) h = rw (careted-partial (Results.given h)) refl

    tilde-go : (g : Result (Unit {0})) → Gives (λ u r. Tilded s) g
        → choose (choose g (λ u r. P.ok tilde r) (choose (literal (bytes "^") s) (λ u r. P.ok caret r) P.fail)) (λ f t. read_partial (skip t) then λ p r. P.ok (item f p) r) (read_partial s then λ p r. P.ok (item bare p) r)
        ≡ ((P.fail or (read_partial s then λ p r. P.ok (item bare p) r) or spaced_item (λ u. item tilde) g) or spaced_item (λ u. item caret) (literal (bytes "^") s))
    tilde-go P.fail h = caret-go (literal (bytes "^") s) (literal-sound (bytes "^") s)
    tilde-go (P.ok u r) h = rw (tilded-partial (Results.given h), tilded-caret (Results.given h)) (sym (none_or _))

    go : (g : Result Op) → read_op s ≡ g → Gives (λ o r. Opens s) g
        → choose (choose g (λ o r. P.ok (op o) r) (choose (read_tilde s) (λ u r. P.ok tilde r) (choose (literal (bytes "^") s) (λ u r. P.ok caret r) P.fail))) (λ f t. read_partial (skip t) then λ p r. P.ok (item f p) r) (read_partial s then λ p r. P.ok (item bare p) r)
        ≡ ((spaced_item (λ o. item (op o)) g or (read_partial s then λ p r. P.ok (item bare p) r) or spaced_item (λ u. item tilde) (read_tilde s)) or spaced_item (λ u. item caret) (literal (bytes "^") s))
    go P.fail e h = tilde-go (read_tilde s) (tilde-opens s)
    go (P.ok o r) e h = rw (opens-partial (Results.given h), opens-tilde (Results.given h), opens-caret (Results.given h)) (sym (none_or _ ∙ none_or _ ∙ none_or _))

module _ (t : List ℕ) where
  string-meets : {A : Type 0} (w : List ℕ) (o : A) (s : List ℕ) → Meets (λ a p. p ≡ end) s (read_as w o s) (matched s (literal w s))
  string-meets w o s = meets-map (λ u. o) (matched-meets s (literal w s)) λ u p e. e

  or-else : {A : Type 0} {Q : A → Pairs → Type 0} (f : List ℕ → ParseResult) {s : List ℕ} {g h : Result A} {o : ParseResult} → Meets Q s g o → Meets Q s h (f s) → Meets Q s (g or h) (or_else o f)
  or-else f x y = or-meets (λ a. a) f x (λ a p q. q) λ z. y

  op-text : (s : List ℕ) → Gives (λ o r. op-of (span s r) ≡ gives o) (read_op s)
  unfolding read_op op-of same
  op-text s =
      or-gives (or-gives (or-gives (or-gives (spelled (bytes "<=") lte refl) (spelled (bytes ">=") gte refl)) (spelled (bytes ">") gt refl)) (spelled (bytes "<") lt refl))
      (spelled (bytes "=") eq refl)
    where
      spelled : (w : List ℕ) (o : Op) → op-of w ≡ gives o → Gives (λ o r. op-of (span s r) ≡ gives o) (read_as w o s)
      spelled w o e = gives_then (literal-sound w s) λ u r k. Results.gives (ap op-of (span_of w r s (literal-text k)) ∙ e)

  op-meets : (s : List ℕ) → Meets IsOp s (read_op s) (run t G.primitive-op s)
  unfolding run G.primitive-op read_op
  op-meets s =
      rule-meets {Q = λ o p. p ≡ end} Rule.primitive-op
      (or-else _ (or-else _ (or-else _ (or-else _ (string-meets (bytes "<=") lte s) (string-meets (bytes ">=") gte s)) (string-meets (bytes ">") gt s)) (string-meets (bytes "<") lt s)) (string-meets (bytes "=") eq s))
      λ o r p e z. rw z (is_op (Results.given (rw e at (op-text s))))

  -- `space*`, and then
  pub spaced : (f : List ℕ → ParseResult) (s : List ℕ) → and_then (run t G.spaces s) f ≡ f (skip s)
  unfolding and_then
  spaced f s = ap (λ o. and_then o f) (spaces-run t s) ∙ queued-end (f (skip s))

  -- something, `space*`, and a partial
  spaced-within : {A : Type 0} {Q : A → Pairs → Type 0} {R : Item → Pairs → Type 0} (k : A → S.Partial → Item) {g : Result A} {o : ParseResult} → Within Q g o
      → ((a : A) (p : S.Partial) (x q : Pairs) → Q a x → IsPartial p q → R (k a p) (x ⊕ q)) → Within R (spaced_item k g) (and_then o λ r. and_then (run t G.spaces r) (run t G.partial))
  spaced-within {R} k h e =
      and-within {R = R} h λ a r x hx. via (spaced (run t G.partial) r) (within-map (k a) (inside (partial-meets t (skip r))) λ p q hq. e a p x q hx hq)

  primitive-meets : (s : List ℕ) → Meets IsRecord s (spaced_item (λ o. item (op o)) (read_op s)) (run t G.primitive s)
  unfolding run G.primitive
  primitive-meets s =
      rule-meets {Q = λ i k. (w : List ℕ) → IsRecord i (pair Rule.primitive w k end)} Rule.primitive
      (sequence-meets s (via (chain₃ _ _ _) (spaced-within _ (inside (op-meets s)) λ o p x q hx hq w. op-record o p w x q hx hq))) λ i r k e h. h (span s r)

  tilde-meets : (s : List ℕ) → Meets IsRecord s (spaced_item (λ u. item tilde) (read_tilde s)) (run t G.tilde s)
  unfolding run G.tilde read_tilde ◌⊕◌
  tilde-meets s =
      rule-meets {Q = λ i k. (w : List ℕ) → IsRecord i (pair Rule.tilde w k end)} Rule.tilde
      (sequence-meets s (via (chain₃ _ _ _) (spaced-within _ (inside (or-else _ (matched-meets s _) (matched-meets s _))) λ u p x q hx hq w. rw hx (tilde-record p w q hq)))) λ i r k e h. h (span s r)

  caret-meets : (s : List ℕ) → Meets IsRecord s (spaced_item (λ u. item caret) (literal (bytes "^") s)) (run t G.caret s)
  unfolding run G.caret ◌⊕◌
  caret-meets s =
      rule-meets {Q = λ i k. (w : List ℕ) → IsRecord i (pair Rule.caret w k end)} Rule.caret
      (sequence-meets s (via (chain₃ _ _ _) (spaced-within _ (inside (matched-meets s _)) λ u p x q hx hq w. rw hx (caret-record p w q hq)))) λ i r k e h. h (span s r)

  -- in the crate's order
  simple-meets' : (s : List ℕ) → Meets IsItem s (item_in_order s) (run t G.simple s)
  unfolding run G.simple item_in_order simple-from-pair-iterator
  simple-meets' s =
      rule-meets {Q = IsRecord} Rule.simple (or-else _ (or-else _ (or-else _ (primitive-meets s) (meets-map (item bare) (partial-meets t s) bare-record)) (tilde-meets s)) (caret-meets s)) fin
    where
      fin : (i : Item) (r : List ℕ) (k : Pairs) → item_in_order s ≡ P.ok i r → IsRecord i k → IsItem i (pair Rule.simple (span s r) k end)
      fin i r k e (is_record h) = is_item λ m. joined-none _ ∙ h m

  pub simple-meets : (s : List ℕ) → Meets IsItem s (read_item s) (run t G.simple s)
  simple-meets s = rw (item-as s) (simple-meets' s)
