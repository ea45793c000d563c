-- How long a normal text can be: eight bytes for each byte of the text that it is written from, and seven more. That is reached: `9` gives
-- `>=9.0.0 <10.0.0`, and the empty text `>=0.0.0`.
-- Assumes nothing.
use mathlib.Core.Path.{◌≡◌, refl, sym, ap, ◌∙◌}
use Prim.Native.Nat.{ℕ, zero, suc, ◌+◌, ◌*◌, ◌/◌, ◌%◌, ◌≤◌, ◌<◌}
use native.Mathlib.Omega.{arith}
use mathlib.Core.Bool.{Bool, true, false}
use mathlib.Core.Option.{Option, none, some}
use mathlib.Core.List.{List, [], ◌∷◌, ◌++◌, map}
use lib.Dec.{ltb}
use lib.ListN.{length, length-append}
use borrow.Author.Tests.{ltb-true, ltb-false}
use Rattle.rules.specs.Bytes.{bytes}
use Rattle.rules.specs.Syntax.{Identifier, Partial, identifiers_of, up_to₁, up_to₂, up_to₃, Op, lt, lte, gt, gte, eq, Prefix, bare, Item, item, Range}
use Rattle.rules.specs.Grammar as G
use Rattle.rules.specs.Grammar.{Many, ReadsComponent, ReadsQualifier, ReadsPartial, ReadsItem, ReadsNext, ReadsRange, ReadsFurther, ReadsText}
use Rattle.rules.specs.Expansion.{Compat, Comparator, comparator, major_of, minor_of, patch_of, Component, major, minor, patch, Piece, piece, partial_in, everything, as_read, raised, comparators, expand_item, expand_left, expand_right, expand_range, comparators_of, Reading, expand}
use Rattle.rules.specs.NormalText.{decimal_to, decimal, spell_op, spell_identifier, tailed, joined, spell_identifiers, spell_comparator, spell_range, spell}
use Rattle.rules.specs.Answers.{accepted, reading}
use Rattle.rules.specs.Walk.{total}
use Rattle.rules.proofs.Complete.{one_left, literal-left, spaces-left, gap-left, prefix-left, dash-left}
use Rattle.rules.proofs.Accepted.{Accepted, reads, reading-accepted}
use Rattle.rules.proofs.Pieces.{gives-partial, item-gives, left-partial, right-partial}
use Rattle.rules.proofs.ReadIn.{number-literal}
use Rattle.rules.proofs.Nonempty.{Nonempty, nonempty, range_nonempty}
use Rattle.rules.proofs.Decimal.{first-digit, further-digits, value-decimal}
use Rattle.rules.proofs.Tallies.{total-append}
use Rattle.rules.proofs.Source.{identifiers-bytes}

-- ---- how many digits a number has

-- a digit at least comes before the digits ds
decimal_to-more : (f n : ℕ) (ds : List ℕ) → n < f → length ds < length (decimal_to f n ds)
decimal_to-more zero n ds h = absurd (omega arith)
decimal_to-more (suc f) n ds h = go (ltb n 10) refl (λ l. decimal_to-more f (n / 10) ((48 + n % 10) ∷ ds) (omega arith))
  where
    go : (b : Bool) → ltb n 10 ≡ b → (10 ≤ n → suc (length ds) < length (decimal_to f (n / 10) ((48 + n % 10) ∷ ds)))
        → length ds < length (decimal_to (suc f) n ds)
    go true e j = rw (first-digit f n ds (ltb-true n 10 e)) (omega arith)
    go false e j = let l = ltb-false n 10 e in rw (further-digits f n ds l) (omega (arith, j l))

-- a number that is not greater, before one digit more at most, has one digit more at most
decimal_to-less : (f g n k : ℕ) (ds es : List ℕ) → n < f → k ≤ n → length ds ≤ suc (length es) → length (decimal_to g k ds) ≤ suc (length (decimal_to f n es))
unfolding decimal_to
decimal_to-less zero g n k ds es h l d = absurd (omega arith)
decimal_to-less (suc f) zero n k ds es h l d = omega (arith, decimal_to-more (suc f) n es h)
decimal_to-less (suc f) (suc g) n k ds es h l d =
    go (ltb k 10) refl (λ z. decimal_to-less f g (n / 10) (k / 10) ((48 + k % 10) ∷ ds) ((48 + n % 10) ∷ es) (omega arith) (omega arith) (omega arith))
  where
    go : (b : Bool) → ltb k 10 ≡ b
        → (10 ≤ k → length (decimal_to g (k / 10) ((48 + k % 10) ∷ ds)) ≤ suc (length (decimal_to f (n / 10) ((48 + n % 10) ∷ es))))
        → length (decimal_to (suc g) k ds) ≤ suc (length (decimal_to (suc f) n es))
    go true e j = rw (first-digit g k ds (ltb-true k 10 e)) (omega (arith, decimal_to-more (suc f) n es h))
    go false e j = let z = ltb-false k 10 e in rw (further-digits g k ds z, further-digits f n es (omega arith)) (j z)

decimal-some : (n : ℕ) → 1 ≤ length (decimal n)
unfolding decimal
decimal-some n = decimal_to-more (suc n) n [] (omega arith)

decimal-zero : length (decimal 0) ≡ 1
unfolding decimal
decimal-zero = refl

decimal-suc : (n : ℕ) → length (decimal (suc n)) ≤ suc (length (decimal n))
unfolding decimal
decimal-suc n = go (ltb (suc n) 10) refl
  where
    go : (b : Bool) → ltb (suc n) 10 ≡ b → length (decimal_to (suc (suc n)) (suc n) []) ≤ suc (length (decimal_to (suc n) n []))
    go true e = rw (first-digit (suc n) (suc n) [] (ltb-true (suc n) 10 e)) (omega arith)
    go false e =
        rw (further-digits (suc n) (suc n) [] (ltb-false (suc n) 10 e))
        (decimal_to-less (suc n) (suc n) n (suc n / 10) ((48 + suc n % 10) ∷ []) [] (omega arith) (omega arith) (omega arith))

-- ---- how long joined parts are

module _ {A : Type 0} (f : A → List ℕ) (sep : List ℕ) where
  -- how long a part is, with the separator before it
  abbrev part : A → ℕ
  part a = length sep + length (f a)

  tailed-length : (l : List A) → length (tailed f sep l) ≡ total part l
  unfolding tailed
  tailed-length [] = refl
  tailed-length (a ∷ l) = omega (arith, length-append (sep ++ f a) (tailed f sep l), length-append sep (f a), tailed-length l)

  joined_length : {l : List A} → Nonempty l → length sep + length (joined f sep l) ≡ total part l
  unfolding joined
  joined_length (nonempty {a} {l}) = omega (arith, length-append (f a) (tailed f sep l), tailed-length l)

-- how long comparators are, with a blank before each
abbrev size : List Comparator → ℕ
size cs = total (part spell_comparator (0x20 ∷ [])) cs

size-append : (cs ds : List Comparator) → size (cs ++ ds) ≡ size cs + size ds
size-append cs ds = total-append (part spell_comparator (0x20 ∷ [])) cs ds

-- ---- pieces

-- how many digits the components of a partial have, missing ones zero
abbrev digits : Partial → ℕ
digits p = length (decimal (major_of p)) + length (decimal (minor_of p)) + length (decimal (patch_of p))

-- how long the identifiers of a partial are
abbrev names : Partial → ℕ
names p = length (spell_identifiers (identifiers_of p))

op-length : (o : Op) → length (spell_op o) ≤ 2
unfolding spell_op
op-length lt = omega arith
op-length lte = omega arith
op-length gt = omega arith
op-length gte = omega arith
op-length eq = omega arith

comparator-length : (o : Op) (a b c : ℕ) (is : List Identifier)
    → length (spell_comparator (comparator o a b c is))
    ≡ length (spell_op o) + length (decimal a) + 1 + length (decimal b) + 1 + length (decimal c) + length (spell_identifiers is)
unfolding spell_comparator
comparator-length o a b c is = simp length-append

as_read-size : (o : Option Op) (p : Partial) → size (as_read o p) ≤ 5 + digits p + names p
unfolding as_read
as_read-size none p = omega arith
as_read-size (some o) p = omega (arith, comparator-length o (major_of p) (minor_of p) (patch_of p) (identifiers_of p), op-length o)

-- an Lt without identifiers
lt_size : (a b c : ℕ) → size (comparator lt a b c [] ∷ []) ≡ 4 + (length (decimal a) + length (decimal b) + length (decimal c))
unfolding spell_op spell_identifiers
lt_size a b c = omega (arith, comparator-length lt a b c [])

raised-size : (c : Option Component) (p : Partial) → size (raised c p) ≤ 5 + digits p
unfolding raised
raised-size none p = omega arith
raised-size (some major) p =
    omega (arith, lt_size (suc (major_of p)) 0 0, decimal-suc (major_of p), decimal-zero, decimal-some (minor_of p), decimal-some (patch_of p))
raised-size (some minor) p = omega (arith, lt_size (major_of p) (suc (minor_of p)) 0, decimal-suc (minor_of p), decimal-zero, decimal-some (patch_of p))
raised-size (some patch) p = omega (arith, lt_size (major_of p) (minor_of p) (suc (patch_of p)), decimal-suc (patch_of p))

-- what the comparators of a piece can take, by its partial alone
abbrev room : Partial → ℕ
room p = 10 + 2 * digits p + names p

piece-size : (x : Piece) → size (comparators x) ≤ room (partial_in x)
unfolding comparators
piece-size (piece o c p) = omega (arith, size-append (as_read o p) (raised c p), as_read-size o p, raised-size c p)

everything-size : size (comparators everything) ≡ 8
unfolding comparators spell_comparator
everything-size = refl

-- ---- partials

-- how many digits a component has: a wildcard, that of the 0 in its place
abbrev width : Option ℕ → ℕ
width none = 1
width (some n) = length (decimal n)

width_some : (c : Option ℕ) → 1 ≤ width c
width_some none = omega arith
width_some (some n) = decimal-some n

component-width : {s r : List ℕ} {c : Option ℕ} → ReadsComponent s c r → width c + length r ≡ length s
component-width (G.wildcard o) = omega (arith, one_left o)
component-width {r} (ReadsComponent.number n) = ap (λ w. length w + length r) (value-decimal n) ∙ sym (literal-left (number-literal n))

qualifier-length : {s r : List ℕ} {is : List Identifier} → ReadsQualifier s is r → length (spell_identifiers is) + length r ≡ length s
unfolding spell_identifiers
qualifier-length G.absent = omega arith
qualifier-length {r} (G.signed o (G.identifiers {i} {is} h k)) =
    let w = joined spell_identifier (bytes ".") (i ∷ is) in omega (arith, one_left o, ap length (identifiers-bytes (G.identifiers h k)), length-append w r)

-- a component that is not there counts as a wildcard
up_to-one : (c : Option ℕ) → up_to₁ c ≡ up_to₃ c none none []
unfolding up_to₁ up_to₃
up_to-one none = refl
up_to-one (some a) = refl

up_to-two : (c d : Option ℕ) → up_to₂ c d ≡ up_to₃ c d none []
unfolding up_to₂ up_to₃
up_to-two none d = refl
up_to-two (some a) none = refl
up_to-two (some a) (some b) = refl

up_to-room : (c d e : Option ℕ) (is : List Identifier) → room (up_to₃ c d e is) ≤ 10 + 2 * (width c + width d + width e) + length (spell_identifiers is)
unfolding up_to₃ spell_identifiers
up_to-room none d e is = omega (arith, decimal-zero, width_some d, width_some e)
up_to-room (some a) none e is = omega (arith, decimal-zero, width_some e)
up_to-room (some a) (some b) none is = omega (arith, decimal-zero)
up_to-room (some a) (some b) (some c) is = omega arith

-- Here and below: what is read of s, with r left behind it, takes at most eight bytes for each byte of it, and eight more.
partial-room : {s r : List ℕ} {p : Partial} → ReadsPartial s p r → room p + 8 * length r ≤ 8 * length s + 8
unfolding spell_identifiers
partial-room (ReadsPartial.one {c} h) = rw (up_to-one c) (omega (arith, up_to-room c none none [], width_some c, component-width h))
partial-room (G.two {c} {d} h b k) = rw (up_to-two c d) (omega (arith, up_to-room c d none [], component-width h, literal-left b, component-width k))
partial-room (G.three {c} {d} {e} {is} h b k b' l q) =
    omega (arith, up_to-room c d e is, component-width h, literal-left b, component-width k, literal-left b', component-width l, qualifier-length q)

partial-size : {s r : List ℕ} {p : Partial} (x : Piece) → partial_in x ≡ p → ReadsPartial s p r → size (comparators x) + 8 * length r ≤ 8 * length s + 8
partial-size x e h = omega (arith, piece-size x, ap room e, partial-room h)

-- ---- items and ranges

pieces-size : (x : Piece) (ps : List Piece) → size (comparators_of (x ∷ ps)) ≡ size (comparators x) + size (comparators_of ps)
unfolding comparators_of
pieces-size x ps = size-append (comparators x) (comparators_of ps)

module _ (m : Compat) where
  -- a partial behind any prefix
  prefix-size : {s r : List ℕ} {p : Partial} (f : Prefix) → ReadsPartial s p r → size (comparators (expand_item m (item f p))) + 8 * length r ≤ 8 * length s + 8
  prefix-size {p} f h = partial-size (expand_item m (item f p)) (gives-partial (item-gives m f p)) h

  item-size : {s r : List ℕ} {i : Item} → ReadsItem s i r → size (comparators (expand_item m i)) + 8 * length r ≤ 8 * length s + 8
  item-size (G.alone h) = prefix-size bare h
  item-size (G.prefixed {f} b k h) = omega (arith, prefix-left b, spaces-left k, prefix-size f h)

  -- the gap before it makes up for the eight more
  next-size : {s r : List ℕ} {i : Item} → ReadsNext s i r → size (comparators (expand_item m i)) + 8 * length r ≤ 8 * length s
  next-size (G.next g h) = omega (arith, gap-left g, item-size h)

  nexts-size : {s r : List ℕ} {is : List Item} → Many ReadsNext s is r → size (comparators_of (map (expand_item m) is)) + 8 * length r ≤ 8 * length s
  unfolding comparators_of
  nexts-size Many.stop = omega arith
  nexts-size (Many.more {a = i} {l = is} h k) = omega (arith, pieces-size (expand_item m i) (map (expand_item m) is), next-size h, nexts-size k)

  range_size : {s r : List ℕ} {a : Range} → ReadsRange s a r → size (comparators_of (expand_range m a)) + 8 * length r ≤ 8 * length s + 8
  unfolding expand_range comparators_of
  range_size (G.hyphened {p} {q} h d k) =
      let x = expand_left p in let y = expand_right p q in
      omega (arith, pieces-size x (y ∷ []), pieces-size y [], partial-size x (left-partial p) h, dash-left d, partial-size y (right-partial p q) k)
  range_size (G.listed {i} {is} h k) = omega (arith, pieces-size (expand_item m i) (map (expand_item m) is), item-size h, nexts-size k)
  range_size G.empty = omega (arith, pieces-size everything [], everything-size)

  -- ---- the text

  -- a range, with the bars before it
  bars-size : (a : Range) → part spell_range (bytes " || ") (comparators_of (expand_range m a)) ≡ 3 + size (comparators_of (expand_range m a))
  unfolding spell_range
  bars-size a = omega (arith, joined_length spell_comparator (0x20 ∷ []) (range_nonempty m a))

  ranges-size : {s r : List ℕ} {rs : List Range} → Many ReadsFurther s rs r → total (part spell_range (bytes " || ")) (expand m rs) + 8 * length r ≤ 8 * length s
  unfolding expand
  ranges-size Many.stop = omega arith
  ranges-size (Many.more {a} (G.further (G.separator k b l) h) n) =
      omega (arith, bars-size a, spaces-left k, literal-left b, spaces-left l, range_size h, ranges-size n)

  text-size : {t : List ℕ} {rs : List Range} → ReadsText t rs → length (spell (expand m rs)) ≤ 8 * length t + 7
  unfolding expand spell
  text-size (G.whole {a} {l} k h n k') =
      let z : Nonempty (comparators_of (expand_range m a) ∷ expand m l) = nonempty in
      omega (arith, joined_length spell_range (bytes " || ") z, bars-size a, spaces-left k, range_size h, ranges-size n, spaces-left k')

pub text-bound : (m : Compat) (t : List ℕ) (rs : Reading) → reading m t ≡ accepted rs → length (spell rs) ≤ 8 * length t + 7
text-bound m t rs e = go (reading-accepted m t rs e)
  where
    go : {rs : Reading} → Accepted m t rs → length (spell rs) ≤ 8 * length t + 7
    go (reads l d f g) = text-size m d
