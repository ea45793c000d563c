-- The grammar of 01, a constructor for each alternative of its lines. `ReadsPiece s v r`: the text s begins with a piece that is read
-- as v, and r is left behind it. 01 goes from the text down to its bytes; here each line stands below those that it names.
-- Assumes nothing.
use Rattle.std.specs.Prelude.{◌≡◌, ℕ, Bool, true, List, [], ◌∷◌, length}
use Rattle.std.proofs.Math.Option.{Option, none, some}
use Rattle.rules.specs.Bytes.{bytes, is_space, is_digit, is_nonzero, is_letter, is_word, is_wild, is_sign, value}
use Rattle.rules.specs.Syntax.{Identifier, text, of_digits, Partial, up_to₁, up_to₂, up_to₃, lt, lte, gt, gte, eq, Prefix, bare, tilde, caret, op, Item, item, Range, nothing, items, hyphen}

-- ---- bytes

-- a byte of a class
pub data OneOf (p : ℕ → Bool) : List ℕ → ℕ → List ℕ → Type 0 where
  one : {c : ℕ} {s : List ℕ} → p c ≡ true → OneOf p (c ∷ s) c s

-- any number of bytes of a class
pub data Run (p : ℕ → Bool) : List ℕ → List ℕ → List ℕ → Type 0 where
  stop : {s : List ℕ} → Run p s [] s
  more : {c : ℕ} {s w r : List ℕ} → p c ≡ true → Run p s w r → Run p (c ∷ s) (c ∷ w) r

-- these bytes
pub data Literal : List ℕ → List ℕ → List ℕ → Type 0 where
  done : {s : List ℕ} → Literal [] s s
  byte : {c : ℕ} {w s r : List ℕ} → Literal w s r → Literal (c ∷ w) (c ∷ s) r

-- a piece any number of times
pub data Many {A : Type 0} (P : List ℕ → A → List ℕ → Type 0) : List ℕ → List A → List ℕ → Type 0 where
  stop : {s : List ℕ} → Many P s [] s
  more : {s t r : List ℕ} {a : A} {l : List A} → P s a t → Many P t l r → Many P s (a ∷ l) r

-- "any spaces or none"
pub data Spaces : List ℕ → List ℕ → Type 0 where
  no-space : {s : List ℕ} → Spaces s s
  space : {c : ℕ} {s r : List ℕ} → is_space c ≡ true → Spaces s r → Spaces (c ∷ s) r

-- "one or more spaces"
pub data Spaces₁ : List ℕ → List ℕ → Type 0 where
  spaces₁ : {c : ℕ} {s t r : List ℕ} → OneOf is_space s c t → Spaces t r → Spaces₁ s r

-- ---- partials

-- "a number: `0`, or digits not beginning with 0": its digits
pub data ReadsNumber : List ℕ → List ℕ → List ℕ → Type 0 where
  zero : {s r : List ℕ} → Literal (bytes "0") s r → ReadsNumber s (bytes "0") r
  digits : {c : ℕ} {s t w r : List ℕ} → OneOf is_nonzero s c t → Run is_digit t w r → ReadsNumber s (c ∷ w) r

-- "Component: `x`, `X` or `*` (a wildcard), or a number"
pub data ReadsComponent : List ℕ → Option ℕ → List ℕ → Type 0 where
  wildcard : {c : ℕ} {s r : List ℕ} → OneOf is_wild s c r → ReadsComponent s none r
  number : {s w r : List ℕ} → ReadsNumber s w r → ReadsComponent s (some (value w)) r

-- "Identifier: a number, or a letter or `-` followed by any letters, digits and `-`."
pub data ReadsIdentifier : List ℕ → Identifier → List ℕ → Type 0 where
  number : {s w r : List ℕ} → ReadsNumber s w r → ReadsIdentifier s (of_digits (length s) w) r
  word : {c : ℕ} {s t w r : List ℕ} → OneOf is_letter s c t → Run is_word t w r → ReadsIdentifier s (text (length s) (c ∷ w)) r

pub data ReadsDotIdentifier : List ℕ → Identifier → List ℕ → Type 0 where
  dot : {s t r : List ℕ} {i : Identifier} → Literal (bytes ".") s t → ReadsIdentifier t i r → ReadsDotIdentifier s i r

-- "identifiers with dots between"
pub data ReadsIdentifiers : List ℕ → List Identifier → List ℕ → Type 0 where
  identifiers : {s t r : List ℕ} {i : Identifier} {is : List Identifier} → ReadsIdentifier s i t → Many ReadsDotIdentifier t is r → ReadsIdentifiers s (i ∷ is) r

-- an "optional qualifier": "`-` or `+`, then identifiers with dots between"
pub data ReadsQualifier : List ℕ → List Identifier → List ℕ → Type 0 where
  absent : {s : List ℕ} → ReadsQualifier s [] s
  signed : {c : ℕ} {s t r : List ℕ} {is : List Identifier} → OneOf is_sign s c t → ReadsIdentifiers t is r → ReadsQualifier s is r

-- "Partial: one to three components with dots between; only after the third, an optional qualifier."
pub data ReadsPartial : List ℕ → Partial → List ℕ → Type 0 where
  one : {s r : List ℕ} {c : Option ℕ} → ReadsComponent s c r → ReadsPartial s (up_to₁ c) r
  two : {s t u r : List ℕ} {c d : Option ℕ} → ReadsComponent s c t → Literal (bytes ".") t u → ReadsComponent u d r → ReadsPartial s (up_to₂ c d) r
  three : {s t u v w x r : List ℕ} {c d e : Option ℕ} {is : List Identifier}
      → ReadsComponent s c t → Literal (bytes ".") t u → ReadsComponent u d v → Literal (bytes ".") v w → ReadsComponent w e x → ReadsQualifier x is r
      → ReadsPartial s (up_to₃ c d e is) r

-- ---- items and ranges

-- "one of `<=`, `>=`, `>`, `<`, `=`"; "`~>` or `~`"; "`^`"
pub data ReadsPrefix : List ℕ → Prefix → List ℕ → Type 0 where
  is-lte : {s r : List ℕ} → Literal (bytes "<=") s r → ReadsPrefix s (op lte) r
  is-gte : {s r : List ℕ} → Literal (bytes ">=") s r → ReadsPrefix s (op gte) r
  is_gt : {s r : List ℕ} → Literal (bytes ">") s r → ReadsPrefix s (op gt) r
  is_lt : {s r : List ℕ} → Literal (bytes "<") s r → ReadsPrefix s (op lt) r
  is_eq : {s r : List ℕ} → Literal (bytes "=") s r → ReadsPrefix s (op eq) r
  is-tilde₂ : {s r : List ℕ} → Literal (bytes "~>") s r → ReadsPrefix s tilde r
  is-tilde₁ : {s r : List ℕ} → Literal (bytes "~") s r → ReadsPrefix s tilde r
  is-caret : {s r : List ℕ} → Literal (bytes "^") s r → ReadsPrefix s caret r

-- "Item: a partial alone (bare)"; or an operator, a tilde or a caret, "spaces allowed, partial"
pub data ReadsItem : List ℕ → Item → List ℕ → Type 0 where
  alone : {s r : List ℕ} {p : Partial} → ReadsPartial s p r → ReadsItem s (item bare p) r
  prefixed : {s t u r : List ℕ} {f : Prefix} {p : Partial} → ReadsPrefix s f t → Spaces t u → ReadsPartial u p r → ReadsItem s (item f p) r

-- "an optional comma and at least one space"
pub data Gap : List ℕ → List ℕ → Type 0 where
  plain : {s r : List ℕ} → Spaces₁ s r → Gap s r
  comma : {s t r : List ℕ} → Literal (bytes ",") s t → Spaces₁ t r → Gap s r

-- "each next one", "starting where the item before it ended"
pub data ReadsNext : List ℕ → Item → List ℕ → Type 0 where
  next : {s t r : List ℕ} {i : Item} → Gap s t → ReadsItem t i r → ReadsNext s i r

-- "one or more spaces, `-`, one or more spaces"
pub data Dash : List ℕ → List ℕ → Type 0 where
  dash : {s t u r : List ℕ} → Spaces₁ s t → Literal (bytes "-") t u → Spaces₁ u r → Dash s r

-- "Range: a hyphen range; or items ..; or nothing."
pub data ReadsRange : List ℕ → Range → List ℕ → Type 0 where
  hyphened : {s t u r : List ℕ} {p q : Partial} → ReadsPartial s p t → Dash t u → ReadsPartial u q r → ReadsRange s (hyphen p q) r
  listed : {s t r : List ℕ} {i : Item} {is : List Item} → ReadsItem s i t → Many ReadsNext t is r → ReadsRange s (items i is) r
  empty : {s : List ℕ} → ReadsRange s nothing s

-- "The separator is the two bytes 7C 7C hexadecimal (`||`), with any spaces around it."
pub data Separator : List ℕ → List ℕ → Type 0 where
  separator : {s t u r : List ℕ} → Spaces s t → Literal (0x7C ∷ 0x7C ∷ []) t u → Spaces u r → Separator s r

pub data ReadsFurther : List ℕ → Range → List ℕ → Type 0 where
  further : {s t r : List ℕ} {a : Range} → Separator s t → ReadsRange t a r → ReadsFurther s a r

-- "Text: any spaces or none, a range, then any number of separator and range, then any spaces or none."
pub data ReadsText : List ℕ → List Range → Type 0 where
  whole : {s t u v : List ℕ} {a : Range} {l : List Range} → Spaces s t → ReadsRange t a u → Many ReadsFurther u l v → Spaces v [] → ReadsText s (a ∷ l)
