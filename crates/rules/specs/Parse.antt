-- The same grammar as a function that computes. Each reader takes what is left of the text and answers the value and what is then left.
-- That it finds exactly what the grammar derives is theorem 1.
-- Assumes nothing.
use Rattle.std.specs.Prelude.{ℕ, zero, suc, Bool, List, [], ◌∷◌, eqb, length, take, drop}
use Rattle.std.proofs.Math.Option.{Option, none, some}
use Rattle.rules.specs.Bytes.{bytes, pick, is_space, is_digit, is_nonzero, is_letter, is_word, is_wild, is_sign, value}
use Rattle.rules.specs.Syntax.{Identifier, text, of_digits, Partial, up_to₁, up_to₂, up_to₃, lt, lte, gt, gte, eq, Prefix, bare, tilde, caret, op, Item, item, Range, nothing, items, hyphen}

pub data Result (A : Type 0) : Type 0 where
  fail : Result A
  ok : A → List ℕ → Result A

-- ---- one reader after another

infixr 20 ◌then◌
-- a reader, and a second one behind it
unfoldable pub ◌then◌ : {A B : Type 0} → Result A → (A → List ℕ → Result B) → Result B
fail then f = fail
(ok a r) then f = f a r

-- a reader, and a second one behind it; where the first one fails, the third
unfoldable pub choose : {A B : Type 0} → Result A → (A → List ℕ → Result B) → Result B → Result B
choose fail f h = h
choose (ok a r) f h = f a r

-- a reader as often as it succeeds; the first number bounds how often
unfoldable pub many : {A : Type 0} → (List ℕ → Result A) → ℕ → List ℕ → Result (List A)
many f zero s = ok [] s
many f (suc k) s = choose (f s) (λ a t. many f k t then λ l r. ok (a ∷ l) r) (ok [] s)

-- as often as it succeeds: each time takes a byte at least
abbrev pub all : {A : Type 0} → (List ℕ → Result A) → List ℕ → Result (List A)
all f s = many f (length s) s

-- ---- bytes

-- a byte of a class
unfoldable pub one_of : (ℕ → Bool) → List ℕ → Result ℕ
one_of p [] = fail
one_of p (c ∷ s) = pick (p c) (ok c s) fail

-- how many bytes of a class the text begins with
unfoldable pub count : (ℕ → Bool) → List ℕ → ℕ
count p [] = 0
count p (c ∷ s) = pick (p c) (suc (count p s)) 0

-- these bytes
unfoldable pub run : (ℕ → Bool) → List ℕ → Result (List ℕ)
run p s = ok (take (count p s) s) (drop (count p s) s)

-- these bytes and no others
unfoldable pub literal : List ℕ → List ℕ → Result (Unit {0})
literal [] s = ok tt s
literal (b ∷ w) [] = fail
literal (b ∷ w) (c ∷ s) = pick (eqb c b) (literal w s) fail

-- what is left behind all spaces
abbrev pub skip : List ℕ → List ℕ
skip s = drop (count is_space s) s

unfoldable pub spaces₁ : List ℕ → Result (Unit {0})
spaces₁ s = one_of is_space s then λ c t. ok tt (skip t)

-- ---- partials

unfoldable pub read_number : List ℕ → Result (List ℕ)
read_number s = choose (literal (bytes "0") s) (λ u r. ok (bytes "0") r) (one_of is_nonzero s then λ c t. run is_digit t then λ w r. ok (c ∷ w) r)

unfoldable pub read_component : List ℕ → Result (Option ℕ)
read_component s = choose (one_of is_wild s) (λ c r. ok none r) (read_number s then λ w r. ok (some (value w)) r)

unfoldable pub read_identifier : List ℕ → Result Identifier
read_identifier s =
    choose (read_number s) (λ w r. ok (of_digits (length s) w) r) (one_of is_letter s then λ c t. run is_word t then λ w r. ok (text (length s) (c ∷ w)) r)

unfoldable pub read_dot_identifier : List ℕ → Result Identifier
read_dot_identifier s = literal (bytes ".") s then λ u t. read_identifier t

unfoldable pub read_identifiers : List ℕ → Result (List Identifier)
read_identifiers s = read_identifier s then λ i t. all read_dot_identifier t then λ is r. ok (i ∷ is) r

-- a sign without identifiers is no qualifier, and is left
unfoldable pub read_qualifier : List ℕ → Result (List Identifier)
read_qualifier s = choose (one_of is_sign s then λ c t. read_identifiers t) (λ is r. ok is r) (ok [] s)

-- a dot and a component
unfoldable pub read_dot : List ℕ → Result (Option ℕ)
read_dot s = literal (bytes ".") s then λ u t. read_component t

-- what may follow three components, two, and one
unfoldable pub after_three : Option ℕ → Option ℕ → Option ℕ → List ℕ → Result Partial
after_three c d e s = read_qualifier s then λ is r. ok (up_to₃ c d e is) r

unfoldable pub after_two : Option ℕ → Option ℕ → List ℕ → Result Partial
after_two c d s = choose (read_dot s) (λ e t. after_three c d e t) (ok (up_to₂ c d) s)

unfoldable pub after_one : Option ℕ → List ℕ → Result Partial
after_one c s = choose (read_dot s) (λ d t. after_two c d t) (ok (up_to₁ c) s)

unfoldable pub read_partial : List ℕ → Result Partial
read_partial s = read_component s then λ c t. after_one c t

-- ---- items and ranges

-- these bytes for this prefix, or else
abbrev pub spelled : List ℕ → Prefix → List ℕ → Result Prefix → Result Prefix
spelled w f s h = choose (literal w s) (λ u r. ok f r) h

unfoldable pub read_prefix : List ℕ → Result Prefix
read_prefix s =
    spelled (bytes "<=") (op lte) s (spelled (bytes ">=") (op gte) s (spelled (bytes ">") (op gt) s (spelled (bytes "<") (op lt) s
    (spelled (bytes "=") (op eq) s (spelled (bytes "~>") tilde s (spelled (bytes "~") tilde s (spelled (bytes "^") caret s fail)))))))

unfoldable pub read_item : List ℕ → Result Item
read_item s = choose (read_prefix s) (λ f t. read_partial (skip t) then λ p r. ok (item f p) r) (read_partial s then λ p r. ok (item bare p) r)

unfoldable pub read_gap : List ℕ → Result (Unit {0})
read_gap s = choose (literal (bytes ",") s) (λ u t. spaces₁ t) (spaces₁ s)

unfoldable pub read_next : List ℕ → Result Item
read_next s = read_gap s then λ u t. read_item t

unfoldable pub read_dash : List ℕ → Result (Unit {0})
read_dash s = spaces₁ s then λ u t. literal (bytes "-") t then λ u v. spaces₁ v

-- the items behind the first
unfoldable pub read_items : Item → List ℕ → Result Range
read_items i s = all read_next s then λ is r. ok (items i is) r

-- the rest of a range whose first item is read: behind a bare partial a dash makes it a hyphen range
unfoldable pub after_item : Item → List ℕ → Result Range
after_item (item bare p) s = choose (read_dash s) (λ u t. read_partial t then λ q r. ok (hyphen p q) r) (read_items (item bare p) s)
after_item (item tilde p) s = read_items (item tilde p) s
after_item (item caret p) s = read_items (item caret p) s
after_item (item (op o) p) s = read_items (item (op o) p) s

unfoldable pub read_range : List ℕ → Result Range
read_range s = choose (read_item s) (λ i t. after_item i t) (ok nothing s)

unfoldable pub read_separator : List ℕ → Result (Unit {0})
read_separator s = literal (0x7C ∷ 0x7C ∷ []) (skip s) then λ u r. ok tt (skip r)

unfoldable pub read_further : List ℕ → Result Range
read_further s = read_separator s then λ u t. read_range t

-- nothing is left
unfoldable pub at_end : List ℕ → Result (Unit {0})
at_end [] = ok tt []
at_end (c ∷ s) = fail

unfoldable pub read_text : List ℕ → Result (List Range)
read_text s = read_range (skip s) then λ a t. all read_further t then λ l r. at_end (skip r) then λ u e. ok (a ∷ l) e

-- ---- for code that looks again at what was read

-- how many bytes are left behind what is read; all of them where nothing is read
abbrev pub left_of : {A : Type 0} → List ℕ → Result A → ℕ
left_of s fail = length s
left_of s (ok a r) = length r

-- what was found, if anything
abbrev pub list_of : {A : Type 0} → Result (List A) → List A
list_of fail = []
list_of (ok l r) = l

-- the identifiers with dots between that s begins with
unfoldable pub found_in : List ℕ → List Identifier
found_in s = list_of (read_identifiers s)
