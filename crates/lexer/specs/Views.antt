-- What the code hands back of a reading: a number as 64 bits hold it, and what is left.
-- Assumes nothing.
use Rattle.std.specs.Prelude.{ℕ, ◌+◌, ◌*◌, ◌-◌, List, [], ◌∷◌, Bool, leb, length, take, drop, Option, Some, None}
use Rattle.std.specs.Borrow.{Bor}
use Rattle.rules.specs.Bytes.{is_digit, is_sign, value, value_from, largest, pick}
use Rattle.rules.specs.Syntax as S
use Rattle.rules.specs.Parse.{Result, fail, ok, ◌then◌, all, one_of, count, read_identifier, list_of, found_in}
use Rattle.lexer.specs.declared.Number.{Number}
use Rattle.rules.specs.Version.{read_after_dot}
use Rattle.rules.proofs.Results.{Gives}
use Rattle.rules.proofs.Left.{Behind}
use Rattle.lexer.specs.declared.Identifier.{Identifier}
use Rattle.lexer.specs.declared.Identifiers.{Identifiers}

-- what is left behind the bytes of a class
abbrev pub rest : (ℕ → Bool) → List ℕ → List ℕ
rest p s = drop (count p s) s

-- what is left, if anything was read
abbrev pub rest_of : {A : Type 0} → Result A → Option (List ℕ)
rest_of fail = None
rest_of (ok a r) = Some r

abbrev pub rest_in : Option (Bor (List ℕ)) → Option (List ℕ)
rest_in None = None
rest_in (Some t) = Some t.now

-- ---- numbers

-- a value, where 64 bits hold it
abbrev pub fitting : ℕ → Option ℕ
fitting v = pick (leb v largest) (Some v) None

abbrev pub number_of : Result (List ℕ) → Result (Option ℕ)
number_of fail = fail
number_of (ok w r) = ok (fitting (value w)) r

abbrev pub number_in : Option Number → Result (Option ℕ)
number_in None = fail
number_in (Some n) = ok n.value n.left.now

-- the value of the digits that s begins with, behind digits of the value v
abbrev pub digits_after : ℕ → List ℕ → Option ℕ
digits_after v s = fitting (value_from v (take (count is_digit s) s))

-- one digit more
abbrev pub pushed : Option ℕ → ℕ → Option ℕ
pushed None c = None
pushed (Some v) c = fitting (v * 10 + (c - 48))

-- ---- identifiers

-- the bytes of s before what is left of it
abbrev pub before : List ℕ → List ℕ → List ℕ
before s r = take (length s - length r) s

-- a text keeps its place in the rules: how many bytes are left where it begins
abbrev pub identifier_is : Identifier → List ℕ → S.Identifier
identifier_is (Identifier.Number v) r = S.number v
identifier_is (Identifier.Text w) r = S.text (length w.now + length r) w.now

abbrev pub identifier_in : Option (Identifier × Bor (List ℕ)) → Result S.Identifier
identifier_in None = fail
identifier_in (Some x) = ok (identifier_is x.0 x.1.now) x.1.now

-- ---- identifiers with dots between

-- a reader takes a byte at least
abbrev pub Takes : {A : Type 0} → (List ℕ → Result A) → Type 0
Takes f = (s : List ℕ) → Gives (λ a. Behind 1 s) (f s)

unfoldable pub read_series : {A : Type 0} → (List ℕ → Result A) → List ℕ → Result (List A)
read_series f s = f s then λ a t. all (read_after_dot f) t then λ l r. ok (a ∷ l) r

-- a sign, and the identifiers of a range
unfoldable pub read_signed : List ℕ → Result (List S.Identifier)
unfolding read_series
read_signed s = one_of is_sign s then λ c t. read_series read_identifier t

-- how many there are, and which they are
abbrev pub series_of : {A : Type 0} → Result (List A) → Result (ℕ × List A)
series_of fail = fail
series_of (ok l r) = ok (length l, l) r

-- those that a text begins with
abbrev pub found_by : {A : Type 0} → (List ℕ → Result A) → List ℕ → List A
found_by f t = list_of (read_series f t)

abbrev pub series_in : {A : Type 0} → (List ℕ → Result A) → Option Identifiers → Result (ℕ × List A)
series_in f None = fail
series_in f (Some i) = ok (i.count, found_by f i.text.now) i.left.now

-- the identifiers of a range
abbrev pub qualifier_is : Identifiers → Result (ℕ × List S.Identifier)
qualifier_is i = ok (i.count, found_in i.text.now) i.left.now

abbrev pub qualifier_in : Option Identifiers → Result (ℕ × List S.Identifier)
qualifier_in None = fail
qualifier_in (Some i) = qualifier_is i

-- the text that identifiers begin, as it is given: where there are none, it is empty
abbrev pub begun : {A : Type 0} → List A → List ℕ → List ℕ
begun [] t = []
begun (a ∷ l) t = t

-- behind what was read, if anything was
abbrev pub on_rest : {A : Type 0} → (List ℕ → List ℕ) → Result A → List ℕ
on_rest f fail = []
on_rest f (ok a r) = f r
