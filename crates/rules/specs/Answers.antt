-- The answers of the calls: the refusals in 01's order, each decided over the whole text before the next, and what becomes of the lent
-- memory (01, "What a call hands back").
-- Assumes nothing.
use Rattle.std.specs.Prelude.{ℕ, ◌+◌, ◌/◌, Bool, true, ◌&&◌, List, [], ◌∷◌, ◌++◌, leb, length, take, drop}
use Rattle.std.proofs.Math.Option.{Option, none, some}
use Rattle.rules.specs.Lists.{concat, each}
use Rattle.rules.specs.Bytes.{largest, pick}
use Rattle.rules.specs.Syntax.{Partial, Item, item, Range, nothing, items, hyphen}
use Rattle.rules.specs.Parse.{Result, fail, ok, read_text}
use Rattle.rules.specs.Expansion.{Compat, major_of, minor_of, patch_of, Comparator, comparator, Reading, expand}
use Rattle.rules.specs.Rows.{comparator_width, comparator_words, all_identifiers, identifier_words}
use Rattle.rules.specs.NormalText.{spell}

pub data Answer (A : Type 0) : Type 0 where
  accepted : A → Answer A
  refused : ℕ → Answer A

-- accepted if the test passes, else refused with the number; an earlier refusal stays
abbrev pub unless : {A : Type 0} → ℕ → (A → Bool) → Answer A → Answer A
unless n p (refused k) = refused k
unless n p (accepted a) = pick (p a) (accepted a) (refused n)

abbrev pub fits : ℕ → Bool
fits n = leb n largest

-- ---- the refusals 1 to 4

-- the longest range text
abbrev pub longest : ℕ
longest = 65535

-- no component that is read exceeds the largest number; a missing one is zero
unfoldable pub partial_fits : Partial → Bool
partial_fits p = fits (major_of p) && (fits (minor_of p) && fits (patch_of p))

unfoldable pub item_fits : Item → Bool
unfolding partial_fits
item_fits (item f p) = partial_fits p

unfoldable pub range_fits : Range → Bool
unfolding item_fits partial_fits
range_fits nothing = true
range_fits (items i is) = each item_fits (i ∷ is)
range_fits (hyphen p q) = partial_fits p && partial_fits q

-- no component of a comparator exceeds the largest number. Where 3 does not apply, that is so exactly where no expansion adds one to a
-- component equal to it (theorem 2).
unfoldable pub comparator_fits : Comparator → Bool
comparator_fits (comparator o a b c is) = fits a && (fits b && fits c)

unfoldable pub reading_fits : Reading → Bool
unfolding comparator_fits
reading_fits rs = each (each comparator_fits) rs

abbrev pub map_answer : {A B : Type 0} → (A → B) → Answer A → Answer B
map_answer f (accepted a) = accepted (f a)
map_answer f (refused n) = refused n

-- a call, and a second one with what the first hands back
abbrev pub and_then : {A B : Type 0} → Answer A → (A → Answer B) → Answer B
and_then (refused n) f = refused n
and_then (accepted a) f = f a

-- the text that is handed back, or none
abbrev pub text_of : Answer (List ℕ) → List ℕ
text_of (accepted w) = w
text_of (refused n) = []

-- what is there, or the refusal
abbrev pub or_refused : {A : Type 0} → ℕ → Option A → Answer A
or_refused n none = refused n
or_refused n (some a) = accepted a

-- "2. The range text has no reading in the grammar below."
unfoldable pub derived : Result (List Range) → Answer (List Range)
derived fail = refused 2
derived (ok rs r) = accepted rs

unfoldable pub derive : Answer (List ℕ) → Answer (List Range)
unfolding derived read_text
derive (accepted t) = derived (read_text t)
derive (refused n) = refused n

-- "1. The range text is longer than 65,535 bytes." 2. "3. A component that is read exceeds 18446744073709551615." "4. An expansion must add one to
-- a component equal to 18446744073709551615."
unfoldable pub checked : Compat → List ℕ → Answer (List Range)
unfolding derive range_fits reading_fits expand
checked m t = unless 4 (λ rs. reading_fits (expand m rs)) (unless 3 (each range_fits) (derive (unless 1 (λ t. leb (length t) longest) (accepted t))))

-- the reading of a text to which none of 1 to 4 applies
unfoldable pub reading : Compat → List ℕ → Answer Reading
unfolding checked expand
reading m t = map_answer (expand m) (checked m t)

unfoldable pub normal_text : Compat → List ℕ → Answer (List ℕ)
unfolding reading spell
normal_text m t = map_answer spell (reading m t)

-- ---- the reading call

abbrev pub comparator_rows : Reading → ℕ
comparator_rows rs = length (concat rs)

unfoldable pub identifier_rows : Reading → ℕ
unfolding all_identifiers
identifier_rows rs = length (all_identifiers rs)

-- "5. .. The comparator rows needed exceed the comparator words divided by 6, rounded down."; "Refusal 5 now divides the comparator words by 8."
-- (02, N2) "6. .. The identifier rows needed exceed the identifier words divided by 3, rounded down." The numbers are how many words are lent.
unfoldable pub reading_call : Compat → List ℕ → ℕ → ℕ → Answer Reading
unfolding reading identifier_rows
reading_call m t cw iw = unless 6 (λ rs. leb (identifier_rows rs) (iw / 3)) (unless 5 (λ rs. leb (comparator_rows rs) (cw / comparator_width)) (reading m t))

-- "A refused call hands back its number and zero counts"; an accepted one has the number 0
pub record Outcome : Type 0 where
  pub refusal : ℕ
  pub ranges : ℕ
  pub comparators : ℕ
  pub identifiers : ℕ

unfoldable pub reading_outcome : Answer Reading → Outcome
unfolding identifier_rows
reading_outcome (refused n) = record { refusal = n; ranges = 0; comparators = 0; identifiers = 0 }
reading_outcome (accepted rs) = record { refusal = 0; ranges = length rs; comparators = comparator_rows rs; identifiers = identifier_rows rs }

-- "fills that many rows from the start of each slice. Later words keep their contents"; a refused call "changes no lent memory"
unfoldable pub written : {A : Type 0} → (A → List ℕ) → Answer A → List ℕ → List ℕ
written f (refused n) old = old
written f (accepted a) old = f a ++ drop (length (f a)) old

-- the lent comparator words after a call that reads t under m, and the lent identifier words
unfoldable pub comparator_words_after : Compat → List ℕ → Answer Reading → List ℕ → List ℕ
unfolding written comparator_words
comparator_words_after m t a old = written (λ rs. comparator_words m t) a old

unfoldable pub identifier_words_after : List ℕ → Answer Reading → List ℕ → List ℕ
unfolding written identifier_words
identifier_words_after t a old = written (identifier_words (length t)) a old

-- ---- the identifier bytes call

-- "The identifier's bytes are handed back as that part of the caller's text; if place plus length passes the end, the empty part. It never
-- refuses."
abbrev pub identifier_bytes : List ℕ → ℕ → ℕ → List ℕ
identifier_bytes t place n = pick (leb (place + n) (length t)) (take n (drop place t)) []

-- ---- the normal text call

-- "7. .. The normal text is longer than the lent bytes."
unfoldable pub normal_text_call : Compat → List ℕ → ℕ → Answer (List ℕ)
unfolding normal_text
normal_text_call m t lent = unless 7 (λ w. leb (length w) lent) (normal_text m t)

-- its refusal, and the length that it hands back
pub record Length : Type 0 where
  pub refusal : ℕ
  pub length : ℕ

unfoldable pub normal_text_outcome : Answer (List ℕ) → Length
normal_text_outcome (refused n) = record { refusal = n; length = 0 }
normal_text_outcome (accepted w) = record { refusal = 0; length = length w }

-- "writes it at the start; later bytes keep theirs"
unfoldable pub bytes_after : Answer (List ℕ) → List ℕ → List ℕ
unfolding written
bytes_after a old = written (λ w. w) a old
