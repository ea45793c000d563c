-- The writer of the rows of identifiers: what it knows while some are left, and what each of its ways gives.
-- Assumes nothing.
use Rattle.std.proofs.Common.{ℕ, ◌+◌, ◌-◌, ◌<◌, ◌≤◌, ◌≡◌, refl, sym, ◌∙◌, Bool, true, false, List, [], length, take, drop, arith, Some, None}
use lib.Dec.{leb}
use lib.ListN.{length-take, length-drop}
use borrow.Rule.Slice.PartMut.{put_mid}
use Rattle.rules.specs.Bytes.{bytes, is_letter, value, largest, pick}
use Rattle.rules.specs.Syntax as S
use Rattle.rules.specs.Syntax.{of_digits}
use Rattle.rules.specs.Parse.{Result, fail, ok, ◌then◌, run, literal, read_identifier, found_in}
use Rattle.rules.specs.Rows.{identifier_row}
use Rattle.rules.proofs.Results.{Gives, gives, given, gives-choose, gives_then}
use Rattle.rules.proofs.Left.{Behind, behind-left, identifier-behind, literal-behind, number_behind, one-behind}
use Rattle.lexer.specs.Views.{rest_of, identifier_is}
use Rattle.lexer.specs.declared.Identifier.{Identifier}
use Rattle.rows.specs.Put.{Put}
use Rattle.rows.specs.Views.{words_of, identifier_rows}
use Rattle.rows.proofs.Puts.{Writing, writing_start, writing-put, writing-end, writing-next, Begins, put-part}
use Rattle.rows.proofs.Found.{found-series, series_none, series_last, series_more}

-- ---- the row of an identifier

-- a text keeps how many bytes were left where it begins
abbrev Begun : List ℕ → S.Identifier → Type 0
Begun s (S.number v) = Unit {0}
Begun s (S.text left w) = left ≡ length s

identifier-begun : (s : List ℕ) → Gives (λ i r. Begun s i) (read_identifier s)
unfolding read_identifier of_digits run ◌then◌
identifier-begun s =
    gives-choose (number_behind s) (λ w r h. gives (digits w (leb (value w) largest)))
    (gives_then (one-behind is_letter s) λ c t h. gives refl)
  where
    digits : (w : List ℕ) (b : Bool) → Begun s (pick b (S.number (value w)) (S.text (length s) w))
    digits w true = tt
    digits w false = refl

-- as the code knows it: s is the end of a text of n bytes
row_words : (n : ℕ) (s : List ℕ) (i : Identifier) (r : List ℕ) → ok (identifier_is i r) r ≡ read_identifier s → identifier_row n (identifier_is i r) ≡ words_of i (n - length s)
unfolding identifier_row
row_words n s i r q = go i (given (rw (sym q) at (identifier-begun s)))
  where
    go : (i : Identifier) → Begun s (identifier_is i r) → identifier_row n (identifier_is i r) ≡ words_of i (n - length s)
    go (Identifier.Number v) h = refl
    go (Identifier.Text w) h = rw h

words-three : (i : Identifier) (place : ℕ) → length (words_of i place) ≡ 3
words-three (Identifier.Number v) place = refl
words-three (Identifier.Text w) place = refl

-- ---- put_identifiers

pub storing_less : (left r t : List ℕ) (i : Identifier) → ok (identifier_is i r) r ≡ read_identifier left → Some t ≡ rest_of (literal (bytes ".") r) → length t < length left
storing_less left r t i q k = go (literal (bytes ".") r) (literal-behind (bytes ".") r) k
  where
    behind : Behind 1 left r
    behind = given (rw (sym q) at (identifier-behind left))

    go : (g : Result (Unit {0})) → Gives (λ u. Behind 1 r) g → Some t ≡ rest_of g → length t < length left
    go fail b k = cc
    go (ok u v) b k = let x : t ≡ v = cc in rw x (omega (arith, behind-left (given b), behind-left behind))

-- The rows of the identifiers of s before what is left are stored; those of what is left are still to be stored, from `at` on.
abbrev pub Storing : List ℕ → ℕ → List ℕ → List ℕ → List ℕ → ℕ → Type 0
Storing s n start now left at = Writing start 0 (identifier_rows n (found_in s)) now at (identifier_rows n (found_in left))

module _ (s : List ℕ) (n : ℕ) (start now left : List ℕ) (at : ℕ) (h : Writing start 0 (identifier_rows n (found_in s)) now at (identifier_rows n (found_in left))) where
  pub storing_stop : fail ≡ read_identifier left → Put start 0 (identifier_rows n (found_in s)) now at
  unfolding identifier_rows
  storing_stop e = writing-end (rw (found-series left ∙ series_none read_identifier left (sym e)) at h)

  module _ (i : Identifier) (r : List ℕ) (q : ok (identifier_is i r) r ≡ read_identifier left) where
    behind : Behind 1 left r
    behind = given (rw (sym q) at (identifier-behind left))

    row : identifier_row n (identifier_is i r) ≡ words_of i (n - length left)
    row = row_words n left i r q

    last : None ≡ rest_of (literal (bytes ".") r) → Begins (identifier_rows n (found_in left)) (words_of i (n - length left)) []
    unfolding identifier_rows
    last k = record { split = rw (found-series left ∙ series_last read_identifier identifier-behind left (identifier_is i r) r (sym q) k, row) }

    more : (t : List ℕ) → Some t ≡ rest_of (literal (bytes ".") r)
        → Begins (identifier_rows n (found_in left)) (words_of i (n - length left)) (identifier_rows n (found_in t))
    unfolding identifier_rows
    more t k =
        record { split = rw (found-series left ∙ series_more read_identifier identifier-behind left (identifier_is i r) r (sym q) t k, ← found-series t, row) }

    -- where its row goes
    module _ (room : length (identifier_rows n (found_in s)) ≤ length start) where
      pub storing_next : at + 3 ≤ length now
      storing_next = go (literal (bytes ".") r) refl
        where
          go : (g : Result (Unit {0})) → literal (bytes ".") r ≡ g → at + 3 ≤ length now
          go fail e = let t = words-three i (n - length left) in omega (arith, writing-next h (last (rw e)) (omega arith))
          go (ok u t) e = let t' = words-three i (n - length left) in omega (arith, writing-next h (more t (rw e)) (omega arith))

      pub storing_room : 3 ≤ length (take (length now - at) (drop at now))
      storing_room = let n = storing_next in simp (length-take, length-drop) (omega arith)

    module _ (y : List ℕ) (p : Put (take (length now - at) (drop at now)) 0 (words_of i (n - length left)) y 3) where
      pub storing_last : None ≡ rest_of (literal (bytes ".") r) → Put start 0 (identifier_rows n (found_in s)) (put_mid at (length now - at) now y) (at + 3)
      unfolding identifier_rows
      storing_last k = writing-end (writing-put h (last k) (put-part p))

      module _ (t : List ℕ) (k : Some t ≡ rest_of (literal (bytes ".") r)) where
        pub storing_more : Storing s n start (put_mid at (length now - at) now y) t (at + 3)
        storing_more = writing-put h (more t k) (put-part p)

pub ruleset storings = (writing_start, storing_stop, storing_next, storing_room, storing_last, storing_more, storing_less)
