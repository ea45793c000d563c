-- Texts with their normal text or refusal: the bench sheet of 01, and further worked examples, by subject. Theorems 3 and 4 hold the definitions to
-- them.
-- Assumes nothing.
use Rattle.std.specs.Prelude.{ℕ, zero, suc, List, [], ◌∷◌, ◌++◌, map, length, take, drop}
use Prim.Native.String.{String}
use Rattle.rules.specs.Lists.{concat}
use Rattle.rules.specs.Bytes.{bytes}
use Rattle.rules.specs.Expansion.{Compat, cargo, npm}
use Rattle.rules.specs.Rows.{comparator_width, comparator_words, identifier_words}
use Rattle.rules.specs.Answers.{Answer, accepted, refused, map_answer, reading, normal_text, comparator_rows}

-- the modes, a text, and its normal text or its refusal under each of them
pub data Example : Type 0 where
  example : List Compat → String → Answer String → Example

abbrev pub both : List Compat
both = cargo ∷ npm ∷ []

-- "Bench sheet": its fifteen rows, in its order
unfoldable pub bench_sheet : List Example
bench_sheet =
    example both "" (accepted ">=0.0.0")
    ∷ example both "||" (accepted ">=0.0.0 || >=0.0.0")
    ∷ example (npm ∷ []) "1.2.3" (accepted "=1.2.3")
    ∷ example (cargo ∷ []) "1.2.3" (accepted ">=1.2.3 <2.0.0")
    ∷ example (cargo ∷ []) "0.0.3" (accepted ">=0.0.3 <0.0.4")
    ∷ example both "~>1.2" (accepted ">=1.2.0 <1.3.0")
    ∷ example both ">1" (accepted ">1.0.0")
    ∷ example both "<=1.2" (accepted "<1.3.0")
    ∷ example both "* - 2" (accepted "<3.0.0")
    ∷ example (npm ∷ []) "1.2.3+b7" (accepted "=1.2.3-b7")
    ∷ example both "1,2" (refused 2)
    ∷ example both "1.2.3-1a" (refused 2)
    ∷ example both "18446744073709551616" (refused 3)
    ∷ example both "18446744073709551615" (refused 4)
    ∷ example both "1.x.18446744073709551616" (accepted ">=1.0.0 <2.0.0")
    ∷ []

-- "Misreadings to shut out": bare `1.2` under Cargo is no caret; `^0.0.3` raises the patch; a huge component behind a wildcard is not read;
-- a caret's upper end keeps no identifiers
unfoldable pub misreadings : List Example
misreadings =
    example both "1.2" (accepted ">=1.2.0 <1.3.0")
    ∷ example both "^0.0.3" (accepted ">=0.0.3 <0.0.4")
    ∷ example both "x.18446744073709551616" (accepted ">=0.0.0")
    ∷ example both "1.2.*-18446744073709551616" (accepted ">=1.2.0 <1.3.0")
    ∷ example both "^1.2.3-a.1" (accepted ">=1.2.3-a.1 <2.0.0")
    ∷ []

-- the text for which forty terminals were swapped, and the edges of the refusals 2, 3 and 4 and of their order
unfoldable pub edges : List Example
edges =
    example both "1.0.0 - 18446744073709551615" (refused 4)
    ∷ example both "1.0.0 - 18446744073709551615.x" (refused 4)
    ∷ example both "1.0.0 - 18446744073709551615.0.0" (accepted ">=1.0.0 <=18446744073709551615.0.0")
    ∷ example both "18446744073709551615 18446744073709551616" (refused 3)
    ∷ example both "18446744073709551616 || ^18446744073709551615" (refused 3)
    ∷ example both "18446744073709551616 !" (refused 2)
    ∷ example (cargo ∷ []) "18446744073709551615.0.0" (refused 4)
    ∷ example (npm ∷ []) "18446744073709551615.0.0" (accepted "=18446744073709551615.0.0")
    ∷ example both "=18446744073709551615.0.0" (accepted "=18446744073709551615.0.0")
    ∷ example both "~18446744073709551615.1.2" (accepted ">=18446744073709551615.1.2 <18446744073709551615.2.0")
    ∷ example both "<18446744073709551615" (accepted "<18446744073709551615.0.0")
    ∷ example both "=1.2.3-18446744073709551616" (accepted "=1.2.3-18446744073709551616")
    ∷ example both "1, 2" (accepted ">=1.0.0 <2.0.0 >=2.0.0 <3.0.0")
    ∷ example both "1 , 2" (refused 2)
    ∷ example both "1," (refused 2)
    ∷ example both "1 - 2 3" (refused 2)
    ∷ example both "1 -2" (refused 2)
    ∷ example both "|" (refused 2)
    ∷ example both "1 | 2" (refused 2)
    ∷ example both "1.2.3.4" (refused 2)
    ∷ example both "1.2-a" (refused 2)
    ∷ example both "1.2.3-a+b" (refused 2)
    ∷ example both "=1.2.3-0-1" (refused 2)
    ∷ example both "01" (refused 2)
    ∷ example both "x.1.1-1a" (refused 2)
    ∷ example both " \t1.2 \t" (accepted ">=1.2.0 <1.3.0")
    ∷ example both "* - *" (accepted ">=0.0.0")
    ∷ example both "1 - *" (accepted ">=1.0.0")
    ∷ example both ">*" (accepted "<0.0.0")
    ∷ example both "<=*" (accepted ">=0.0.0")
    ∷ example (cargo ∷ []) "1.2.3 || >1, <=1.2" (accepted ">=1.2.3 <2.0.0 || >1.0.0 <1.3.0")
    ∷ example (npm ∷ []) "1.2.3 || >1, <=1.2" (accepted "=1.2.3 || >1.0.0 <1.3.0")
    ∷ []

-- 3 for each component of a partial and each side of a hyphen range; 4 for each component that is raised
unfoldable pub large : List Example
large =
    example both "1.18446744073709551616" (refused 3)
    ∷ example both "1.2.18446744073709551616" (refused 3)
    ∷ example both "1 - 18446744073709551616" (refused 3)
    ∷ example both "18446744073709551616 - 1" (refused 3)
    ∷ example both "1 || 18446744073709551616" (refused 3)
    ∷ example both "1.18446744073709551615" (refused 4)
    ∷ example both "^0.0.18446744073709551615" (refused 4)
    ∷ example both "~1.18446744073709551615.0" (refused 4)
    ∷ example both "<=18446744073709551615" (refused 4)
    ∷ example both "1 || <=1.18446744073709551615" (refused 4)
    ∷ []

-- each operator, tilde and caret on what is partly read: on XRangeOnly, on one component, on two, and carets and tildes on zeros
unfoldable pub partly_read : List Example
partly_read =
    example both "<*" (accepted "<0.0.0")
    ∷ example both "<1" (accepted "<1.0.0")
    ∷ example both "<1.2" (accepted "<1.2.0")
    ∷ example both "<=1" (accepted "<2.0.0")
    ∷ example both ">1.2" (accepted ">1.2.0")
    ∷ example both ">=*" (accepted ">=0.0.0")
    ∷ example both ">=1" (accepted ">=1.0.0")
    ∷ example both ">=1.2" (accepted ">=1.2.0")
    ∷ example both "=*" (accepted ">=0.0.0")
    ∷ example both "=1" (accepted ">=1.0.0 <2.0.0")
    ∷ example both "=1.2" (accepted ">=1.2.0 <1.3.0")
    ∷ example both "~*" (accepted ">=0.0.0")
    ∷ example both "~0.0.3" (accepted ">=0.0.3 <0.1.0")
    ∷ example both "~>1.2.3" (accepted ">=1.2.3 <1.3.0")
    ∷ example both "^*" (accepted ">=0.0.0")
    ∷ example both "^0" (accepted ">=0.0.0 <1.0.0")
    ∷ example both "^0.1" (accepted ">=0.1.0 <0.2.0")
    ∷ example both "^1.0" (accepted ">=1.0.0 <2.0.0")
    ∷ example both "^1.0.0" (accepted ">=1.0.0 <2.0.0")
    ∷ example both "^0.0.0" (accepted ">=0.0.0 <0.0.1")
    ∷ example (cargo ∷ []) "0.2.3" (accepted ">=0.2.3 <0.3.0")
    ∷ example both "x.1.2-a" (accepted ">=0.0.0")
    ∷ example both "1.2 - x" (accepted ">=1.2.0")
    ∷ example both "x - 1.2.3" (accepted "<=1.2.3")
    ∷ example both "1.2.3-a - x.2.3-b" (accepted ">=1.2.3-a")
    ∷ []

-- spaces, tabs, commas and bars
unfoldable pub spaced : List Example
spaced =
    example both "  " (accepted ">=0.0.0")
    ∷ example both "<  1" (accepted "<1.0.0")
    ∷ example both "~ \t1" (accepted ">=1.0.0 <2.0.0")
    ∷ example both "^  1" (accepted ">=1.0.0 <2.0.0")
    ∷ example both "1 \t-  2" (accepted ">=1.0.0 <3.0.0")
    ∷ example both "1  2" (accepted ">=1.0.0 <2.0.0 >=2.0.0 <3.0.0")
    ∷ example both "1,\t 2" (accepted ">=1.0.0 <2.0.0 >=2.0.0 <3.0.0")
    ∷ example (cargo ∷ []) "1 2.3.4" (accepted ">=1.0.0 <2.0.0 >=2.3.4 <3.0.0")
    ∷ example both "1||2" (accepted ">=1.0.0 <2.0.0 || >=2.0.0 <3.0.0")
    ∷ example both "1  ||\t 2" (accepted ">=1.0.0 <2.0.0 || >=2.0.0 <3.0.0")
    ∷ example both "|| 1 ||" (accepted ">=0.0.0 || >=1.0.0 <2.0.0 || >=0.0.0")
    ∷ []

-- texts that have no reading: marks of other tools, and a byte that is missing, doubled or in the wrong place
unfoldable pub unread : List Example
unread =
    example both "?" (refused 2)
    ∷ example both "v1" (refused 2)
    ∷ example both "!=1" (refused 2)
    ∷ example both "==1" (refused 2)
    ∷ example both "=>1" (refused 2)
    ∷ example both "~=1" (refused 2)
    ∷ example both "<" (refused 2)
    ∷ example both "1." (refused 2)
    ∷ example both "1.2." (refused 2)
    ∷ example both ".1" (refused 2)
    ∷ example both "1.2.3-" (refused 2)
    ∷ example both "1.2.3-a." (refused 2)
    ∷ example both "1.2.3-a..b" (refused 2)
    ∷ example both "1.2.3-01" (refused 2)
    ∷ example both "1.2.3_a" (refused 2)
    ∷ example both "1+a" (refused 2)
    ∷ example both "1.2+a" (refused 2)
    ∷ example both "1, " (refused 2)
    ∷ example both ", 1" (refused 2)
    ∷ example both "1,, 2" (refused 2)
    ∷ example both "1; 2" (refused 2)
    ∷ example both "1 -- 2" (refused 2)
    ∷ example both "1 - 2 - 3" (refused 2)
    ∷ example both "1 - <2" (refused 2)
    ∷ example both ">=1 - 2" (refused 2)
    ∷ example both "~1 - 2" (refused 2)
    ∷ example both "^1 - 2" (refused 2)
    ∷ example both "1, || 2" (refused 2)
    ∷ example both "1 ||| 2" (refused 2)
    ∷ example both "1\n" (refused 2)
    ∷ []

-- node-semver's README (edition 7.3.5), "Ranges", "Hyphen Ranges", "X-Ranges", "Tilde Ranges" and "Caret Ranges": examples on which 01 agrees
-- with it (for the tildes, with the form that it writes first, as `>=1.2.3 <1.(2+1).0`)
unfoldable pub node_readme : List Example
node_readme =
    example both ">=1.2.7" (accepted ">=1.2.7")
    ∷ example both ">=1.2.7 <1.3.0" (accepted ">=1.2.7 <1.3.0")
    ∷ example (npm ∷ []) "1.2.7 || >=1.2.9 <2.0.0" (accepted "=1.2.7 || >=1.2.9 <2.0.0")
    ∷ example both ">1.2.3-alpha.3" (accepted ">1.2.3-alpha.3")
    ∷ example both "1.2.3 - 2.3.4" (accepted ">=1.2.3 <=2.3.4")
    ∷ example both "1.2 - 2.3.4" (accepted ">=1.2.0 <=2.3.4")
    ∷ example both "*" (accepted ">=0.0.0")
    ∷ example both "" (accepted ">=0.0.0")
    ∷ example both "~1.2.3" (accepted ">=1.2.3 <1.3.0")
    ∷ example both "~1.2" (accepted ">=1.2.0 <1.3.0")
    ∷ example both "~1" (accepted ">=1.0.0 <2.0.0")
    ∷ example both "~0.2.3" (accepted ">=0.2.3 <0.3.0")
    ∷ example both "~0.2" (accepted ">=0.2.0 <0.3.0")
    ∷ example both "~0" (accepted ">=0.0.0 <1.0.0")
    ∷ example both ">=1.2.3-beta.2 <1.3.0-0" (accepted ">=1.2.3-beta.2 <1.3.0-0")
    ∷ example both ">=1.2.3-beta.2 <2.0.0-0" (accepted ">=1.2.3-beta.2 <2.0.0-0")
    ∷ []

-- and examples on which 01 agrees with it but for the `-0` that it writes on upper ends (docs/DIFFERENCES.md)
unfoldable pub node_readme_upper : List Example
node_readme_upper =
    example both "1.2.3 - 2.3" (accepted ">=1.2.3 <2.4.0")
    ∷ example both "1.2.3 - 2" (accepted ">=1.2.3 <3.0.0")
    ∷ example both "1.x" (accepted ">=1.0.0 <2.0.0")
    ∷ example both "1.X" (accepted ">=1.0.0 <2.0.0")
    ∷ example both "1.2.x" (accepted ">=1.2.0 <1.3.0")
    ∷ example both "1.2.*" (accepted ">=1.2.0 <1.3.0")
    ∷ example both "1" (accepted ">=1.0.0 <2.0.0")
    ∷ example both "1.2" (accepted ">=1.2.0 <1.3.0")
    ∷ example both "~1.2.3-beta.2" (accepted ">=1.2.3-beta.2 <1.3.0")
    ∷ example both "^1.2.3" (accepted ">=1.2.3 <2.0.0")
    ∷ example both "^0.2.3" (accepted ">=0.2.3 <0.3.0")
    ∷ example both "^0.0.3" (accepted ">=0.0.3 <0.0.4")
    ∷ example both "^1.2.3-beta.2" (accepted ">=1.2.3-beta.2 <2.0.0")
    ∷ example both "^0.0.3-beta" (accepted ">=0.0.3-beta <0.0.4")
    ∷ example both "^1.2.x" (accepted ">=1.2.0 <2.0.0")
    ∷ example both "^0.0.x" (accepted ">=0.0.0 <0.1.0")
    ∷ example both "^0.0" (accepted ">=0.0.0 <0.1.0")
    ∷ example both "^1.x" (accepted ">=1.0.0 <2.0.0")
    ∷ example both "^0.x" (accepted ">=0.0.0 <1.0.0")
    ∷ []

-- the second table
unfoldable pub worked : List Example
unfolding misreadings edges large partly_read spaced unread node_readme node_readme_upper
worked = misreadings ++ (edges ++ (large ++ (partly_read ++ (spaced ++ (unread ++ (node_readme ++ node_readme_upper))))))

-- Texts with the words of their rows under both modes: comparator rows, then identifier rows.
pub data Rows : Type 0 where
  rows : String → List ℕ → List ℕ → Rows

unfoldable pub worked_rows : List Rows
worked_rows =
    rows "" (0 ∷ 3 ∷ 0 ∷ 0 ∷ 0 ∷ 0 ∷ 0 ∷ 0 ∷ []) []
    ∷ rows "^1.2.3-a.0 || <2"
    (0 ∷ 3 ∷ 1 ∷ 2 ∷ 3 ∷ 2 ∷ 0 ∷ 10 ∷ 0 ∷ 0 ∷ 2 ∷ 0 ∷ 0 ∷ 0 ∷ 0 ∷ 10 ∷ 1 ∷ 0 ∷ 2 ∷ 0 ∷ 0 ∷ 0 ∷ 14 ∷ 2 ∷ [])
    (1 ∷ 7 ∷ 1 ∷ 0 ∷ 0 ∷ 0 ∷ [])
    ∷ rows "=1.2.3-18446744073709551615.18446744073709551616"
    (0 ∷ 4 ∷ 1 ∷ 2 ∷ 3 ∷ 2 ∷ 0 ∷ 48 ∷ [])
    (0 ∷ 18446744073709551615 ∷ 0 ∷ 1 ∷ 28 ∷ 20 ∷ [])
    ∷ rows "1.2.3+-x\t- 4.5.6-b7 ||  <=7, >8.9"
    (0 ∷ 3 ∷ 1 ∷ 2 ∷ 3 ∷ 1 ∷ 0 ∷ 19 ∷ 0 ∷ 1 ∷ 4 ∷ 5 ∷ 6 ∷ 1 ∷ 0 ∷ 19 ∷ 1 ∷ 0 ∷ 8 ∷ 0 ∷ 0 ∷ 0 ∷ 24 ∷ 3 ∷ 1 ∷ 2 ∷ 8 ∷ 9 ∷ 0 ∷ 0 ∷ 29 ∷ 4 ∷ [])
    (1 ∷ 6 ∷ 2 ∷ 1 ∷ 17 ∷ 2 ∷ [])
    ∷ []

-- Texts with words seven and eight of each of their comparator rows under both modes: the place of the item, and its length (02, N2).
pub data Items : Type 0 where
  items : String → List (ℕ × ℕ) → Items

-- An operator belongs to its item, and so do the spaces behind it and what is not read behind a wildcard; a comma and outer spaces do not. A caret's
-- two rows have the same words, and so have a hyphen range's. An empty range: blanks only, at the start, in the middle and at the end.
unfoldable pub worked_items : List Items
worked_items =
    items ">= 2, ^1.2.3" ((0, 4) ∷ (6, 6) ∷ (6, 6) ∷ [])
    ∷ items "\t~> \t1.2,\t <3  >=4.x " ((1, 7) ∷ (1, 7) ∷ (11, 2) ∷ (15, 5) ∷ [])
    ∷ items "1.x.3-a   2.*,  =0.0.1+b||<1" ((0, 7) ∷ (0, 7) ∷ (10, 3) ∷ (10, 3) ∷ (16, 8) ∷ (26, 2) ∷ [])
    ∷ items "|| 1  - 2.x.3-a " ((0, 0) ∷ (3, 12) ∷ (3, 12) ∷ [])
    ∷ items " 1.2.*-b\t-  x.1 ||* -\t3" ((1, 14) ∷ (18, 5) ∷ [])
    ∷ items "* - *" ((0, 5) ∷ [])
    ∷ items "" ((0, 0) ∷ [])
    ∷ items " \t " ((3, 0) ∷ [])
    ∷ items " ||  " ((1, 0) ∷ (5, 0) ∷ [])
    ∷ items "  ||1" ((2, 0) ∷ (4, 1) ∷ (4, 1) ∷ [])
    ∷ items "1 || \t ||  <2" ((0, 1) ∷ (0, 1) ∷ (7, 0) ∷ (11, 2) ∷ [])
    ∷ items "<1 ||  " ((0, 2) ∷ (7, 0) ∷ [])
    ∷ []

-- ---- what a table says, and what the definitions say

-- of a row that has both: what the definitions say, and what the table does
abbrev pub said : {A : Type 0} → A × A → A
said row = row.0

abbrev pub given : {A : Type 0} → A × A → A
given row = row.1

abbrev pub expected : Example → List (Answer (List ℕ))
expected (example ms t a) = map (λ m. map_answer bytes a) ms

unfoldable pub answered : Example → List (Answer (List ℕ))
unfolding normal_text
answered (example ms t a) = map (λ m. normal_text m (bytes t)) ms

-- the words of an accepted text, as the reading call fills them
unfoldable pub words_of : Compat → List ℕ → Answer (List ℕ × List ℕ)
unfolding reading comparator_words identifier_words
words_of m t = map_answer (λ rs. (comparator_words m t, identifier_words (length t) rs)) (reading m t)

unfoldable pub rows_answered : Rows → List (Answer (List ℕ × List ℕ))
unfolding words_of
rows_answered (rows t cws iws) = map (λ m. words_of m (bytes t)) both

abbrev pub rows_expected : Rows → List (Answer (List ℕ × List ℕ))
rows_expected (rows t cws iws) = map (λ m. accepted (cws, iws)) both

-- words seven and eight of each of so many rows
unfoldable pub item_words : ℕ → List ℕ → List ℕ
item_words zero ws = []
item_words (suc n) ws = take 2 (drop 6 ws) ++ item_words n (drop comparator_width ws)

unfoldable pub items_answered : Items → List (Answer (List ℕ))
unfolding item_words reading comparator_words
items_answered (items t es) = map (λ m. map_answer (λ rs. item_words (comparator_rows rs) (comparator_words m (bytes t))) (reading m (bytes t))) both

abbrev pub items_expected : Items → List (Answer (List ℕ))
items_expected (items t es) = map (λ m. accepted (concat (map (λ e. e.0 ∷ e.1 ∷ []) es))) both
