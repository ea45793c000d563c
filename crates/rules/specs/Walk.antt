-- The walk over a text, one piece after another, as code takes it: each step reads a partial with what stands before it, and says by the first
-- byte behind the spaces what stands behind it. Cited by contracts; that the walk gives what the grammar derives, expanded, is proved
-- (`text-walk`, proofs/WalkLaws.antt), so nothing of it has to be believed.
-- Assumes nothing.
use Rattle.std.specs.Prelude.{◌≡◌, ℕ, suc, ◌+◌, ◌-◌, Bool, true, false, not, ◌&&◌, List, [], ◌∷◌, ◌++◌, map, eqb, ltb, length}
use Rattle.std.proofs.Math.Option.{Option, none, some}
use Rattle.rules.specs.Lists.{concat, some_of}
use Rattle.rules.specs.Bytes.{bytes, pick}
use Rattle.rules.specs.Syntax as S
use Rattle.rules.specs.Syntax.{Partial, x_range_only, major_only, major_minor, major_minor_patch, identifiers_of, Prefix, bare, tilde, caret, op, Range}
use Rattle.rules.specs.Parse.{Result, fail, ok, literal, skip, spaces₁, read_partial, read_prefix}
use Rattle.rules.specs.Expansion.{Compat, Comparator, component_of, Piece, piece, comparators, everything, expand_item, expand_left, expand_right, expand_range, comparators_of}
use Rattle.rules.specs.Rows.{identifier_row}
use Rattle.rules.specs.NormalText.{spell_comparator}
use Rattle.rules.specs.Answers.{fits, partial_fits}
use Rattle.rules.specs.Extents.{Extent, extent}

-- ---- what stands behind a piece

-- An item of the same range; a further range; the right side of a hyphen range, whose left side gave a row, or gave none; the text's end; or
-- nothing that the grammar has.
pub data Stage : Type 0 where
  item range right only end bad : Stage

-- and the text from there on
pub data Behind : Type 0 where
  behind : Stage → List ℕ → Behind

-- what a reader's answer gives, or else
abbrev pub answer : {A B : Type 0} → Result A → (A → List ℕ → B) → B → B
answer fail f b = b
answer (ok a r) f b = f a r

abbrev pub nowhere : Behind
nowhere = behind bad []

-- behind a range and spaces: the end, or the separator
abbrev pub closes : List ℕ → Behind
closes [] = behind end []
closes (c ∷ s) = answer (literal (0x7C ∷ 0x7C ∷ []) (c ∷ s)) (λ u r. behind range r) nowhere

abbrev pub after_range : List ℕ → Behind
after_range s = closes (skip s)

-- Behind an item and spaces, if there were any: the range closes by a bar; a dash may follow a bare partial that begins a range; another item
-- follows spaces, or a comma and spaces.
abbrev pub continues : Bool → Bool → List ℕ → Behind
continues dashed spaced [] = behind end []
continues dashed spaced (c ∷ s) =
    pick (eqb c 124) (closes (c ∷ s))
    (pick spaced (pick (dashed && eqb c 45) (answer (spaces₁ s) (λ u r. behind right r) nowhere) (behind item (c ∷ s)))
    (pick (eqb c 44) (answer (spaces₁ s) (λ u r. behind item r) nowhere) nowhere))

unfoldable pub follow : Bool → List ℕ → Behind
follow dashed s = continues dashed (ltb (length (skip s)) (length s)) (skip s)

-- ---- a step

pub data Step : Type 0 where
  step : Piece → Stage → List ℕ → Step

abbrev pub stuck : Step
stuck = step everything bad []

abbrev pub step_to : Piece → Behind → Step
step_to x (behind st r) = step x st r

-- what stands before a partial, and where the partial begins
abbrev pub prefix_at : List ℕ → Prefix
prefix_at s = answer (read_prefix s) (λ f t. f) bare

abbrev pub partial_at : List ℕ → List ℕ
partial_at s = answer (read_prefix s) (λ f t. skip t) s

abbrev pub is_bare : Prefix → Bool
is_bare bare = true
is_bare tilde = false
is_bare caret = false
is_bare (op o) = false

-- the right side of a hyphen range with this left side
abbrev pub right_of : Partial → Stage
right_of x_range_only = only
right_of (major_only a) = right
right_of (major_minor a b) = right
right_of (major_minor_patch a b c is) = right

-- an item, or the left side of a hyphen range, by what follows it
abbrev pub taken : Compat → Prefix → Partial → Behind → Step
taken m f p (behind right r) = step (expand_left p) (right_of p) r
taken m f p (behind item r) = step (expand_item m (S.item f p)) item r
taken m f p (behind range r) = step (expand_item m (S.item f p)) range r
taken m f p (behind only r) = stuck
taken m f p (behind end r) = step (expand_item m (S.item f p)) end r
taken m f p (behind bad r) = stuck

-- an item; where none is read, what then is
unfoldable pub next_item : Compat → Bool → Step → List ℕ → Step
unfolding follow
next_item m first other s = answer (read_partial (partial_at s)) (λ p r. taken m (prefix_at s) p (follow (first && is_bare (prefix_at s)) r)) other

unfoldable pub next_right : Partial → List ℕ → Step
next_right p s = answer (read_partial s) (λ q r. step_to (expand_right p q) (after_range r)) stuck

unfoldable pub next : Compat → Stage → List ℕ → Step
unfolding next_item next_right
next m range s = next_item m true (step_to everything (after_range (skip s))) (skip s)
next m item s = next_item m false stuck s
next m right s = next_right (major_only 0) s
next m only s = next_right x_range_only s
next m end s = stuck
next m bad s = stuck

-- ---- all steps

-- a piece before those that follow it in its range
abbrev pub push : {A : Type 0} → A → List (List A) → List (List A)
push x [] = (x ∷ []) ∷ []
push x (ps ∷ rs) = (x ∷ ps) ∷ rs

abbrev pub map_option : {A B : Type 0} → (A → B) → Option A → Option B
map_option f none = none
map_option f (some a) = some (f a)

-- a step at this stage begins a range, or goes on with one
abbrev pub opening : {A : Type 0} → Stage → List (List A) → List (List A)
opening range rs = [] ∷ rs
opening item rs = rs
opening right rs = rs
opening only rs = rs
opening end rs = rs
opening bad rs = rs

abbrev pub goes_on : Stage → Bool
goes_on item = true
goes_on range = true
goes_on right = true
goes_on only = true
goes_on end = false
goes_on bad = false

-- What is still to come at a stage: first the pieces of the range that has begun, then those of the further ranges; none, if it has no reading.
pub data Walks (m : Compat) : Stage → List ℕ → Option (List (List Piece)) → Type 0 where
  ends : {s : List ℕ} → Walks m end s (some ([] ∷ []))
  fails : {s : List ℕ} → Walks m bad s none
  goes : {st st' : Stage} {s r : List ℕ} {x : Piece} {o : Option (List (List Piece))}
      → goes_on st ≡ true → next m st s ≡ step x st' r → Walks m st' r o → Walks m st s (map_option (λ rs. opening st (push x rs)) o)

-- ---- where the item of a step stands (02, N2): how many bytes are left where it begins, and behind it

-- the sides of a hyphen range begin where its left side does
abbrev pub begin_at : Stage → ℕ → List ℕ → ℕ
begin_at range b s = length (skip s)
begin_at item b s = length s
begin_at right b s = b
begin_at only b s = b
begin_at end b s = b
begin_at bad b s = b

-- behind a partial, where this stands behind it: a hyphen range ends with its right side
abbrev pub end_behind : List ℕ → Behind → ℕ
end_behind r (behind right v) = answer (read_partial v) (λ q u. length u) (length v)
end_behind r (behind item v) = length r
end_behind r (behind range v) = length r
end_behind r (behind only v) = length r
end_behind r (behind end v) = length r
end_behind r (behind bad v) = length r

abbrev pub item_end : Bool → List ℕ → ℕ
item_end first s = answer (read_partial (partial_at s)) (λ p r. end_behind r (follow (first && is_bare (prefix_at s)) r)) (length s)

abbrev pub end_at : Stage → List ℕ → ℕ
end_at range s = item_end true (skip s)
end_at item s = item_end false s
end_at right s = answer (read_partial s) (λ q u. length u) (length s)
end_at only s = answer (read_partial s) (λ q u. length u) (length s)
end_at end s = length s
end_at bad s = length s

abbrev pub extent_at : Stage → ℕ → List ℕ → Extent
extent_at st b s = extent (begin_at st b s) (begin_at st b s - end_at st s)

-- What is still to come at a stage: the extent of each piece, as `Walks` has the pieces. b bytes are left where the hyphen range begins whose
-- right side stands here.
pub data WalksExtents (m : Compat) : Stage → ℕ → List ℕ → Option (List (List Extent)) → Type 0 where
  ends : {b : ℕ} {s : List ℕ} → WalksExtents m end b s (some ([] ∷ []))
  fails : {b : ℕ} {s : List ℕ} → WalksExtents m bad b s none
  goes : {st st' : Stage} {b : ℕ} {s r : List ℕ} {x : Piece} {o : Option (List (List Extent))}
      → goes_on st ≡ true → next m st s ≡ step x st' r → WalksExtents m st' (begin_at st b s) r o → WalksExtents m st b s (map_option (λ es. opening st (push (extent_at st b s) es)) o)

-- the pieces of each range of a text
abbrev pub walk_of : Compat → Result (List Range) → Option (List (List Piece))
walk_of m fail = none
walk_of m (ok rs r) = some (map (expand_range m) rs)

-- ---- what is counted of the pieces

abbrev pub total : {A : Type 0} → (A → ℕ) → List A → ℕ
total f [] = 0
total f (a ∷ l) = f a + total f l

-- how many comparators a piece gives, and how many identifiers
abbrev pub comparator_count : Piece → ℕ
comparator_count x = length (comparators x)

abbrev pub identifier_count : Piece → ℕ
identifier_count (piece o c p) = length (identifiers_of p)

-- a component that was read is above the largest number; one that is raised is not below it
abbrev pub large_in : Piece → Bool
large_in (piece o c p) = not (partial_fits p)

abbrev pub over_in : Piece → Bool
over_in (piece o none p) = false
over_in (piece o (some c) p) = not (fits (suc (component_of c p)))

-- of a text: how many ranges, comparator rows and identifier rows, and whether refusal 3 or 4 applies
pub record Tally : Type 0 where
  pub ranges : ℕ
  pub comparators : ℕ
  pub identifiers : ℕ
  pub large : Bool
  pub over : Bool

unfoldable pub tally : List (List Piece) → Tally
tally rs =
    let ps = concat rs in
    record { ranges = length rs; comparators = total comparator_count ps; identifiers = total identifier_count ps; large = some_of large_in ps; over = some_of over_in ps }

-- ---- the words of the pieces

-- the identifier rows of a piece in a text of n bytes
unfoldable pub piece_identifier_words : ℕ → Piece → List ℕ
unfolding identifier_row
piece_identifier_words n (piece o c p) = concat (map (identifier_row n) (identifiers_of p))

unfoldable pub walk_identifier_words : ℕ → List (List Piece) → List ℕ
unfolding piece_identifier_words
walk_identifier_words n rs = concat (map (piece_identifier_words n) (concat rs))

-- ---- the normal text of the pieces

-- What stands before the next comparator: nothing, at the start of the text; a blank, behind a comparator of the same range; or the bars, at
-- the start of a further range.
pub data Gap : Type 0 where
  start blank bars : Gap

unfoldable pub spell_gap : Gap → List ℕ
spell_gap start = []
spell_gap blank = 0x20 ∷ []
spell_gap bars = bytes " || "

-- comparators of one range, the first one behind this gap
unfoldable pub spell_after : Gap → List Comparator → List ℕ
unfolding spell_gap spell_comparator
spell_after g [] = []
spell_after g (c ∷ cs) = spell_gap g ++ spell_comparator c ++ spell_after blank cs

-- what then stands before the next comparator of that range: a piece may give none
abbrev pub gap_after : Gap → List Comparator → Gap
gap_after g [] = g
gap_after g (c ∷ cs) = blank

-- The pieces of the range that has begun, behind this gap, then those of the further ranges. From the start of the text it is the spelling of the
-- reading (`expand-text`, proofs/WalkText.antt).
unfoldable pub walk_text : Gap → List (List Piece) → List ℕ
unfolding spell_after comparators_of
walk_text g [] = []
walk_text g (ps ∷ rs) = spell_after g (comparators_of ps) ++ walk_text bars rs
