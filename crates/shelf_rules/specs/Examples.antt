-- Worked examples of the shelf's calls, with whole memories of 37,890 bytes. The theorems hold the definitions to them.
-- Assumes nothing.
use Rattle.std.specs.Prelude.{ℕ, zero, suc, ◌-◌, List, [], ◌∷◌, ◌++◌, length, replicate}
use Prim.Native.String.{String}
use Rattle.std.proofs.Math.Option.{Option, none, some}
use Rattle.rules.specs.Bytes.{bytes, largest}
use Rattle.rules.specs.Expansion.{Compat, cargo, npm}
use Rattle.rules.specs.Answers.{Answer, accepted, refused, map_answer, reading}
use Rattle.rules.specs.Admission.{admits}
use Rattle.shelf_rules.specs.Triples.{Triple, triple, lowest, highest, Bounds, bounds_of}
use Rattle.shelf_rules.specs.Shelf.{shelf_size, kept_place, empty_call, add_call, remove_call, Part, list_call, text_call, first_fit_call}
use Rattle.shelf_rules.specs.Lookup.{lookup_call}

-- ---- memories

-- a byte n times, then others
abbrev pub times : ℕ → ℕ → List ℕ → List ℕ
times zero c l = l
times (suc n) c l = c ∷ times n c l

-- these bytes first, these where the kept triples begin, and this one in all others
abbrev pub memory : List ℕ → List ℕ → ℕ → List ℕ
memory b k c = b ++ times (kept_place - length b) c (k ++ replicate (shelf_size - kept_place - length k) c)

-- 96 bytes: a text and zeros behind it
abbrev pub filled : String → List ℕ
filled s = bytes s ++ replicate (96 - length (bytes s)) 0

-- two entries: code 7, Npm, `^1.2.3`; code 258 (its low byte 2, its high byte 1), Cargo, `2`
abbrev pub row₁ : List ℕ
row₁ = 7 ∷ 0 ∷ 1 ∷ 6 ∷ filled "^1.2.3"

abbrev pub row₂ : List ℕ
row₂ = 2 ∷ 1 ∷ 0 ∷ 1 ∷ filled "2"

-- eight bytes of a number below 256, the low one first; the triples a.b.c and d.e.f of such numbers; and those that enclose every version
abbrev pub eight : ℕ → List ℕ
eight n = n ∷ replicate 7 0

abbrev pub kept : ℕ → ℕ → ℕ → ℕ → ℕ → ℕ → List ℕ
kept a b c d e f = eight a ++ (eight b ++ (eight c ++ (eight d ++ (eight e ++ eight f))))

abbrev pub every : List ℕ
every = replicate 24 0 ++ replicate 24 255

-- 1.2.3 and 2.0.0; 2.0.0 and 3.0.0
abbrev pub kept₁ : List ℕ
kept₁ = kept 1 2 3 2 0 0

abbrev pub kept₂ : List ℕ
kept₂ = kept 2 0 0 3 0 0

abbrev pub one : List ℕ
one = memory (1 ∷ 0 ∷ row₁) kept₁ 0

abbrev pub two : List ℕ
two = memory (2 ∷ 0 ∷ (row₁ ++ row₂)) (kept₁ ++ kept₂) 0

-- one entry, of code 7, Npm, with 96 blanks
abbrev pub blanks : List ℕ
blanks = memory (1 ∷ 0 ∷ 7 ∷ 0 ∷ 1 ∷ 96 ∷ replicate 96 32) every 0

-- memory that no call built: a count of 256, and as many entries of code 0 with empty texts and triples 0.0.0
abbrev pub full : List ℕ
full = memory (0 ∷ 1 ∷ []) [] 0

-- one entry, of code 7, with a length of 97; with mode 2; with a refused text
abbrev pub too_long : List ℕ
too_long = memory (1 ∷ 0 ∷ 7 ∷ 0 ∷ 0 ∷ 97 ∷ []) every 0

abbrev pub other_mode : List ℕ
other_mode = memory (1 ∷ 0 ∷ 7 ∷ 0 ∷ 2 ∷ []) every 0

abbrev pub no_reading : List ℕ
no_reading = memory (1 ∷ 0 ∷ 7 ∷ 0 ∷ 1 ∷ 1 ∷ 33 ∷ []) every 0

-- two entries of code 7, with `1` and `2`, and bytes behind the count
abbrev pub equal_codes : List ℕ
equal_codes = memory (2 ∷ 0 ∷ ((7 ∷ 0 ∷ 1 ∷ 1 ∷ filled "1") ++ (7 ∷ 0 ∷ 1 ∷ 1 ∷ filled "2"))) (kept 1 0 0 2 0 0 ++ kept₂) 9

-- the entry `^1.2.3`, with triples that are not its own
abbrev pub other_triples : List ℕ → List ℕ
other_triples k = memory (1 ∷ 0 ∷ row₁) k 0

-- ---- the calls that change a shelf

pub data Change : Type 0 where
  empty : Change
  add : ℕ → Compat → String → Change
  remove : ℕ → Change

unfoldable pub change_call : Change → List ℕ → Answer (List ℕ)
unfolding empty_call add_call remove_call
change_call empty l = empty_call l
change_call (add code m t) l = add_call code m (bytes t) l
change_call (remove code) l = remove_call code l

-- a memory, a call, and what it leaves or its refusal
pub data Changed : Type 0 where
  changed : List ℕ → Change → Answer (List ℕ) → Changed

unfoldable pub changes : List Changed
changes =
    changed (memory [] [] 9) empty (accepted (memory [] [] 0))
    ∷ changed (memory (1 ∷ 1 ∷ []) [] 9) empty (accepted (memory [] [] 0))
    ∷ changed (replicate 37889 0) empty (refused 10)
    ∷ changed (replicate 25602 0) empty (refused 10)
    ∷ changed (memory [] [] 0) (add 7 npm "^1.2.3") (accepted one)
    ∷ changed one (add 258 cargo "2") (accepted two)
    ∷ changed (memory (0 ∷ 0 ∷ []) [] 9) (add 7 npm "^1.2.3") (accepted (memory (1 ∷ 0 ∷ row₁) kept₁ 9))
    ∷ changed (memory (0 ∷ 0 ∷ []) [] 9) (add 65535 npm "") (accepted (memory (1 ∷ 0 ∷ 255 ∷ 255 ∷ 1 ∷ 0 ∷ replicate 96 0) every 9))
    ∷ changed (replicate 37891 0) (add 7 npm "!") (refused 10)
    ∷ changed (memory (1 ∷ 1 ∷ []) [] 0) (add 7 npm "!") (refused 10)
    ∷ changed (memory [] [] 0) (add 7 npm "                                                                                                ") (accepted blanks)
    ∷ changed two (add 7 npm "                                                                                                 ") (refused 1)
    ∷ changed two (add 7 npm "1a") (refused 2)
    ∷ changed two (add 7 npm "18446744073709551616") (refused 3)
    ∷ changed two (add 7 npm "18446744073709551615") (refused 4)
    ∷ changed two (add 7 npm "1") (refused 12)
    ∷ changed too_long (add 7 npm "1") (refused 12)
    ∷ changed full (add 0 npm "1") (refused 12)
    ∷ changed full (add 9 npm "1") (refused 11)
    ∷ changed full (add 9 npm "!") (refused 2)
    ∷ changed two (remove 7) (accepted (memory (1 ∷ 0 ∷ row₂) kept₂ 0))
    ∷ changed two (remove 258) (accepted one)
    ∷ changed one (remove 7) (accepted (memory [] [] 0))
    ∷ changed equal_codes (remove 7) (accepted (memory (1 ∷ 0 ∷ ((7 ∷ 0 ∷ 1 ∷ 1 ∷ filled "2") ++ replicate 100 0)) (kept₂ ++ replicate 48 0) 9))
    ∷ changed two (remove 8) (refused 12)
    ∷ changed (memory (1 ∷ 1 ∷ []) [] 0) (remove 0) (refused 10)
    ∷ []

unfoldable pub change_answered : Changed → Answer (List ℕ)
unfolding change_call
change_answered (changed l c a) = change_call c l

abbrev pub change_expected : Changed → Answer (List ℕ)
change_expected (changed l c a) = a

-- ---- the listing

-- a memory, a code, and where its text stands and what it is, or the refusal
pub data Listed : Type 0 where
  listed : List ℕ → ℕ → ℕ → ℕ → String → Listed
  unlisted : List ℕ → ℕ → ℕ → Listed

unfoldable pub listings : List Listed
listings =
    listed two 7 6 6 "^1.2.3"
    ∷ listed two 258 106 1 "2"
    ∷ listed blanks 7 6 96 "                                                                                                "
    ∷ listed too_long 7 6 0 ""
    ∷ listed other_mode 7 6 0 ""
    ∷ listed no_reading 7 6 1 "!"
    ∷ listed equal_codes 7 6 1 "1"
    ∷ listed full 0 6 0 ""
    ∷ unlisted two 2 12
    ∷ unlisted equal_codes 2313 12
    ∷ unlisted (memory (1 ∷ 1 ∷ []) [] 0) 0 10
    ∷ unlisted [] 0 10
    ∷ []

pub record Listing : Type 0 where
  pub part : Answer Part
  pub text : Answer (List ℕ)

unfoldable pub listing_answered : Listed → Listing
unfolding list_call text_call
listing_answered (listed l code place n t) = record { part = list_call code l; text = text_call code l }
listing_answered (unlisted l code n) = record { part = list_call code l; text = text_call code l }

abbrev pub listing_expected : Listed → Listing
listing_expected (listed l code place n t) = record { part = accepted (record { place = place; length = n }); text = accepted (bytes t) }
listing_expected (unlisted l code n) = record { part = refused n; text = refused n }

-- ---- first fit

-- a memory, a version text, and the code, none, or the refusal
pub data Fit : Type 0 where
  fit : List ℕ → String → Answer (Option ℕ) → Fit

unfoldable pub fits : List Fit
fits =
    fit two "1.5.0" (accepted (some 7))
    ∷ fit two "2.5.0" (accepted (some 258))
    ∷ fit two "3.0.0" (accepted none)
    ∷ fit (memory [] [] 0) "1.0.0" (accepted none)
    ∷ fit full "1.0.0" (accepted (some 0))
    ∷ fit (memory (1 ∷ 0 ∷ 7 ∷ 0 ∷ 1 ∷ []) [] 0) "1.0.0" (accepted (some 7))
    ∷ fit blanks "1.0.0" (accepted (some 7))
    ∷ fit too_long "1.0.0" (accepted none)
    ∷ fit other_mode "1.0.0" (accepted none)
    ∷ fit no_reading "1.0.0" (accepted none)
    ∷ fit equal_codes "2.0.0" (accepted (some 7))
    ∷ fit two "3.0" (refused 8)
    ∷ fit (memory [] [] 0) "18446744073709551616.0.0" (refused 9)
    ∷ fit (memory (1 ∷ 1 ∷ []) [] 0) "3.0" (refused 10)
    ∷ fit [] "3.0" (refused 10)
    ∷ []

unfoldable pub fit_answered : Fit → Answer (Option ℕ)
unfolding first_fit_call admits
fit_answered (fit l s a) = first_fit_call admits (bytes s) l

abbrev pub fit_expected : Fit → Answer (Option ℕ)
fit_expected (fit l s a) = a

-- ---- the lookup

unfoldable pub lookups : List Fit
lookups =
    fit two "1.2.3" (accepted (some 7))
    ∷ fit two "1.2.3-a" (accepted none)
    ∷ fit two "2.0.0-rc.1" (accepted (some 7))
    ∷ fit two "2.0.0" (accepted (some 258))
    ∷ fit two "3.0.1" (accepted none)
    ∷ fit blanks "0.0.0" (accepted (some 7))
    ∷ fit blanks "18446744073709551615.18446744073709551615.18446744073709551615" (accepted (some 7))
    ∷ fit equal_codes "2.0.0" (accepted (some 7))
    ∷ fit too_long "1.0.0" (accepted none)
    ∷ fit other_mode "1.0.0" (accepted none)
    ∷ fit no_reading "1.0.0" (accepted none)
    ∷ fit full "0.0.0" (accepted (some 0))
    ∷ fit full "0.0.1" (accepted none)
    ∷ fit (other_triples every) "1.2.3" (accepted (some 7))
    ∷ fit (other_triples (kept 1 2 4 2 0 0)) "1.2.3" (accepted none)
    ∷ fit (other_triples (kept 1 2 3 1 9 255)) "1.10.0" (accepted none)
    ∷ fit two "3.0" (refused 8)
    ∷ fit (memory [] [] 0) "18446744073709551616.0.0" (refused 9)
    ∷ fit (memory (1 ∷ 1 ∷ []) [] 0) "3.0" (refused 10)
    ∷ fit (replicate 25602 0) "3.0" (refused 10)
    ∷ []

unfoldable pub lookup_answered : Fit → Answer (Option ℕ)
unfolding lookup_call admits
lookup_answered (fit l s a) = lookup_call admits (bytes s) l

-- ---- the triples of a text

pub data Bounded : Type 0 where
  bounded : Compat → String → Triple → Triple → Bounded

unfoldable pub boundeds : List Bounded
boundeds =
    bounded npm "1.2.3" (triple 1 2 3) (triple 1 2 3)
    ∷ bounded cargo "1.2.3" (triple 1 2 3) (triple 2 0 0)
    ∷ bounded npm "" lowest highest
    ∷ bounded npm ">1.2.3-a" (triple 1 2 3) highest
    ∷ bounded npm "<=2.0.0-b" lowest (triple 2 0 0)
    ∷ bounded npm "<0.0.0" lowest lowest
    ∷ bounded npm ">=1.0.0 >1.2.0 <3 <=2.0.0" (triple 1 2 0) (triple 2 0 0)
    ∷ bounded npm ">2 <1" (triple 2 0 0) (triple 1 0 0)
    ∷ bounded npm "3 || 1" (triple 1 0 0) (triple 4 0 0)
    ∷ bounded npm "1.2.3 || <1.0.0 || >=2.0.0" lowest highest
    ∷ bounded npm "1.9.3 || 1.2.30" (triple 1 2 30) (triple 1 9 3)
    ∷ bounded npm "* - 2" lowest (triple 3 0 0)
    ∷ bounded npm "=18446744073709551615.0.1" (triple largest 0 1) (triple largest 0 1)
    ∷ []

unfoldable pub bounded_answered : Bounded → Answer Bounds
unfolding reading bounds_of
bounded_answered (bounded m t low high) = map_answer bounds_of (reading m (bytes t))

abbrev pub bounded_expected : Bounded → Answer Bounds
bounded_expected (bounded m t low high) = accepted (record { low = low; high = high })
