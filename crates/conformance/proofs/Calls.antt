-- A reading call that keeps its promise hands back what `RangeSet::parse` returns.
-- Assumes nothing.
use mathlib.Core.Path.{◌≡◌, refl, sym, ap, ◌∙◌}
use Prim.Native.Nat.{ℕ, ◌*◌, ◌≤◌}
use native.Mathlib.Omega.{arith}
use mathlib.Core.List.{List, [], ◌∷◌, map}
use lib.ListN.{length, take, drop}
use lib.Seq.{take-append_seam}
use Rattle.rules.specs.Syntax.{Identifier, number, text}
use Rattle.rules.specs.Expansion as E
use Rattle.rules.specs.Expansion.{Comparator, comparator, Reading}
use Rattle.rules.specs.Rows.{comparator_width, comparator_words, identifier_words, placeless, placeless_comparator, placeless_reading}
use Rattle.rules.specs.Answers.{Answer, accepted, refused, longest, reading, comparator_rows, identifier_rows, reading_call, Outcome, reading_outcome, written, comparator_words_after, identifier_words_after, and_then}
use Rattle.rules.specs.Equality.{handed_back}
use Rattle.rules.specs.Exported.{mode_of, under, after_mode, words_under}
use Rattle.rules.proofs.Accepted.{Decided, long, underivable, large, raised, accepts, decided}
use Rattle.rules.proofs.ReadBackLaws.{read_back_lem}
use Rattle.rules.proofs.ReadingCall.{call-refused, call-accepts}
use Rattle.rules.proofs.Equal.{placeless-comparators, placeless-identifiers}
use Rattle.range.specs.Views.{compat_of}
use Rattle.rangeset.specs.Views.{outcome_of}
use Rattle.reading.proofs.read.Reads as Read
use Rattle.numbers.specs.Views.{outcome}
use Rattle.maluwesi.proofs.maluwesi_read.Reads as MaluwesiRead
use Rattle.rules.proofs.RowsLaws.{words-length, names-length}
use Rattle.reference.specs.Range.{Compat}
use Rattle.reference.specs.RangeSet.{Returned, parse}
use Rattle.reference.specs.Seen.{mode, seen}
use Rattle.reference.proofs.Parsed.{parse-reading}
use Rattle.conformance.specs.Handed.{answer_in, handed, RowsFit}

-- ---- rows of comparators without places

once : {A : Type 0} (f : A → A) → ((a : A) → f (f a) ≡ f a) → (l : List A) → map f (map f l) ≡ map f l
once f h [] = refl
once f h (a ∷ l) = rw (h a, once f h l)

identifier-once : (i : Identifier) → placeless (placeless i) ≡ placeless i
unfolding placeless
identifier-once (number v) = refl
identifier-once (text left w) = refl

comparator-once : (c : Comparator) → placeless_comparator (placeless_comparator c) ≡ placeless_comparator c
unfolding placeless_comparator
comparator-once (comparator o a b c is) = ap (comparator o a b c) (once placeless identifier-once is)

reading-once : (rs : Reading) → placeless_reading (placeless_reading rs) ≡ placeless_reading rs
unfolding placeless_reading
reading-once rs = once (map placeless_comparator) (once placeless_comparator comparator-once) rs

-- ---- the words that are written

taken : {A : Type 0} (f : A → List ℕ) (a : A) (old : List ℕ) (n : ℕ) → length (f a) ≡ n → take n (written f (accepted a) old) ≡ f a
unfolding written
taken f a old n e = rw (← e) (take-append_seam (f a) (drop (length (f a)) old))

-- ---- the call

module _ (c : Compat) (t words ids : List ℕ) where
  -- what is handed back where the call's answer is a
  abbrev handed_of : Answer Reading → Returned
  handed_of a = handed t (reading_outcome a) (comparator_words_after (mode c) t a words) (identifier_words_after t a ids)

  handed-accepted : (rs : Reading) → reading (mode c) t ≡ accepted rs → handed_of (accepted rs) ≡ seen (accepted rs)
  unfolding handed answer_in handed_back reading_outcome comparator_words_after identifier_words_after
  handed-accepted rs e =
      ap (λ x. seen (accepted x))
      (rw (taken (λ rs. comparator_words (mode c) t) rs words (comparator_width * comparator_rows rs) (words-length (mode c) t rs e), taken (identifier_words (length t)) rs ids (3 * identifier_rows rs) (names-length (length t) rs))
      (read_back_lem (mode c) t rs e))

  handed-parse : length t ≤ longest → RowsFit (parse c t) (length words) (length ids) → parse c t ≡ handed_of (reading_call (mode c) t (length words) (length ids))
  unfolding seen handed answer_in reading_outcome
  handed-parse short fit = parse-reading c t short ∙ sym (go (reading (mode c) t) refl (decided (mode c) t))
    where
      refused_as : (n : ℕ) → reading (mode c) t ≡ refused n → handed_of (reading_call (mode c) t (length words) (length ids)) ≡ handed_of (refused n)
      refused_as n e = ap handed_of (call-refused (mode c) t (length words) (length ids) n e)

      rows : (rs : Reading) → reading (mode c) t ≡ accepted rs → RowsFit (seen (accepted rs)) (length words) (length ids)
      rows rs e = rw (parse-reading c t short, e) at fit

      accepted-as : (rs : Reading) → reading (mode c) t ≡ accepted rs → handed_of (reading_call (mode c) t (length words) (length ids)) ≡ seen (accepted rs)
      accepted-as rs e =
          ap handed_of (call-accepts (mode c) t (length words) (length ids) rs e
          (let q = placeless-comparators (placeless_reading rs) rs (reading-once rs) in let r = (rows rs e).0 in omega (arith, q))
          (let q = placeless-identifiers (placeless_reading rs) rs (reading-once rs) in let r = (rows rs e).1 in omega (arith, q)))
          ∙ handed-accepted rs e

      go : (a : Answer Reading) → reading (mode c) t ≡ a → Decided (mode c) t a → handed_of (reading_call (mode c) t (length words) (length ids)) ≡ seen a
      go a e (long l) = absurd (omega arith)
      go a e (underivable l k) = refused_as 2 e
      go a e (large l k i) = refused_as 3 e
      go a e (raised l k i j) = refused_as 4 e
      go a e (accepts l k i j) = accepted-as _ e

  -- by the three equations of its promise
  call-parse : (a : Answer Reading) (o : Outcome) (words' ids' : List ℕ) → a ≡ reading_call (mode c) t (length words) (length ids) → o ≡ reading_outcome a
      → words' ≡ comparator_words_after (mode c) t a words → ids' ≡ identifier_words_after t a ids → length t ≤ longest → RowsFit (parse c t) (length words) (length ids)
      → parse c t ≡ handed t o words' ids'
  call-parse a o words' ids' e p q r short fit = rw (p, q, r, e) (handed-parse short fit)

-- ---- `read` of rangeset, and `maluwesi_read`

pub read-parse : (m : Compat) (κs : _) (args : _) (r : _) (exit : _) → Read.Post κs args r exit → compat_of args.1.0 ≡ mode m
    → length args.0.now ≤ longest → RowsFit (parse m args.0.now) (length args.1.1.0.now) (length args.1.1.1.0.now)
    → parse m args.0.now ≡ handed args.0.now (outcome_of r) exit.1.1.0.now exit.1.1.1.0.now
read-parse m κs args r exit p e =
    call-parse m args.0.now args.1.1.0.now args.1.1.1.0.now (reading_call (compat_of args.1.0) args.0.now (length args.1.1.0.now) (length args.1.1.1.0.now))
    (outcome_of r) exit.1.1.0.now exit.1.1.1.0.now (rw e refl) p.0
    (p.1.0 ∙ ap (λ c. comparator_words_after c args.0.now (reading_call (compat_of args.1.0) args.0.now (length args.1.1.0.now) (length args.1.1.1.0.now)) args.1.1.0.now) e)
    p.1.1

under-accepted : {A : Type 0} (k : ℕ) (m : E.Compat) (f : E.Compat → Answer A) → mode_of k ≡ accepted m → under k f ≡ f m
unfolding under
under-accepted k m f e = ap (λ a. and_then a f) e

words-accepted : (k : ℕ) (m : E.Compat) (f : E.Compat → List ℕ) (old : List ℕ) → mode_of k ≡ accepted m → words_under k f old ≡ f m
unfolding words_under
words-accepted k m f old e = ap (λ a. after_mode a f old) e

pub maluwesi-read-parse : (m : Compat) (κs : _) (args : _) (n : _) (exit : _) → MaluwesiRead.Post κs args n exit → mode_of args.1.0 ≡ accepted (mode m)
    → length args.0.now ≤ longest → RowsFit (parse m args.0.now) (length args.1.1.0.now) (length args.1.1.1.0.now)
    → parse m args.0.now ≡ handed args.0.now
    (outcome n exit.1.1.1.1.0.now exit.1.1.1.1.1.0.now exit.1.1.1.1.1.1.0.now) exit.1.1.0.now exit.1.1.1.0.now
maluwesi-read-parse m κs args n exit p e =
    call-parse m args.0.now args.1.1.0.now args.1.1.1.0.now (under args.1.0 (λ m. reading_call m args.0.now (length args.1.1.0.now) (length args.1.1.1.0.now)))
    (outcome n exit.1.1.1.1.0.now exit.1.1.1.1.1.0.now exit.1.1.1.1.1.1.0.now) exit.1.1.0.now exit.1.1.1.0.now
    (under-accepted args.1.0 (mode m) _ e) p.0
    (p.1.0 ∙ words-accepted args.1.0 (mode m) _ args.1.1.0.now e
    ∙ ap (λ a. comparator_words_after (mode m) args.0.now a args.1.1.0.now) (sym (under-accepted args.1.0 (mode m) _ e)))
    p.1.1
