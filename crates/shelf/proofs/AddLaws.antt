-- Add: a law for each of its ways.
-- Assumes nothing.
use Rattle.std.specs.Prelude as Std
use Rattle.std.specs.Option.{is_some}
use Rattle.std.proofs.Common.{◌≡◌, refl, sym, ap, ◌∙◌, ℕ, ◌≤◌, ◌<◌, Bool, true, false, List, length, drop, arith, leb, Result, Ok, Err}
use lib.Dec.{ltb}
use borrow.Author.Tests.{le-leb, lt-leb, lt-ltb}
use Rattle.rules.specs.Bytes.{pick}
use Rattle.rules.specs.Expansion as E
use Rattle.rules.specs.Expansion.{Compat}
use Rattle.rules.specs.Answers.{Answer, accepted, refused, unless, map_answer, reading, reading_outcome}
use Rattle.rules.proofs.Accepted.{reading-number}
use Rattle.refusals.specs.Views.{number_of}
use Rattle.refusals.specs.declared.Refusal.{Refusal}
use Rattle.refusals.specs.declared.Refusal.TheVariants as Refusals
use Rattle.rangeset.specs.Views.{outcome_of}
use Rattle.rangeset.specs.declared.Counts.{Counts}
use Rattle.rangeset.proofs.Outcomes.{refusal-number}
use Rattle.shelf_rules.specs.Table.{rows_of}
use Rattle.shelf_rules.specs.Triples.{bounds_of}
use Rattle.shelf_rules.specs.Shelf.{capacity, longest_text, entry_row, kept_row, count_in, find_code, is_none, shelf_in, entry_reading, with_entry, add_call}
use Rattle.shelf_rules.proofs.EntryLaws.{reading-within, reading-of}
use Rattle.triples.specs.Views.{bounds_is}
use Rattle.triples.specs.declared.Bounds.{Bounds}
use Rattle.entries.specs.Views.{entries_of, OfShelf, option_of}
use Rattle.entries.specs.declared.entries.Entries.{Entries}
use Rattle.entries.proofs.Counting.{not_shelf, found_is}

-- ---- parse_text

module _ (m : Compat) (t : List ℕ) where
  pub text_long : 96 < length t → outcome_of (Err Refusals.TooLong) ≡ reading_outcome (entry_reading m t)
  unfolding entry_reading reading_outcome
  text_long h = rw (lt-leb (length t) 96 h)

  pub text_short : length t ≤ 96 → reading_outcome (entry_reading m t) ≡ reading_outcome (reading m t)
  unfolding entry_reading
  text_short h = rw (le-leb (length t) 96 h)

-- ---- what the counts say of a text

-- none of 1 to 4 applies to the text of an entry
pub record Enterable (m : Compat) (t : List ℕ) : Type 0 where
  pub reads : E.Reading
  pub is : entry_reading m t ≡ accepted reads

module _ (m : Compat) (t : List ℕ) where
  answer_number : (n : ℕ) → entry_reading m t ≡ refused n → n ≡ 0 → ⊥
  unfolding entry_reading
  answer_number n = go (leb (length t) longest_text)
    where
      go : (b : Bool) → pick b (reading m t) (refused 1) ≡ refused n → n ≡ 0 → ⊥
      go true q z = reading-number m t n q z
      go false q z = let e : n ≡ 1 = cc in omega arith

  pub refused_text : (w : Refusal) → outcome_of (Err w) ≡ reading_outcome (entry_reading m t) → entry_reading m t ≡ refused (number_of w)
  unfolding reading_outcome
  refused_text w e = go (entry_reading m t) refl
    where
      go : (a : Answer E.Reading) → entry_reading m t ≡ a → entry_reading m t ≡ refused (number_of w)
      go (accepted rs) q = absurd (refusal-number w (ap (λ x. x.refusal) (e ∙ ap reading_outcome q)))
      go (refused n) q = q ∙ ap refused (sym (ap (λ x. x.refusal) (e ∙ ap reading_outcome q)))

  pub enterable : (c : Counts) → outcome_of (Ok c) ≡ reading_outcome (entry_reading m t) → Enterable m t
  unfolding reading_outcome
  enterable c e = go (entry_reading m t) refl
    where
      go : (a : Answer E.Reading) → entry_reading m t ≡ a → Enterable m t
      go (accepted rs) q = record { reads = rs; is = q }
      go (refused n) q = absurd (answer_number n q (sym (ap (λ x. x.refusal) (e ∙ ap reading_outcome q))))

  pub text_within : Enterable m t → length t ≤ 96
  text_within o = reading-within m t o.reads o.is

-- ---- add

module _ (code : ℕ) (m : Compat) (t l : List ℕ) where
  pub not_added : (r : Result Entries Refusal) → entries_of r ≡ map_answer (λ l. (l, count_in l)) (shelf_in l)
      → (y : Refusal) → r ≡ Err y → add_call code m t l ≡ refused (number_of y)
  unfolding add_call
  not_added r f y q = rw (not_shelf l r f y q)

  module _ (e : Entries) (h : OfShelf l e) where
    pub unread : (y : Refusal) → outcome_of (Err y) ≡ reading_outcome (entry_reading m t) → add_call code m t l ≡ refused (number_of y)
    unfolding add_call
    unread y q = rw (h.shelf, refused_text m t y q)

    module _ (o : Enterable m t) (p : Std.Option ℕ) (f : option_of p ≡ find_code code (rows_of 100 e.count (drop 2 e.bytes.now))) (b : Bool) (i : b ≡ is_some p) where
      add_as : add_call code m t l
          ≡ map_answer (with_entry (entry_row code m t) (kept_row (bounds_of o.reads))) (unless 11 (λ l. ltb (count_in l) capacity) (pick (is_none (option_of p)) (accepted l) (refused 12)))
      unfolding add_call
      add_as = rw (h.shelf, o.is, found_is l e h code p f)

      tested : (b : Bool) → b ≡ is_some p → is_none (option_of p) ≡ pick b false true
      tested b i = go p i
        where
          go : (p : Std.Option ℕ) → b ≡ is_some p → is_none (option_of p) ≡ pick b false true
          go (Std.Some k) i = rw i
          go Std.None i = rw i

      pub there : b ≡ true → add_call code m t l ≡ refused 12
      there q = add_as ∙ rw (tested b i, q)

      module _ (q : b ≡ false) where
        pub full : e.count ≡ 256 → add_call code m t l ≡ refused 11
        full n = let s = h.counted.is in add_as ∙ rw (tested b i, q, s, n)

        few : (e.count ≡ 256 → ⊥) → e.count < 256
        few n = let f = h.counted.few in omega arith

        pub room : (e.count ≡ 256 → ⊥) → count_in l < 256
        room n = rw h.counted.is (few n)

        pub added : (e.count ≡ 256 → ⊥) → (k : Bounds) → accepted (bounds_is k) ≡ map_answer bounds_of (reading m t)
            → add_call code m t l ≡ accepted (with_entry (entry_row code m t) (kept_row (bounds_is k)) l)
        added n k g =
            let s = h.counted.is in
            let a : accepted (bounds_is k) ≡ accepted (bounds_of o.reads) = g ∙ ap (map_answer bounds_of) (reading-of m t o.reads o.is) in
            let j : bounds_of o.reads ≡ bounds_is k = cc in
            let d : add_call code m t l ≡ accepted (with_entry (entry_row code m t) (kept_row (bounds_of o.reads)) l) = add_as ∙ rw (tested b i, q, s, lt-ltb e.count 256 (few n)) in
            d ∙ ap (λ b. accepted (with_entry (entry_row code m t) (kept_row b) l)) j
