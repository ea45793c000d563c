-- The listing: a law for each of its ways.
-- Assumes nothing.
use Rattle.std.specs.Prelude as Std
use Rattle.std.specs.Option.{ok_or}
use Rattle.std.proofs.Common.{◌≡◌, sym, ap, ◌∙◌, ℕ, ◌+◌, ◌*◌, ◌≤◌, List, [], length, drop, arith, Result, Ok, Err}
use borrow.Author.Tests.{le-leb}
use Rattle.rules.specs.Answers.{accepted, text_of, map_answer, or_refused, identifier_bytes}
use Rattle.refusals.specs.Views.{number_of}
use Rattle.refusals.specs.declared.Refusal.{Refusal}
use Rattle.refusals.specs.declared.Refusal.TheVariants as Refusals
use Rattle.shelf_rules.specs.Table.{rows_of}
use Rattle.shelf_rules.specs.Shelf.{count_in, find_code, shelf_in, located, text_part, text_call, list_call}
use Rattle.shelf_rules.proofs.ListingLaws.{listed-part, listed-within, refused-text}
use Rattle.entries.specs.Views.{entries_of, OfShelf, option_of, part_of, part_at}
use Rattle.entries.specs.declared.entries.Part.{Part}
use Rattle.entries.specs.declared.entries.Entries.{Entries}
use Rattle.entries.proofs.Counting.{not_shelf, shelf_entry, found_is, found_below}
use Rattle.shelf.specs.Views.{listing_of}
use Rattle.shelf.proofs.ChangeLaws.{found, not_found}

-- ---- list

module _ (l : List ℕ) (code : ℕ) where
  pub unlisted : (r : Result Entries Refusal) → entries_of r ≡ map_answer (λ l. (l, count_in l)) (shelf_in l)
      → (y : Refusal) → r ≡ Err y → listing_of (Err y) ≡ list_call code l
  unfolding list_call
  unlisted r f y q = rw (not_shelf l r f y q)

  module _ (e : Entries) (h : OfShelf l e) (o : Std.Option ℕ) (f : option_of o ≡ find_code code (rows_of 100 e.count (drop 2 e.bytes.now))) where
    list_as : list_call code l ≡ map_answer (λ k. text_part k l) (or_refused 12 (option_of o))
    unfolding list_call located
    list_as = rw (h.shelf, found_is l e h code o f)

    pub missing : (y : Refusal) → Err y ≡ ok_or o Refusals.Code → listing_of (Err y) ≡ list_call code l
    missing y q = sym (list_as ∙ ap (map_answer (λ k. text_part k l)) (not_found o y q))

    module _ (k : ℕ) (q : Ok k ≡ ok_or o Refusals.Code) where
      pub within : 2 + 100 * k + 100 ≤ length e.bytes.now
      within = let w = e.within in let b = found_below l e h code o f k (found o k q) in omega arith

      pub listed : (p : Part) → p ≡ part_at k e.bytes.now → listing_of (Ok p) ≡ list_call code l
      listed p i = rw (i, ← shelf_entry l e h k (found_below l e h code o f k (found o k q))) (sym (list_as ∙ rw (found o k q)))

pub ruleset lists = (unlisted, missing, within, listed)

-- ---- text

module _ (l : List ℕ) (code : ℕ) (r : Result Part Refusal) (e : listing_of r ≡ list_call code l) where
  pub text_listed : (p : Part) → r ≡ Ok p → identifier_bytes l p.place p.length ≡ text_of (text_call code l)
  text_listed p q =
      let i : list_call code l ≡ accepted (part_of p) = sym e ∙ ap listing_of q in
      rw (le-leb (p.place + p.length) (length l) (listed-within code l (part_of p) i)) (sym (ap text_of (listed-part code l (part_of p) i)))

  pub text_refused : (y : Refusal) → r ≡ Err y → [] ≡ text_of (text_call code l)
  text_refused y q = sym (ap text_of (refused-text code l (number_of y) (sym e ∙ ap listing_of q)))

pub ruleset texts = (text_listed, text_refused)
