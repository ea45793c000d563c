-- Make empty and remove: a law for each of their ways.
-- Assumes nothing.
use Rattle.std.specs.Prelude as Std
use Rattle.std.specs.Option.{ok_or}
use Rattle.std.proofs.Common.{◌≡◌, refl, ap, ◌∙◌, ℕ, ◌+◌, ◌<◌, List, [], length, take, drop, replicate, arith, append-nil, Result, Ok, Err}
use Rattle.std.proofs.Math.ListN.{drop_of_length-le}
use Rattle.std.proofs.Math.Seq.{paste, take_all}
use Rattle.std.proofs.lemmas.List.{length-replicate}
use borrow.Author.Tests.{eq-eqb, ne_eqb}
use Rattle.rules.specs.Answers.{accepted, refused, map_answer, or_refused}
use Rattle.refusals.specs.Views.{number_of}
use Rattle.refusals.specs.declared.Refusal.{Refusal}
use Rattle.refusals.specs.declared.Refusal.TheVariants as Refusals
use Rattle.shelf_rules.specs.Table.{rows_of}
use Rattle.shelf_rules.specs.Shelf.{count_in, find_code, without_entry, sized, shelf_in, located, emptied, empty_call, remove_call}
use Rattle.entries.specs.Views.{entries_of, OfShelf, option_of}
use Rattle.entries.specs.declared.entries.Entries.{Entries}
use Rattle.entries.proofs.Counting.{not_shelf, found_is, found_below}

-- ---- a code that is found, or 12

module _ (o : Std.Option ℕ) where
  pub found : (k : ℕ) → Ok k ≡ ok_or o Refusals.Code → o ≡ Std.Some k
  found k q = go o q
    where
      go : (o : Std.Option ℕ) → Ok k ≡ ok_or o Refusals.Code → o ≡ Std.Some k
      go Std.None q = let z : ◌≡◌ {A = ℕ} 0 1 = cc in absurd (omega arith)
      go (Std.Some j) q = cc

  pub not_found : (y : Refusal) → Err y ≡ ok_or o Refusals.Code → or_refused 12 (option_of o) ≡ refused (number_of y)
  not_found y q = go o q
    where
      go : (o : Std.Option ℕ) → Err y ≡ ok_or o Refusals.Code → or_refused 12 (option_of o) ≡ refused (number_of y)
      go Std.None q = let z : Refusals.Code ≡ y = cc in ap (λ r. refused (number_of r)) z
      go (Std.Some j) q = let z : ◌≡◌ {A = ℕ} 0 1 = cc in absurd (omega arith)

-- ---- make_empty

cleared_all : (l z : List ℕ) (n : ℕ) → length l ≡ n → length z ≡ n → paste l 0 z n ≡ z
cleared_all l z n e f =
    let a : take n z ≡ z = take_all n z (omega arith) in
    let b : drop (0 + n) l ≡ [] = drop_of_length-le l {i = 0 + n} (omega arith) in
    rw (a, b, append-nil)

module _ (l : List ℕ) where
  pub is_emptied : length l ≡ 37890 → empty_call l ≡ accepted emptied
  unfolding empty_call sized
  is_emptied h = rw (eq-eqb (length l) 37890 h)

  pub not_emptied : (length l ≡ 37890 → ⊥) → empty_call l ≡ refused 10
  unfolding empty_call sized
  not_emptied h = rw (ne_eqb (length l) 37890 h)

  pub zeros : length l ≡ 37890 → (y : List ℕ) → y ≡ paste l 0 (replicate (length l) 0) (length l) → y ≡ emptied
  zeros h y p = p ∙ cleared_all l (replicate (length l) 0) (length l) refl (length-replicate {A = ℕ} (length l) 0) ∙ ap (λ n. replicate n 0) h

-- ---- remove

module _ (l : List ℕ) (code : ℕ) where
  pub not_removed : (r : Result Entries Refusal) → entries_of r ≡ map_answer (λ l. (l, count_in l)) (shelf_in l)
      → (y : Refusal) → r ≡ Err y → remove_call code l ≡ refused (number_of y)
  unfolding remove_call
  not_removed r f y q = rw (not_shelf l r f y q)

  module _ (e : Entries) (h : OfShelf l e) (o : Std.Option ℕ) (f : option_of o ≡ find_code code (rows_of 100 e.count (drop 2 e.bytes.now))) where
    remove_as : remove_call code l ≡ map_answer (λ k. without_entry k l) (or_refused 12 (option_of o))
    unfolding remove_call located
    remove_as = rw (h.shelf, found_is l e h code o f)

    pub missing : (y : Refusal) → Err y ≡ ok_or o Refusals.Code → remove_call code l ≡ refused (number_of y)
    missing y q = remove_as ∙ ap (map_answer (λ k. without_entry k l)) (not_found o y q)

    module _ (k : ℕ) (q : Ok k ≡ ok_or o Refusals.Code) where
      pub below : k < count_in l
      below = rw h.counted.is (found_below l e h code o f k (found o k q))

      pub removed : remove_call code l ≡ accepted (without_entry k l)
      removed = remove_as ∙ rw (found o k q)
