-- What the count of a shelf's entries says of its bytes.
-- Assumes nothing.
use Rattle.std.proofs.Common.{◌≡◌, refl, sym, ap, ◌∙◌, ℕ, ◌≤◌, ◌<◌, Bool, true, false, List, length, take, drop, arith, eqb, leb, Result, Ok, Err}
use Rattle.std.specs.Prelude as Std
use lib.Dec.{eqb→eq, leb→le}
use borrow.Author.Tests.{eq-eqb, ne_eqb, le-leb, lt-leb}
use Rattle.rules.specs.Bytes.{pick}
use Rattle.rules.specs.Answers.{Answer, accepted, refused, unless, map_answer}
use Rattle.refusals.specs.Views.{number_of}
use Rattle.refusals.specs.declared.Refusal.{Refusal}
use Rattle.shelf_rules.specs.Table.{number_in, rows_of}
use Rattle.shelf_rules.specs.Shelf.{shelf_size, capacity, count_in, entries_in, kept_in, entry_at, find_code, sized, shelf_in}
use Rattle.shelf_rules.proofs.TableLaws.{rows-length, rows_at}
use Rattle.shelf_rules.proofs.EntryLaws.{find-within}
use Rattle.entries.specs.Counted.{Counted}
use Rattle.entries.specs.Views.{entries_of, OfShelf, option_of, row_at}
use Rattle.entries.specs.declared.entries.Entries.{Entries}

-- ---- Entries::of

abbrev numbered : List ℕ → List ℕ × ℕ
numbered l = (l, count_in l)

module _ (l : List ℕ) where
  module _ (n : ℕ) (e : n ≡ number_in (take 2 (drop 0 l))) (h : length l ≡ 37890) where
    pub counted_yes : n ≤ 256 → accepted (l, n) ≡ map_answer numbered (shelf_in l)
    unfolding shelf_in sized
    counted_yes g = rw (eq-eqb (length l) 37890 h, ← e, le-leb n 256 g, ← e)

    pub counted_many : 256 < n → refused 10 ≡ map_answer numbered (shelf_in l)
    unfolding shelf_in sized
    counted_many g = rw (eq-eqb (length l) 37890 h, ← e, lt-leb n 256 g)

  pub counted_other : (length l ≡ 37890 → ⊥) → refused 10 ≡ map_answer numbered (shelf_in l)
  unfolding shelf_in sized
  counted_other h = rw (ne_eqb (length l) 37890 h)

pub ruleset countings = (counted_yes, counted_many, counted_other)

-- ---- what is known of a shelf

module _ (l : List ℕ) where
  module _ (r : Result Entries Refusal) (f : entries_of r ≡ map_answer numbered (shelf_in l)) where
    pub of_shelf : (e : Entries) → r ≡ Ok e → OfShelf l e
    unfolding shelf_in sized
    of_shelf e q = go (eqb (length l) shelf_size) refl (leb (count_in l) capacity) refl (sym (ap entries_of q) ∙ f)
      where
        go : (b : Bool) → eqb (length l) shelf_size ≡ b → (d : Bool) → leb (count_in l) capacity ≡ d
            → accepted (e.bytes.now, e.count) ≡ map_answer numbered (unless 10 (λ l. leb (count_in l) capacity) (pick b (accepted l) (refused 10))) → OfShelf l e
        go true x true y p =
            let r : ◌≡◌ {A = Answer (List ℕ × ℕ)} (accepted (e.bytes.now, e.count)) (accepted (l, count_in l)) = rw y at p in
            let s : ◌≡◌ {A = List ℕ × ℕ} (e.bytes.now, e.count) (l, count_in l) = cc in
            let i : e.count ≡ count_in l = ap (λ p. p.1) s in
            record {
              bytes = ap (λ p. p.0) s;
              counted = record { sized = eqb→eq (length l) shelf_size (rw x tt); few = rw i (leb→le (count_in l) capacity (rw y tt)); is = sym i };
              shelf = rw (x, y);
            }
        go true x false y p =
            let r : ◌≡◌ {A = Answer (List ℕ × ℕ)} (accepted (e.bytes.now, e.count)) (refused 10) = rw y at p in
            let z : ◌≡◌ {A = ℕ} 0 1 = cc in absurd (omega arith)
        go false x d y p = let z : ◌≡◌ {A = ℕ} 0 1 = cc in absurd (omega arith)

    pub not_shelf : (x : Refusal) → r ≡ Err x → shelf_in l ≡ refused (number_of x)
    not_shelf x q = go (shelf_in l) (sym (ap entries_of q) ∙ f)
      where
        go : (a : Answer (List ℕ)) → refused (number_of x) ≡ map_answer numbered a → a ≡ refused (number_of x)
        go (accepted b) p = let z : ◌≡◌ {A = ℕ} 0 1 = cc in absurd (omega arith)
        go (refused m) p = cc

  module _ (e : Entries) (h : OfShelf l e) where
    pub shelf_counted : Counted l (count_in l)
    shelf_counted = rw h.counted.is h.counted

    pub shelf_rows : entries_in l ≡ rows_of 100 e.count (drop 2 e.bytes.now)
    unfolding entries_in
    shelf_rows = rw (h.bytes, h.counted.is)

    pub shelf_kepts : kept_in l ≡ rows_of 48 e.count (drop 25602 e.bytes.now)
    unfolding kept_in
    shelf_kepts = rw (h.bytes, h.counted.is)

    pub shelf_entry : (k : ℕ) → k < e.count → entry_at k l ≡ row_at k e.bytes.now
    shelf_entry k i = rw shelf_rows (rows_at 100 e.count k (drop 2 e.bytes.now) i)

  -- a code that is found
  module _ (e : Entries) (h : OfShelf l e) (code : ℕ) (o : Std.Option ℕ) (f : option_of o ≡ find_code code (rows_of 100 e.count (drop 2 e.bytes.now))) where
    pub found_is : find_code code (entries_in l) ≡ option_of o
    found_is = rw (shelf_rows e h) (sym f)

    pub found_below : (k : ℕ) → o ≡ Std.Some k → k < e.count
    found_below k q =
        rw (rows-length 100 e.count (drop 2 e.bytes.now)) at (find-within code (rows_of 100 e.count (drop 2 e.bytes.now)) k (sym (ap option_of q) ∙ f))
