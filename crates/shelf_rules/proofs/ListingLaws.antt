-- Where the text that is listed stands in the shelf.
-- Assumes nothing.
use Prim.Native.Nat.{ℕ, zero, suc, ◌+◌, ◌*◌, ◌≤◌, ◌<◌}
use mathlib.Core.Path.{◌≡◌, refl, sym, ap, ◌∙◌}
use mathlib.Core.Bool.{Bool, true, false}
use mathlib.Core.Option.{Option, none, some}
use mathlib.Core.List.{List, [], ◌∷◌}
use native.Mathlib.Omega.{arith}
use lib.Dec.{leb, eqb, leb→le, eqb→eq}
use lib.ListN.{length, take, drop}
use lib.Seq.{drop-drop}
use Rattle.rules.specs.Bytes.{pick}
use Rattle.rules.specs.Answers.{Answer, accepted, refused, unless, map_answer, or_refused, and_then}
use Rattle.shelf_rules.specs.Shelf.{shelf_size, capacity, longest_text, count_in, length_in, text_in, entries_in, entry_at, find_code, sized, shelf_in, located, Part, text_part, text_call, list_call}
use Rattle.shelf_rules.proofs.TableLaws.{rows-length, rows_at, take-inside}
use Rattle.shelf_rules.proofs.EntryLaws.{find-within}

-- ---- a part of a row is a part of the bytes

take_own : (n : ℕ) (b : List ℕ) → take (length (take n b)) b ≡ take n b
take_own zero b = refl
take_own (suc n) [] = refl
take_own (suc n) (x ∷ b) = ap (λ r. x ∷ r) (take_own n b)

take_short : (n : ℕ) (b : List ℕ) → length (take n b) ≤ n
take_short zero b = omega arith
take_short (suc n) [] = omega arith
take_short (suc n) (x ∷ b) = let i = take_short n b in omega arith

-- ---- the text of the entry at k

module _ (w : ℕ) (b : List ℕ) (h : 100 ≤ w) where
  pub row-text : text_in (take w b) ≡ take (length (text_in (take w b))) (drop 4 b)
  row-text = go (leb (length_in (take w b)) longest_text) refl
    where
      go : (x : Bool) → leb (length_in (take w b)) longest_text ≡ x
          → pick x (take (length_in (take w b)) (drop 4 (take w b))) [] ≡ take (length (pick x (take (length_in (take w b)) (drop 4 (take w b))) [])) (drop 4 b)
      go false e = refl
      go true e =
          let n = length_in (take w b) in
          let i : n ≤ 96 = leb→le n longest_text (rw e tt) in
          let j = take_short n (drop 4 (take w b)) in
          sym (take_own n (drop 4 (take w b))) ∙ take-inside 4 (length (take n (drop 4 (take w b)))) w b (omega arith)

module _ (l : List ℕ) (k : ℕ) where
  pub text-part : k < count_in l → text_in (entry_at k l) ≡ take (text_part k l).length (drop (text_part k l).place l)
  unfolding entries_in
  text-part h = rw (rows_at 100 (count_in l) k (drop 2 l) h) (row-text 100 (drop (100 * k) (drop 2 l)) (omega arith) ∙ rw (drop-drop, drop-drop))

-- ---- the listing

-- 10, or the memory itself with its length and its count
shelf-or : (l : List ℕ) (P : Answer (List ℕ) → Type 0) → (length l ≡ shelf_size → count_in l ≤ capacity → P (accepted l)) → P (refused 10) → P (shelf_in l)
unfolding shelf_in sized
shelf-or l P a r = go (eqb (length l) shelf_size) refl (leb (count_in l) capacity) refl
  where
    go : (x : Bool) → eqb (length l) shelf_size ≡ x → (y : Bool) → leb (count_in l) capacity ≡ y
        → P (unless 10 (λ l. leb (count_in l) capacity) (pick x (accepted l) (refused 10)))
    go false d y e = r
    go true d true e = rw e (a (eqb→eq (length l) shelf_size (rw d tt)) (leb→le (count_in l) capacity (rw e tt)))
    go true d false e = rw e r

found-place : (code : ℕ) (l : List ℕ) (k : ℕ) → find_code code (entries_in l) ≡ some k → k < count_in l
unfolding entries_in
found-place code l k q = rw (rows-length 100 (count_in l) (drop 2 l)) at (find-within code (entries_in l) k (sym q))

text-short : (e : List ℕ) → length (text_in e) ≤ 96
text-short e = go (leb (length_in e) longest_text) refl
  where
    go : (x : Bool) → leb (length_in e) longest_text ≡ x → length (pick x (take (length_in e) (drop 4 e)) []) ≤ 96
    go false d = omega arith
    go true d =
        let i : length_in e ≤ 96 = leb→le (length_in e) longest_text (rw d tt) in
        let j = take_short (length_in e) (drop 4 e) in omega arith

-- what the listing of a code is, by the place of its entry
listing : (l : List ℕ) → Option ℕ → Answer Part
listing l o = map_answer (λ k. text_part k l) (or_refused 12 o)

texts : (l : List ℕ) → Option ℕ → Answer (List ℕ)
texts l o = map_answer (λ k. text_in (entry_at k l)) (or_refused 12 o)

module _ (code : ℕ) (l : List ℕ) where
  pub listed-part : (p : Part) → list_call code l ≡ accepted p → text_call code l ≡ accepted (take p.length (drop p.place l))
  unfolding list_call text_call located listing texts
  listed-part p =
      shelf-or l (λ a. and_then a (λ l. listing l (find_code code (entries_in l))) ≡ accepted p
      → and_then a (λ l. texts l (find_code code (entries_in l))) ≡ accepted (take p.length (drop p.place l)))
      (λ s c. go (find_code code (entries_in l)) refl)
      (λ q. let z : ◌≡◌ {A = ℕ} 0 1 = cc in absurd (omega arith))
    where
      go : (o : Option ℕ) → find_code code (entries_in l) ≡ o → listing l o ≡ accepted p → texts l o ≡ accepted (take p.length (drop p.place l))
      go none f q = let z : ◌≡◌ {A = ℕ} 0 1 = cc in absurd (omega arith)
      go (some k) f q = let e : text_part k l ≡ p = cc in rw (← e) (ap accepted (text-part l k (found-place code l k f)))

  -- the part lies in the shelf
  pub listed-within : (p : Part) → list_call code l ≡ accepted p → p.place + p.length ≤ length l
  unfolding list_call located listing
  listed-within p =
      shelf-or l (λ a. and_then a (λ l. listing l (find_code code (entries_in l))) ≡ accepted p → p.place + p.length ≤ length l)
      (λ s c. go s c (find_code code (entries_in l)) refl)
      (λ q. let z : ◌≡◌ {A = ℕ} 0 1 = cc in absurd (omega arith))
    where
      go : length l ≡ 37890 → count_in l ≤ 256 → (o : Option ℕ) → find_code code (entries_in l) ≡ o → listing l o ≡ accepted p → p.place + p.length ≤ length l
      go s c none f q = let z : ◌≡◌ {A = ℕ} 0 1 = cc in absurd (omega arith)
      go s c (some k) f q =
          let e : text_part k l ≡ p = cc in
          let b = found-place code l k f in
          let t = text-short (entry_at k l) in
          rw (← e) (omega arith)

  -- where the listing is refused, so is the text
  pub refused-text : (n : ℕ) → list_call code l ≡ refused n → text_call code l ≡ refused n
  unfolding list_call text_call located listing texts
  refused-text n =
      shelf-or l (λ a. and_then a (λ l. listing l (find_code code (entries_in l))) ≡ refused n → and_then a (λ l. texts l (find_code code (entries_in l))) ≡ refused n)
      (λ s c. go (find_code code (entries_in l)))
      (λ q. cc)
    where
      go : (o : Option ℕ) → listing l o ≡ refused n → texts l o ≡ refused n
      go none q = cc
      go (some k) q = let z : ◌≡◌ {A = ℕ} 0 1 = cc in absurd (omega arith)
