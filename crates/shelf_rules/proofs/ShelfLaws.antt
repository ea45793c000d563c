-- Shelves as lists of entries: the bytes of entries, and what the calls make of them.
-- Assumes nothing.
use Prim.Native.Nat.{ℕ, zero, suc, ◌-◌, ◌≤◌, ◌<◌}
use mathlib.Core.Path.{◌≡◌, refl, sym, ap, ap₂, ◌∙◌}
use mathlib.Core.Bool.{Bool, true, false}
use mathlib.Core.Option.{Option, none, some}
use mathlib.Core.List.{List, [], ◌∷◌, ◌++◌, map}
use native.Mathlib.Omega.{arith}
use lib.Dec.{eqb, ltb, ltb→lt}
use lib.ListN.{length, drop, get_or, length-append}
use lib.Seq.{take_at, drop_at, drop-drop}
use borrow.Author.Tests.{eq-eqb, le-leb}
use Rattle.rules.specs.Bytes.{pick}
use Rattle.rules.specs.Lists.{All, all[], all∷}
use Rattle.rules.specs.Walk.{map_option}
use Rattle.rules.specs.Expansion.{Compat, Reading}
use Rattle.rules.specs.Answers.{Answer, accepted, refused, unless, map_answer, or_refused, reading, and_then}
use Rattle.rules.specs.Admission.{Question, admits_if, version_of}
use Rattle.shelf_rules.specs.Table.{low_first, without, row_added, row_removed, table}
use Rattle.shelf_rules.specs.Triples.{bounds_of}
use Rattle.shelf_rules.specs.Shelf.{shelf_size, capacity, entry_row, kept_row, count_in, entries_in, kept_in, entry_places, with_entry, without_entry, find_code, is_none, sized, shelf_in, located, entry_reading, emptied, empty_call, add_call, remove_call, text_in, text_call, first_fit_call}
use Rattle.shelf_rules.specs.Entries.{Entry, entry, row_of, kept_from, kept_for, shelf_of, WellFormed, Distinct, distinct[], distinct∷, IsShelf, without_code, text_with, first_entry, Built, empty, added, removed}
use Rattle.shelf_rules.proofs.TableLaws.{low-length, all_snoc, all_without, without-length, table-rows, table-rows-then, table-length, table-added, table-removed, map_snoc, map-without, map-length}
use Rattle.shelf_rules.proofs.EntryLaws.{two_back, two-rest, formed-rows, formed-kepts, find-within, find_none, find-text, find-without, first_fits}

-- ---- the bytes of entries

module _ (es : List Entry) where
  abbrev rows : List ℕ
  rows = table 100 256 (map row_of es)

  abbrev kepts : List ℕ
  kepts = table 48 256 (map kept_for es)

  shelf-is : shelf_of es ≡ low_first 2 (length es) ++ (rows ++ kepts)
  unfolding shelf_of
  shelf-is = refl

-- a shelf's bytes after a change, by its three parts
module _ (l : List ℕ) (n : ℕ) (p k : List ℕ) (c : count_in l ≡ n) (i : entry_places l ≡ p) (j : drop 25602 l ≡ k) where
  parts-with : (e b : List ℕ) → with_entry e b l ≡ low_first 2 (suc n) ++ (row_added 100 n e p ++ row_added 48 n b k)
  unfolding with_entry
  parts-with e b =
      ap₂ (λ n p. low_first 2 (suc n) ++ (row_added 100 n e p ++ row_added 48 n b (drop 25602 l))) c i
      ∙ ap (λ k. low_first 2 (suc n) ++ (row_added 100 n e p ++ row_added 48 n b k)) j

  parts-without : (m : ℕ) → without_entry m l ≡ low_first 2 (n - 1) ++ (row_removed 100 n m p ++ row_removed 48 n m k)
  unfolding without_entry
  parts-without m =
      ap₂ (λ n p. low_first 2 (n - 1) ++ (row_removed 100 n m p ++ row_removed 48 n m (drop 25602 l))) c i
      ∙ ap (λ k. low_first 2 (n - 1) ++ (row_removed 100 n m p ++ row_removed 48 n m k)) j

module _ (es : List Entry) (few : length es ≤ 256) (formed : All WellFormed es) where
  count-is : length (map row_of es) ≡ length es
  count-is = map-length row_of es

  kept-count : length (map kept_for es) ≡ length es
  kept-count = map-length kept_for es

  shelf-count : count_in (shelf_of es) ≡ length es
  shelf-count = rw shelf-is (two_back (length es) (rows es ++ kepts es) (omega arith))

  rows_long : length (rows es) ≡ 25600
  rows_long = table-length 100 256 (map row_of es) (formed-rows formed) (omega (arith, count-is))

  kepts-long : length (kepts es) ≡ 12288
  kepts-long = table-length 48 256 (map kept_for es) (formed-kepts formed) (omega (arith, kept-count))

  shelf-rest : drop 2 (shelf_of es) ≡ rows es ++ kepts es
  shelf-rest = rw shelf-is (two-rest (length es) (rows es ++ kepts es))

  shelf-rows : entry_places (shelf_of es) ≡ rows es
  shelf-rows = rw shelf-rest (take_at (rows es) (kepts es) 25600 rows_long)

  shelf-kepts : drop 25602 (shelf_of es) ≡ kepts es
  shelf-kepts = sym (drop-drop 25600 2 (shelf_of es)) ∙ ap (drop 25600) shelf-rest ∙ drop_at (rows es) (kepts es) 25600 rows_long

  pub shelf-entries : entries_in (shelf_of es) ≡ map row_of es
  unfolding entries_in
  shelf-entries = rw (shelf-count, shelf-rest) (rw count-is at (table-rows-then 100 256 (map row_of es) (formed-rows formed) (kepts es)))

  pub shelf-kept : kept_in (shelf_of es) ≡ map kept_for es
  unfolding kept_in
  shelf-kept = rw (shelf-count, shelf-kepts) (rw kept-count at (table-rows 48 256 (map kept_for es) (formed-kepts formed)))

  shelf-length : length (shelf_of es) ≡ 37890
  shelf-length =
      ap length (shelf-is es) ∙ length-append (low_first 2 (length es)) (rows es ++ kepts es)
      ∙ omega (arith, length-append (rows es) (kepts es), rows_long, kepts-long, low-length 2 (length es))

  pub shelf-accepted : shelf_in (shelf_of es) ≡ accepted (shelf_of es)
  unfolding shelf_in
  shelf-accepted = rw (eq-eqb (length (shelf_of es)) 37890 shelf-length, shelf-count, le-leb (length es) 256 few)

  bytes-added : (e : Entry) → length es < 256 → with_entry (row_of e) (kept_for e) (shelf_of es) ≡ shelf_of (es ++ (e ∷ []))
  bytes-added e l =
      let n : suc (length es) ≡ length (es ++ (e ∷ [])) = omega (arith, length-append es (e ∷ [])) in
      let t = table-added 100 256 (map row_of es) (formed-rows formed) (row_of e) (omega (arith, count-is)) in
      let u = table-added 48 256 (map kept_for es) (formed-kepts formed) (kept_for e) (omega (arith, kept-count)) in
      parts-with (shelf_of es) (length es) (rows es) (kepts es) shelf-count shelf-rows shelf-kepts (row_of e) (kept_for e)
      ∙ ap₂ (λ i j. low_first 2 (suc (length es)) ++ (row_added 100 i (row_of e) (rows es) ++ row_added 48 j (kept_for e) (kepts es))) (sym count-is) (sym kept-count)
      ∙ ap₂ (λ r k. low_first 2 (suc (length es)) ++ (r ++ k)) t u
      ∙ ap₂ (λ r k. low_first 2 (suc (length es)) ++ (table 100 256 r ++ table 48 256 k)) (sym (map_snoc row_of es e)) (sym (map_snoc kept_for es e))
      ∙ ap (λ i. low_first 2 i ++ (rows (es ++ (e ∷ [])) ++ kepts (es ++ (e ∷ [])))) n
      ∙ sym (shelf-is (es ++ (e ∷ [])))

  bytes-removed : (k : ℕ) → k < length es → without_entry k (shelf_of es) ≡ shelf_of (without k es)
  bytes-removed k l =
      let n : length es - 1 ≡ length (without k es) = sym (without-length k es l) in
      let t = table-removed 100 256 (map row_of es) (formed-rows formed) k (omega (arith, count-is)) (omega (arith, count-is)) in
      let u = table-removed 48 256 (map kept_for es) (formed-kepts formed) k (omega (arith, kept-count)) (omega (arith, kept-count)) in
      parts-without (shelf_of es) (length es) (rows es) (kepts es) shelf-count shelf-rows shelf-kepts k
      ∙ ap₂ (λ i j. low_first 2 (length es - 1) ++ (row_removed 100 i k (rows es) ++ row_removed 48 j k (kepts es))) (sym count-is) (sym kept-count)
      ∙ ap₂ (λ r k. low_first 2 (length es - 1) ++ (r ++ k)) t u
      ∙ ap₂ (λ r k. low_first 2 (length es - 1) ++ (table 100 256 r ++ table 48 256 k)) (sym (map-without row_of k es)) (sym (map-without kept_for k es))
      ∙ ap (λ i. low_first 2 i ++ (rows (without k es) ++ kepts (without k es))) n
      ∙ sym (shelf-is (without k es))

-- ---- what an accepted call says

-- an add that is accepted, by its tests: of the text, of the code and of the count
record Adds (a : Answer Reading) (o : Option ℕ) (p : List ℕ → Bool) (w : Reading → List ℕ → List ℕ) (l l' : List ℕ) : Type 0 where
  pub reads : Reading
  pub read : a ≡ accepted reads
  pub fresh : o ≡ none
  pub few : p l ≡ true
  pub is : l' ≡ w reads l

adds : (a : Answer Reading) (o : Option ℕ) (p : List ℕ → Bool) (w : Reading → List ℕ → List ℕ) (l l' : List ℕ)
    → and_then a (λ rs. map_answer (w rs) (unless 11 p (pick (is_none o) (accepted l) (refused 12)))) ≡ accepted l' → Adds a o p w l l'
adds (refused n) o p w l l' q = let z : ◌≡◌ {A = ℕ} 0 1 = cc in absurd (omega arith)
adds (accepted rs) (some k) p w l l' q = let z : ◌≡◌ {A = ℕ} 0 1 = cc in absurd (omega arith)
adds (accepted rs) none p w l l' q = go (p l) refl q
  where
    go : (b : Bool) → p l ≡ b → map_answer (w rs) (pick b (accepted l) (refused 11)) ≡ accepted l' → Adds (accepted rs) none p w l l'
    go true g r = record { reads = rs; read = refl; fresh = refl; few = g; is = cc }
    go false g r = let z : ◌≡◌ {A = ℕ} 0 1 = cc in absurd (omega arith)

module _ (code : ℕ) (m : Compat) (t : List ℕ) where
  abbrev with_text : Reading → List ℕ → List ℕ
  with_text rs = with_entry (entry_row code m t) (kept_row (bounds_of rs))

  add-says : (l l' : List ℕ) → shelf_in l ≡ accepted l → add_call code m t l ≡ accepted l'
      → Adds (entry_reading m t) (find_code code (entries_in l)) (λ l. ltb (count_in l) capacity) with_text l l'
  unfolding add_call
  add-says l l' s q = adds (entry_reading m t) (find_code code (entries_in l)) (λ l. ltb (count_in l) capacity) with_text l l' (sym (ap called s) ∙ q)
    where
      called : Answer (List ℕ) → Answer (List ℕ)
      called a =
          and_then a (λ l. and_then (entry_reading m t) (λ rs.
          map_answer (with_text rs) (unless 11 (λ l. ltb (count_in l) capacity) (unless 12 (λ l. is_none (find_code code (entries_in l))) (accepted l)))))

record Removes (code : ℕ) (l l' : List ℕ) : Type 0 where
  pub place : ℕ
  pub found : some place ≡ find_code code (entries_in l)
  pub is : l' ≡ without_entry place l

remove-says : (code : ℕ) (l l' : List ℕ) → shelf_in l ≡ accepted l → remove_call code l ≡ accepted l' → Removes code l l'
unfolding remove_call located
remove-says code l l' s q = go (find_code code (entries_in l)) refl (rw s at q)
  where
    go : (o : Option ℕ) → find_code code (entries_in l) ≡ o → map_answer (λ k. without_entry k l) (or_refused 12 o) ≡ accepted l' → Removes code l l'
    go none f p = let z : ◌≡◌ {A = ℕ} 0 1 = cc in absurd (omega arith)
    go (some k) f p = record { place = k; found = sym f; is = cc }

-- ---- different codes

distinct_snoc : (e : Entry) {es : List Entry} → Distinct es → All (λ f. f.code ≡ e.code → ⊥) es → Distinct (es ++ (e ∷ []))
distinct_snoc e distinct[] all[] = distinct∷ all[] distinct[]
distinct_snoc e (distinct∷ h d) (all∷ n hs) = distinct∷ (all_snoc h (λ q. n (sym q))) (distinct_snoc e d hs)

distinct_without : (k : ℕ) {es : List Entry} → Distinct es → Distinct (without k es)
unfolding without
distinct_without k distinct[] = distinct[]
distinct_without zero (distinct∷ h d) = d
distinct_without (suc k) (distinct∷ h d) = distinct∷ (all_without k h) (distinct_without k d)

-- ---- the calls that change a shelf

empty-says : (l l' : List ℕ) → empty_call l ≡ accepted l' → l' ≡ emptied
unfolding empty_call sized
empty-says l l' = go (eqb (length l) shelf_size)
  where
    go : (b : Bool) → map_answer (λ l. emptied) (pick b (accepted l) (refused 10)) ≡ accepted l' → l' ≡ emptied
    go true q = cc
    go false q = let z : ◌≡◌ {A = ℕ} 0 1 = cc in absurd (omega arith)

no-entries : emptied ≡ shelf_of []
unfolding shelf_of table low_first
no-entries = refl

pub shelf-empty : (l l' : List ℕ) → empty_call l ≡ accepted l' → IsShelf [] l'
shelf-empty l l' q = record { is = empty-says l l' q ∙ no-entries; few = omega arith; distinct = distinct[]; formed = all[] }

pub shelf-added : {es : List Entry} {l : List ℕ} (l' : List ℕ) (code : ℕ) (m : Compat) (t : List ℕ) → code < 65536 → IsShelf es l
    → add_call code m t l ≡ accepted l' → IsShelf (es ++ (entry code m t ∷ [])) l'
shelf-added {es} l' code m t b s q =
    let p : add_call code m t (shelf_of es) ≡ accepted l' = rw s.is at q in
    let a = add-says code m t (shelf_of es) l' (shelf-accepted es s.few s.formed) p in
    let n : length es < 256 = ltb→lt (length es) 256 (rw (← shelf-count es s.few s.formed, a.few) tt) in
    let f : find_code code (map row_of es) ≡ none = rw (shelf-entries es s.few s.formed) at a.fresh in
    record {
      is =
          a.is ∙ ap (λ b. with_entry (entry_row code m t) b (shelf_of es)) (sym (ap kept_from a.read))
          ∙ bytes-added es s.few s.formed (entry code m t) n;
      few = omega (arith, length-append es (entry code m t ∷ []));
      distinct = distinct_snoc (entry code m t) s.distinct (find_none code es s.formed f);
      formed = all_snoc s.formed (record { bits = b; reads = a.reads; is = a.read });
    }

pub shelf-removed : {es : List Entry} {l : List ℕ} (l' : List ℕ) (code : ℕ) → IsShelf es l → remove_call code l ≡ accepted l' → IsShelf (without_code code es) l'
shelf-removed {es} l' code s q =
    let p : remove_call code (shelf_of es) ≡ accepted l' = rw s.is at q in
    let a = remove-says code (shelf_of es) l' (shelf-accepted es s.few s.formed) p in
    let k = a.place in
    let f : some k ≡ find_code code (map row_of es) = rw (shelf-entries es s.few s.formed) at a.found in
    let w : k < length es = rw (map-length row_of es) at (find-within code (map row_of es) k f) in
    let few = s.few in
    rw (← find-without code es s.formed k f)
    (record {
      is = a.is ∙ bytes-removed es s.few s.formed k w;
      few = omega (arith, without-length k es w);
      distinct = distinct_without k s.distinct;
      formed = all_without k s.formed;
    })

pub built-shelf : {l : List ℕ} → Built l → (es : List Entry) × IsShelf es l
built-shelf (empty l {l'} q) = ([], shelf-empty l l' q)
built-shelf (added {l} {l'} code m t b h q) = let s = built-shelf h in (s.0 ++ (entry code m t ∷ []), shelf-added l' code m t b s.1 q)
built-shelf (removed {l} {l'} code h q) = let s = built-shelf h in (without_code code s.0, shelf-removed l' code s.1 q)

-- ---- the calls that ask

mapped-or : {A B : Type 0} (f : A → B) (n : ℕ) (o : Option A) → map_answer f (or_refused n o) ≡ or_refused n (map_option f o)
mapped-or f n none = refl
mapped-or f n (some a) = refl

pub shelf-listed : {es : List Entry} {l : List ℕ} (code : ℕ) → IsShelf es l → text_call code l ≡ or_refused 12 (text_with code es)
unfolding text_call located
shelf-listed {es} code s =
    rw (s.is, shelf-accepted es s.few s.formed, shelf-entries es s.few s.formed)
    (mapped-or (λ k. text_in (get_or (map row_of es) k [])) 12 (find_code code (map row_of es)) ∙ ap (or_refused 12) (find-text code es s.formed))

pub shelf-fits : {es : List Entry} {l : List ℕ} (q : Question) (t : List ℕ) → IsShelf es l
    → first_fit_call q t l ≡ map_answer (λ v. first_entry (λ e. admits_if q v (reading e.mode e.text)) es) (version_of t)
unfolding first_fit_call
shelf-fits {es} q t s =
    rw (s.is, shelf-accepted es s.few s.formed, shelf-entries es s.few s.formed) (simp (first_fits, s.formed))
