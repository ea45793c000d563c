-- Laws of an entry's row, and of finding a code among the rows of entries.
-- Assumes nothing.
use Prim.Native.Nat.{ℕ, suc, ◌+◌, ◌-◌, ◌≤◌, ◌<◌}
use mathlib.Core.Path.{◌≡◌, refl, sym, ap, ◌∙◌}
use mathlib.Core.Bool.{Bool, true, false}
use mathlib.Core.Option.{Option, none, some}
use mathlib.Core.List.{List, [], ◌∷◌, ◌++◌, map}
use native.Mathlib.Omega.{arith}
use lib.Dec.{eqb, leb, leb→le}
use lib.ListN.{length, take, drop, get_or, replicate, length-append, length-replicate}
use lib.Seq.{take_at, drop_at}
use borrow.Author.Tests.{eq-eqb, le-leb}
use Rattle.rules.specs.Bytes.{pick}
use Rattle.rules.specs.Lists.{All, all[], all∷}
use Rattle.rules.specs.Expansion.{Compat, cargo, npm, mode_number, mode_from, Reading}
use Rattle.rules.specs.Answers.{accepted, refused, reading}
use Rattle.rules.specs.Walk.{map_option}
use Rattle.rules.specs.Version.{Version}
use Rattle.rules.specs.Admission.{Question, admits_if}
use Rattle.shelf_rules.specs.Table.{without, low_first, number_in}
use Rattle.shelf_rules.specs.Triples.{bounds_of}
use Rattle.shelf_rules.specs.Shelf.{longest_text, entry_row, kept_row, bounds_in, code_in, mode_in, length_in, text_in, find_from, find_code, entry_reading, entry_fits, first_code}
use Rattle.shelf_rules.specs.Entries.{Entry, row_of, kept_from, kept_for, WellFormed, without_code, text_with, first_entry}
use Rattle.shelf_rules.proofs.TableLaws.{low-length, low-back}
use Rattle.shelf_rules.proofs.KeptLaws.{kept-length, bounds-back}

-- ---- two bytes, then others

module _ (n : ℕ) (b : List ℕ) where
  pub two_back : n < 65536 → number_in (take 2 (low_first 2 n ++ b)) ≡ n
  two_back h = rw (take_at (low_first 2 n) b 2 (low-length 2 n)) (low-back 2 n h)

  pub two-rest : drop 2 (low_first 2 n ++ b) ≡ b
  two-rest = drop_at (low_first 2 n) b 2 (low-length 2 n)

-- ---- what an entry's row holds

module _ (code : ℕ) (m : Compat) (t : List ℕ) where
  pub entry_length : length t ≤ 96 → length (entry_row code m t) ≡ 100
  unfolding entry_row
  entry_length h =
      let z = length-replicate {A = ℕ} (96 - length t) 0 in
      let a = length-append t (replicate (96 - length t) 0) in
      rw (length-append, low-length 2 code) (omega arith)

  pub entry-code : code < 65536 → code_in (entry_row code m t) ≡ code
  unfolding entry_row
  entry-code h = two_back code (mode_number m ∷ length t ∷ (t ++ replicate (longest_text - length t) 0)) h

  entry-mode : mode_in (entry_row code m t) ≡ mode_number m
  unfolding entry_row low_first
  entry-mode = refl

  entry-text-length : length_in (entry_row code m t) ≡ length t
  unfolding entry_row low_first
  entry-text-length = refl

  entry-rest : drop 4 (entry_row code m t) ≡ t ++ replicate (longest_text - length t) 0
  unfolding entry_row low_first
  entry-rest = refl

  pub entry-text : length t ≤ 96 → text_in (entry_row code m t) ≡ t
  entry-text h = rw (entry-text-length, le-leb (length t) 96 h, entry-rest) (take_at t (replicate (longest_text - length t) 0) (length t) refl)

mode-back : (m : Compat) → mode_from (mode_number m) ≡ some m
unfolding mode_from
mode-back cargo = refl
mode-back npm = refl

pub reading-within : (m : Compat) (t : List ℕ) (rs : Reading) → entry_reading m t ≡ accepted rs → length t ≤ 96
unfolding entry_reading
reading-within m t rs = go (leb (length t) longest_text) refl
  where
    go : (b : Bool) → leb (length t) longest_text ≡ b → pick b (reading m t) (refused 1) ≡ accepted rs → length t ≤ 96
    go true e q = leb→le (length t) longest_text (rw e tt)
    go false e q = let z : ◌≡◌ {A = ℕ} 0 1 = cc in absurd (omega arith)

pub reading-of : (m : Compat) (t : List ℕ) (rs : Reading) → entry_reading m t ≡ accepted rs → reading m t ≡ accepted rs
unfolding entry_reading
reading-of m t rs = go (leb (length t) longest_text)
  where
    go : (b : Bool) → pick b (reading m t) (refused 1) ≡ accepted rs → reading m t ≡ accepted rs
    go true q = q
    go false q = let z : ◌≡◌ {A = ℕ} 0 1 = cc in absurd (omega arith)

module _ (e : Entry) (h : WellFormed e) where
  formed-within : length e.text ≤ 96
  formed-within = reading-within e.mode e.text h.reads h.is

  formed-wide : length (row_of e) ≡ 100
  formed-wide = entry_length e.code e.mode e.text formed-within

  pub formed-code : code_in (row_of e) ≡ e.code
  formed-code = entry-code e.code e.mode e.text h.bits

  formed-text : text_in (row_of e) ≡ e.text
  formed-text = entry-text e.code e.mode e.text formed-within

  pub formed-fits : (q : Question) (v : Version) → entry_fits q v (row_of e) ≡ admits_if q v (reading e.mode e.text)
  unfolding entry_fits
  formed-fits q v =
      rw (
        formed-text,
        entry-text-length e.code e.mode e.text,
        le-leb (length e.text) 96 formed-within,
        entry-mode e.code e.mode e.text,
        mode-back e.mode,
      )

-- ---- what is kept of an entry

module _ (e : Entry) (h : WellFormed e) where
  pub formed-read : reading e.mode e.text ≡ accepted h.reads
  formed-read = reading-of e.mode e.text h.reads h.is

  formed-kept : kept_for e ≡ kept_row (bounds_of h.reads)
  formed-kept = ap kept_from h.is

  formed-kept-wide : length (kept_for e) ≡ 48
  formed-kept-wide = ap length formed-kept ∙ kept-length (bounds_of h.reads)

  pub formed-bounds : bounds_in (kept_for e) ≡ bounds_of h.reads
  formed-bounds = ap bounds_in formed-kept ∙ bounds-back e.mode e.text h.reads formed-read

pub formed-rows : {es : List Entry} → All WellFormed es → All (λ e. length e ≡ 100) (map row_of es)
formed-rows all[] = all[]
formed-rows (all∷ {a} h hs) = all∷ (formed-wide a h) (formed-rows hs)

pub formed-kepts : {es : List Entry} → All WellFormed es → All (λ b. length b ≡ 48) (map kept_for es)
formed-kepts all[] = all[]
formed-kepts (all∷ {a} h hs) = all∷ (formed-kept-wide a h) (formed-kepts hs)

-- ---- finding a code

-- the place that is found is one of the entries'
found_from : (j code : ℕ) (es : List (List ℕ)) (k : ℕ) → some k ≡ find_from j code es → k < j + length es
unfolding find_from
found_from j code [] k e = let z : ◌≡◌ {A = ℕ} 0 1 = cc in absurd (omega arith)
found_from j code (x ∷ es) k e = go (eqb (code_in x) code) (found_from (suc j) code es k) e
  where
    go : (b : Bool) → (some k ≡ find_from (suc j) code es → k < suc j + length es) → some k ≡ pick b (some j) (find_from (suc j) code es) → k < j + suc (length es)
    go true i q = let r : k ≡ j = cc in omega arith
    go false i q = let r = i q in omega arith

pub find-within : (code : ℕ) (es : List (List ℕ)) (k : ℕ) → some k ≡ find_code code es → k < length es
find-within code es k e = let r = found_from 0 code es k e in omega arith

-- where none is found, every entry has another code
none_from : (j code : ℕ) (es : List Entry) → All WellFormed es → find_from j code (map row_of es) ≡ none → All (λ f. f.code ≡ code → ⊥) es
unfolding find_from
none_from j code [] all[] q = all[]
none_from j code (e ∷ es) (all∷ h hs) q = go (eqb (code_in (row_of e)) code) refl q (none_from (suc j) code es hs)
  where
    go : (b : Bool) → eqb (code_in (row_of e)) code ≡ b → pick b (some j) (find_from (suc j) code (map row_of es)) ≡ none
        → (find_from (suc j) code (map row_of es) ≡ none → All (λ f. f.code ≡ code → ⊥) es) → All (λ f. f.code ≡ code → ⊥) (e ∷ es)
    go true k p i = let z : ◌≡◌ {A = ℕ} 0 1 = cc in absurd (omega arith)
    go false k p i = all∷ other (i p)
      where
        other : e.code ≡ code → ⊥
        other x =
            let y : eqb (code_in (row_of e)) code ≡ true = eq-eqb (code_in (row_of e)) code (formed-code e h ∙ x) in
            let z : ◌≡◌ {A = ℕ} 0 1 = cc in omega arith

pub find_none : (code : ℕ) (es : List Entry) → All WellFormed es → find_code code (map row_of es) ≡ none → All (λ f. f.code ≡ code → ⊥) es
find_none code es h q = none_from 0 code es h q

-- the place counts from where the entries begin
find-shift : (j code : ℕ) (es : List (List ℕ)) → find_from (suc j) code es ≡ map_option suc (find_from j code es)
unfolding find_from
find-shift j code [] = refl
find-shift j code (x ∷ es) = go (eqb (code_in x) code) (find-shift (suc j) code es)
  where
    go : (b : Bool) → find_from (suc (suc j)) code es ≡ map_option suc (find_from (suc j) code es)
        → pick b (some (suc j)) (find_from (suc (suc j)) code es) ≡ map_option suc (pick b (some j) (find_from (suc j) code es))
    go true i = refl
    go false i = i

module _ (code : ℕ) where
  -- the text of the entry that is found is the first one's with the code
  pub find-text : (es : List Entry) → All WellFormed es → map_option (λ k. text_in (get_or (map row_of es) k [])) (find_code code (map row_of es)) ≡ text_with code es
  unfolding find_from text_with
  find-text [] all[] = refl
  find-text (e ∷ es) (all∷ h hs) =
      rw (formed-code e h) (go (eqb e.code code) (find_code code (map row_of es)) (find-shift 0 code (map row_of es)) (find-text es hs))
    where
      go : (b : Bool) (o : Option ℕ) → find_from 1 code (map row_of es) ≡ map_option suc o → map_option (λ k. text_in (get_or (map row_of es) k [])) o ≡ text_with code es
          → map_option (λ k. text_in (get_or (map row_of (e ∷ es)) k [])) (pick b (some 0) (find_from 1 code (map row_of es))) ≡ pick b (some e.text) (text_with code es)
      go true o f i = ap some (formed-text e h)
      go false none f i = rw f i
      go false (some k) f i = rw f i

  -- removing the place that is found removes the first entry with the code
  pub find-without : (es : List Entry) → All WellFormed es → (k : ℕ) → some k ≡ find_code code (map row_of es) → without k es ≡ without_code code es
  unfolding find_from without without_code
  find-without [] all[] k q = refl
  find-without (e ∷ es) (all∷ h hs) k q = go (eqb e.code code) (find_code code (map row_of es)) refl (find-shift 0 code (map row_of es)) (find-without es hs) (rw (formed-code e h) at q)
    where
      go : (b : Bool) (o : Option ℕ) → find_code code (map row_of es) ≡ o → find_from 1 code (map row_of es) ≡ map_option suc o
          → ((j : ℕ) → some j ≡ find_code code (map row_of es) → without j es ≡ without_code code es)
          → some k ≡ pick b (some 0) (find_from 1 code (map row_of es)) → without k (e ∷ es) ≡ pick b es (e ∷ without_code code es)
      go true o c f i p = let z : k ≡ 0 = cc in rw z
      go false none c f i p = let z : ◌≡◌ {A = ℕ} 0 1 = cc in absurd (omega arith)
      go false (some j) c f i p = let z : k ≡ suc j = cc in rw z (ap (λ r. e ∷ r) (i j (sym c)))

-- ---- the first that fits

pub first_fits : (q : Question) (v : Version) (es : List Entry) → All WellFormed es
    → first_code (entry_fits q v) (map row_of es) ≡ first_entry (λ e. admits_if q v (reading e.mode e.text)) es
unfolding first_code first_entry
first_fits q v [] all[] = refl
first_fits q v (e ∷ es) (all∷ h hs) = rw (formed-fits e h q v, formed-code e h, first_fits q v es hs)
