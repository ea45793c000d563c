-- Bytes, spaces, numbers, components and identifiers: the crate's rules meet 01's readers.
-- Assumes nothing.
use mathlib.Core.Path.{◌≡◌, refl, ap, ◌∙◌}
use Prim.Native.Nat.{ℕ}
use mathlib.Core.Bool.{Bool, true, false, ◌&&◌, ◌||◌}
use mathlib.Core.Option.{Option, none, some}
use mathlib.Core.List.{List, [], ◌∷◌, map}
use native.Mathlib.Omega.{arith}
use lib.Dec.{eqb, leb}
use borrow.Author.Tests.{leb-false, lt-leb, eqb-false}
use lib.ListN.{length, drop}
use Rattle.rules.specs.Bytes.{bytes, pick, within, is_space, is_digit, is_nonzero, is_letter, is_word, is_wild, is_sign, value}
use Rattle.rules.specs.Syntax.{Identifier, of_digits}
use Rattle.rules.specs.Parse as P
use Rattle.rules.specs.Parse.{◌then◌, choose, one_of, count, literal, skip, read_number, read_component, read_identifier, read_dot_identifier, read_identifiers, read_qualifier}
use Rattle.rules.proofs.Results.{given}
use Rattle.rules.proofs.Sound.{number-sound, identifiers-sound}
use Rattle.rules.proofs.Left.{dot_identifier-behind}
use Rattle.reference.specs.Rule.{Rule}
use Rattle.reference.specs.Pest.{Pairs, end, pair, ◌⊕◌, ok, queued, and_then, or_else, optionally, span, matched, run, match-range}
use Rattle.reference.specs.Generated as G
use Rattle.rules.specs.Rows.{placeless}
use Rattle.reference.specs.Rust.{parse-u64, split}
use Rattle.reference.specs.Range.{identifier}
use Rattle.reference.proofs.Meets.{queued-end, chain₂, Meets, Within, inside, via, meets-via, within-map, gets-inside, optional-gets, Gets, sequence-meets, meets-map, rule-meets, and-within, or-meets, matched-meets, starred, class-star, star-meets}
use Rattle.reference.proofs.Texts.{span_of, number-text, number-parse, bounded, identifiers-split}

-- ---- classes of bytes

byte-class : (b : ℕ) (s : List ℕ) → matched s (literal (b ∷ []) s) ≡ matched s (one_of (λ c. eqb c b) s)
unfolding literal one_of matched
byte-class b [] = refl
byte-class b (c ∷ s) = go (eqb c b)
  where
    go : (t : Bool) → matched (c ∷ s) (pick t (P.ok (tt {0}) s) P.fail) ≡ matched (c ∷ s) (pick t (P.ok c s) P.fail)
    go true = refl
    go false = refl

or-class : (p q : ℕ → Bool) (s : List ℕ) → or_else (matched s (one_of p s)) (λ r. matched r (one_of q r)) ≡ matched s (one_of (λ c. p c || q c) s)
unfolding one_of matched or_else queued ◌⊕◌
or-class p q [] = refl
or-class p q (c ∷ s) = go (p c)
  where
    go : (t : Bool) → or_else (matched (c ∷ s) (pick t (P.ok c s) P.fail)) (λ r. matched r (one_of q r)) ≡ matched (c ∷ s) (pick (t || q c) (P.ok c s) P.fail)
    go true = refl
    go false = queued-end _

-- two bytes
bytes-class : (a b : ℕ) (s : List ℕ) → or_else (matched s (literal (a ∷ []) s)) (λ r. matched r (literal (b ∷ []) r)) ≡ matched s (one_of (λ c. eqb c a || eqb c b) s)
bytes-class a b s = ap (λ o. or_else o λ r. matched r (literal (b ∷ []) r)) (byte-class a s) ∙ ap (or_else (matched s (one_of (λ c. eqb c a) s))) (λ i r. byte-class b r i) ∙ or-class _ _ s

three-class : (a b d : ℕ) (s : List ℕ) → or_else (or_else (matched s (literal (a ∷ []) s)) (λ r. matched r (literal (b ∷ []) r))) (λ r. matched r (literal (d ∷ []) r))
    ≡ matched s (one_of (λ c. eqb c a || eqb c b || eqb c d) s)
three-class a b d s = ap (λ o. or_else o λ r. matched r (literal (d ∷ []) r)) (bytes-class a b s) ∙ ap (or_else (matched s (one_of _ s))) (λ i r. byte-class d r i) ∙ or-class _ _ s

same_class : (p q : ℕ → Bool) → ((c : ℕ) → p c ≡ q c) → (s : List ℕ) → one_of p s ≡ one_of q s
unfolding one_of
same_class p q h [] = refl
same_class p q h (c ∷ s) = rw (h c) refl

turned : (a b c d : Bool) → (((a || b) || c) || d) ≡ (((d || c) || a) || b)
turned true b true true = refl
turned true b true false = refl
turned true b false true = refl
turned true b false false = refl
turned false true true true = refl
turned false true true false = refl
turned false true false true = refl
turned false true false false = refl
turned false false true true = refl
turned false false true false = refl
turned false false false true = refl
turned false false false false = refl

-- ---- the pairs of what is read

pub data IsNr : List ℕ → Pairs → Type 0 where
  is_nr : {w : List ℕ} → parse-u64 w ≡ bounded (value w) → IsNr w (pair Rule.nr w end end)

-- in `xr`
pub data IsInner : Option ℕ → Pairs → Type 0 where
  wild : {w : List ℕ} → IsInner none (pair Rule.xr-op w end end)
  numb : {w : List ℕ} → parse-u64 w ≡ bounded (value w) → IsInner (some (value w)) (pair Rule.nr w end end)

pub data IsXr : Option ℕ → Pairs → Type 0 where
  is_xr : {c : Option ℕ} {v : List ℕ} {i : Pairs} → IsInner c i → IsXr c (pair Rule.xr v i end)

pub data IsParts : List Identifier → Pairs → Type 0 where
  is_parts : {is : List Identifier} {w : List ℕ} {i : Pairs} → map identifier (split 46 w) ≡ map placeless is → IsParts is (pair Rule.parts w i end)

-- with a qualifier, or with none
pub data IsQualifier : List Identifier → Pairs → Type 0 where
  absent : IsQualifier [] end
  present : {is : List Identifier} {w : List ℕ} {i : Pairs} → IsParts is i → IsQualifier is (pair Rule.qualifier w i end)

pub none-and : (a : Bool) → (a && false) ≡ false
none-and true = refl
none-and false = refl

number-fails : (c : ℕ) (s : List ℕ) → read_number (c ∷ s) ≡ P.fail → is_digit c ≡ false
unfolding read_number literal one_of choose ◌then◌ P.run is_digit is_nonzero
number-fails c s e = go (eqb c 48) (leb 49 c) (leb c 57) refl refl refl e
  where
    go : (x y z : Bool) → eqb c 48 ≡ x → leb 49 c ≡ y → leb c 57 ≡ z
        → choose (pick x (P.ok (tt {0}) s) P.fail) (λ u r. P.ok (bytes "0") r) (pick (y && z) (P.ok c s) P.fail then λ c t. P.run is_digit t then λ w r. P.ok (c ∷ w) r) ≡ P.fail
        → (leb 48 c && leb c 57) ≡ false
    go true y z i j k e = cc
    go false true true i j k e = cc
    go false y false i j k e = rw k (none-and (leb 48 c))
    go false false true i j k e = rw (lt-leb 48 c (let u = leb-false 49 c j in omega (arith, eqb-false c 48 i)))

module _ (t : List ℕ) where
  pub space-one : (s : List ℕ) → run t G.space s ≡ matched s (one_of is_space s)
  unfolding run G.space
  space-one s = bytes-class 32 9 s

  pub spaces-run : (s : List ℕ) → run t G.spaces s ≡ ok (skip s) end
  unfolding run G.spaces
  spaces-run s = class-star is_space (run t G.space) space-one s

  digits-run : (s : List ℕ) → starred (run t (match-range 48 57)) s ≡ ok (drop (count is_digit s) s) end
  unfolding run is_digit
  digits-run s = class-star is_digit (run t (match-range 48 57)) (λ s. refl) s

  nr-meets : (s : List ℕ) → Meets IsNr s (read_number s) (run t G.nr s)
  unfolding run G.nr read_number P.run is_nonzero ◌then◌ ◌⊕◌
  nr-meets s =
      rule-meets Rule.nr (or-meets (λ u. bytes "0") _ (matched-meets s (literal (bytes "0") s)) (λ u p e. e)
      λ z. sequence-meets s (via (chain₂ _ _) (and-within (inside (matched-meets s _)) λ c r p e. digits c r p e))) fin
    where
      digits : (c : ℕ) (r : List ℕ) (p : Pairs) → p ≡ end → Within (λ w q. (p ⊕ q) ≡ end) (P.run is_digit r then λ w r. P.ok (c ∷ w) r) (starred (run t (match-range 48 57)) r)
      digits c r p e = via (digits-run r) (Within.reads (rw e))

      fin : (w r : List ℕ) (p : Pairs) → read_number s ≡ P.ok w r → p ≡ end → IsNr w (pair Rule.nr (span s r) p end)
      fin w r p e z = let k = given (rw e at (number-sound s)) in rw (z, span_of w r s (number-text k)) (is_nr (number-parse k))

  -- ---- components

  xr-op-meets : (s : List ℕ) → Meets (λ c p. IsInner none p) s (one_of is_wild s) (run t G.xr-op s)
  unfolding run G.xr-op
  xr-op-meets s = rule-meets Rule.xr-op (meets-via (three-class 120 88 42 s) (matched-meets s (one_of is_wild s))) λ c r p e z. rw z wild

  pub xr-meets : (s : List ℕ) → Meets IsXr s (read_component s) (run t G.xr s)
  unfolding run G.xr read_component
  xr-meets s =
      rule-meets {Q = IsInner} Rule.xr (or-meets (λ c. none) (run t G.nr) (xr-op-meets s) (λ c p q. q) λ z. meets-map (λ w. some (value w)) (nr-meets s) inner) λ c r p e q. is_xr q
    where
      inner : (w : List ℕ) (p : Pairs) → IsNr w p → IsInner (some (value w)) p
      inner w p (is_nr h) = numb h

  -- ---- identifiers

  word-one : (s : List ℕ) → run t G.word-byte s ≡ matched s (one_of is_word s)
  unfolding run G.word-byte is_letter is_digit
  word-one s =
      ap (λ o. or_else (or_else o (λ r. matched r (one_of (within 65 90) r))) λ r. matched r (one_of (within 97 122) r))
      (ap (λ o. or_else o λ r. matched r (one_of (within 48 57) r)) (byte-class 45 s) ∙ or-class _ _ s)
      ∙ ap (λ o. or_else o λ r. matched r (one_of (within 97 122) r)) (or-class _ _ s) ∙ or-class _ _ s
      ∙ ap (matched s) (same_class _ is_word (λ c. turned (eqb c 45) (within 48 57 c) (within 65 90 c) (within 97 122 c)) s)

  words-run : (s : List ℕ) → starred (run t G.word-byte) s ≡ ok (drop (count is_word s) s) end
  words-run s = class-star is_word (run t G.word-byte) word-one s

  -- where no number begins, a byte of a word is a letter
  letter-one : (s : List ℕ) → read_number s ≡ P.fail → one_of is_word s ≡ one_of is_letter s
  unfolding one_of
  letter-one [] e = refl
  letter-one (c ∷ s) e = rw (number-fails c s e) (go (is_letter c))
    where
      go : (x : Bool) → pick (x || false) (P.ok c s) P.fail ≡ pick x (P.ok c s) P.fail
      go true = refl
      go false = refl

  abbrev Any : {A : Type 0} → A → Pairs → Type 0
  Any a p = Unit {0}

  part_meets : (s : List ℕ) → Meets Any s (read_identifier s) (run t G.part s)
  unfolding run G.part read_identifier P.run ◌then◌
  part_meets s =
      rule-meets {Q = Any} Rule.part (or-meets (of_digits (length s)) _ (nr-meets s) (λ w p q. tt)
      λ z. sequence-meets s (via (chain₂ _ _ ∙ ap (λ o. and_then o (starred (run t G.word-byte))) (word-one s ∙ ap (matched s) (letter-one s z))) (and-within (inside (matched-meets s (one_of is_letter s))) λ c r p e. via (words-run r) (Within.reads tt)))) λ i r p e q. tt

  dot-part-meets : (s : List ℕ) → Meets Any s (read_dot_identifier s) (run t G.dot-part s)
  unfolding run G.dot-part read_dot_identifier
  dot-part-meets s = sequence-meets s (via (chain₂ _ _) (and-within (inside (matched-meets s _)) λ u r p e. inside (part_meets r)))

  parts-meets : (s : List ℕ) → Meets IsParts s (read_identifiers s) (run t G.parts s)
  unfolding run G.parts read_identifiers
  parts-meets s =
      rule-meets {Q = Any} Rule.parts (sequence-meets s (via (chain₂ _ _) (and-within (inside (part_meets s)) λ i r p e.
      within-map (i ∷◌) (gets-inside (star-meets read_dot_identifier (run t G.dot-part) dot-part-meets dot_identifier-behind r)) λ is p q. tt)))
      λ is r p e q. is_parts (identifiers-split (given (rw e at (identifiers-sound s))))

  qualifier-meets : (s : List ℕ) → Meets IsQualifier s (one_of is_sign s then λ c t. read_identifiers t) (run t G.qualifier s)
  unfolding run G.qualifier ◌⊕◌
  qualifier-meets s =
      rule-meets {Q = IsParts} Rule.qualifier (sequence-meets s (via (chain₂ _ _ ∙ ap (λ o. and_then o (run t G.parts)) (bytes-class 45 43 s)) (and-within (inside (matched-meets s _)) λ c r p e.
      rw e (inside (parts-meets r))))) λ is r p e q. present q

  -- `qualifier?`
  pub qualifier-gets : (s : List ℕ) → Gets IsQualifier (read_qualifier s) (optionally (run t G.qualifier s))
  unfolding read_qualifier
  qualifier-gets s = optional-gets [] (qualifier-meets s) absent
