-- The normal text of an accepted text reads as the text did, and two accepted texts have the same normal text exactly where their readings
-- are equal (requirement 3).
-- Assumes nothing.
use mathlib.Core.Path.{◌≡◌, refl, sym, ap, ◌∙◌}
use mathlib.Core.Logic.{◌↔◌}
use Prim.Native.Nat.{ℕ, ◌≤◌}
use mathlib.Core.Bool.{true}
use mathlib.Core.List.{List, [], ◌∷◌, ◌++◌, map}
use lib.ListN.{length}
use Rattle.rules.specs.Lists.{concat, All, all[], all∷}
use Rattle.rules.specs.Bytes.{bytes}
use Rattle.rules.specs.Syntax.{Identifier, number, text, Range}
use Rattle.rules.specs.Grammar as G
use Rattle.rules.specs.Grammar.{ReadsText}
use Rattle.rules.specs.Expansion.{Compat, Comparator, comparator, Reading, expand}
use Rattle.rules.specs.Rows.{identifiers_in, all_identifiers, placeless, placeless_comparator, placeless_reading}
use Rattle.rules.specs.NormalText.{spell_identifier, tailed, joined, spell_identifiers, spell_comparator, spell_range, spell}
use Rattle.rules.specs.Answers.{accepted, longest, comparator_fits, reading_fits, reading, normal_text}
use Rattle.rules.proofs.Complete.{unambiguous}
use Rattle.rules.proofs.Accepted.{Accepted, reads, accepted-reading, reading-accepted}
use Rattle.rules.proofs.All.{all-weaken, append-all, concat-map-all}
use Rattle.rules.proofs.Kept.{identifiers_of_range, expand-kept}
use Rattle.rules.proofs.ReadIn.{text-holds}
use Rattle.rules.proofs.Nonempty.{Nonempty, nonempty, expand-nonempty}
use Rattle.rules.proofs.Pairwise.{some-all, each_map}
use Rattle.rules.proofs.NormalTextCall.{normal_text-accepted, normal-reading}
use Rattle.rules.proofs.Spelling.{KeepsIdentifier, identifier-keeps, KeepsComparator, KeepsRange, Keeps, spelling}

-- ---- what is read of a text keeps its spelling

text-keeps : {s : List ℕ} {bs : List Range} → ReadsText s bs → All KeepsIdentifier (concat (map identifiers_of_range bs))
text-keeps d = all-weaken (λ i h. identifier-keeps h.read) (text-holds d)

-- ---- so does an accepted reading, which has a range at least, and each of its ranges a comparator at least

pub some-range : (m : Compat) {s : List ℕ} {bs : List Range} → ReadsText s bs → Nonempty (expand m bs)
unfolding expand
some-range m (G.whole k d l e) = nonempty

ranges-keep : {rs : Reading} → All Nonempty rs → All KeepsComparator (concat rs) → All KeepsRange rs
ranges-keep all[] h = all[]
ranges-keep (all∷ {a = cs} n k) h = let (x, y) = append-all cs h in all∷ (some-all n x) (ranges-keep k y)

pub accepted-keeps : {m : Compat} {t : List ℕ} {rs : Reading} → Accepted m t rs → Keeps rs
unfolding all_identifiers
accepted-keeps {m} (reads {rs = bs} l d f g) =
    some-all (some-range m d) (ranges-keep (expand-nonempty m bs) (concat-map-all identifiers_in _ (expand-kept KeepsIdentifier m bs (text-keeps d))))

-- ---- places are no part of the spelling, nor of the numbers

module _ {A : Type 0} (f : A → List ℕ) (g : A → A) (sep : List ℕ) (h : (a : A) → f (g a) ≡ f a) where
  tailed-map : (l : List A) → tailed f sep (map g l) ≡ tailed f sep l
  unfolding tailed
  tailed-map [] = refl
  tailed-map (a ∷ l) = rw (h a, tailed-map l)

  joined-map : (l : List A) → joined f sep (map g l) ≡ joined f sep l
  unfolding joined
  joined-map [] = refl
  joined-map (a ∷ l) = rw (h a, tailed-map l)

identifier-placeless : (i : Identifier) → spell_identifier (placeless i) ≡ spell_identifier i
unfolding spell_identifier placeless
identifier-placeless (number v) = refl
identifier-placeless (text left w) = refl

identifiers-placeless : (is : List Identifier) → spell_identifiers (map placeless is) ≡ spell_identifiers is
unfolding spell_identifiers
identifiers-placeless [] = refl
identifiers-placeless (i ∷ is) = ap (λ w. bytes "-" ++ w) (joined-map spell_identifier placeless (bytes ".") identifier-placeless (i ∷ is))

comparator-placeless : (c : Comparator) → spell_comparator (placeless_comparator c) ≡ spell_comparator c
unfolding spell_comparator placeless_comparator
comparator-placeless (comparator o a b c is) = rw (identifiers-placeless is)

range-placeless : (cs : List Comparator) → spell_range (map placeless_comparator cs) ≡ spell_range cs
unfolding spell_range
range-placeless = joined-map spell_comparator placeless_comparator (0x20 ∷ []) comparator-placeless

pub spell-placeless : (rs : Reading) → spell (placeless_reading rs) ≡ spell rs
unfolding spell placeless_reading
spell-placeless = joined-map spell_range (map placeless_comparator) (bytes " || ") range-placeless

comparator_fits-placeless : (c : Comparator) → comparator_fits (placeless_comparator c) ≡ comparator_fits c
unfolding comparator_fits placeless_comparator
comparator_fits-placeless (comparator o a b c is) = refl

reading_fits-placeless : (rs : Reading) → reading_fits (placeless_reading rs) ≡ reading_fits rs
unfolding reading_fits placeless_reading
reading_fits-placeless = each_map _ _ _ (each_map _ _ _ comparator_fits-placeless)

-- ---- the laws

accepted-fits : {m : Compat} {t : List ℕ} {rs : Reading} → Accepted m t rs → reading_fits rs ≡ true
accepted-fits (reads l d f g) = g

-- spelling is injective, but for places
pub spell-injective : (m : Compat) {rs ss : Reading} → Keeps rs → Keeps ss → spell rs ≡ spell ss → placeless_reading rs ≡ placeless_reading ss
spell-injective m {rs} {ss} h k e =
    let x = spelling rs h in
    let y = spelling ss k in
    sym (x.2 m) ∙ ap (λ bs. placeless_reading (expand m bs)) (unambiguous (rw e at x.1) y.1) ∙ y.2 m

-- two accepted texts, each under a mode, have equal readings exactly where they have the same normal text
pub same-reading : (m m' : Compat) (t t' : List ℕ) (rs rs' : Reading) → reading m t ≡ accepted rs → reading m' t' ≡ accepted rs'
    → (placeless_reading rs ≡ placeless_reading rs') ↔ (spell rs ≡ spell rs')
same-reading m m' t t' rs rs' h k = (
  λ e. sym (spell-placeless rs) ∙ ap spell e ∙ spell-placeless rs',
  spell-injective m (accepted-keeps (reading-accepted m t rs h)) (accepted-keeps (reading-accepted m' t' rs' k)),
)

-- the normal text, if it is no longer than 65,535 bytes, is accepted under every mode, with a reading equal to that of the text
pub round_trip : (m m' : Compat) (t : List ℕ) (rs : Reading) → reading m t ≡ accepted rs → length (spell rs) ≤ longest
    → (ss : Reading) × (reading m' (spell rs) ≡ accepted ss) × (placeless_reading ss ≡ placeless_reading rs)
round_trip m m' t rs e l =
    let a = reading-accepted m t rs e in
    let x = spelling rs (accepted-keeps a) in
    let ss = expand m' x.0 in
    let same = x.2 m' in
    let fit : reading_fits ss ≡ true = sym (reading_fits-placeless ss) ∙ ap reading_fits same ∙ reading_fits-placeless rs ∙ accepted-fits a in
    (ss, accepted-reading (reads l x.1 (x.3 ∙ accepted-fits a) fit), same)

-- the normal text is its own normal text
pub normal-normal : (m m' : Compat) (t w : List ℕ) → normal_text m t ≡ accepted w → length w ≤ longest → normal_text m' w ≡ accepted w
normal-normal m m' t w e l =
    let y = normal-reading m t w e in
    let rs = y.0 in
    let x = round_trip m m' t rs y.1 (rw y.2 at l) in
    let same : spell x.0 ≡ spell rs = sym (spell-placeless x.0) ∙ ap spell x.2 ∙ spell-placeless rs in
    rw y.2 (normal_text-accepted m' (spell rs) x.0 x.1 ∙ ap accepted same)
