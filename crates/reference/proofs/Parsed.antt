-- `RangeSet::parse` answers what 01 answers: the proofs of the theorems (conformance/proofs/Theorems.antt).
-- Assumes nothing.
use mathlib.Core.Logic.{◌↔◌, ◌⊎◌, inl, inr}
use native.Mathlib.Omega.{arith}
use mathlib.Core.Path.{◌≡◌, refl, sym, ap, ◌∙◌}
use Prim.Native.Nat.{ℕ, ◌≤◌}
use mathlib.Core.Bool.{Bool, true, false}
use mathlib.Core.List.{List}
use lib.Dec.{eqb}
use lib.ListN.{length}
use borrow.Author.Tests.{eqb-true}
use Rattle.rules.specs.Lists.{each}
use Rattle.rules.specs.Bytes.{pick}
use Rattle.rules.specs.Syntax.{Range}
use Rattle.rules.specs.Parse as P
use Rattle.rules.specs.Parse.{Result, read_text}
use Rattle.rules.specs.Expansion.{Reading}
use Rattle.rules.specs.Rows.{placeless_reading}
use Rattle.rules.specs.Answers.{Answer, accepted, refused, longest, reading}
use Rattle.rules.proofs.Sound.{sound}
use Rattle.rules.proofs.Complete.{complete}
use Rattle.rules.proofs.Accepted.{Underivable, Decided, long, underivable, large, raised, accepts, decided}
use Rattle.reference.specs.Pest.{ParseResult}
use Rattle.reference.specs.Rust.{OrPanic, gives, panics}
use Rattle.reference.specs.Range.{Compat}
use Rattle.reference.specs.RangeSet.{Returned, Ok, Err, panicked, endless, returned, from-pair-iterator, parsed, parse}
use Rattle.reference.specs.Seen.{mode, seen}
use Rattle.reference.specs.Utf8.{utf8}
use Rattle.reference.proofs.Meets.{Meets}
use Rattle.reference.proofs.Near.{text-as}
use Rattle.reference.proofs.Sets.{set_said, IsSet, is_set, set-meets}
use Rattle.reference.proofs.Ascii.{ascii, text-ascii, utf8-ascii, utf8-other}

-- ---- what the crate answers where 01's reader answers so

unfoldable answer_to : Compat → Result (List Range) → Returned
answer_to m P.fail = Err
answer_to m (P.ok rs r) = returned (set_said m rs)

met : (m : Compat) {t : List ℕ} {g : Result (List Range)} {o : ParseResult} → Meets IsSet t g o → parsed m o ≡ answer_to m g
unfolding parsed from-pair-iterator answer_to
met m (Meets.reads (is_set h)) = ap returned (h m)
met m Meets.misses = refl

parse-text : (m : Compat) (t : List ℕ) → parse m t ≡ answer_to m (read_text t)
unfolding parse
parse-text m t = met m (set-meets t) ∙ ap (answer_to m) (sym (text-as t))

-- ---- it is 01's answer

unread : (t : List ℕ) → Underivable t → read_text t ≡ P.fail
unread t h = go (read_text t) refl
  where
    go : (g : Result (List Range)) → read_text t ≡ g → read_text t ≡ P.fail
    go P.fail e = e
    go (P.ok rs r) e = absurd (h rs (sound t rs r e))

pub parse-reading : (m : Compat) (t : List ℕ) → length t ≤ longest → parse m t ≡ seen (reading (mode m) t)
unfolding answer_to set_said returned seen
parse-reading m t h = parse-text m t ∙ go (decided (mode m) t)
  where
    go : {a : Answer Reading} → Decided (mode m) t a → answer_to m (read_text t) ≡ seen a
    go (long l) = absurd (omega arith)
    go (underivable l k) = ap (answer_to m) (unread t k)
    go (large l k e) = rw (complete k, e) refl
    go (raised l k e f) = rw (complete k, e, f) refl
    go (accepts l k e f) = rw (complete k, e, f) refl

-- ---- each of its answers

seen-ok : (a : Answer Reading) (qs : Reading) → seen a ≡ Ok qs → (rs : Reading) × (a ≡ accepted rs) × (placeless_reading rs ≡ qs)
unfolding seen
seen-ok (accepted rs) qs e = (rs, refl, cc)
seen-ok (refused n) qs e = absurd (no (eqb n 2) e)
  where
    no : (b : Bool) → pick b Err panicked ≡ Ok qs → ⊥
    no true e = let z : ◌≡◌ {A = ℕ} 0 1 = cc in omega arith
    no false e = let z : ◌≡◌ {A = ℕ} 0 1 = cc in omega arith

seen-err : (a : Answer Reading) → seen a ≡ Err → a ≡ refused 2
unfolding seen
seen-err (accepted rs) e = let z : ◌≡◌ {A = ℕ} 0 1 = cc in absurd (omega arith)
seen-err (refused n) e = go (eqb n 2) refl e
  where
    go : (b : Bool) → eqb n 2 ≡ b → pick b Err panicked ≡ Err → ◌≡◌ {A = Answer Reading} (refused n) (refused 2)
    go true i e = ap refused (eqb-true n 2 i)
    go false i e = let z : ◌≡◌ {A = ℕ} 0 1 = cc in absurd (omega arith)

seen-panicked : (m : Compat) (t : List ℕ) → length t ≤ longest → {a : Answer Reading} → Decided (mode m) t a → seen a ≡ panicked → (a ≡ refused 3) ⊎ (a ≡ refused 4)
unfolding seen
seen-panicked m t h (long l) e = absurd (omega arith)
seen-panicked m t h (underivable l k) e = let z : ◌≡◌ {A = ℕ} 0 1 = cc in absurd (omega arith)
seen-panicked m t h (large l k i) e = inl refl
seen-panicked m t h (raised l k i j) e = inr refl
seen-panicked m t h (accepts l k i j) e = let z : ◌≡◌ {A = ℕ} 0 1 = cc in absurd (omega arith)

module _ (m : Compat) (t : List ℕ) (h : length t ≤ longest) where
  pub ok-accepted : (qs : Reading) → (parse m t ≡ Ok qs) ↔ ((rs : Reading) × (reading (mode m) t ≡ accepted rs) × (placeless_reading rs ≡ qs))
  unfolding seen
  ok-accepted qs = (λ e. seen-ok (reading (mode m) t) qs (sym (parse-reading m t h) ∙ e), λ x. parse-reading m t h ∙ ap seen x.1 ∙ ap Ok x.2)

  pub err-refused : (parse m t ≡ Err) ↔ (reading (mode m) t ≡ refused 2)
  unfolding seen
  err-refused = (λ e. seen-err (reading (mode m) t) (sym (parse-reading m t h) ∙ e), λ e. parse-reading m t h ∙ ap seen e)

  pub panicked-refused : (parse m t ≡ panicked) ↔ ((reading (mode m) t ≡ refused 3) ⊎ (reading (mode m) t ≡ refused 4))
  unfolding seen
  panicked-refused = (
    λ e. seen-panicked m t h (decided (mode m) t) (sym (parse-reading m t h) ∙ e),
    λ x. elim x [ inl y ↦ parse-reading m t h ∙ ap seen y | inr y ↦ parse-reading m t h ∙ ap seen y ],
  )

-- ---- texts of any length

returned-ends : (x : OrPanic Reading) → returned x ≡ endless → ⊥
unfolding returned
returned-ends (gives rs) e = let z : ◌≡◌ {A = ℕ} 0 1 = cc in omega arith
returned-ends panics e = let z : ◌≡◌ {A = ℕ} 0 1 = cc in omega arith

pub parse-ends : (m : Compat) (t : List ℕ) → parse m t ≡ endless → ⊥
unfolding answer_to
parse-ends m t e = go (read_text t) (sym (parse-text m t) ∙ e)
  where
    go : (g : Result (List Range)) → answer_to m g ≡ endless → ⊥
    go P.fail e = let z : ◌≡◌ {A = ℕ} 0 1 = cc in omega arith
    go (P.ok rs r) e = returned-ends (set_said m rs) e

returned-no-err : (x : OrPanic Reading) → returned x ≡ Err → ⊥
unfolding returned
returned-no-err (gives rs) e = let z : ◌≡◌ {A = ℕ} 0 1 = cc in omega arith
returned-no-err panics e = let z : ◌≡◌ {A = ℕ} 0 1 = cc in omega arith

pub err-grammar : (m : Compat) (t : List ℕ) → (parse m t ≡ Err) ↔ Underivable t
unfolding answer_to
err-grammar m t =
    (λ e rs k. returned-no-err (set_said m rs) (sym (ap (answer_to m) (complete k)) ∙ sym (parse-text m t) ∙ e), λ h. parse-text m t ∙ ap (answer_to m) (unread t h))

-- ---- texts of characters

other-err : (m : Compat) (t : List ℕ) → each ascii t ≡ false → parse m t ≡ Err
unfolding answer_to
other-err m t h = parse-text m t ∙ go (read_text t) refl
  where
    go : (g : Result (List Range)) → read_text t ≡ g → answer_to m g ≡ Err
    go P.fail e = refl
    go (P.ok rs r) e = let x : true ≡ false = sym (text-ascii (sound t rs r e)) ∙ h in cc

pub parse-str : (m : Compat) (s : List ℕ) → length (utf8 s) ≤ longest → parse m s ≡ seen (reading (mode m) (utf8 s))
parse-str m s h = go (each ascii s) refl
  where
    go : (b : Bool) → each ascii s ≡ b → parse m s ≡ seen (reading (mode m) (utf8 s))
    go true e = ap (parse m) (sym (utf8-ascii s e)) ∙ parse-reading m (utf8 s) h
    go false e = other-err m s e ∙ sym (other-err m (utf8 s) (utf8-other s e)) ∙ parse-reading m (utf8 s) h
