-- The normal text call: a law for each way out, for the answer and for the lent bytes.
-- Assumes nothing.
use Prim.Native.Nat.{ℕ, ◌<◌, ◌≤◌}
use mathlib.Core.Bool.{Bool, true, false}
use mathlib.Core.Path.{◌≡◌, refl, sym, ap, ◌∙◌}
use mathlib.Core.List.{List}
use native.Mathlib.Omega.{arith}
use borrow.Author.Tests.{leb-true, leb-false}
use lib.Dec.{leb}
use lib.ListN.{length}
use Rattle.rules.specs.Expansion as E
use Rattle.rules.specs.Expansion.{Compat}
use Rattle.rules.specs.NormalText.{spell}
use Rattle.rules.specs.Answers.{Answer, accepted, refused, reading, reading_outcome, normal_text, normal_text_call, normal_text_outcome, written, bytes_after}
use Rattle.rules.proofs.Accepted.{reading-number}
use Rattle.rules.proofs.NormalTextCall.{normal_text-accepted, normal-refused, normal-7, normal-accepts}
use Rattle.passes.specs.Views.{Accepts}
use Rattle.std.specs.Prelude.{Ok, Err}
use Rattle.refusals.specs.Views.{number_of}
use Rattle.refusals.specs.declared.Refusal.{Refusal}
use Rattle.refusals.specs.declared.Refusal.TheVariants as Refusals
use Rattle.rangeset.specs.Views.{outcome_of}
use Rattle.rangeset.proofs.Outcomes.{refusal-number, counted-reading, refused-reading}
use Rattle.rangeset.specs.declared.RangeSet.{RangeSet}
use Rattle.rangeset.specs.Sets.{IsSetOf}
use Rattle.range.specs.Views.{compat_of}
use Rattle.range.specs.declared.Compat as Compats
use Rattle.std.specs.Borrow.{Bor}
use Rattle.normal_text.specs.Views.{length_of}

module _ (a : Answer (List ℕ)) (r : Refusal) (e : a ≡ refused (number_of r)) where
  refused-result : length_of (Err r) ≡ normal_text_outcome a
  unfolding normal_text_outcome
  refused-result = rw e refl

  refused-bytes : (out : List ℕ) → out ≡ bytes_after a out
  unfolding bytes_after written
  refused-bytes out = rw e refl

-- ---- normal_text_len

module _ (m : Compat) (s : List ℕ) (lent : ℕ) (a : Accepts m s) (n : ℕ) (e : n ≡ (normal_text_outcome (normal_text m s)).length) where
  is-length : n ≡ length (spell a.reads)
  unfolding normal_text_outcome
  is-length = e ∙ ap (λ w. (normal_text_outcome w).length) (normal_text-accepted m s a.reads a.is)

  pub fit-short : lent < n → length_of (Err Refusals.BytesShort) ≡ normal_text_outcome (normal_text_call m s lent)
  fit-short h =
      refused-result (normal_text_call m s lent) Refusals.BytesShort (normal-7 m s lent a.reads a.is (omega (arith, is-length)))

  pub fit-whole : n ≤ lent → length_of (Ok n) ≡ normal_text_outcome (normal_text_call m s lent)
  unfolding normal_text_outcome
  fit-whole h =
      ap (λ k. length_of (Ok k)) is-length
      ∙ ap normal_text_outcome (sym (normal-accepts m s lent a.reads a.is (omega (arith, is-length))))

set_accepts : (set : RangeSet) → Accepts (compat_of set.compat) set.text.now
set_accepts set = let h = counted-reading (compat_of set.compat) set.text.now set.counts set.counted in record { reads = h.reads; is = h.is }

-- the call on a text whose reading is refused, or is this set
module _ (c : Compats.Compat) (s : Bor (List ℕ)) (lent : ℕ) where
  pub fit_refused : (y : Refusal) → outcome_of (Err y) ≡ reading_outcome (reading (compat_of c) s.now) → length_of (Err y) ≡ normal_text_outcome (normal_text_call (compat_of c) s.now lent)
  fit_refused y e =
      refused-result (normal_text_call (compat_of c) s.now lent) y (normal-refused (compat_of c) s.now lent (number_of y) (refused-reading (compat_of c) s.now y e))

  module _ (set : RangeSet) (i : IsSetOf s c set) (n : ℕ) (e : n ≡ (normal_text_outcome (normal_text (compat_of set.compat) set.text.now)).length) where
    accepts : Accepts (compat_of c) s.now
    accepts = rw (i.0, i.1) at (set_accepts set)

    sized : n ≡ (normal_text_outcome (normal_text (compat_of c) s.now)).length
    sized = rw (i.0, i.1) at e

    pub fit_short : lent < n → length_of (Err Refusals.BytesShort) ≡ normal_text_outcome (normal_text_call (compat_of c) s.now lent)
    fit_short h = fit-short (compat_of c) s.now lent accepts n sized h

    pub fit_whole : n ≤ lent → length_of (Ok n) ≡ normal_text_outcome (normal_text_call (compat_of c) s.now lent)
    fit_whole h = fit-whole (compat_of c) s.now lent accepts n sized h

pub ruleset fits = (fit_refused, fit_short, fit_whole)

-- ---- normal_text

-- what the call's answer says
pub record Writes (m : Compat) (s : List ℕ) (lent n : ℕ) : Type 0 where
  pub reads : E.Reading
  pub is : reading m s ≡ accepted reads
  pub call : normal_text_call m s lent ≡ accepted (spell reads)
  pub size : n ≡ length (spell reads)
  pub room : length (spell reads) ≤ lent

pub written-call : (m : Compat) (s : List ℕ) (lent n : ℕ) → length_of (Ok n) ≡ normal_text_outcome (normal_text_call m s lent) → Writes m s lent n
unfolding normal_text_outcome
written-call m s lent n e = go (reading m s) refl
  where
    zero-apart : (k : ℕ) → normal_text_call m s lent ≡ refused k → 0 ≡ k
    zero-apart k q = ap (λ x. x.refusal) (e ∙ ap normal_text_outcome q)

    fitting : (rs : E.Reading) → reading m s ≡ accepted rs → (b : Bool) → leb (length (spell rs)) lent ≡ b → Writes m s lent n
    fitting rs q true h =
        let room = leb-true (length (spell rs)) lent h in
        let c = normal-accepts m s lent rs q room in
        record { reads = rs; is = q; call = c; size = ap (λ x. x.length) (e ∙ ap normal_text_outcome c); room = room }
    fitting rs q false h = let z = zero-apart 7 (normal-7 m s lent rs q (leb-false (length (spell rs)) lent h)) in absurd (omega arith)

    go : (a : Answer E.Reading) → reading m s ≡ a → Writes m s lent n
    go (accepted rs) q = fitting rs q (leb (length (spell rs)) lent) refl
    go (refused k) q = absurd (reading-number m s k q (sym (zero-apart k (normal-refused m s lent k q))))

pub refused-call : (m : Compat) (s : List ℕ) (lent : ℕ) (y : Refusal) → length_of (Err y) ≡ normal_text_outcome (normal_text_call m s lent)
    → normal_text_call m s lent ≡ refused (number_of y)
unfolding normal_text_outcome
refused-call m s lent y e = go (normal_text_call m s lent) refl
  where
    go : (a : Answer (List ℕ)) → normal_text_call m s lent ≡ a → normal_text_call m s lent ≡ refused (number_of y)
    go (accepted w) q = absurd (refusal-number y (ap (λ x. x.refusal) (e ∙ ap normal_text_outcome q)))
    go (refused k) q = q ∙ ap refused (sym (ap (λ x. x.refusal) (e ∙ ap normal_text_outcome q)))

module _ (m : Compat) (s out : List ℕ) where
  pub call-refused : (y : Refusal) → length_of (Err y) ≡ normal_text_outcome (normal_text_call m s (length out)) → out ≡ bytes_after (normal_text_call m s (length out)) out
  call-refused y e = refused-bytes (normal_text_call m s (length out)) y (refused-call m s (length out) y e) out

  module _ (n : ℕ) (e : length_of (Ok n) ≡ normal_text_outcome (normal_text_call m s (length out))) where
    writes : Writes m s (length out) n
    writes = written-call m s (length out) n e

    pub call-accepts : Accepts m s
    call-accepts = record { reads = writes.reads; is = writes.is }

    pub call-room : (normal_text_outcome (normal_text m s)).length ≤ length out
    unfolding normal_text_outcome
    call-room = rw (normal_text-accepted m s writes.reads writes.is) writes.room

    pub call-bytes : (x : List ℕ) → x ≡ bytes_after (normal_text m s) out → x ≡ bytes_after (normal_text_call m s (length out)) out
    call-bytes x p = p ∙ ap (λ w. bytes_after w out) (normal_text-accepted m s writes.reads writes.is ∙ sym writes.call)

-- of the set that the text is
module _ (c : Compats.Compat) (s : Bor (List ℕ)) (set : RangeSet) (i : IsSetOf s c set) (out : List ℕ) (n : ℕ)
    (e : length_of (Ok n) ≡ normal_text_outcome (normal_text_call (compat_of c) s.now (length out))) where
  pub set_room : (normal_text_outcome (normal_text (compat_of set.compat) set.text.now)).length ≤ length out
  set_room = rw (i.0, i.1) (call-room (compat_of c) s.now out n e)

  pub set_bytes : (x : List ℕ) → x ≡ bytes_after (normal_text (compat_of set.compat) set.text.now) out → x ≡ bytes_after (normal_text_call (compat_of c) s.now (length out)) out
  set_bytes x p = call-bytes (compat_of c) s.now out n e x (rw (i.0, i.1) at p)

pub ruleset calls = (call-refused, set_room, set_bytes)
