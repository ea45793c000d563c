-- A text whose normal text fits: what the normal text call writes, and what the part is that is then read.
-- Assumes nothing.
use Prim.Native.Nat.{ℕ, ◌≤◌}
use mathlib.Core.Path.{◌≡◌, refl, sym, ap, ap₂, ◌∙◌}
use mathlib.Core.List.{List, ◌++◌}
use native.Mathlib.Omega.{arith}
use lib.ListN.{length, take, drop, length-append}
use lib.Seq.{take-append_seam}
use Rattle.rules.specs.Expansion.{Compat}
use Rattle.rules.specs.NormalText.{spell}
use Rattle.rules.specs.Answers.{accepted, normal_text, normal_text_call, normal_text_outcome, written, bytes_after}
use Rattle.rules.proofs.NormalTextCall.{normal_text-accepted, normal-accepts}
use Rattle.rangeset.proofs.Outcomes.{refusal-number}
use Rattle.std.specs.Prelude.{Result, Ok, Err, IsOk}
use Rattle.refusals.specs.declared.Refusal.{Refusal}
use Rattle.normal_text.specs.Views.{length_of}
use Rattle.normal_text.proofs.Calls.{written-call}
use Rattle.equality.specs.Views.{Fits}

-- ---- write

module _ (m : Compat) (s : List ℕ) (lent : ℕ) (f : Fits m s lent) where
  pub normal : normal_text m s ≡ accepted (spell f.reads)
  normal = normal_text-accepted m s f.reads f.is

  pub fitting : normal_text_call m s lent ≡ normal_text m s
  fitting = normal-accepts m s lent f.reads f.is f.room ∙ sym normal

  module _ (r : Result ℕ Refusal) (e : length_of r ≡ normal_text_outcome (normal_text_call m s lent)) where
    pub write-length : (n : ℕ) → r ≡ Ok n → n ≡ (normal_text_outcome (normal_text m s)).length
    write-length n q = ap (λ x. x.length) (ap length_of (sym q) ∙ e ∙ ap normal_text_outcome fitting)

    pub write-ok : IsOk r
    unfolding normal_text_outcome
    write-ok = go r e
      where
        go : (r : Result ℕ Refusal) → length_of r ≡ normal_text_outcome (normal_text_call m s lent) → IsOk r
        go (Ok n) e = refl
        go (Err y) e = absurd (refusal-number y (ap (λ x. x.refusal) (e ∙ ap normal_text_outcome (fitting ∙ normal))))

pub write_bytes : (m : Compat) (s out : List ℕ) → Fits m s (length out) → (out' : List ℕ) → out' ≡ bytes_after (normal_text_call m s (length out)) out
    → out' ≡ bytes_after (normal_text m s) out
write_bytes m s out f out' p = p ∙ ap (λ a. bytes_after a out) (fitting m s (length out) f)

pub ruleset writing = (write-length, write-ok, write_bytes)

-- ---- the part of the lent bytes that was written

module _ (m : Compat) (s out out' : List ℕ) (p : out' ≡ bytes_after (normal_text m s) out) (n : ℕ) (q : n ≡ (normal_text_outcome (normal_text m s)).length)
    (f : Fits m s (length out)) where
  size : n ≡ length (spell f.reads)
  unfolding normal_text_outcome
  size = q ∙ ap (λ a. (normal_text_outcome a).length) (normal m s (length out) f)

  bytes-are : out' ≡ spell f.reads ++ drop (length (spell f.reads)) out
  unfolding bytes_after written
  bytes-are = p ∙ ap (λ a. bytes_after a out) (normal m s (length out) f)

  pub part-within : n ≤ length out'
  part-within = let a = ap length bytes-are in omega (arith, size, length-append (spell f.reads) (drop (length (spell f.reads)) out))

  pub part-is : take n out' ≡ spell f.reads
  part-is = ap₂ take size bytes-are ∙ take-append_seam (spell f.reads) (drop (length (spell f.reads)) out)

  pub part_length : length (take n out') ≡ n
  part_length = ap length part-is ∙ sym size

-- the normal text that a call accepts fits
pub call_fits : (m : Compat) (s : List ℕ) (lent : ℕ) (w : List ℕ) → normal_text_call m s lent ≡ accepted w → Fits m s lent
unfolding normal_text_outcome
call_fits m s lent w e = let h = written-call m s lent (length w) (ap normal_text_outcome (sym e)) in record { reads = h.reads; is = h.is; room = h.room }
