-- A normal text that was written lies within the lent bytes.
-- Assumes nothing.
use Rattle.std.proofs.Common.{ℕ, ◌≤◌, ◌≡◌, ap, ◌∙◌, List, ◌++◌, length, drop, arith, Result, Ok, Err, IfOk, length-append}
use Rattle.rules.specs.Expansion.{Compat}
use Rattle.rules.specs.NormalText.{spell}
use Rattle.rules.specs.Answers.{normal_text_call, normal_text_outcome, written, bytes_after}
use Rattle.refusals.specs.declared.Refusal.{Refusal}
use Rattle.normal_text.specs.Views.{length_of}
use Rattle.normal_text.proofs.Calls.{Writes, written-call}

pub within : (m : Compat) (s out x : List ℕ) (r : Result ℕ Refusal) → length_of r ≡ normal_text_outcome (normal_text_call m s (length out)) → x ≡ bytes_after (normal_text_call m s (length out)) out → IfOk r (λ n. n ≤ length x)
unfolding bytes_after written
within m s out x (Ok n) e p =
    let w : Writes m s (length out) n = written-call m s (length out) n e in
    let q : x ≡ spell w.reads ++ drop (length (spell w.reads)) out = p ∙ ap (λ a. bytes_after a out) w.call in
    omega (arith, w.size, ap length q, length-append (spell w.reads) (drop (length (spell w.reads)) out))
within m s out x (Err f) e p = tt
