-- The loop's invariant: no p before k passes.
use Rattle.std.proofs.Common.{◌≡◌, ◌<◌, ℕ, Bool, false}
use Rattle.entries.proofs.entries.Entries.first.Given as goal

abbrev pub invariant-loop-k : goal.invariant-loop-k
invariant-loop-k g l =
    (p : ℕ → Bool) → ((k : ℕ) (b : Bool) → k < l.self.count → goal.F-post g l.test k b → b ≡ p k) → (j : ℕ) → j < l.k → p j ≡ false
