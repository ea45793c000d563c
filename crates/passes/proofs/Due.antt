-- A loop that holds the step with which it goes on: from where on that is the step, and what holds there. The first one is the text's first step,
-- and behind each the loop takes the one that follows; at the text's end there is none.
-- Assumes nothing.
use Rattle.std.proofs.Common.{ℕ, suc, ◌<◌, ◌≡◌, true, List, Option, Some, None, refl, ◌∙◌, arith}
use Rattle.rules.specs.Expansion.{Compat}
use Rattle.rules.specs.Walk as W
use Rattle.rules.specs.Walk.{goes_on, range}
use Rattle.walk.specs.Views.{Stepped, step_at}
use Rattle.passes.specs.Views.{first_step}
use Rattle.passes.proofs.Turn.{ahead, step_goes}
use Rattle.passes.proofs.Passing.{Passing, passes}

-- x is the step from n on, and P holds there
pub record Due (m : Compat) (P : W.Stage × List ℕ → Type 0) (x : Stepped) : Type 0 where
  pub from : W.Stage × List ℕ
  pub holds : P from
  pub goes : goes_on from.0 ≡ true
  pub is : Some x ≡ step_at m from.0 from.1

pub due_first : (m : Compat) (s : List ℕ) (P : W.Stage × List ℕ → Type 0) (x : Stepped) → Some x ≡ first_step m s → P (range, s) → Due m P x
due_first m s P x e h = record { from = (range, s); holds = h; goes = refl; is = e }

-- o is the step from n on, or nothing where there is none, and P holds there
pub record Awaited (m : Compat) (P : W.Stage × List ℕ → Type 0) (o : Option Stepped) : Type 0 where
  pub from : W.Stage × List ℕ
  pub holds : P from
  pub is : o ≡ step_at m from.0 from.1

-- the step that follows
pub awaited : (m : Compat) (P : W.Stage × List ℕ → Type 0) (n : W.Stage × List ℕ) (o : Option Stepped) → P n → o ≡ step_at m n.0 n.1 → Awaited m P o
awaited m P n o h e = record { from = n; holds = h; is = e }

pub awaited_due : (m : Compat) (P : W.Stage × List ℕ → Type 0) (o : Option Stepped) (x : Stepped) → Awaited m P o → Some x ≡ o → Due m P x
awaited_due m P o x a e =
    let i : Some x ≡ step_at m a.from.0 a.from.1 = e ∙ a.is in
    record { from = a.from; holds = a.holds; goes = step_goes m a.from.0 a.from.1 x i; is = i }

-- how much is ahead of such a loop: less behind each step
abbrev pub ahead_in : Option Stepped → ℕ
ahead_in None = 0
ahead_in (Some x) = suc (ahead x.next)

pub following_fewer : {m : Compat} {n : W.Stage × List ℕ} → Passing m n → (o : Option Stepped) → o ≡ step_at m n.0 n.1 → ahead_in o < suc (ahead n)
following_fewer g None e = omega arith
following_fewer {m} {n} g (Some x) e = let h = passes g (step_goes m n.0 n.1 x e) x e in let f = h.fewer in omega arith
