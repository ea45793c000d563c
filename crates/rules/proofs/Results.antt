-- Facts about what a reader answers, if it answers: carried along `then`, `choose` and `many`.
-- Assumes nothing.
use Prim.Native.Nat.{ℕ}
use mathlib.Core.List.{List}
use Rattle.rules.specs.Parse.{Result, fail, ok, ◌then◌, choose}

-- the answer, if there is one, has the property
pub data Gives {A : Type 0} (P : A → List ℕ → Type 0) : Result A → Type 0 where
  nothing : Gives P fail
  gives : {a : A} {r : List ℕ} → P a r → Gives P (ok a r)

pub given : {A : Type 0} {P : A → List ℕ → Type 0} {a : A} {r : List ℕ} → Gives P (ok a r) → P a r
given (gives h) = h

pub gives-map : {A : Type 0} {P Q : A → List ℕ → Type 0} {g : Result A} → Gives P g → ((a : A) (r : List ℕ) → P a r → Q a r) → Gives Q g
gives-map nothing k = nothing
gives-map (gives {a} {r} h) k = gives (k a r h)

pub gives_then : {A B : Type 0} {P : A → List ℕ → Type 0} {Q : B → List ℕ → Type 0} {g : Result A} {f : A → List ℕ → Result B}
    → Gives P g → ((a : A) (r : List ℕ) → P a r → Gives Q (f a r)) → Gives Q (g then f)
unfolding ◌then◌
gives_then nothing k = nothing
gives_then (gives {a} {r} h) k = k a r h

pub gives-choose : {A B : Type 0} {P : A → List ℕ → Type 0} {Q : B → List ℕ → Type 0} {g : Result A} {f : A → List ℕ → Result B} {h : Result B}
    → Gives P g → ((a : A) (r : List ℕ) → P a r → Gives Q (f a r)) → Gives Q h → Gives Q (choose g f h)
unfolding choose
gives-choose nothing k q = q
gives-choose (gives {a} {r} h) k q = k a r h
