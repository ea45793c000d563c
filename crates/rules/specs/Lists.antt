-- Lists: a whole list of its parts, a test of each or of some element, and what holds of each or of some element.
-- Assumes nothing.
use Rattle.std.specs.Prelude.{Bool, true, false, ◌&&◌, ◌||◌, List, [], ◌∷◌, ◌++◌}

-- the lists, one after another
abbrev pub concat : {A : Type 0} → List (List A) → List A
concat [] = []
concat (l ∷ ls) = l ++ concat ls

-- the test passes at each element
abbrev pub each : {A : Type 0} → (A → Bool) → List A → Bool
each p [] = true
each p (a ∷ l) = p a && each p l

-- the test passes at some element
abbrev pub some_of : {A : Type 0} → (A → Bool) → List A → Bool
some_of p [] = false
some_of p (a ∷ l) = p a || some_of p l

-- each element has the property
pub data All {A : Type 0} (P : A → Type 0) : List A → Type 0 where
  all[] : All P []
  all∷ : {a : A} {l : List A} → P a → All P l → All P (a ∷ l)

-- some element has the property
pub data Some {A : Type 0} (P : A → Type 0) : List A → Type 0 where
  here : {a : A} {l : List A} → P a → Some P (a ∷ l)
  there : {a : A} {l : List A} → Some P l → Some P (a ∷ l)
