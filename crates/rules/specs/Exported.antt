-- The calls as Rust and C make them: the mode and the answer are numbers.
-- Assumes nothing.
use Rattle.std.specs.Prelude.{ℕ, Bool, true, false, List, [], ◌∷◌, length}
use Rattle.rules.specs.Expansion.{Compat, mode_from}
use Rattle.rules.specs.Answers.{Answer, accepted, refused, map_answer, or_refused, Outcome, and_then}
use Rattle.rules.specs.Equality.{Reread, text_refused, Refuses, neither, the_text, its_normal_text, RereadOutcome}

-- The mode with this number. Another number is no mode, and is refused before the text is looked at, under a number that no refusal of 01 and 02
-- has.
abbrev pub mode_of : ℕ → Answer Compat
mode_of k = or_refused 255 (mode_from k)

-- a call under the mode with this number
unfoldable pub under : {A : Type 0} → ℕ → (Compat → Answer A) → Answer A
unfolding mode_from
under k f = and_then (mode_of k) f

-- lent words after a call under the mode with this number, which f says for each mode; where it is none, they stay as they were
abbrev pub after_mode : Answer Compat → (Compat → List ℕ) → List ℕ → List ℕ
after_mode (accepted m) f old = f m
after_mode (refused n) f old = old

unfoldable pub words_under : ℕ → (Compat → List ℕ) → List ℕ → List ℕ
words_under k f old = after_mode (mode_of k) f old

-- the modes with these numbers, and a call under both
abbrev pub modes_of : ℕ → ℕ → Answer (Compat × Compat)
modes_of k l = and_then (mode_of k) (λ m. map_answer (λ m'. (m, m')) (mode_of l))

unfoldable pub under_both : {A : Type 0} → ℕ → ℕ → (Compat → Compat → Answer A) → Answer A
under_both k l f = and_then (modes_of k l) (λ ms. f ms.0 ms.1)

-- A normal text read again under the modes with these numbers. A number that is no mode is refused for the text.
abbrev pub reread_with : Answer (Compat × Compat) → (Compat → Compat → Reread) → Reread
reread_with (accepted ms) f = f ms.0 ms.1
reread_with (refused n) f = text_refused n

unfoldable pub reread_under : ℕ → ℕ → (Compat → Compat → Reread) → Reread
reread_under k l f = reread_with (modes_of k l) f

-- its number and counts, and 1 where it is the normal text that is refused, else 0
pub record RereadNumbers : Type 0 where
  pub outcome : Outcome
  pub normal : ℕ

abbrev pub normal_of : Refuses → ℕ
normal_of neither = 0
normal_of the_text = 0
normal_of its_normal_text = 1

abbrev pub reread_numbers : RereadOutcome → RereadNumbers
reread_numbers o = record { outcome = o.outcome; normal = normal_of o.refuses }

-- "Yes or no": the number of the refusal, and 1 for yes and 0 for no; a refusal has neither
pub record Verdict : Type 0 where
  pub refusal : ℕ
  pub yes : ℕ

unfoldable pub verdict : Answer Bool → Verdict
verdict (accepted true) = record { refusal = 0; yes = 1 }
verdict (accepted false) = record { refusal = 0; yes = 0 }
verdict (refused n) = record { refusal = n; yes = 0 }

-- "The identifier's bytes are handed back as that part of the caller's text": as where the part begins and how many bytes it has; the empty part
-- begins at 0
pub record Span : Type 0 where
  pub from : ℕ
  pub size : ℕ

abbrev pub part_at : ℕ → List ℕ → Span
part_at place [] = record { from = 0; size = 0 }
part_at place (c ∷ w) = record { from = place; size = length (c ∷ w) }
