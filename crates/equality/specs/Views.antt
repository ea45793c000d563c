-- What the code knows of a text whose normal text fits, and what it hands back of a normal text that is read again and of two that are compared.
-- Assumes nothing.
use Rattle.std.specs.Prelude.{ℕ, ◌≤◌, ◌≡◌, List, ◌++◌, codes, length, Result, Ok, Err}
use Rattle.rules.specs.Expansion as E
use Rattle.rules.specs.Expansion.{Compat}
use Rattle.rules.specs.NormalText.{spell}
use Rattle.rules.specs.Answers.{Answer, accepted, refused, Outcome, reading}
use Rattle.rules.specs.Equality.{reread_call, neither, the_text, its_normal_text, RereadOutcome, reread_outcome, Texts}
use Rattle.refusals.specs.declared.Refusal.{Refusal}
use Rattle.refusals.specs.Views.{number_of, number_text}
use Rattle.rangeset.specs.declared.Counts.{Counts}
use Rattle.rangeset.specs.Views.{outcome_of}
use Rattle.equality.specs.declared.RereadError.{RereadError}

-- The text is accepted, and its normal text fits so many bytes.
pub record Fits (m : Compat) (s : List ℕ) (lent : ℕ) : Type 0 where
  pub reads : E.Reading
  pub is : reading m s ≡ accepted reads
  pub room : length (spell reads) ≤ lent

-- ---- a normal text, read again

-- 01's counts of an accepted text
abbrev pub counts_of : Counts → Outcome
counts_of c = outcome_of (Ok c)

-- which text is refused, 01's number, and the counts
abbrev pub reread_of : Result Counts RereadError → RereadOutcome
reread_of (Ok c) = record { refuses = neither; outcome = counts_of c }
reread_of (Err (RereadError.Text y)) = record { refuses = the_text; outcome = outcome_of (Err y) }
reread_of (Err (RereadError.NormalText y)) = record { refuses = its_normal_text; outcome = outcome_of (Err y) }

-- what is printed of the error: 01's number, behind which text is refused
abbrev pub error_text : RereadError → List ℕ
error_text (RereadError.Text y) = number_text y
error_text (RereadError.NormalText y) = codes "normal text " ++ number_text y

-- The answer where the normal text is read under any mode.
pub record Decides (m : Compat) (s : List ℕ) (lent cw iw : ℕ) (o : RereadOutcome) : Type 0 where
  pub is : (m' : Compat) → o ≡ reread_outcome (reread_call m m' s lent cw iw)

-- ---- two texts, compared

-- r is the refusal of the call, if there is one
abbrev pub Checks : {A : Type 0} → Answer Texts → Result A Refusal → Type 0
Checks a (Err y) = a ≡ refused (number_of y)
Checks a (Ok u) = (x : Texts) × (a ≡ accepted x)
