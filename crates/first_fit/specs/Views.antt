-- What first fit hands back.
-- Assumes nothing.
use Rattle.std.specs.Prelude as Std
use Rattle.std.specs.Prelude.{ℕ, Result, Ok, Err}
use Rattle.std.proofs.Math.Option.{Option}
use Rattle.rules.specs.Answers.{Answer, accepted, refused}
use Rattle.refusals.specs.Views.{number_of}
use Rattle.refusals.specs.declared.Refusal.{Refusal}
use Rattle.entries.specs.Views.{option_of}

-- 02's number, or the part code if an entry fits
abbrev pub fit_of : Result (Std.Option ℕ) Refusal → Answer (Option ℕ)
fit_of (Ok o) = accepted (option_of o)
fit_of (Err r) = refused (number_of r)
