-- THE TABLES: the transcription answers what the crate and what pest answered, at every row.
-- Assumes nothing.
use mathlib.Core.Path.{◌≡◌, refl}
use mathlib.Core.List.{map}
use Rattle.reference_tables.specs.Rows.{returned, answered, ran, transcribed}
use Rattle.reference_tables.specs.Texts.{texts₁, texts₂, texts₃, texts₄, texts₅}
use Rattle.reference_tables.specs.Calls.{calls}

pub texts₁-agree : map transcribed texts₁ ≡ map returned texts₁
unfolding transcribed
texts₁-agree = refl

pub texts₂-agree : map transcribed texts₂ ≡ map returned texts₂
unfolding transcribed
texts₂-agree = refl

pub texts₃-agree : map transcribed texts₃ ≡ map returned texts₃
unfolding transcribed
texts₃-agree = refl

pub texts₄-agree : map transcribed texts₄ ≡ map returned texts₄
unfolding transcribed
texts₄-agree = refl

pub texts₅-agree : map transcribed texts₅ ≡ map returned texts₅
unfolding transcribed
texts₅-agree = refl

pub calls-agree : map ran calls ≡ map answered calls
unfolding ran
calls-agree = refl
