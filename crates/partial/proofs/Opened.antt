-- What an answer unfolds to compute the rules' readers of partials on a text whose first bytes are known, or behind a reader whose answer is.
-- Assumes nothing.
use Rattle.std.specs.Prelude.{⊤}
use Rattle.rules.specs.Syntax.{up_to₁, up_to₂, up_to₃}
use Rattle.rules.specs.Parse.{◌then◌, choose, one_of, literal, read_component, read_dot, after_three, after_two, after_one, read_partial, found_in, read_identifiers, read_identifier, read_number}
use Rattle.rules.specs.Version.{read_after_dot}
use Rattle.rules.specs.NormalText.{spell_op}
use Rattle.rules.specs.Answers.{partial_fits}
use Rattle.partial.specs.Views.{held}

unfoldable pub readers : ⊤
unfolding ◌then◌ choose one_of literal read_component read_dot after_three after_two after_one read_partial read_after_dot held partial_fits up_to₁ up_to₂ up_to₃ spell_op
readers = tt

-- no identifiers are found in no text
unfoldable pub nothing : ⊤
unfolding found_in read_identifiers read_identifier read_number ◌then◌ choose one_of literal
nothing = tt
