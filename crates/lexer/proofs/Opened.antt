-- What an answer unfolds to compute the rules' readers on a text whose first bytes are known.
-- Assumes nothing.
use Rattle.std.specs.Prelude.{⊤}
use Rattle.rules.specs.Bytes.{is_digit, is_nonzero, is_letter, value, value_from}
use Rattle.rules.specs.Version.{read_after_dot}
use Rattle.rules.specs.Parse.{◌then◌, choose, one_of, count, run, literal, read_number, read_identifier, read_dot_identifier, read_identifiers, read_qualifier}

unfoldable pub readers : ⊤
unfolding ◌then◌ choose one_of count run literal read_number read_identifier read_dot_identifier read_identifiers read_qualifier read_after_dot is_digit is_nonzero is_letter value value_from
readers = tt
