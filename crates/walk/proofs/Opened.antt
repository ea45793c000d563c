-- What an answer unfolds to compute the walk on a text whose first bytes are known, or behind a reader whose answer is.
-- Assumes nothing.
use Rattle.std.specs.Prelude.{⊤}
use Rattle.rules.specs.Parse.{◌then◌, choose, one_of, literal, count, spaces₁}
use Rattle.rules.specs.Walk.{follow, next_item, next_right, next}

unfoldable pub readers : ⊤
unfolding ◌then◌ choose one_of literal count spaces₁ follow next_item next_right next
readers = tt
