-- What an answer unfolds to compute the rules' readers of prefixes and their expansions.
-- Assumes nothing.
use Rattle.std.specs.Prelude.{⊤}
use Rattle.rules.specs.Parse.{choose, literal, read_prefix}
use Rattle.rules.specs.Expansion.{expand_eq, caret_raises, expand_caret, expand_tilde, expand_bare, expand_op, expand_item, expand_left, expand_right}

unfoldable pub readers : ⊤
unfolding choose literal read_prefix
readers = tt

unfoldable pub expansions : ⊤
unfolding expand_eq caret_raises expand_caret expand_tilde expand_bare expand_op expand_item expand_left expand_right
expansions = tt
