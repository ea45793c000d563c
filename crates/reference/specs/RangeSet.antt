-- src/range_set.rs: `RangeSet::parse`. As in Range.antt the lines of the source stand above each definition.
-- Left out: the mode that a `RangeSet` carries along, the texts of the errors, and `FromStr`, which is `parse` under Cargo.
-- Assumes nothing.
use Rattle.std.specs.Prelude.{ℕ, List, [], ◌∷◌}
use Rattle.rules.specs.Expansion.{Reading}
use Rattle.reference.specs.Rule.{Rule, arm}
use Rattle.reference.specs.Pest as P
use Rattle.reference.specs.Pest.{Pairs, end, pair, ParseResult, run}
use Rattle.reference.specs.Generated as G
use Rattle.reference.specs.Rust.{OrPanic, gives, panics, ◌and◌, joined}
use Rattle.reference.specs.Range.{Compat, range-from-pair-iterator}

-- What a call of `RangeSet::parse` does: it returns `Ok` with the comparators of each range, or `Err`; it panics; or it never ends.
pub data Returned : Type 0 where
  Ok : Reading → Returned
  Err panicked endless : Returned

-- 64: `match record.as_rule() {`; the ranges that the record adds
unfoldable pub set-record : Compat → Rule → Pairs → OrPanic Reading
set-record m rule inner =
    arm rule Rule.range (range-from-pair-iterator m inner and λ range. gives (range ∷ []))
    (arm rule Rule.logical-or (gives [])
    (arm rule Rule.EOI (gives [])
    panics))

-- 63: `for record in parsed_range_set.into_inner() {`
unfoldable pub set-records : Compat → Pairs → OrPanic Reading
set-records m end = gives []
set-records m (pair rule w inner more) = joined (set-record m rule inner) (set-records m more)

-- 85: `Ok(range_set)`
unfoldable pub returned : OrPanic Reading → Returned
returned (gives ranges) = Ok ranges
returned panics = panicked

-- 28: `Ok(mut parsed) => match parsed.next() {`
-- 49: `fn from_pair_iterator(`
-- 54: `if parsed_range_set.as_rule() != Rule::range_set {`
unfoldable pub from-pair-iterator : Compat → Pairs → Returned
from-pair-iterator m end = Err
from-pair-iterator m (pair rule w inner more) = arm rule Rule.range-set (returned (set-records m inner)) Err

-- 27: `let range_set = match SemverParser::parse(Rule::range_set, input) {`
unfoldable pub parsed : Compat → ParseResult → Returned
parsed m (P.ok rest pairs) = from-pair-iterator m pairs
parsed m (P.err rest pairs) = Err
parsed m P.endless = endless

-- 26: `pub fn parse(input: &str, compat: Compat) -> Result<Self, String> {`
unfoldable pub parse : Compat → List ℕ → Returned
parse m input = parsed m (run input G.range-set input)
