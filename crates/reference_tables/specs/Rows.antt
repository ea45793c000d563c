-- The rows of the tables, which `oracle/tables` writes (Texts.antt, Calls.antt). The list of definitions under `transcribed` is what the check computes with.
-- Assumes nothing.
use Rattle.std.specs.Prelude.{ℕ, List, [], ◌∷◌, map}
use Rattle.rules.specs.Bytes.{is_digit, value, value_from}
use Rattle.rules.specs.Parse.{one_of, literal, at_end}
use Rattle.reference.specs.Pest.{Expr, ParseResult, ◌⊕◌, queued, and_then, or_else, sequenced, optionally, ruled, again, repeated, matched, run}
use Rattle.reference.specs.Generated as G
use Rattle.reference.specs.Rust.{◌and◌, joined, unwrap, add-one, digits-u64, parse-u64, to-first, split, same}
use Rattle.reference.specs.Range as R
use Rattle.reference.specs.Range.{Compat, Cargo, Npm}
use Rattle.reference.specs.RangeSet as S
use Rattle.reference.specs.RangeSet.{Returned, parse}

abbrev pub both : List Compat
both = Cargo ∷ Npm ∷ []

-- the modes, a text's characters, and what `RangeSet::parse` did under each of them
pub data Row : Type 0 where
  row : List Compat → List ℕ → Returned → Row

-- what the crate returned
abbrev pub returned : Row → List Returned
returned (row ms t r) = map (λ m. r) ms

-- an input's characters, an expression of pest's methods, and its answer on that input
pub data Call : Type 0 where
  call : List ℕ → Expr → ParseResult → Call

-- what pest answered
abbrev pub answered : Call → ParseResult
answered (call t e r) = r

-- ---- what the transcription answers

unfoldable pub ran : Call → ParseResult
unfolding one_of literal at_end ◌⊕◌ queued and_then or_else sequenced optionally ruled again repeated matched run
ran (call t e r) = run t e t

unfoldable pub transcribed : Row → List Returned
unfolding is_digit value value_from one_of literal at_end ◌⊕◌ queued and_then or_else sequenced optionally ruled again repeated matched run G.SOI G.EOI G.space G.spaces G.spaces₁ G.nr G.word-byte G.part G.dot-part G.parts G.qualifier G.xr-op G.xr G.partial G.caret G.tilde G.primitive-op G.primitive G.simple G.hyphen G.empty G.next-simple G.range G.logical-or G.next-range G.range-set ◌and◌ joined unwrap add-one digits-u64 parse-u64 to-first split same R.new R.as-comparator R.inc-major R.inc-minor R.inc-patch R.zero-missing R.zero-minor R.zero-patch R.no-pre R.identifier-of R.identifier R.parse-pre R.component-in R.component R.behind-three R.three-is R.behind-two R.two-is R.behind-one R.one-is R.parse-partial R.first-partial R.is-zero R.major-zero R.minor-zero R.caret-zero R.caret-major R.caret-other R.handle-caret-range R.from-full R.from-partial R.op-of R.from-eq R.from-op R.from-primitive R.from-tilde R.simple-record R.simple-from-pair-iterator R.hyphen-left R.hyphen-wild R.hyphen-right R.hyphen-second R.from-hyphen-range R.range-record R.range-from-pair-iterator S.set-record S.set-records S.returned S.from-pair-iterator S.parsed parse
transcribed (row ms t r) = map (λ m. parse m t) ms
