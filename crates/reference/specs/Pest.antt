-- pest 2.5.2: what the methods of `ParserState` (src/parser_state.rs) that src/generated.rs calls do to a state. An input is the list of its characters.
-- Of a state there are the rest of the input, from `position` on, and the `queue`, which stands here as the pairs that `Pairs` makes of its Start and
-- End tokens; a call is told by the pairs that it adds to the queue.
-- Left out: lookahead, atomicity and the stack, which src/generated.rs does not use; the attempts, which only the error's text shows; the limit of
-- calls, which is none unless a program sets one. Matching characters is the rules' `literal`, `one_of` and `at_end` (rules/specs/Parse.antt).
-- Assumes nothing.
use Rattle.std.specs.Prelude.{ℕ, zero, suc, ◌-◌, List, eqb, length, take}
use Rattle.rules.specs.Bytes.{pick, within}
use Rattle.rules.specs.Parse as P
use Rattle.rules.specs.Parse.{Result, literal, one_of, at_end}
use Rattle.reference.specs.Rule.{Rule}

-- ---- what a call answers

-- `Pairs`: the first pair's rule, its text (`as_str`) and the pairs in it (`into_inner`); then the pairs behind it
pub data Pairs : Type 0 where
  end : Pairs
  pair : Rule → List ℕ → Pairs → Pairs → Pairs

infixr 40 ◌⊕◌
-- pairs, and others behind them
unfoldable pub ◌⊕◌ : Pairs → Pairs → Pairs
end ⊕ q = q
(pair n w i p) ⊕ q = pair n w i (p ⊕ q)

-- `ParseResult`: Ok or Err, each with its state: the rest of the input, and the pairs added to the queue. Or the call never ends.
pub data ParseResult : Type 0 where
  ok err : List ℕ → Pairs → ParseResult
  endless : ParseResult

-- the answer of a call that found these pairs added before it
unfoldable pub queued : Pairs → ParseResult → ParseResult
queued p (ok r q) = ok r (p ⊕ q)
queued p (err r q) = err r (p ⊕ q)
queued p endless = endless

-- ---- the methods. In a call that begins with the rest s: what is made of the answer of its closure

-- `Result::and_then`
unfoldable pub and_then : ParseResult → (List ℕ → ParseResult) → ParseResult
and_then (ok r p) f = queued p (f r)
and_then (err r p) f = err r p
and_then endless f = endless

-- `Result::or_else`: the second closure goes on with the state of the Err
unfoldable pub or_else : ParseResult → (List ℕ → ParseResult) → ParseResult
or_else (ok r p) f = ok r p
or_else (err r p) f = queued p (f r)
or_else endless f = endless

-- `sequence`: "Restore the initial position and truncate the token queue."
unfoldable pub sequenced : List ℕ → ParseResult → ParseResult
sequenced s (ok r p) = ok r p
sequenced s (err r p) = err s end
sequenced s endless = endless

-- `optional`: `Ok(state) | Err(state) => Ok(state)`
unfoldable pub optionally : ParseResult → ParseResult
optionally (ok r p) = ok r p
optionally (err r p) = ok r p
optionally endless = endless

-- `Span`: the input from the rest s to the rest r
abbrev pub span : List ℕ → List ℕ → List ℕ
span s r = take (length s - length r) s

-- `rule`: a pair over what the closure read; on Err `queue.truncate(index)`, and the position stays
unfoldable pub ruled : Rule → List ℕ → ParseResult → ParseResult
ruled n s (ok r p) = ok r (pair n (span s r) p end)
ruled n s (err r p) = err r end
ruled n s endless = endless

-- `repeat`: `loop { match result { Ok(state) => result = f(state), Err(state) => return Ok(state) }; }`
unfoldable pub again : ParseResult → (List ℕ → ParseResult) → ParseResult
again (ok r p) f = queued p (f r)
again (err r p) f = ok r p
again endless f = endless

-- with the number of calls that are left. A closure that succeeds more often than there are characters has once read none, and would do so for ever.
unfoldable pub repeated : (List ℕ → ParseResult) → ℕ → List ℕ → ParseResult
repeated f zero s = endless
repeated f (suc k) s = again (f s) λ r. repeated f k r

-- `match_string`, `match_range`, `end_of_input`: Ok behind what is matched, else Err where they stood
unfoldable pub matched : {A : Type 0} → List ℕ → Result A → ParseResult
matched s P.fail = err s end
matched s (P.ok a r) = ok r end

-- ---- expressions of the methods, as they stand in src/generated.rs

infixl 20 ◌and-then◌ ◌or-else◌
-- A closure `|state| e` is the expression e; `unchanged` is `Ok(state)`.
pub data Expr : Type 0 where
  unchanged start-of-input end-of-input : Expr
  match-string : List ℕ → Expr
  match-range : ℕ → ℕ → Expr
  ◌and-then◌ ◌or-else◌ : Expr → Expr → Expr
  sequence optional repeat : Expr → Expr
  rule : Rule → Expr → Expr

-- an expression, run over the input t from its rest s on
unfoldable pub run : List ℕ → Expr → List ℕ → ParseResult
run t unchanged s = ok s end
run t start-of-input s = pick (eqb (length s) (length t)) (ok s end) (err s end)
run t end-of-input s = matched s (at_end s)
run t (match-string w) s = matched s (literal w s)
run t (match-range a b) s = matched s (one_of (within a b) s)
run t (e and-then f) s = and_then (run t e s) (run t f)
run t (e or-else f) s = or_else (run t e s) (run t f)
run t (sequence e) s = sequenced s (run t e s)
run t (optional e) s = optionally (run t e s)
run t (repeat e) s = repeated (run t e) (suc (length s)) s
run t (rule n e) s = ruled n s (run t e s)
