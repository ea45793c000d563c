-- Each answer takes the test's p and its facts as arguments, and hands them to the loop's invariant.
use Rattle.std.proofs.Common.{◌≡◌, ◌∙◌, sym, arith, false}
use borrow.Author.Count.{below_more}
use Rattle.entries.proofs.entries.Entries.first.Goals as goal

pub returns-then-test : goal.returns-then-test
returns-then-test g c = λ p f.
    (c.loop-k.k, c.loop-k-test.true, sym (f c.loop-k.k c.test.result c.loop-k-test.true c.test.ensures) ∙ c.if-test.true, c.loop-k.invariant p f, c.code_at.ensures)

pub loop-k-preserved : goal.loop-k-preserved
loop-k-preserved g c = λ p f.
    below_more (λ j. p j ≡ false) c.loop-k.k (c.loop-k.invariant p f) (sym (f c.loop-k.k c.test.result c.loop-k-test.true c.test.ensures) ∙ c.if-test.false)

pub returns : goal.returns
returns g c = λ p f k h. c.loop-k.invariant p f k (omega arith)
