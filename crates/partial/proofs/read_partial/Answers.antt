-- Not found by the check without, with the laws named on the function.
use Rattle.partial.proofs.Components.{one_read, two_read, three_read, three_text}
use Rattle.partial.proofs.read_partial.Goals as goal

pub returns-in_default-read_dot_number-clause-answer : goal.returns-in_default-read_dot_number-clause-answer
returns-in_default-read_dot_number-clause-answer c =
    one_read _ _ _ c.in-Some.ensures _ c.in_default-read_dot_number.ensures c.skip_after_one-in_default-read_dot_number.ensures _ c.new-p.ensures.answer

pub returns-in_default-read_dot_number-2-clause-answer : goal.returns-in_default-read_dot_number-2-clause-answer
returns-in_default-read_dot_number-2-clause-answer c =
    two_read _ _ _ c.in-Some.ensures _ _ c.in-Some-read_dot_number.ensures _ c.in_default-read_dot_number-2.ensures c.skip_after_two.ensures _
    c.new-p-in_default-read_dot_number-2.ensures.answer

pub returns : goal.returns
returns c =
    record {
      answer =
          three_read _ _ _ c.in-Some.ensures _ _ c.in-Some-read_dot_number.ensures _ _ c.in-Some-read_dot_number-2.ensures _ _ _ c.skip_qualifier-q.ensures.answer _
          c.new-p-2.ensures.answer _ c.with.ensures.answer;
      text =
          three_text _ _ _ c.in-Some.ensures _ _ c.in-Some-read_dot_number.ensures _ _ c.in-Some-read_dot_number-2.ensures _ _ c.with.ensures.text
          c.skip_qualifier-q.ensures.text;
    }
