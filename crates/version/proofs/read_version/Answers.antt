use Rattle.std.proofs.Common.{sym, ◌∙◌}
use Rattle.version.proofs.VersionLaws.{some_of, version_text}
use Rattle.version.proofs.read_version.Goals as goal

pub returns-clause-text : goal.returns-clause-text
returns-clause-text c =
    let n = some_of _ _ _ (sym c.ok_or.ensures.value ∙ c.in_ok-n.was) in
    let t = some_of _ _ _ (sym c.ok_or-2.ensures.value ∙ c.in_ok-tail.was) in
    rw c.ok_or-3.ensures.value
    (version_text c.args.s.now c.if-s-gt-LONGEST.false _ _ _ _ (rw n at c.read_numbers.ensures) c.in_ok-tail.tail (rw t at c.read_tail.ensures.answer) (rw t at c.read_tail.ensures.text) _ c.version.ensures _)
