use Rattle.std.proofs.Common.{ap, arith}
use Rattle.walk.specs.Views.{next_is}
use Rattle.passes.proofs.Passing.{goes_stage}
use Rattle.range_rows.proofs.Ranges.{behind_next, putting_start, putting_here, putting_words, putting_ids, putting_more, putting_rows, putting_names}
use Rattle.range_rows.proofs.put_ranges.Goals as goal

pub loop-stage-init : goal.loop-stage-init
loop-stage-init c = putting_start _ _ _ _ _ _ c.args.set.now.starts c.args.set.now.counted c.requires.words_room c.requires.ids_room

pub put_range-end-requires : goal.put_range-end-requires
put_range-end-requires c = putting_here c.loop-stage.invariant

pub returns-in_default : goal.returns-in_default
returns-in_default c =
    record {
      words_after = putting_rows c.loop-stage.invariant c.put_range-end.ensures.behind (ap (λ o. (next_is o).0) c.in_default.is) c.put_range-end.ensures.put;
      ids = putting_names c.loop-stage.invariant c.put_range-end.ensures.behind (ap (λ o. (next_is o).0) c.in_default.is) c.put_range-end.ensures.ids;
    }

pub unreachable-requires : goal.unreachable-requires
unreachable-requires c = behind_next (rw c.in-Some.is at c.put_range-end.ensures.behind) (goes_stage c.in-Some.stage) c.in_default-next.ensures.answer

pub overflow_add-written : goal.overflow_add-written
overflow_add-written c = omega (arith, putting_words c.loop-stage.invariant c.put_range-end.ensures.put)

pub overflow_add-written-in-loop-stage : goal.overflow_add-written-in-loop-stage
overflow_add-written-in-loop-stage c = omega (arith, putting_ids c.loop-stage.invariant c.put_range-end.ensures.ids)

pub loop-stage-preserved : goal.loop-stage-preserved
loop-stage-preserved c =
    putting_more c.loop-stage.invariant c.put_range-end.ensures.put c.put_range-end.ensures.ids (rw c.in-Some.is at c.put_range-end.ensures.behind) (goes_stage c.in-Some.stage)
    c.in-Some-next.ensures.answer
