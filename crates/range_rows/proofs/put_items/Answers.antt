use Rattle.range_rows.proofs.Items.{listing_room, listing_space, listing_rows, listing_names, listing_behind, listing_next, listing_fewer}
use Rattle.range_rows.proofs.put_items.Goals as goal

pub put_step-written-requires-clause-words_room : goal.put_step-written-requires-clause-words_room
put_step-written-requires-clause-words_room c = listing_room c.loop-left.invariant c.item_of-item.ensures

pub put_step-written-requires-clause-ids_room : goal.put_step-written-requires-clause-ids_room
put_step-written-requires-clause-ids_room c = listing_space c.loop-left.invariant

pub returns-in_default : goal.returns-in_default
returns-in_default c =
    record {
      put = listing_rows c.loop-left.invariant c.in_default.ensures c.item_of-item.ensures c.put_step-written.ensures.words;
      ids = listing_names c.loop-left.invariant c.in_default.ensures c.put_step-written.ensures.ids;
      behind = listing_behind c.loop-left.invariant c.in_default.ensures;
    }

pub unreachable-requires : goal.unreachable-requires
unreachable-requires c = listing_next c.loop-left.invariant c.in-Some.ensures c.in_default-next.ensures.answer

pub loop-left-smaller : goal.loop-left-smaller
loop-left-smaller c = listing_fewer c.loop-left.invariant c.in-Some.ensures c.in-Some-next.ensures.answer
