use Rattle.std.proofs.Common.{refl}
use Rattle.range_rows.proofs.Hyphens.{hyphen_next, hyphen_within, hyphen_least, hyphen_behind, hyphen_room, hyphen_more, hyphen_put, hyphen_space, hyphen_names_more, hyphen_names}
use Rattle.range_rows.proofs.put_range.Goals as goal

pub unreachable-requires : goal.unreachable-requires
unreachable-requires c = hyphen_next c.requires c.in-Some.ensures c.in_default-next.ensures.answer

pub item_of-item-requires : goal.item_of-item-requires
item_of-item-requires c =
    record { within = hyphen_within c.requires c.in-Some.ensures c.in-Some-next.ensures.answer; least = hyphen_least c.requires c.in-Some.ensures c.in-Some-next.ensures.answer }

pub put_step-written-requires : goal.put_step-written-requires
put_step-written-requires c =
    record {
      words_room = hyphen_room c.requires c.in-Some.ensures c.in-Some-next.ensures.answer c.item_of-item.ensures;
      ids_room = hyphen_space c.requires c.in-Some.ensures c.in-Some-next.ensures.answer;
    }

pub put_step-requires : goal.put_step-requires
put_step-requires c =
    record {
      words_room = hyphen_more c.requires c.in-Some.ensures c.in-Some-next.ensures.answer c.item_of-item.ensures c.put_step-written.ensures.words refl;
      ids_room = hyphen_names_more c.requires c.in-Some.ensures c.in-Some-next.ensures.answer c.put_step-written.ensures.ids refl;
    }

pub returns : goal.returns
returns c =
    record {
      put = hyphen_put c.requires c.in-Some.ensures c.in-Some-next.ensures.answer c.item_of-item.ensures c.put_step-written.ensures.words c.put_step.ensures.words;
      ids = hyphen_names c.requires c.in-Some.ensures c.in-Some-next.ensures.answer c.put_step-written.ensures.ids c.put_step.ensures.ids;
      behind = hyphen_behind c.requires c.in-Some.ensures c.in-Some-next.ensures.answer;
    }
