use Rattle.std.proofs.Common.{◌+◌}
use Rattle.luo_struct.proofs.CompareLemmas.{small_part}
use Rattle.luo_struct.proofs.members.neighbours_stand.Goals as goal

pub stand_beside-requires-clause-first_small : goal.stand_beside-requires-clause-first_small
stand_beside-requires-clause-first_small c = small_part c.args.parts.now c.loop-place.place c.index-parts-place.result c.loop-place-test.true c.index-parts-place.is c.requires.small

pub stand_beside-requires-clause-second_small : goal.stand_beside-requires-clause-second_small
stand_beside-requires-clause-second_small c = small_part c.args.parts.now (c.loop-place.place + 1) c.in-Some.second.now c.in-Some.ensures.lookup.3.0 c.in-Some.ensures.lookup.1 c.requires.small
