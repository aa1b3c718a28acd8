use Rattle.luo_finite.proofs.Membership.{In-at}
use Rattle.luo_rank.proofs.branches.branch_of.Goals as goal
use Rattle.std.proofs.Common.{slice_index_or}
use Rattle.luo_rank.specs.inner.Lookup.{no_part}

pub entry-requires-clause-node : goal.entry-requires-clause-node
entry-requires-clause-node c = c.requires.there (slice_index_or c.args.parts.now c.loop-group.group no_part) (In-at c.args.parts.now c.loop-group.group no_part c.loop-group-test.true)

pub entry-rest-requires-clause-node : goal.entry-rest-requires-clause-node
entry-rest-requires-clause-node c = c.requires.there (slice_index_or c.args.parts.now c.loop-group.group no_part) (In-at c.args.parts.now c.loop-group.group no_part c.loop-group-test.true)
