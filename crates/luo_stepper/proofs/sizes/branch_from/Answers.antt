use Rattle.std.proofs.Common.{slice_index_or}
use Rattle.luo_finite.proofs.Membership.{In-at}
use Rattle.luo_rank.specs.inner.Lookup.{no_part}
use Rattle.luo_stepper.proofs.sizes.branch_from.Goals as goal

pub entry-requires-clause-node : goal.entry-requires-clause-node
entry-requires-clause-node c = c.requires.there (slice_index_or c.args.parts.now c.loop-branch.branch no_part) (In-at c.args.parts.now c.loop-branch.branch no_part c.loop-branch-test.true)
