use Rattle.std.proofs.Common.{arith, ◌≡◌, ◌+◌}
use Rattle.luo_rank.specs.inner.Lookup.{below_of}
use Rattle.luo_rank.proofs.BagLemmas.{none_below, next_size, last_size, past_marked}
use Rattle.luo_rank.proofs.bags.size_of_first.Goals as goal

pub loop-d-init : goal.loop-d-init
loop-d-init c = (omega arith, c.requires.some, none_below c.args.tables.now c.requires.tables.base c.args.x c.args.f c.args.n c.args.rank c.requires.bag c.requires.size c.requires.some c.requires.rank)

pub returns-else-below-rank-clause-to : goal.returns-else-below-rank-clause-to
returns-else-below-rank-clause-to c =
    next_size c.args.tables.now c.requires.tables.base c.args.x c.args.f c.args.n c.args.rank c.requires.bag c.requires.size c.requires.some c.requires.rank c.loop-d.d
    (past_marked (below_of c.args.tables.now c.args.x c.args.f c.args.n (c.loop-d.d + 1) 0) c.below.result c.args.rank c.below.ensures (omega (arith, c.if-below-rank.false)))

pub returns-after-loop-d-clause-to : goal.returns-after-loop-d-clause-to
returns-after-loop-d-clause-to c =
    last_size c.args.tables.now c.requires.tables.base c.args.x c.args.f c.args.n c.args.rank c.requires.bag c.requires.size c.requires.some c.requires.rank c.loop-d.d
    (let e : c.loop-d.d ≡ c.args.n = omega (arith, c.loop-d.invariant.1, c.loop-d-test.false) in e)
