use Rattle.luo_rank.specs.inner.Lookup.{term_of}
use Rattle.luo_rank.proofs.ShareLemmas.{found_past}
use Rattle.luo_rank.proofs.shares.size_at.Goals as goal

pub returns-after-loop-group : goal.returns-after-loop-group
returns-after-loop-group c =
    found_past (term_of c.args.tables.now c.args.x c.args.f c.args.n) c.args.n c.args.rank c.loop-group.group c.loop-group.rest c.requires.rank c.loop-group.invariant.1 c.loop-group-test.false
