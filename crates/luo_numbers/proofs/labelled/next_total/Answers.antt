use Rattle.std.proofs.Common.{arith, ap}
use Rattle.luo_labelled.specs.Calls.{Calls}
use Rattle.luo_numbers.proofs.GivenLemmas.{walk_goes_on, given_more, counts_more}
use Rattle.luo_numbers.proofs.labelled.next_total.Goals as goal

pub total_at-requires-clause-next : goal.total_at-requires-clause-next
total_at-requires-clause-next c = walk_goes_on c.args.chain.now c.args.walk.now c.args.plan.low c.args.plan.high c.args.comp.now c.args.n c.alone-here.result c.requires.alike c.requires.low c.requires.high c.requires.comp c.requires.inside c.requires.size c.alone-here.ensures.small c.requires.counted c.requires.counts c.requires.given

pub returns-clause-counts : goal.returns-clause-counts
returns-clause-counts c = counts_more c.args.plan.low c.args.plan.high c.args.comp.now c.args.chain.now.given c.total_at.new.self.counts c.args.n c.requires.inside c.requires.counted c.total_at.ensures.counts

pub returns-clause-given : goal.returns-clause-given
returns-clause-given c = given_more c.args.plan.low c.args.plan.high c.args.comp.now c.total_at.new.self.sums.given c.args.n c.alone-here.result (omega (arith, c.requires.inside)) (ap (λ (t : Calls). t.given) c.total_at.ensures.kept) c.alone-here.ensures.within
