use Rattle.std.proofs.Common.{arith, ap}
use Rattle.luo_labelled.specs.Calls.{Calls}
use Rattle.luo_numbers.proofs.GivenLemmas.{chain_goes_on, given_more}
use Rattle.luo_numbers.proofs.labelled.next_count.Goals as goal

pub count_at-requires-clause-goes_on : goal.count_at-requires-clause-goes_on
count_at-requires-clause-goes_on c = chain_goes_on c.args.chain.now c.args.plan.low c.args.plan.high c.args.comp.now c.args.n c.alone-here.result c.requires.low c.requires.high c.requires.comp c.requires.inside c.requires.size c.alone-here.ensures.small c.requires.given

pub returns-clause-given : goal.returns-clause-given
returns-clause-given c = given_more c.args.plan.low c.args.plan.high c.args.comp.now c.count_at.new.self.given c.args.n c.alone-here.result (omega (arith, c.requires.inside)) (ap (λ (t : Calls). t.given) c.count_at.ensures.kept) c.alone-here.ensures.within
