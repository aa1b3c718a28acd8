use Rattle.std.proofs.Common.{arith, ap}
use Rattle.luo_unlabelled.specs.Calls.{Calls}
use Rattle.luo_numbers.proofs.GivenLemmas.{table_goes_on, given_more}
use Rattle.luo_numbers.proofs.parts.next_count.Goals as goal

pub count_at-requires : goal.count_at-requires
count_at-requires c = table_goes_on c.args.parts.now c.args.plan.low c.args.plan.high c.args.comp.now c.args.n c.alone-here.result c.requires.going c.requires.low c.requires.high c.requires.comp c.requires.inside c.requires.size c.alone-here.ensures.small c.alone-here.ensures.without c.requires.given

pub returns-clause-given : goal.returns-clause-given
returns-clause-given c = given_more c.args.plan.low c.args.plan.high c.args.comp.now c.count_at.new.self.given c.args.n c.alone-here.result (omega (arith, c.requires.inside)) (ap (λ (t : Calls). t.given) c.count_at.ensures.kept) c.alone-here.ensures.within
