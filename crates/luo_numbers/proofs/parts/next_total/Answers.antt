use Rattle.std.proofs.Common.{arith, ap}
use Rattle.luo_unlabelled.specs.Calls.{Walk}
use Rattle.luo_numbers.proofs.GivenLemmas.{walk_goes_with, given_more, kept_more}
use Rattle.luo_numbers.proofs.parts.next_total.Goals as goal

pub total_at-requires : goal.total_at-requires
total_at-requires c = walk_goes_with c.args.parts.now c.args.walk.now c.args.plan.low c.args.plan.high c.args.comp.now c.args.n c.alone-here.result c.requires.same c.requires.going c.requires.walking c.requires.low c.requires.high c.requires.comp c.requires.inside c.requires.size c.alone-here.ensures.small c.alone-here.ensures.within c.alone-here.ensures.without c.requires.counted c.requires.kept c.requires.given

pub returns-clause-kept : goal.returns-clause-kept
returns-clause-kept c = kept_more c.args.comp.now c.total_at.new.self.comp c.args.n (ap (λ (w : Walk). w.comp) c.total_at.ensures.kept)

pub returns-clause-given : goal.returns-clause-given
returns-clause-given c = given_more c.args.plan.low c.args.plan.high c.args.comp.now c.total_at.new.self.calls.given c.args.n c.alone-here.result (omega (arith, c.requires.inside)) (ap (λ (w : Walk). w.calls.given) c.total_at.ensures.kept) c.alone-here.ensures.within
