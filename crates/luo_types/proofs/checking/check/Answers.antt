use Rattle.luo_rules.proofs.Exclusive.{limit-refusal, rule-refusal, walks-refusal, program-answer}
use Rattle.luo_source.specs.View.{plain_source}
use Rattle.luo_rules.proofs.BrokenFirst.{first_broken_is_first_breach, tells-refusal, unbroken-answer}
use Rattle.luo_types.proofs.checking.check.Goals as goal

pub returns-clause-limit : goal.returns-clause-limit
returns-clause-limit c = limit-refusal (plain_source c.args.source.now) c.decide.result c.decide.ensures.ok c.decide.ensures.err

pub returns-clause-rule : goal.returns-clause-rule
returns-clause-rule c = rule-refusal (plain_source c.args.source.now) c.decide.result c.decide.ensures.ok c.decide.ensures.err

pub returns-clause-walks : goal.returns-clause-walks
returns-clause-walks c = walks-refusal (plain_source c.args.source.now) c.decide.result c.decide.ensures.ok c.decide.ensures.err

pub returns-clause-checked : goal.returns-clause-checked
returns-clause-checked c = program-answer (plain_source c.args.source.now) c.decide.result c.decide.ensures.err

pub returns-clause-tells : goal.returns-clause-tells
returns-clause-tells c = tells-refusal (plain_source c.args.source.now) c.decide.result c.requires c.decide.ensures.err

pub returns-clause-first : goal.returns-clause-first
returns-clause-first c =
    λ b within first. rule-refusal (plain_source c.args.source.now) c.decide.result c.decide.ensures.ok c.decide.ensures.err b within (first_broken_is_first_breach (plain_source c.args.source.now) b c.requires first)

pub returns-clause-unbroken : goal.returns-clause-unbroken
returns-clause-unbroken c = unbroken-answer (plain_source c.args.source.now) c.decide.result c.requires c.decide.ensures.ok
