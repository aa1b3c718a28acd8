use Rattle.luo_labelled.proofs.CodeLemmas.{source_behind, source_itself, source_none}
use Rattle.luo_labelled.proofs.steps.Steps.source.Goals as goal

pub returns-then-i-gt0 : goal.returns-then-i-gt0
returns-then-i-gt0 c = (source_behind c.args.self.unbounded c.args.i c.if-i-gt0.true, c.row.ensures)

pub returns-then-self : goal.returns-then-self
returns-then-self c = source_itself c.args.self.unbounded c.args.i c.args.self.wide c.if-i-gt0.false c.if-self.true

pub returns-else-self : goal.returns-else-self
returns-else-self c = source_none c.args.self.unbounded c.args.i c.if-i-gt0.false c.if-self.false
