use Rattle.luo_labelled.proofs.CodeLemmas.{empty_yes, empty_past, empty_size}
use Rattle.luo_labelled.proofs.steps.Steps.empty.Goals as goal

pub returns-then-n-gt0 : goal.returns-then-n-gt0
returns-then-n-gt0 c = empty_size c.args.self.free c.args.i c.args.n c.if-n-gt0.true

pub returns-then-i-self : goal.returns-then-i-self
returns-then-i-self c = empty_yes c.args.self.free c.args.i c.args.n c.if-n-gt0.false c.if-i-self.true

pub returns-else-i-self : goal.returns-else-i-self
returns-else-i-self c = empty_past c.args.self.free c.args.i c.args.n c.if-n-gt0.false c.if-i-self.false
