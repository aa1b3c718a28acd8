use Rattle.std.proofs.Common.{sym, ◌∙◌}
use Rattle.luo_rank.proofs.MadeLemmas.{ended_one, ended_none, unit_ended, unit_past}
use Rattle.luo_rank.proofs.rests.ended.Goals as goal

pub returns-then-low-f : goal.returns-then-low-f
returns-then-low-f c = ended_one c.args.tables.now c.requires.tables c.args.x c.args.f c.args.n c.in-Coll.low c.in-Coll.kind c.in-Coll.part c.in-Coll.high (sym c.shape.ensures ∙ c.in-Coll.is) c.requires.ends c.if-low-f.true

pub returns-else-low-f : goal.returns-else-low-f
returns-else-low-f c = ended_none c.args.tables.now c.requires.tables c.args.x c.args.f c.args.n c.in-Coll.low c.in-Coll.kind c.in-Coll.part c.in-Coll.high (sym c.shape.ensures ∙ c.in-Coll.is) c.requires.ends c.if-low-f.false

pub returns-then-n-eq0 : goal.returns-then-n-eq0
returns-then-n-eq0 c = unit_ended c.args.tables.now c.requires.tables c.args.x c.args.f c.args.n c.shape.result.now c.shape.ensures (λ kind part low high e. c.in_default.not-Coll kind part low high e) c.requires.ends c.if-n-eq0.true

pub returns-else-n-eq0 : goal.returns-else-n-eq0
returns-else-n-eq0 c = unit_past c.args.tables.now c.requires.tables c.args.x c.args.f c.args.n c.shape.result.now c.shape.ensures (λ kind part low high e. c.in_default.not-Coll kind part low high e) c.requires.ends c.if-n-eq0.false
