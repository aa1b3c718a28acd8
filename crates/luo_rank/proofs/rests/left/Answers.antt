use Rattle.std.proofs.Common.{◌≡◌, sym, ◌∙◌, arith, true, false}
use Rattle.luo_rank.specs.inner.Lookup.{left_count}
use Rattle.luo_rank.proofs.MadeLemmas.{left_shared}
use Rattle.luo_rank.proofs.rests.left.Goals as goal

pub returns-then-allows : goal.returns-then-allows
returns-then-allows c = left_shared c.args.tables.now c.requires.tables c.args.x c.args.f c.args.n c.all_shared.result c.requires.size c.requires.spread (c.allows.ensures.on c.if-allows.true) c.all_shared.ensures

pub returns-else-allows : goal.returns-else-allows
returns-else-allows c = let q : left_count c.args.tables.now c.args.x c.args.f c.args.n ≡ 0 = c.allows.ensures.none (λ e. let o : false ≡ true = sym c.if-allows.false ∙ e in cc) in omega (arith, q)
