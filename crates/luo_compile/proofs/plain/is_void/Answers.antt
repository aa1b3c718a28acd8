use Rattle.std.proofs.Common.{sym, ◌∙◌}
use Rattle.luo_compile.proofs.CodeLemmas.{void_at, void_more}
use Rattle.luo_compile.proofs.plain.is_void.Goals as goal

pub returns-then-is_nothing : goal.returns-then-is_nothing
returns-then-is_nothing c = void_at c.args.factors.now c.loop-factor.factor-index c.factor-item.result c.loop-factor-test.true c.factor-item.is (sym c.is_nothing.ensures ∙ c.if-is_nothing.true)

pub loop-factor-preserved : goal.loop-factor-preserved
loop-factor-preserved c = void_more c.args.factors.now c.loop-factor.factor-index c.factor-item.result c.loop-factor-test.true c.factor-item.is (sym c.is_nothing.ensures
    ∙ c.if-is_nothing.false) c.loop-factor.invariant
