use Rattle.std.proofs.Common.{◌≡◌, ◌<◌, length, sym, subst, arith}
use Rattle.luo_model.specs.declared.table.Fill.TheVariants.{Counts}
use Rattle.luo_model.specs.View.{Held, plain_of}
use Rattle.luo_answer.specs.Commands.List.{listed}
use Rattle.luo_answer.specs.inner.Filled.{full}
use Rattle.luo_answer.specs.inner.Passes.{Passes, itself}
use Rattle.luo_answer.proofs.StepLemmas.{go, stop}
use Rattle.luo_answer.proofs.commands.list.list_node.Goals as goal

pub tables-requires-clause-size : goal.tables-requires-clause-size
tables-requires-clause-size c = omega (arith, c.in_ok-size.ensures.size)

pub listed-text-requires-clause-full : goal.listed-text-requires-clause-full
listed-text-requires-clause-full c = subst (λ (h : Held). c.in_ok-engine.engine ≡ full h Counts c.in_ok-size.size) (sym c.requires.ranks) c.in_ok-engine.ensures.full

pub listed-text-requires-clause-node : goal.listed-text-requires-clause-node
listed-text-requires-clause-node c = subst (λ (h : Held). c.args.node < length h.nodes) (sym c.requires.ranks) c.requires.node

pub returns-in_err-size : goal.returns-in_err-size
returns-in_err-size c = λ n s k e f d. stop _ (c.in_err-size.ensures.passes n e) c.from_residual.ensures.1

pub returns-in_err-count : goal.returns-in_err-count
returns-in_err-count c = λ n s k e f d. go _ (c.in_ok-size.ensures.passes n e) (stop _ (c.in_err-count.ensures k d) c.from_residual-in_err-count.ensures.1)

pub returns-in_err-engine : goal.returns-in_err-engine
returns-in_err-engine c = λ n s k e f d. go _ (c.in_ok-size.ensures.passes n e) (go _ (c.in_ok-count.ensures k d) (stop _ c.in_err-engine.ensures.passes c.from_residual-in_err-engine.ensures.1))

pub returns : goal.returns
returns c = λ n s k e f d. go _ (c.in_ok-size.ensures.passes n e) (go _ (c.in_ok-count.ensures k d) (go _ c.in_ok-engine.ensures.passes
    (subst (λ (h : Held). Passes itself (listed (plain_of h) c.args.node c.in_ok-size.size s c.in_ok-count.count) c.listed-text.result) c.requires.ranks (c.listed-text.ensures s f))))
