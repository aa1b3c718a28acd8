use Rattle.std.proofs.Common.{ℕ, List, sym, subst, arith}
use Rattle.luo_model.specs.View.{plain_of}
use Rattle.luo_rank.specs.inner.Lookup.{AreCountRows}
use Rattle.luo_rank.proofs.FillLemmas.{tables_none, tables_more, tables_all}
use Rattle.luo_rank.proofs.filling.counts_of.Goals as goal

pub loop-x-init : goal.loop-x-init
loop-x-init c = subst (λ (r : List (List ℕ)). AreCountRows (plain_of c.args.counts.now.program) c.args.last 0 r) (sym c.new-rows.ensures) (tables_none (plain_of c.args.counts.now.program) c.args.last)

pub loop-x-preserved : goal.loop-x-preserved
loop-x-preserved c = tables_more (plain_of c.args.counts.now.program) c.args.last c.loop-x.x c.in_ok-row.row c.loop-x.rows c.push.new.self c.loop-x.invariant c.in_ok-push.ensures.ok c.in_ok-row.ensures

pub returns : goal.returns
returns c = tables_all (plain_of c.args.counts.now.program) c.args.last c.loop-x.x c.args.nodes c.loop-x.rows (omega (arith, c.loop-x-test.false, c.loop-x.auto.x-end)) c.loop-x.invariant
