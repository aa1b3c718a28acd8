use Rattle.std.proofs.Common.{ℕ, suc, List, sym, subst, arith}
use Rattle.luo_model.specs.View.{plain_of}
use Rattle.luo_rank.specs.inner.Lookup.{IsCountRow}
use Rattle.luo_rank.proofs.FillLemmas.{numbers_none, numbers_more, numbers_all}
use Rattle.luo_rank.proofs.filling.counts_at.Goals as goal

pub loop-n-init : goal.loop-n-init
loop-n-init c = subst (λ (r : List ℕ). IsCountRow (plain_of c.args.counts.now.program) c.args.x 0 r) (sym c.new-row.ensures) (numbers_none (plain_of c.args.counts.now.program) c.args.x)

pub loop-n-preserved : goal.loop-n-preserved
loop-n-preserved c = numbers_more (plain_of c.args.counts.now.program) c.args.x c.loop-n.n c.at-number.result c.loop-n.row c.push.new.self c.loop-n.invariant c.in_ok-push.ensures.ok c.at-number.ensures.count c.at-number.ensures.small

pub returns : goal.returns
returns c = numbers_all (plain_of c.args.counts.now.program) c.args.x c.loop-n.n (suc c.args.last) c.loop-n.row (omega (arith, c.loop-n-test.false, c.loop-n.auto.n-end)) c.loop-n.invariant
