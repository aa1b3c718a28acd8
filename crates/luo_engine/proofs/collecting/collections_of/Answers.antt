use Rattle.std.proofs.Common.{◌+◌, ◌∙◌, length, ap, arith}
use Rattle.luo_model.specs.View.{Held, plain_of}
use Rattle.luo_engine.proofs.inner.CollectionLemmas.{long_table, unasked_more}
use Rattle.luo_engine.proofs.collecting.collections_of.Goals as goal

pub loop-x-preserved : goal.loop-x-preserved
loop-x-preserved c = (
  ap length c.in_ok-push.ensures.items ∙ long_table c.loop-x.tables.items c.in_ok-table.table ∙ ap (λ k. k + 1) c.loop-x.invariant.0,
  unasked_more (plain_of c.args.program.now) c.args.n_max c.loop-x.tables.items c.push.new.self.items c.in_ok-table.table c.loop-x.x c.loop-x.invariant.0 c.in_ok-push.ensures.items c.in_ok-table.ensures c.loop-x.invariant.1,
)

pub returns : goal.returns
returns c = λ y low kind part high h s. c.loop-x.invariant.1 y low kind part high (omega (arith, h, c.loop-x-test.false, c.len-x-end.ensures, ap (λ (v : Held). length v.nodes) c.program.view_is)) s
