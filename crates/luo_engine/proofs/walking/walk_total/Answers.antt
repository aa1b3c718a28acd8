use Rattle.std.proofs.Common.{◌∙◌, length, sym, ap, arith}
use Rattle.luo_engine.proofs.inner.WalkingLemmas.{table_there, component_row, component_reaches, goes_with, number_is, next}
use Rattle.luo_engine.proofs.walking.walk_total.Goals as goal

pub row-requires : goal.row-requires
row-requires c = component_row c.args.plan.now c.node_of-x.ensures.plan c.args.counts.now c.args.totals.now c.args.tables.now c.args.walks.now.items c.args.i c.args.s c.args.n c.node_of-x.result c.in-Coll.low c.in-Coll.kind c.in-Coll.part c.in-Coll.high c.node_of-x.ensures.node
    (sym c.shape.ensures ∙ c.in-Coll.is) c.requires.counted

pub prefix-comp-requires : goal.prefix-comp-requires
prefix-comp-requires c =
    let r = component_reaches c.args.plan.now c.node_of-x.ensures.plan c.args.counts.now c.args.totals.now c.args.tables.now c.args.walks.now.items c.args.i c.args.s c.args.n c.node_of-x.result c.in-Coll.low c.in-Coll.kind c.in-Coll.part c.in-Coll.high c.node_of-x.ensures.node
    (sym c.shape.ensures ∙ c.in-Coll.is) c.requires.counted in
    omega (arith, r, ap length c.row.ensures)

pub table_of-requires : goal.table_of-requires
table_of-requires c = record {
  there = (table_there c.args.plan.now c.node_of-x.ensures.plan c.args.tables.now c.args.n c.node_of-x.result c.in-Coll.low c.in-Coll.kind c.in-Coll.part c.in-Coll.high (sym c.shape.ensures ∙ c.in-Coll.is) c.requires.tables).there;
}

pub ask-requires-clause-there : goal.ask-requires-clause-there
ask-requires-clause-there c = (c.requires.asks c.requires.walk).there

pub ask-requires-clause-goes_with : goal.ask-requires-clause-goes_with
ask-requires-clause-goes_with c = goes_with c.args.plan.now c.node_of-x.ensures.plan c.args.counts.now c.args.totals.now c.args.tables.now c.args.walks.now.items c.args.i c.args.s c.args.n c.node_of-x.result c.in-Coll.low c.in-Coll.kind c.in-Coll.part c.in-Coll.high c.node_of-x.ensures.node
    (sym c.shape.ensures ∙ c.in-Coll.is) c.requires.counted
    c.requires.tables c.requires.totals c.requires.one c.requires.asks c.requires.reached c.here_at-here.result c.here_at-here.ensures.one c.here_at-here.ensures.alone
    c.row.result.now c.prefix-comp.result.now c.row-in-Coll.result.now c.prefix-body.result.now c.row.ensures c.prefix-comp.ensures c.row-in-Coll.ensures c.prefix-body.ensures c.table_of.result.now c.table_of.ensures c.requires.walk

pub returns-clause-total : goal.returns-clause-total
returns-clause-total c = number_is c.args.plan.now c.node_of-x.ensures.plan c.args.counts.now c.args.totals.now c.args.tables.now c.args.walks.now.items c.args.i c.args.s c.args.n c.node_of-x.result c.in-Coll.low c.in-Coll.kind c.in-Coll.part c.in-Coll.high c.node_of-x.ensures.node
    (sym c.shape.ensures ∙ c.in-Coll.is) c.requires.counted
    c.requires.tables c.requires.totals c.requires.one c.requires.asks c.requires.reached c.here_at-here.result c.here_at-here.ensures.one c.here_at-here.ensures.alone
    c.row.result.now c.prefix-comp.result.now c.row-in-Coll.result.now c.prefix-body.result.now c.row.ensures c.prefix-comp.ensures c.row-in-Coll.ensures c.prefix-body.ensures c.table_of.result.now c.table_of.ensures c.requires.walk c.ask.result c.ask.ensures.answer

pub returns-clause-walks : goal.returns-clause-walks
returns-clause-walks c = λ small walk. next c.args.plan.now c.node_of-x.ensures.plan c.args.counts.now c.args.totals.now c.args.tables.now c.args.walks.now.items c.args.i c.args.s c.args.n c.node_of-x.result c.in-Coll.low c.in-Coll.kind c.in-Coll.part c.in-Coll.high c.node_of-x.ensures.node
    (sym c.shape.ensures ∙ c.in-Coll.is) c.requires.counted
    c.requires.tables c.requires.totals c.requires.one c.requires.asks c.requires.reached c.here_at-here.result c.here_at-here.ensures.one c.here_at-here.ensures.alone
    c.row.result.now c.prefix-comp.result.now c.row-in-Coll.result.now c.prefix-body.result.now c.row.ensures c.prefix-comp.ensures c.row-in-Coll.ensures c.prefix-body.ensures c.table_of.result.now c.table_of.ensures walk c.ask.new.walks.items c.ask.result c.ask.ensures.kept small
