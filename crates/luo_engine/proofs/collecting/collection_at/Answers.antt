use Rattle.std.proofs.Common.{◌≡◌, ◌∙◌, ℕ, Option, length, slice_index, refl, sym, ap, subst, arith}
use Rattle.std.proofs.lemmas.Option.{get_or_from_slice_get}
use Rattle.luo_model.specs.View.{plain_of}
use Rattle.luo_model.specs.Program.{shape_of}
use Rattle.luo_model.specs.declared.program.Shape.{Shape}
use Rattle.luo_model.specs.declared.program.Shape.TheVariants.{Atom, Union, Product, Coll}
use Rattle.luo_model.specs.declared.program.Kind.{Kind}
use Rattle.luo_model.specs.declared.program.Part.{Part}
use Rattle.luo_engine.specs.inner.Filled.{CountsTo}
use Rattle.luo_engine.specs.inner.Collections.{IsCollection}
use Rattle.luo_engine.proofs.inner.CollectingLemmas.{component_row, component_reaches, goes_on, comp_long, number_is, next}
use Rattle.luo_engine.proofs.collecting.collection_at.Goals as goal

pub here_at-here-requires-clause-row : goal.here_at-here-requires-clause-row
here_at-here-requires-clause-row c =
    component_row c.args.plan.now c.node_at-x.ensures.plan c.args.counts.now c.args.tables.now.items c.args.n c.args.k c.node_at-x.result c.in-Coll.low c.in-Coll.kind c.in-Coll.part c.in-Coll.high c.node_at-x.ensures.place (sym c.shape.ensures ∙ c.in-Coll.is) c.requires.counted c.requires.tables

pub here_at-here-requires-clause-size : goal.here_at-here-requires-clause-size
here_at-here-requires-clause-size c =
    component_reaches c.args.plan.now c.node_at-x.ensures.plan c.args.counts.now c.args.tables.now.items c.args.n c.args.k c.node_at-x.result c.in-Coll.low c.in-Coll.kind c.in-Coll.part c.in-Coll.high c.node_at-x.ensures.place (sym c.shape.ensures ∙ c.in-Coll.is) c.requires.counted c.requires.tables

pub row-requires : goal.row-requires
row-requires c =
    component_row c.args.plan.now c.node_at-x.ensures.plan c.args.counts.now c.args.tables.now.items c.args.n c.args.k c.node_at-x.result c.in-Coll.low c.in-Coll.kind c.in-Coll.part c.in-Coll.high c.node_at-x.ensures.place (sym c.shape.ensures ∙ c.in-Coll.is) c.requires.counted c.requires.tables

pub prefix-comp-requires : goal.prefix-comp-requires
prefix-comp-requires c =
    let r = component_reaches c.args.plan.now c.node_at-x.ensures.plan c.args.counts.now c.args.tables.now.items c.args.n c.args.k c.node_at-x.result c.in-Coll.low c.in-Coll.kind c.in-Coll.part c.in-Coll.high c.node_at-x.ensures.place (sym c.shape.ensures ∙ c.in-Coll.is) c.requires.counted c.requires.tables in
    omega (arith, r, ap length c.row.ensures)

pub ask-requires-clause-there : goal.ask-requires-clause-there
ask-requires-clause-there c =
    (c.requires.tables.to_ask c.args.k c.node_at-x.result c.in-Coll.low c.in-Coll.kind c.in-Coll.part c.in-Coll.high (omega arith) c.node_at-x.ensures.place (sym c.shape.ensures ∙ c.in-Coll.is)).there

pub ask-requires-clause-goes_on : goal.ask-requires-clause-goes_on
ask-requires-clause-goes_on c =
    goes_on c.args.plan.now c.node_at-x.ensures.plan c.args.counts.now c.args.tables.now.items c.args.n c.args.k c.node_at-x.result c.in-Coll.low c.in-Coll.kind c.in-Coll.part c.in-Coll.high c.node_at-x.ensures.place (sym c.shape.ensures ∙ c.in-Coll.is) c.requires.counted c.requires.tables
    c.here_at-here.result c.here_at-here.ensures.one c.here_at-here.ensures.alone c.row.result.now c.prefix-comp.result.now c.row.ensures c.prefix-comp.ensures c.requires.reached

pub ask-requires-clause-reached : goal.ask-requires-clause-reached
ask-requires-clause-reached c =
    let l = comp_long c.args.plan.now c.node_at-x.ensures.plan c.args.counts.now c.args.tables.now.items c.args.n c.args.k c.node_at-x.result c.in-Coll.low c.in-Coll.kind c.in-Coll.part c.in-Coll.high c.node_at-x.ensures.place (sym c.shape.ensures ∙ c.in-Coll.is) c.requires.counted c.requires.tables
    c.here_at-here.result c.here_at-here.ensures.one c.here_at-here.ensures.alone c.row.result.now c.prefix-comp.result.now c.row.ensures c.prefix-comp.ensures in
    omega (arith, l, c.requires.reached, c.pascal.ensures)

pub unreachable-requires : goal.unreachable-requires
unreachable-requires c =
    let e : slice_index c.args.plan.now.order c.args.k ≡ c.node_at-x.result = get_or_from_slice_get c.args.plan.now.order c.args.k c.node_at-x.result 0 c.node_at-x.ensures.place in
    none c.shape.result.now (subst IsCollection (ap (shape_of (plain_of c.args.plan.now.program)) e ∙ sym c.shape.ensures) c.requires.collection) c.in_default.not-Coll
  where
    none : (s : Shape) → IsCollection s → ((kind : Kind) (part : Part) (low : ℕ) (high : Option ℕ) → s ≡ Coll kind part low high → ⊥) → ⊥
    none (Atom weight) i h = i
    none (Union parts) i h = i
    none (Product parts) i h = i
    none (Coll kind part low high) i h = h kind part low high refl

pub returns-clause-number : goal.returns-clause-number
returns-clause-number c =
    let e : slice_index c.args.plan.now.order c.args.k ≡ c.node_at-x.result = get_or_from_slice_get c.args.plan.now.order c.args.k c.node_at-x.result 0 c.node_at-x.ensures.place in
    subst (λ x. CountsTo (plain_of c.args.plan.now.program) x c.args.n c.ask.result) (sym e)
    (number_is c.args.plan.now c.node_at-x.ensures.plan c.args.counts.now c.args.tables.now.items c.args.n c.args.k c.node_at-x.result c.in-Coll.low c.in-Coll.kind c.in-Coll.part c.in-Coll.high c.node_at-x.ensures.place (sym c.shape.ensures ∙ c.in-Coll.is) c.requires.counted c.requires.tables
    c.here_at-here.result c.here_at-here.ensures.one c.here_at-here.ensures.alone c.row.result.now c.prefix-comp.result.now c.row.ensures c.prefix-comp.ensures c.ask.result c.ask.ensures.answer)

pub returns-clause-tables : goal.returns-clause-tables
returns-clause-tables c =
    next c.args.plan.now c.node_at-x.ensures.plan c.args.counts.now c.args.tables.now.items c.args.n c.args.k c.node_at-x.result c.in-Coll.low c.in-Coll.kind c.in-Coll.part c.in-Coll.high c.node_at-x.ensures.place (sym c.shape.ensures ∙ c.in-Coll.is) c.requires.counted c.requires.tables
    c.here_at-here.result c.here_at-here.ensures.one c.here_at-here.ensures.alone c.row.result.now c.prefix-comp.result.now c.row.ensures c.prefix-comp.ensures c.ask.new.tables.items c.ask.result c.ask.ensures.kept
