use Rattle.std.proofs.Common.{◌∙◌, subst}
use Rattle.std.proofs.lemmas.Option.{get_or_from_slice_get}
use Rattle.luo_model.specs.View.{plain_of}
use Rattle.luo_engine.specs.inner.Filled.{CountsTo}
use Rattle.luo_engine.proofs.inner.FillLemmas.{first_past, counted_more, open_kept, shape_kept}
use Rattle.luo_engine.proofs.counts.fill_counts.Goals as goal

pub returns-then-value-gt-MAX-clause-past : goal.returns-then-value-gt-MAX-clause-past
returns-then-value-gt-MAX-clause-past c =
    let plan = c.args.plan.now in
    first_past (plain_of plan.program) plan.ranks plan.order c.node_at-x.ensures.plan.ordered c.loop-k.counts c.args.n c.loop-k.k c.node_at-x.result c.node_at-x.ensures.place c.count_at-value.result c.loop-k.invariant.counted
    (subst (λ y. CountsTo (plain_of plan.program) y c.args.n c.count_at-value.result) (get_or_from_slice_get plan.order c.loop-k.k c.node_at-x.result 0 c.node_at-x.ensures.place) c.count_at-value.ensures.number) c.if-value-gt-MAX.true

pub loop-k-preserved : goal.loop-k-preserved
loop-k-preserved c =
    let plan = c.args.plan.now in
    record {
      counted = counted_more c.loop-k.counts c.set.new.self c.node_at-x.result c.args.n c.count_at-value.result c.set.ensures (plain_of plan.program) plan.ranks plan.order c.node_at-x.ensures.plan.ordered c.loop-k.k c.node_at-x.ensures.place c.loop-k.invariant.counted
          (subst (λ y. CountsTo (plain_of plan.program) y c.args.n c.count_at-value.result) (get_or_from_slice_get plan.order c.loop-k.k c.node_at-x.result 0 c.node_at-x.ensures.place) c.count_at-value.ensures.number) c.if-value-gt-MAX.false;
      collections = c.count_at-value.ensures.collections c.if-value-gt-MAX.false;
      others = λ y m d. c.set.ensures.other_size y m d ∙ c.loop-k.invariant.others y m d;
      shape = shape_kept _ c.loop-k.counts c.set.new.self c.node_at-x.result c.args.n c.count_at-value.result c.set.ensures c.loop-k.invariant.shape;
      open_rows = open_kept c.loop-k.counts c.set.new.self c.node_at-x.result c.args.n c.count_at-value.result c.set.ensures plan.program.universe plan.factors c.args.partials.now _ c.loop-k.invariant.open_rows;
    }
