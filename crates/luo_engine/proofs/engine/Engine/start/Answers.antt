use Rattle.std.proofs.Common.{◌≡◌, sym, refl, ap, subst, length, ◌+◌, ℕ, List, Option, false}
use Rattle.luo_model.specs.View.{Held, plain_of}
use Rattle.luo_engine.specs.inner.Asked.{Asked}
use Rattle.luo_engine.specs.inner.Collections.{AreUnasked}
use Rattle.luo_engine.specs.inner.Totalling.{IsTotalling}
use Rattle.luo_engine.proofs.inner.RunLemmas.{counting_starts}
use Rattle.luo_engine.proofs.engine.Engine.start.Goals as goal

unasked : (p q : Held) (m n : ℕ) (tables : List (Option Asked)) → q ≡ p → n ≡ m → AreUnasked (plain_of p) m tables (length p.nodes) → AreUnasked (plain_of q) n tables (length q.nodes)
unasked p q m n tables e f u = subst (λ (h : Held). AreUnasked (plain_of h) n tables (length h.nodes)) (sym e) (subst (λ (k : ℕ). AreUnasked (plain_of p) k tables (length p.nodes)) (sym f) u)

pub total_tables-requires-clause-collections : goal.total_tables-requires-clause-collections
total_tables-requires-clause-collections c =
    let plan = c.in_ok-plan.plan in
    subst (λ (ts : List (Option Asked)). AreUnasked (plain_of plan.program) plan.reach ts (length plan.program.nodes)) (sym c.as_slice.ensures.value)
    (unasked c.args.program.now plan.program c.args.n_max plan.reach c.in_ok-collections.collections.items c.in_ok-plan.ensures.program c.in_ok-plan.ensures.reach c.in_ok-collections.ensures)

pub invariant_of-result : goal.invariant_of-result
invariant_of-result c =
    let plan = c.in_ok-plan.plan in
    record {
      counting = counting_starts plan c.in_ok-counts.counts c.in_ok-collections.collections.items c.in_ok-partials.partials c.args.n_max (c.args.n_max + 1) c.nodes.result (length c.factors.result.now)
          c.nodes.ensures.plan c.in_ok-plan.ensures.reach c.requires.small refl c.nodes.ensures.width (ap length c.factors.ensures)
          c.in_ok-counts.ensures.table c.in_ok-counts.ensures.zeros c.in_ok-partials.ensures.table
          (unasked c.args.program.now plan.program c.args.n_max plan.reach c.in_ok-collections.collections.items c.in_ok-plan.ensures.program c.in_ok-plan.ensures.reach c.in_ok-collections.ensures);
      totalled = λ all. subst (λ (m : ℕ). IsTotalling plan c.in_ok-made.made.sites c.in_ok-counts.counts c.in_ok-made.made.totals c.in_ok-made.made.walks.items c.in_ok-made.made.points m 0 false) c.in_ok-plan.ensures.reach (c.in_ok-made.ensures c.in_ok-counts.counts all);
    }
