use Rattle.std.proofs.Common.{refl, arith, ap, ◌∙◌, sym, subst, ◌≤◌, ◌≡◌, ◌+◌, Bool, true, false, IsTrue}
use Rattle.luo_model.specs.declared.table.Fill.TheVariants.{All}
use Rattle.luo_model.specs.declared.table.Entry.TheVariants.{Count, Total}
use Rattle.luo_model.specs.View.{plain_of}
use Rattle.luo_engine.specs.Run.{Run}
use Rattle.luo_engine.specs.Entries.{IsFirstOver, NoneOver}
use Rattle.luo_engine.proofs.inner.RunLemmas.{counting_more, count_within}
use Rattle.luo_engine.proofs.TotalRuns.{totalled_next, points_below, totalling_more, total_right, total_within}
use Rattle.luo_engine.proofs.FirstLemmas.{count_over, total_over, none_over}
use Rattle.luo_engine.proofs.engine.Engine.extend.Goals as goal

true_is : (b : Bool) → b ≡ true → IsTrue b
true_is b e = subst IsTrue (sym e) refl

false_not : (b : Bool) → b ≡ false → IsTrue b → ⊥
false_not b e t = absurd (cc)

pub returns-in-Some-clause-over : goal.returns-in-Some-clause-over
returns-in-Some-clause-over c =
    let i = c.self.inside in
    let room : i.filled ≤ i.last = omega (arith, c.requires.room, ap (λ (r : Run). r.filled) c.self.view_is, ap (λ (r : Run). r.last) c.self.view_is) in
    let p = plain_of i.plan.program in
    subst (λ (r : Run). IsFirstOver (plain_of r.program) r.last r.fill (Count c.in-Some.x) i.filled) c.self.view_is
    (count_over p i.plan.ranks c.self.invariant.counting.plan_is.ranked i.last i.filled i.fill c.in-Some.x room
    (λ all j m v h l q. total_within p c.self.invariant.counting.plan_is.proper i.totals i.filled (c.self.invariant.totalled all).right j m v h l q) c.in-Some.ensures.past)

pub invariant_of-self-then-not-has_totals : goal.invariant_of-self-then-not-has_totals
invariant_of-self-then-not-has_totals c =
    let i = c.self.inside in
    let room : i.filled ≤ i.last = omega (arith, c.requires.room, ap (λ (r : Run). r.filled) c.self.view_is, ap (λ (r : Run). r.last) c.self.view_is) in
    let e = c.in_default.ensures in
    record {
      counting = counting_more i.plan i.counts c.extend_counts.new.counts i.collections.items c.extend_counts.new.collections.items i.partials c.extend_counts.new.partials i.last i.filled i.stopped c.self.invariant.counting room (e.counted refl) (e.closed refl) e.counts_shape e.partials_shape (e.collections refl);
      totalled = λ all. absurd (false_not c.has_totals.result c.if-not-has_totals.true (c.has_totals.ensures.1 all));
    }

pub returns-then-not-has_totals-clause-none_over : goal.returns-then-not-has_totals-clause-none_over
returns-then-not-has_totals-clause-none_over c =
    let i = c.self.inside in
    let room : i.filled ≤ i.last = omega (arith, c.requires.room, ap (λ (r : Run). r.filled) c.self.view_is, ap (λ (r : Run). r.last) c.self.view_is) in
    let e = c.in_default.ensures in
    subst (λ (r : Run). NoneOver (plain_of r.program) r.fill r.filled) c.self.view_is
    (none_over (plain_of i.plan.program) i.fill i.filled
    (λ x v h q. count_within i.plan i.counts c.extend_counts.new.counts i.collections.items c.extend_counts.new.collections.items i.partials c.extend_counts.new.partials i.last i.filled i.stopped c.self.invariant.counting room (e.counted refl) (e.closed refl) e.counts_shape e.partials_shape (e.collections refl) x i.filled v h (omega arith) q)
    (λ all. absurd (false_not c.has_totals.result c.if-not-has_totals.true (c.has_totals.ensures.1 all))))

pub extend_totals-requires-clause-fixed : goal.extend_totals-requires-clause-fixed
extend_totals-requires-clause-fixed c =
    let i = c.self.inside in
    let all : i.fill ≡ All = c.has_totals.ensures.0 (true_is c.has_totals.result c.if-not-has_totals.false) in
    record { plan_is = c.self.invariant.counting.plan_is; sites_are = (c.self.invariant.totalled all).sites_are }

pub extend_totals-requires-clause-totalled : goal.extend_totals-requires-clause-totalled
extend_totals-requires-clause-totalled c =
    let i = c.self.inside in
    let room : i.filled ≤ i.last = omega (arith, c.requires.room, ap (λ (r : Run). r.filled) c.self.view_is, ap (λ (r : Run). r.last) c.self.view_is) in
    let going : i.stopped ≡ false = ap (λ (r : Run). r.stopped) c.self.view_is ∙ c.requires.going in
    let all : i.fill ≡ All = c.has_totals.ensures.0 (true_is c.has_totals.result c.if-not-has_totals.false) in
    totalled_next i.plan i.sites i.counts i.totals i.walks.items i.points i.last i.filled i.stopped (c.self.invariant.totalled all) going room

pub extend_totals-requires-clause-walks : goal.extend_totals-requires-clause-walks
extend_totals-requires-clause-walks c =
    let i = c.self.inside in
    let going : i.stopped ≡ false = ap (λ (r : Run). r.stopped) c.self.view_is ∙ c.requires.going in
    let all : i.fill ≡ All = c.has_totals.ensures.0 (true_is c.has_totals.result c.if-not-has_totals.false) in
    ((c.self.invariant.totalled all).going going).asked

pub extend_totals-requires-clause-below : goal.extend_totals-requires-clause-below
extend_totals-requires-clause-below c =
    let i = c.self.inside in
    let room : i.filled ≤ i.last = omega (arith, c.requires.room, ap (λ (r : Run). r.filled) c.self.view_is, ap (λ (r : Run). r.last) c.self.view_is) in
    let going : i.stopped ≡ false = ap (λ (r : Run). r.stopped) c.self.view_is ∙ c.requires.going in
    let all : i.fill ≡ All = c.has_totals.ensures.0 (true_is c.has_totals.result c.if-not-has_totals.false) in
    let e = c.in_default.ensures in
    points_below i.plan i.sites i.counts i.totals i.walks.items i.points i.last i.filled i.stopped (c.self.invariant.totalled all) going room c.extend_counts.new.counts c.extend_counts.new.partials (e.counted refl).wide e.others (e.closed refl)

pub invariant_of-self-in-None : goal.invariant_of-self-in-None
invariant_of-self-in-None c =
    let i = c.self.inside in
    let room : i.filled ≤ i.last = omega (arith, c.requires.room, ap (λ (r : Run). r.filled) c.self.view_is, ap (λ (r : Run). r.last) c.self.view_is) in
    let e = c.in_default.ensures in
    let t = c.in-None.ensures in
    record {
      counting = counting_more i.plan i.counts c.extend_counts.new.counts i.collections.items c.extend_counts.new.collections.items i.partials c.extend_counts.new.partials i.last i.filled i.stopped c.self.invariant.counting room (e.counted refl) (e.closed refl) e.counts_shape e.partials_shape (e.collections refl);
      totalled = λ all. totalling_more i.plan i.sites i.counts c.extend_counts.new.counts c.extend_counts.new.partials i.totals c.extend_totals.new.totals i.walks.items c.extend_totals.new.walks.items i.points c.extend_totals.new.points i.last i.filled i.stopped (c.self.invariant.totalled all) (t.totalled refl) (t.closed refl) t.totals_shape t.points_shape (t.walks refl);
    }

pub returns-in-None-clause-none_over : goal.returns-in-None-clause-none_over
returns-in-None-clause-none_over c =
    let i = c.self.inside in
    let room : i.filled ≤ i.last = omega (arith, c.requires.room, ap (λ (r : Run). r.filled) c.self.view_is, ap (λ (r : Run). r.last) c.self.view_is) in
    let e = c.in_default.ensures in
    let t = c.in-None.ensures in
    let p = plain_of i.plan.program in
    subst (λ (r : Run). NoneOver (plain_of r.program) r.fill r.filled) c.self.view_is
    (none_over p i.fill i.filled
    (λ x v h q. count_within i.plan i.counts c.extend_counts.new.counts i.collections.items c.extend_counts.new.collections.items i.partials c.extend_counts.new.partials i.last i.filled i.stopped c.self.invariant.counting room (e.counted refl) (e.closed refl) e.counts_shape e.partials_shape (e.collections refl) x i.filled v h (omega arith) q)
    (λ all j v h q. total_within p c.self.invariant.counting.plan_is.proper c.extend_totals.new.totals (i.filled + 1) (total_right i.plan i.sites i.counts c.extend_counts.new.counts c.extend_counts.new.partials i.totals c.extend_totals.new.totals i.walks.items c.extend_totals.new.walks.items i.points c.extend_totals.new.points i.last i.filled i.stopped (c.self.invariant.totalled all) (t.totalled refl) (t.closed refl) t.totals_shape t.points_shape (t.walks refl)) j i.filled v h (omega arith) q))

pub returns-in-Some-extend_totals-clause-over : goal.returns-in-Some-extend_totals-clause-over
returns-in-Some-extend_totals-clause-over c =
    let i = c.self.inside in
    let room : i.filled ≤ i.last = omega (arith, c.requires.room, ap (λ (r : Run). r.filled) c.self.view_is, ap (λ (r : Run). r.last) c.self.view_is) in
    let all : i.fill ≡ All = c.has_totals.ensures.0 (true_is c.has_totals.result c.if-not-has_totals.false) in
    let e = c.in_default.ensures in
    let p = plain_of i.plan.program in
    let s = (c.self.invariant.totalled all).sites_are in
    subst (λ (r : Run). IsFirstOver (plain_of r.program) r.last r.fill (Total c.in-Some-extend_totals.i) i.filled) c.self.view_is
    (total_over p c.self.invariant.counting.plan_is.proper i.sites.ranks i.sites.levels (λ j h. (s.ranked j h, s.levelled j h)) i.last i.filled i.fill c.in-Some-extend_totals.i room all
    (λ x m v h l q. count_within i.plan i.counts c.extend_counts.new.counts i.collections.items c.extend_counts.new.collections.items i.partials c.extend_counts.new.partials i.last i.filled i.stopped c.self.invariant.counting room (e.counted refl) (e.closed refl) e.counts_shape e.partials_shape (e.collections refl) x m v h l q) c.in-Some-extend_totals.ensures.past)
