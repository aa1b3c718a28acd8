use Rattle.std.proofs.Common.{◌∙◌, ◌+◌, List, ℕ, length, slice_index, sym, ap, subst, arith}
use Rattle.std.proofs.lemmas.List.{with_items_is}
use Rattle.luo_numbers.specs.Given.{AreComponents, AreGiven}
use Rattle.luo_numbers.proofs.GivenLemmas.{given_kept, alike_now}
use Rattle.luo_numbers.proofs.labelled.totals.Goals as goal

pub loop-n-preserved : goal.loop-n-preserved
loop-n-preserved c =
    let e = with_items_is c.loop-n.comp c.grow.new.comp (omega (arith, c.grow.ensures.long, c.deref_mut.ensures.len)) in (
      subst AreComponents (sym e) c.grow.ensures.comp,
      ap length e ∙ c.grow.ensures.long ∙ ap length c.deref_mut.ensures.value ∙ c.loop-n.invariant.1,
      sym c.next_count.ensures.alike.low ∙ c.loop-n.invariant.2,
      sym c.next_count.ensures.alike.high ∙ c.loop-n.invariant.3,
      sym c.next_count.ensures.alike.n_max ∙ c.loop-n.invariant.4,
      subst (λ (x : List ℕ). AreGiven c.args.plan.low c.args.plan.high x (c.loop-n.n + 1) c.next_count.new.chain.given) (sym e)
          (given_kept c.args.plan.low c.args.plan.high c.deref.result.now c.grow.new.comp c.next_count.new.chain.given c.loop-n.n (λ m h. c.grow.ensures.kept m h ∙ ap (λ (x : List ℕ). slice_index x m) (c.deref_mut.ensures.value ∙ sym c.deref.ensures.value)) c.next_count.ensures.given),
      alike_now c.loop-n.chain c.next_count.new.chain c.loop-n.walk.sums c.next_total.new.walk.sums c.loop-n.invariant.6 c.next_count.ensures.alike c.next_total.ensures.alike,
      subst (λ (x : List ℕ). AreGiven c.args.plan.low c.args.plan.high x (c.loop-n.n + 1) c.next_total.new.walk.counts) (sym e)
          (given_kept c.args.plan.low c.args.plan.high c.deref-in-loop-n.result.now c.grow.new.comp c.next_total.new.walk.counts c.loop-n.n (λ m h. c.grow.ensures.kept m h ∙ ap (λ (x : List ℕ). slice_index x m) (c.deref_mut.ensures.value ∙ sym c.deref-in-loop-n.ensures.value)) c.next_total.ensures.counts),
      subst (λ (x : List ℕ). AreGiven c.args.plan.low c.args.plan.high x (c.loop-n.n + 1) c.next_total.new.walk.sums.given) (sym e)
          (given_kept c.args.plan.low c.args.plan.high c.deref-in-loop-n.result.now c.grow.new.comp c.next_total.new.walk.sums.given c.loop-n.n (λ m h. c.grow.ensures.kept m h ∙ ap (λ (x : List ℕ). slice_index x m) (c.deref_mut.ensures.value ∙ sym c.deref-in-loop-n.ensures.value)) c.next_total.ensures.given),
    )
