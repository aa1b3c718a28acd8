use Rattle.std.proofs.Common.{◌∙◌, ◌+◌, List, ℕ, length, slice_index, sym, ap, subst, arith, rules}
use Rattle.std.proofs.lemmas.List.{with_items_is}
use Rattle.luo_numbers.specs.Given.{AreComponents, AreGiven, AreKept}
use Rattle.luo_numbers.proofs.GivenLemmas.{given_kept, kept_kept, same_now}
use Rattle.luo_numbers.proofs.sequences.totals.Goals as goal

pub loop-n-preserved : goal.loop-n-preserved
loop-n-preserved c =
    let e = with_items_is c.loop-n.comp c.grow.new.comp (omega (arith, c.grow.ensures.long, c.deref_mut.ensures.len)) in (
      subst AreComponents (sym e) c.grow.ensures.comp,
      ap length e ∙ c.grow.ensures.long ∙ ap length c.deref_mut.ensures.value ∙ c.loop-n.invariant.1,
      search rules,
      sym c.next_count.ensures.same.low ∙ c.loop-n.invariant.3,
      sym c.next_count.ensures.same.high ∙ c.loop-n.invariant.4,
      sym c.next_count.ensures.same.n_max ∙ c.loop-n.invariant.5,
      subst (λ (x : List ℕ). AreGiven c.args.plan.low c.args.plan.high x (c.loop-n.n + 1) c.next_count.new.line.given) (sym e)
          (given_kept c.args.plan.low c.args.plan.high c.deref.result.now c.grow.new.comp c.next_count.new.line.given c.loop-n.n (λ m h. c.grow.ensures.kept m h ∙ ap (λ (x : List ℕ). slice_index x m) (c.deref_mut.ensures.value ∙ sym c.deref.ensures.value)) c.next_count.ensures.given),
      search rules,
      same_now c.loop-n.line c.next_count.new.line c.loop-n.walk.calls c.next_total.new.walk.calls c.loop-n.invariant.8 c.next_count.ensures.same c.next_total.ensures.same,
      subst (λ (x : List ℕ). AreKept x (c.loop-n.n + 1) c.next_total.new.walk.comp) (sym e)
          (kept_kept c.deref-in-loop-n.result.now c.grow.new.comp c.next_total.new.walk.comp c.loop-n.n (λ m h. c.grow.ensures.kept m h ∙ ap (λ (x : List ℕ). slice_index x m) (c.deref_mut.ensures.value ∙ sym c.deref-in-loop-n.ensures.value)) c.next_total.ensures.kept),
      subst (λ (x : List ℕ). AreGiven c.args.plan.low c.args.plan.high x (c.loop-n.n + 1) c.next_total.new.walk.calls.given) (sym e)
          (given_kept c.args.plan.low c.args.plan.high c.deref-in-loop-n.result.now c.grow.new.comp c.next_total.new.walk.calls.given c.loop-n.n (λ m h. c.grow.ensures.kept m h ∙ ap (λ (x : List ℕ). slice_index x m) (c.deref_mut.ensures.value ∙ sym c.deref-in-loop-n.ensures.value)) c.next_total.ensures.given),
    )
