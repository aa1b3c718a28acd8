use Rattle.std.proofs.Common.{◌≡◌, ◌≤◌, ◌+◌, ◌∙◌, ◌++◌, ◌∷◌, [], sym, subst, ap, arith, length, take, drop, ℕ, List, OkIff, slice_index}
use Rattle.luo_model.specs.declared.program.Universe.TheVariants.{Labelled}
use Rattle.luo_num.specs.declared.TheConstants.{MAX}
use Rattle.luo_counting.specs.Items.{Suits}
use Rattle.luo_labelled.specs.Calls.{Calls, GoesOn, number_of}
use Rattle.luo_labelled.specs.inner.Steps.{HoldRows, step_count, rest_of}
use Rattle.luo_labelled.proofs.FirstLemmas.{suits_chained}
use Rattle.luo_labelled.proofs.ChainLemmas.{take_front, take_long, count_rows, ok_capped, next_is, counted_next}
use Rattle.luo_labelled.proofs.chain.Chain.count_at.Goals as goal

pub next_count-number-requires-clause-rows : goal.next_count-number-requires-clause-rows
next_count-number-requires-clause-rows c =
    let i = c.self.inside in
    let v = c.self.invariant in
    let g = subst (λ (t : Calls). GoesOn t c.args.comp.now c.args.here) (sym c.self.view_is) c.requires.goes_on in
    let e = c.as_slice.ensures.value ∙ take_front i.comp.len c.keep.new.kept (drop (length c.keep.new.kept) i.comp.items) (omega (arith, c.keep.ensures.length, c.as_mut_slice.ensures.len)) in
    let n : i.calls ≡ length c.args.comp.now = sym (g.sizes ∙ take_long i.comp.items i.calls (omega (arith, v.reached, v.sizes))) in
    subst (HoldRows c.new-steps.result (step_count c.new-steps.result (rest_of i.kind) (slice_index c.as_slice.result.now)) (length c.args.comp.now)) (sym c.as_mut_slice-2.ensures.value)
    (count_rows i.kind i.low i.high i.n_max c.new-steps.result i.comp.items c.as_slice.result.now c.args.comp.now i.cells.items c.args.here i.calls c.new-steps.ensures v.start g.none_empty g.here_empty
    (ap (take (length c.args.comp.now + 1)) e ∙ c.keep.ensures.kept) g.agrees n v.holds)

pub returns-clause-answer : goal.returns-clause-answer
returns-clause-answer c =
    let i = c.self.inside in
    let v = c.self.invariant in
    let g = subst (λ (t : Calls). GoesOn t c.args.comp.now c.args.here) (sym c.self.view_is) c.requires.goes_on in
    let e = c.as_slice.ensures.value ∙ take_front i.comp.len c.keep.new.kept (drop (length c.keep.new.kept) i.comp.items) (omega (arith, c.keep.ensures.length, c.as_mut_slice.ensures.len)) in
    subst (λ (t : Calls). OkIff c.within-answer.result (number_of t c.args.comp.now c.args.here ≤ MAX) (number_of t c.args.comp.now c.args.here)) c.self.view_is
    (ok_capped c.within-answer.result c.next_count-number.result _ c.within-answer.ensures
    (next_is i.kind i.low i.high i.n_max c.next_count-number.result c.new-steps.result c.as_slice.result.now c.args.comp.now c.args.here (suits_chained i.kind i.low v.bounds.suits) v.bounds.high_within c.new-steps.ensures g.none_empty g.here_empty
    (ap (take (length c.args.comp.now + 1)) e ∙ c.keep.ensures.kept) c.next_count-number.ensures.number))

pub returns-clause-counted : goal.returns-clause-counted
returns-clause-counted c =
    counted_next c.args.self.now c.args.comp.now c.args.here (subst (λ (v : Calls). Suits Labelled v.kind v.low) c.self.view_is c.self.invariant.bounds.suits) c.requires.goes_on
