use Rattle.std.proofs.lemmas.List.{with_items_is}
use Rattle.luo_model.specs.declared.program.Kind.TheVariants.{Sequence}
use Rattle.std.proofs.Common.{◌≡◌, ◌+◌, ◌-◌, take, length, ap, sym, ◌∙◌, arith, subst}
use Rattle.luo_model.specs.declared.program.Kind.{Kind}
use Rattle.luo_model.specs.declared.program.Universe.TheVariants.{Unlabelled}
use Rattle.luo_counting.specs.Items.{Suits}
use Rattle.luo_unlabelled.specs.Calls.{Calls, Walk, total_of}
use Rattle.luo_unlabelled.proofs.CallLemmas.{line_serves, steps_alike, totalled, starts, none_empty, given_none, answered, walk_answer, calls_are, same_walk}
use Rattle.luo_unlabelled.proofs.line_walk.LineWalk.total_at.Goals as goal

pub next_total-total-requires-clause-counted : goal.next_total-total-requires-clause-counted
next_total-total-requires-clause-counted c =
    line_serves c.new-steps.result c.line.inside.low c.line.inside.high c.line.inside.n_max c.line.inside.calls (length c.args.body.now) c.line.inside.comp.items c.line.inside.cells.items c.args.line.now.given c.args.comp.now c.deref.result.now
    (c.new-steps.ensures ∙ steps_alike c.self.inside.low c.line.inside.low c.self.inside.high c.line.inside.high c.self.inside.n_max c.line.inside.n_max
    (ap (λ (w : Walk). w.calls.low) c.self.view_is ∙ sym c.requires.low ∙ sym (ap (λ (t : Calls). t.low) c.line.view_is))
    (ap (λ (w : Walk). w.calls.high) c.self.view_is ∙ sym c.requires.high ∙ sym (ap (λ (t : Calls). t.high) c.line.view_is))
    (ap (λ (w : Walk). w.calls.n_max) c.self.view_is ∙ sym c.requires.n_max ∙ sym (ap (λ (t : Calls). t.n_max) c.line.view_is)))
    c.line.invariant (ap (λ (t : Calls). t.given) c.line.view_is) c.requires.counted c.requires.given c.deref.ensures.value

pub returns-clause-totalled : goal.returns-clause-totalled
returns-clause-totalled c =
    totalled c.args.line.now c.args.self.now c.args.comp.now c.args.body.now c.args.here (subst (λ (k : Kind). Suits Unlabelled k c.args.line.now.low) (ap (λ (t : Calls). t.kind) c.line.view_is) tt)
    (given_none c.line.inside.calls (length c.args.body.now) c.line.inside.comp.items c.args.line.now.given (ap (λ (t : Calls). t.given) c.line.view_is) c.requires.counted c.line.invariant.none_empty)

pub returns-clause-answer : goal.returns-clause-answer
returns-clause-answer c =
    answered c.within-answer.result c.next_total-total.result (total_of c.args.line.now c.args.body.now c.args.here)
    (walk_answer c.new-steps.result c.args.line.now c.args.comp.now c.args.body.now c.args.here c.self.inside.n_max c.self.inside.low c.self.inside.high c.next_total-total.result c.new-steps.ensures c.self.invariant.bounds
    (sym (ap (λ (t : Calls). t.kind) c.line.view_is))
    (c.requires.low ∙ sym (ap (λ (w : Walk). w.calls.low) c.self.view_is))
    (c.requires.high ∙ sym (ap (λ (w : Walk). w.calls.high) c.self.view_is))
    c.requires.counted c.requires.given
    (given_none c.line.inside.calls (length c.args.body.now) c.line.inside.comp.items c.args.line.now.given (ap (λ (t : Calls). t.given) c.line.view_is) c.requires.counted c.line.invariant.none_empty)
    (starts (length c.args.body.now) c.line.inside.comp.items c.args.line.now.given c.args.comp.now c.line.inside.calls c.line.invariant.none_empty (ap (λ (t : Calls). t.given) c.line.view_is) c.requires.counted c.requires.given)
    (none_empty c.args.body.now c.args.here c.requires.next.none_empty c.requires.next.here_empty) c.next_total-total.ensures.total)
    c.within-answer.ensures

pub returns-clause-kept : goal.returns-clause-kept
returns-clause-kept c =
    let n : c.self.inside.calls ≡ length c.args.body.now = calls_are c.self.inside.calls c.self.inside.n_max (length c.args.body.now) c.self.inside.body.items c.args.self.now.calls.given (ap (λ (w : Walk). w.calls.given) c.self.view_is) c.requires.next.sizes c.self.invariant.reached c.self.invariant.sums in
    let s = with_items_is c.self.inside.body c.next_total-total.new.sums (omega (arith, c.next_total-total.auto.sums, c.deref_mut-3.ensures.len)) in
    let k = with_items_is c.self.inside.comp c.next_total-total.new.kept (omega (arith, c.next_total-total.auto.kept, c.deref_mut-2.ensures.len)) in
    same_walk c.args.self.now Sequence c.self.inside.low c.self.inside.n_max c.self.inside.high _ _ _ _ _ _
    (ap (λ (w : Walk). w.calls.kind) c.self.view_is) (ap (λ (w : Walk). w.calls.low) c.self.view_is) (ap (λ (w : Walk). w.calls.high) c.self.view_is) (ap (λ (w : Walk). w.calls.n_max) c.self.view_is)
    (ap (take (c.self.inside.calls + 1)) s ∙ ap (λ m. take (m + 1) c.next_total-total.new.sums) n ∙ c.next_total-total.ensures.sums)
    c.is_err-self-inside.ensures.value
    (ap (take (c.self.inside.calls + 1 - 1)) k ∙ ap (λ m. take m c.next_total-total.new.kept) (let q : c.self.inside.calls + 1 - 1 ≡ length c.args.body.now = omega (arith, n) in q) ∙ c.next_total-total.ensures.kept)
