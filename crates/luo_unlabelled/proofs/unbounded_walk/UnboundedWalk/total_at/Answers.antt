use Rattle.std.proofs.lemmas.List.{with_items_is}
use Rattle.std.proofs.Common.{◌≡◌, ◌≤◌, ◌+◌, ◌-◌, ℕ, take, length, ap, sym, ◌∙◌, arith, subst}
use Rattle.luo_model.specs.declared.program.Kind.{Kind}
use Rattle.luo_unlabelled.specs.Calls.{Calls, Walk, IsOfParts, total_of}
use Rattle.luo_unlabelled.proofs.CallLemmas.{totalled, starts, given_none, answered, calls_are, same_walk}
use Rattle.luo_unlabelled.proofs.PartCalls.{suits_parts}
use Rattle.luo_unlabelled.proofs.SizeCalls.{two_alone, ways_serve_row, row_serves, row_total, idle_below, next_row_walk}
use Rattle.luo_unlabelled.proofs.unbounded_walk.UnboundedWalk.total_at.Goals as goal

pub next_total-total-requires-clause-known : goal.next_total-total-requires-clause-known
next_total-total-requires-clause-known c =
    let m : c.table.inside.n_max ≡ c.self.inside.n_max = ap (λ (t : Calls). t.n_max) c.table.view_is ∙ c.requires.n_max ∙ sym (ap (λ (w : Walk). w.calls.n_max) c.self.view_is) in
    ways_serve_row c.table.inside.kind c.self.inside.kind c.table.inside.low c.table.inside.n_max c.table.inside.calls (length c.args.body.now) _ c.table.inside.comp.items c.table.inside.ways.items c.table.inside.cells.items c.args.table.now.given c.args.comp.now c.deref-2.result.now c.table.invariant
    (ap (λ (t : Calls). t.kind) c.table.view_is ∙ c.requires.kind ∙ sym (ap (λ (w : Walk). w.calls.kind) c.self.view_is))
    (omega (arith, m, ap length c.deref_mut.ensures.value, c.self.invariant.row))
    (ap (λ (t : Calls). t.given) c.table.view_is) c.requires.counted c.requires.given c.deref-2.ensures.value

pub next_total-total-requires-clause-counted : goal.next_total-total-requires-clause-counted
next_total-total-requires-clause-counted c =
    let m : c.table.inside.n_max ≡ c.self.inside.n_max = ap (λ (t : Calls). t.n_max) c.table.view_is ∙ c.requires.n_max ∙ sym (ap (λ (w : Walk). w.calls.n_max) c.self.view_is) in
    row_serves c.table.inside.kind c.self.inside.kind c.table.inside.low c.table.inside.n_max c.table.inside.calls (length c.args.body.now) _ c.table.inside.comp.items c.table.inside.ways.items c.table.inside.cells.items c.args.table.now.given c.args.comp.now c.deref.result.now c.table.invariant
    (ap (λ (t : Calls). t.kind) c.table.view_is ∙ c.requires.kind ∙ sym (ap (λ (w : Walk). w.calls.kind) c.self.view_is))
    (omega (arith, m, ap length c.deref_mut.ensures.value, c.self.invariant.row))
    (ap (λ (t : Calls). t.given) c.table.view_is) c.requires.counted c.requires.given c.deref.ensures.value

pub next_total-total-requires-clause-idle : goal.next_total-total-requires-clause-idle
next_total-total-requires-clause-idle c = idle_below c.args.table.now.given c.args.comp.now c.args.body.now c.args.here c.requires.given c.requires.idle

pub returns-clause-totalled : goal.returns-clause-totalled
returns-clause-totalled c =
    totalled c.args.table.now c.args.self.now c.args.comp.now c.args.body.now c.args.here (suits_parts c.args.table.now.kind c.args.table.now.low (subst (λ (k : Kind). IsOfParts k) (ap (λ (t : Calls). t.kind) c.table.view_is) c.table.invariant.parts))
    (given_none c.table.inside.calls (length c.args.body.now) c.table.inside.comp.items c.args.table.now.given (ap (λ (t : Calls). t.given) c.table.view_is) c.requires.counted c.table.invariant.none_empty)

pub returns-clause-answer : goal.returns-clause-answer
returns-clause-answer c =
    answered c.within-answer.result c.next_total-total.result (total_of c.args.table.now c.args.body.now c.args.here)
    (row_total c.args.table.now c.self.inside.kind c.args.comp.now c.args.body.now c.args.here c.next_total-total.result
    (subst (λ (k : Kind). IsOfParts k) (ap (λ (t : Calls). t.kind) c.table.view_is) c.table.invariant.parts)
    (subst (λ (l : ℕ). l ≤ 2) (ap (λ (t : Calls). t.low) c.table.view_is) c.table.invariant.any)
    (two_alone c.args.self.now.calls c.args.table.now.low c.args.here (ap (λ (w : Walk). w.calls.high) c.self.view_is) c.requires.low c.requires.next.here_alone)
    (sym (ap (λ (t : Calls). t.high) c.table.view_is))
    (ap (λ (w : Walk). w.calls.kind) c.self.view_is ∙ sym c.requires.kind)
    c.requires.counted c.requires.given
    (given_none c.table.inside.calls (length c.args.body.now) c.table.inside.comp.items c.args.table.now.given (ap (λ (t : Calls). t.given) c.table.view_is) c.requires.counted c.table.invariant.none_empty)
    (starts (length c.args.body.now) c.table.inside.comp.items c.args.table.now.given c.args.comp.now c.table.inside.calls c.table.invariant.none_empty (ap (λ (t : Calls). t.given) c.table.view_is) c.requires.counted c.requires.given)
    c.requires.next.none_empty c.requires.next.here_empty c.requires.idle c.next_total-total.ensures.total)
    c.within-answer.ensures

pub invariant_of-self : goal.invariant_of-self
invariant_of-self c =
    next_row_walk c.self.inside.kind c.self.inside.low c.self.inside.n_max c.self.inside.calls (length c.args.body.now) _ c.self.inside.comp.items c.self.inside.body.items c.self.inside.charges.items c.self.inside.cells.items
    c.next_total-total.new.kept c.next_total-total.new.sums c.next_total-total.new.charges c.next_total-total.new.cells _ _ _ _ c.self.invariant
    (calls_are c.self.inside.calls c.self.inside.n_max (length c.args.body.now) c.self.inside.body.items c.args.self.now.calls.given (ap (λ (w : Walk). w.calls.given) c.self.view_is) c.requires.next.sizes c.self.invariant.reached c.self.invariant.sums)
    (omega (arith, c.requires.next.reached, c.requires.next.sizes, ap (λ (w : Walk). w.calls.n_max) c.self.view_is))
    (with_items_is c.self.inside.comp c.next_total-total.new.kept (omega (arith, c.next_total-total.auto.kept, c.deref_mut-3.ensures.len)))
    (with_items_is c.self.inside.body c.next_total-total.new.sums (omega (arith, c.next_total-total.auto.sums, c.deref_mut-4.ensures.len)))
    (with_items_is c.self.inside.charges c.next_total-total.new.charges (omega (arith, c.next_total-total.auto.charges, c.deref_mut-2.ensures.len)))
    (with_items_is c.self.inside.cells c.next_total-total.new.cells (omega (arith, c.next_total-total.auto.cells, c.deref_mut.ensures.len)))
    (omega (arith, c.next_total-total.auto.kept, ap length c.deref_mut-3.ensures.value))
    (omega (arith, c.next_total-total.auto.sums, ap length c.deref_mut-4.ensures.value))
    (omega (arith, c.next_total-total.auto.charges, ap length c.deref_mut-2.ensures.value))
    (omega (arith, c.next_total-total.auto.cells, ap length c.deref_mut.ensures.value))
    c.next_total-total.ensures.none_empty c.next_total-total.ensures.none_charged
    (omega (arith, ap length c.deref_mut.ensures.value, c.self.invariant.row)) c.next_total-total.ensures.holds

pub returns-clause-kept : goal.returns-clause-kept
returns-clause-kept c =
    let n : c.self.inside.calls ≡ length c.args.body.now = calls_are c.self.inside.calls c.self.inside.n_max (length c.args.body.now) c.self.inside.body.items c.args.self.now.calls.given (ap (λ (w : Walk). w.calls.given) c.self.view_is) c.requires.next.sizes c.self.invariant.reached c.self.invariant.sums in
    let s = with_items_is c.self.inside.body c.next_total-total.new.sums (omega (arith, c.next_total-total.auto.sums, c.deref_mut-4.ensures.len)) in
    let k = with_items_is c.self.inside.comp c.next_total-total.new.kept (omega (arith, c.next_total-total.auto.kept, c.deref_mut-3.ensures.len)) in
    same_walk c.args.self.now c.self.inside.kind c.self.inside.low c.self.inside.n_max _ _ _ _ _ _ _
    (ap (λ (w : Walk). w.calls.kind) c.self.view_is) (ap (λ (w : Walk). w.calls.low) c.self.view_is) (ap (λ (w : Walk). w.calls.high) c.self.view_is) (ap (λ (w : Walk). w.calls.n_max) c.self.view_is)
    (ap (take (c.self.inside.calls + 1)) s ∙ ap (λ m. take (m + 1) c.next_total-total.new.sums) n ∙ c.next_total-total.ensures.sums)
    c.is_err-self-inside.ensures.value
    (ap (take (c.self.inside.calls + 1 - 1)) k ∙ ap (λ m. take m c.next_total-total.new.kept) (let q : c.self.inside.calls + 1 - 1 ≡ length c.args.body.now = omega (arith, n) in q) ∙ c.next_total-total.ensures.kept)
