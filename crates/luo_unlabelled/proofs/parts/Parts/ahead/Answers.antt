use Rattle.std.proofs.Common.{ℕ, List, ◌*◌, ◌+◌, slice_index, ap, subst, ◌∙◌}
use Rattle.luo_model.specs.declared.program.Kind.{Kind}
use Rattle.luo_unlabelled.specs.Calls.{Calls, IsOfParts, ahead_of}
use Rattle.luo_unlabelled.proofs.PartCalls.{ahead_cell, ahead_counted, ahead_place, known_answer, unknown_answer}
use Rattle.luo_unlabelled.proofs.parts.Parts.ahead.Goals as goal

pub returns-then-number-le-MAX-clause-answer : goal.returns-then-number-le-MAX-clause-answer
returns-then-number-le-MAX-clause-answer c =
    known_answer c.cell-number.result (slice_index c.self.inside.cells.items (c.args.k * c.wide.result + c.args.m)) (ahead_of c.args.self.now c.args.k c.args.m) (c.cell-number.ensures ∙ ap (λ (l : List ℕ). slice_index l (c.args.k * c.wide.result + c.args.m)) c.deref.ensures.value)
    (ahead_cell c.args.self.now c.self.inside.frame.kind c.self.inside.frame.low c.self.inside.frame.n_max c.self.inside.calls c.self.inside.frame.high c.self.inside.comp.items c.self.inside.ways.items c.self.inside.cells.items c.wide.result c.args.k c.args.m c.self.invariant
    (ap (λ (t : Calls). t.kind) c.self.view_is) (ap (λ (t : Calls). t.high) c.self.view_is) (ap (λ (t : Calls). t.n_max) c.self.view_is) (ap (λ (t : Calls). t.given) c.self.view_is) c.requires.called c.requires.size c.requires.number c.requires.bounds c.wide.ensures)
    c.if-number-le-MAX.true

pub returns-else-number-le-MAX-clause-answer : goal.returns-else-number-le-MAX-clause-answer
returns-else-number-le-MAX-clause-answer c =
    unknown_answer c.cell-number.result (slice_index c.self.inside.cells.items (c.args.k * c.wide.result + c.args.m)) (ahead_of c.args.self.now c.args.k c.args.m) (c.cell-number.ensures ∙ ap (λ (l : List ℕ). slice_index l (c.args.k * c.wide.result + c.args.m)) c.deref.ensures.value)
    (ahead_cell c.args.self.now c.self.inside.frame.kind c.self.inside.frame.low c.self.inside.frame.n_max c.self.inside.calls c.self.inside.frame.high c.self.inside.comp.items c.self.inside.ways.items c.self.inside.cells.items c.wide.result c.args.k c.args.m c.self.invariant
    (ap (λ (t : Calls). t.kind) c.self.view_is) (ap (λ (t : Calls). t.high) c.self.view_is) (ap (λ (t : Calls). t.n_max) c.self.view_is) (ap (λ (t : Calls). t.given) c.self.view_is) c.requires.called c.requires.size c.requires.number c.requires.bounds c.wide.ensures)
    c.if-number-le-MAX.false

pub returns-then-number-le-MAX-clause-counted : goal.returns-then-number-le-MAX-clause-counted
returns-then-number-le-MAX-clause-counted c =
    ahead_counted c.args.self.now c.self.inside.calls c.args.k c.args.m c.self.inside.comp.items (subst (λ (k : Kind). IsOfParts k) (ap (λ (t : Calls). t.kind) c.self.view_is) c.self.invariant.parts) (ap (λ (t : Calls). t.given) c.self.view_is) c.self.invariant.none_empty

pub returns-else-number-le-MAX-clause-counted : goal.returns-else-number-le-MAX-clause-counted
returns-else-number-le-MAX-clause-counted c =
    ahead_counted c.args.self.now c.self.inside.calls c.args.k c.args.m c.self.inside.comp.items (subst (λ (k : Kind). IsOfParts k) (ap (λ (t : Calls). t.kind) c.self.view_is) c.self.invariant.parts) (ap (λ (t : Calls). t.given) c.self.view_is) c.self.invariant.none_empty

pub cell-number-requires : goal.cell-number-requires
cell-number-requires c =
    ahead_place c.args.self.now c.self.inside.frame.kind c.self.inside.frame.low c.self.inside.frame.n_max c.self.inside.calls c.self.inside.frame.high c.self.inside.comp.items c.self.inside.ways.items c.self.inside.cells.items c.deref.result.now c.wide.result c.args.k c.args.m c.self.invariant
    (ap (λ (t : Calls). t.high) c.self.view_is) (ap (λ (t : Calls). t.n_max) c.self.view_is) c.requires.size c.requires.number c.requires.bounds c.wide.ensures c.deref.ensures.value
