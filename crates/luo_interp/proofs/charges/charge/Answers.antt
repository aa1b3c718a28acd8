use Rattle.std.proofs.Common.{◌≤◌, ◌<◌, ℕ, length, sym, subst, ap, ◌∙◌}
use Rattle.luo_num.specs.declared.TheConstants.{MAX}
use Rattle.luo_model.specs.Charges.{Charges}
use Rattle.luo_model.specs.Founded.{IsFounded}
use Rattle.luo_model.specs.Invariant.{IsProgram}
use Rattle.luo_model.specs.View.{Held, plain_of}
use Rattle.luo_struct.specs.View.{tree_of}
use Rattle.luo_interp.specs.Takes.{Takes}
use Rattle.luo_interp.proofs.ChargeSteps.{ending, all_left, right_charge, over_charge}
use Rattle.luo_interp.proofs.charges.charge.Goals as goal

pub procedure_charge-charge-requires-clause-ends : goal.procedure_charge-charge-requires-clause-ends
procedure_charge-charge-requires-clause-ends c =
    ending (plain_of c.program-program.result.now) (subst (λ (h : Held). IsProgram (plain_of h)) c.program.view_is c.program.invariant)
    (subst (λ (h : Held). IsFounded (plain_of h)) (sym c.program-program.ensures.same) c.program-program.ensures.founded)

pub procedure_charge-charge-requires-clause-short : goal.procedure_charge-charge-requires-clause-short
procedure_charge-charge-requires-clause-short c =
    all_left c.program-program.result.now c.len.result (c.len.ensures ∙ ap (λ (h : Held). length h.procs) c.program.view_is)
    (subst (λ (h : Held). IsFounded (plain_of h)) (sym c.program-program.ensures.same) c.program-program.ensures.founded).no_endless c.args.callee

pub returns-then-charge-le-MAX : goal.returns-then-charge-le-MAX
returns-then-charge-le-MAX c =
    let same = c.program-program.ensures.same ∙ c.requires.same in
    let q = c.procedure_charge-charge.result in
    subst (λ (h : Held). Charges (plain_of h) c.args.callee (tree_of c.args.s.now) q × (q ≤ MAX)) same
    (right_charge (plain_of c.program-program.result.now)
    (ending (plain_of c.program-program.result.now) (subst (λ (h : Held). IsProgram (plain_of h)) c.program.view_is c.program.invariant)
    (subst (λ (h : Held). IsFounded (plain_of h)) (sym c.program-program.ensures.same) c.program-program.ensures.founded))
    c.args.callee (tree_of c.args.s.now) (subst (λ (h : Held). Takes (plain_of h) c.args.callee (tree_of c.args.s.now)) (sym same) c.requires.there)
    q c.procedure_charge-charge.ensures c.if-charge-le-MAX.true)

pub returns-else-charge-le-MAX : goal.returns-else-charge-le-MAX
returns-else-charge-le-MAX c =
    let same = c.program-program.ensures.same ∙ c.requires.same in
    subst (λ (h : Held). (q : ℕ) × Charges (plain_of h) c.args.callee (tree_of c.args.s.now) q × (MAX < q)) same
    (over_charge (plain_of c.program-program.result.now)
    (ending (plain_of c.program-program.result.now) (subst (λ (h : Held). IsProgram (plain_of h)) c.program.view_is c.program.invariant)
    (subst (λ (h : Held). IsFounded (plain_of h)) (sym c.program-program.ensures.same) c.program-program.ensures.founded))
    c.args.callee (tree_of c.args.s.now) (subst (λ (h : Held). Takes (plain_of h) c.args.callee (tree_of c.args.s.now)) (sym same) c.requires.there)
    c.procedure_charge-charge.result c.procedure_charge-charge.ensures c.if-charge-le-MAX.false)
