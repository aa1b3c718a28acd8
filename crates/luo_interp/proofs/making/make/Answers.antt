use Rattle.std.proofs.Common.{◌≡◌, length, sym, subst, ap, ◌∙◌}
use Rattle.std.specs.Prelude.{IfOk}
use Rattle.luo_model.specs.Founded.{IsFounded}
use Rattle.luo_model.specs.Invariant.{IsProgram}
use Rattle.luo_model.specs.View.{Held, plain_of}
use Rattle.luo_struct.specs.View.{tree_of}
use Rattle.luo_interp.specs.Makes.{Makes}
use Rattle.luo_interp.specs.Takes.{TakesForResult}
use Rattle.luo_interp.proofs.Outcomes.{ok_other}
use Rattle.luo_interp.proofs.ChargeSteps.{ending, all_left}
use Rattle.luo_interp.proofs.MakeLaws.{each_makes_one}
use Rattle.luo_interp.proofs.making.make.Goals as goal

pub procedure_makes-requires-clause-ends : goal.procedure_makes-requires-clause-ends
procedure_makes-requires-clause-ends c =
    ending (plain_of c.program-program.result.now) (subst (λ (h : Held). IsProgram (plain_of h)) c.program.view_is c.program.invariant)
    (subst (λ (h : Held). IsFounded (plain_of h)) (sym c.program-program.ensures.same) c.program-program.ensures.founded)

pub procedure_makes-requires-clause-short : goal.procedure_makes-requires-clause-short
procedure_makes-requires-clause-short c =
    all_left c.program-program.result.now c.len.result (c.len.ensures ∙ ap (λ (h : Held). length h.procs) c.program.view_is)
    (subst (λ (h : Held). IsFounded (plain_of h)) (sym c.program-program.ensures.same) c.program-program.ensures.founded).no_endless c.args.callee

pub returns : goal.returns
returns c =
    let same = c.program-program.ensures.same ∙ c.requires.same in
    let p = plain_of c.program-program.result.now in
    let there = subst (λ (h : Held). TakesForResult (plain_of h) c.args.callee (tree_of c.args.s.now)) (sym same) c.requires.there in
    let founded = subst (λ (h : Held). IsFounded (plain_of h)) (sym c.program-program.ensures.same) c.program-program.ensures.founded in
    let x = each_makes_one p (subst (λ (h : Held). IsProgram (plain_of h)) c.program.view_is c.program.invariant) founded c.args.callee there.0 there.1 there.2 there.3 (tree_of c.args.s.now) there.4 in
    subst (λ (h : Held). IfOk c.procedure_makes.result (λ made. Makes (plain_of h) c.args.callee (tree_of c.args.s.now) (tree_of made))) same
    (ok_other c.procedure_makes.result (λ made. tree_of made ≡ x.0) (λ made. Makes p c.args.callee (tree_of c.args.s.now) (tree_of made)) (λ made e. subst (Makes p c.args.callee (tree_of c.args.s.now)) (sym e) x.1) (c.procedure_makes.ensures x.0 x.1))
