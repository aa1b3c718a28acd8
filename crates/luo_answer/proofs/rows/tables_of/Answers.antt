use Rattle.std.proofs.Common.{◌∙◌, ap, subst, arith}
use Rattle.std.proofs.lemmas.List.{length-map}
use Rattle.luo_finite.specs.Listing.{In}
use Rattle.luo_finite.proofs.Membership.{In-at}
use Rattle.luo_model.specs.View.{Held, plain_of, procedure_of}
use Rattle.luo_model.specs.Invariant.{IsProgram}
use Rattle.luo_answer.proofs.OneReport.{tables_named}
use Rattle.luo_answer.proofs.RowLemmas.{tables-step}
use Rattle.luo_answer.proofs.rows.tables_of.Goals as goal

pub table_of-requires-clause-there : goal.table_of-requires-clause-there
table_of-requires-clause-there c =
    let q = subst (λ (h : Held). IsProgram (plain_of h)) c.program.view_is c.program.invariant in
    let there = subst (In _) (c.as_slice-f-items.ensures ∙ ap (λ (h : Held). h.analyses) c.program.view_is) (In-at c.as_slice-f-items.result.now c.loop-f.f-index 0 c.loop-f-test.true) in
    omega (arith, q.analyses_there _ there, length-map c.args.program.now.procs procedure_of)

pub loop-f-preserved : goal.loop-f-preserved
loop-f-preserved c =
    tables-step (plain_of c.args.program.now) c.args.last c.loop-f.f-index c.as_slice-f-items.result.now c.in_ok-table_of.field-0 c.loop-f.tables c.push.new.self
    c.loop-f-test.true c.loop-f.invariant c.in_ok-table_of.ensures c.in_ok-push.ensures.ok

pub returns-clause-named : goal.returns-clause-named
returns-clause-named c = λ t i.
    let q = subst (λ (h : Held). IsProgram (plain_of h)) c.program.view_is c.program.invariant in
    let listed = c.as_slice-f-items.ensures ∙ ap (λ (h : Held). h.analyses) c.program.view_is in
    omega (
      arith,
      tables_named (plain_of c.args.program.now) q c.args.last c.loop-f.f-index c.as_slice-f-items.result.now listed c.loop-f.tables c.loop-f.invariant t i,
      length-map c.args.program.now.procs procedure_of,
    )
