use Rattle.std.proofs.Common.{ap, ◌∙◌, ◌↔◌, ℕ, length, arith, subst, refl, slice_get, Some, ◌≡◌}
use Rattle.std.proofs.lemmas.Option.{slice_get_read}
use Rattle.luo_finite.specs.Listing.{In}
use Rattle.luo_model.specs.declared.program.Proc.{Proc}
use Rattle.luo_model.specs.View.{Held, plain_of, item_list}
use Rattle.luo_model.specs.Invariant.{IsProgram}
use Rattle.luo_founded.proofs.CallsGraph.{calls_graph}
use Rattle.luo_model.specs.Founded.{CallsAmong}
use Rattle.luo_finite.proofs.Gathered.{gives_more}
use Rattle.luo_founded.proofs.calls.own_calls.Goals as goal

pub loop-procedure-preserved : goal.loop-procedure-preserved
loop-procedure-preserved c =
    gives_more (λ (P : Proc) g. CallsAmong g (item_list P.body.items)) c.args.program.now.procs c.loop-procedure.procedure-index c.procedure-item.result c.in_ok-called.field-0 c.loop-procedure.edges _
    (subst (λ procs. slice_get procs c.loop-procedure.procedure-index ≡ Some c.procedure-item.result) (c.as_slice-procedure-items.ensures ∙ ap (λ (h : Held). h.procs) c.program.view_is)
    (slice_get_read c.as_slice-procedure-items.result.now _ _ c.procedure-item.result refl c.loop-procedure-test.true c.procedure-item.is))
    (subst (λ is. (g : ℕ) → In g c.in_ok-called.field-0 ↔ CallsAmong g (item_list is)) c.as_slice.ensures c.in_ok-called.ensures) c.in_ok-push.ensures.ok c.loop-procedure.invariant

pub returns : goal.returns
returns c = calls_graph c.args.program.now (subst (λ (h : Held). IsProgram (plain_of h)) c.program.view_is c.program.invariant) c.loop-procedure.procedure-index c.loop-procedure.edges c.loop-procedure.invariant
    (omega (arith, c.loop-procedure-test.false, c.loop-procedure.auto.procedure-index-end, ap length (c.as_slice-procedure-items.ensures ∙ ap (λ (h : Held). h.procs) c.program.view_is)))
