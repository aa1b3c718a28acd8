use Rattle.std.proofs.Common.{ap, ◌∙◌, [], List, map, flat_map}
use Rattle.luo_model.specs.declared.program.Proc.{Proc}
use Rattle.luo_model.specs.View.{Held, plain_of, procedure_of}
use Rattle.luo_engine.specs.inner.Laying.{lay_all, recipes_of_procedure}
use Rattle.luo_engine.proofs.LayLoops.{procs_next, procs_end}
use Rattle.luo_engine.proofs.sites.sites_laid.Goals as goal

pub loop-procedure-preserved : goal.loop-procedure-preserved
loop-procedure-preserved c = procs_next (plain_of c.args.program.now) c.args.starts.now c.as_slice-procs.result.now (record { tasks = []; links = [] }) c.loop-procedure.procedure-index c.procedure-item.result c.as_slice-items.result.now c.loop-procedure.laid c.lay_items.new.laid c.lay_body.new.laid c.loop-procedure-test.true c.procedure-item.is c.as_slice-items.ensures c.in_ok-lay_items.ensures c.in_ok-lay_body.ensures c.loop-procedure.invariant

pub returns : goal.returns
returns c =
    procs_end (plain_of c.args.program.now) c.args.starts.now c.as_slice-procs.result.now (record { tasks = []; links = [] }) c.loop-procedure.procedure-index c.loop-procedure.laid c.loop-procedure-test.false c.loop-procedure.invariant
    ∙ ap (λ (ps : List Proc). lay_all c.args.starts.now (record { tasks = []; links = [] }) (flat_map (recipes_of_procedure (plain_of c.args.program.now)) (map procedure_of ps))) (c.as_slice-procs.ensures ∙ ap (λ (h : Held). h.procs) c.program.view_is)
