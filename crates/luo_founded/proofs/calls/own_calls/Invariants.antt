use Rattle.luo_model.specs.declared.program.Proc.{Proc}
use Rattle.luo_model.specs.View.{item_list}
use Rattle.luo_model.specs.Founded.{CallsAmong}
use Rattle.luo_finite.proofs.Gathered.{EachGives}
use Rattle.luo_founded.proofs.calls.own_calls.Given as goal

abbrev pub invariant-loop-procedure : goal.invariant-loop-procedure
invariant-loop-procedure l = EachGives (λ (P : Proc) g. CallsAmong g (item_list P.body.items)) l.program.procs l.procedure-index l.edges
