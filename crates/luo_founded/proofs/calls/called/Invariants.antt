use Rattle.luo_model.specs.declared.body.Item.{Item}
use Rattle.luo_founded.proofs.CallsGraph.{IsCallOf}
use Rattle.luo_finite.proofs.Gathered.{Gathers}
use Rattle.luo_founded.proofs.calls.called.Given as goal

abbrev pub invariant-loop-item : goal.invariant-loop-item
invariant-loop-item l = Gathers (λ k (i : Item) g. IsCallOf g i) l.items l.item-index l.called
