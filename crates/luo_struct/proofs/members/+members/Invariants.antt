use Rattle.luo_model.specs.View.{plain_of}
use Rattle.luo_struct.proofs.MemberLemmas.{FactorsFrom, ComponentsFrom}
use Rattle.luo_struct.proofs.members.+members.Given as goal

abbrev pub invariant-are_components-loop-part : goal.invariant-are_components-loop-part
invariant-are_components-loop-part l = ComponentsFrom (plain_of l.program) l.component l.parts l.part-index

abbrev pub invariant-are_factors-loop-place : goal.invariant-are_factors-loop-place
invariant-are_factors-loop-place l = FactorsFrom (plain_of l.program) l.factors l.parts l.place
