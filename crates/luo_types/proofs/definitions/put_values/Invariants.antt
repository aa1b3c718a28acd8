use Rattle.std.proofs.Common.{◌≡◌, ◌++◌, map, take}
use Rattle.luo_types.proofs.definitions.put_values.Given as goal

abbrev pub invariant-loop-name : goal.invariant-loop-name
invariant-loop-name l = l.all.items ≡ l.fn.all.items ++ map (λ name. (name, l.def.value)) (take l.name-index l.name-items)
