use Rattle.std.proofs.Common.{◌≡◌, ◌++◌, map, take}
use Rattle.luo_source.specs.View.{expr_of}
use Rattle.luo_types.proofs.definitions.put_copies.Given as goal

abbrev pub invariant-loop-name : goal.invariant-loop-name
invariant-loop-name l = l.all.items ≡ l.fn.all.items ++ map (λ name. record { name = name; right = expr_of l.def.body }) (take l.name-index l.name-items)
