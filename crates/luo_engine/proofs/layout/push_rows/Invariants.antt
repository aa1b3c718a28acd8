use Rattle.std.proofs.Common.{◌≡◌, ◌++◌, map, take, Some}
use Rattle.luo_engine.proofs.layout.push_rows.Given as goal

abbrev pub invariant-loop-part : goal.invariant-loop-part
invariant-loop-part l = l.factors ≡ l.fn.factors ++ map (λ part. Some part.node) (take l.part-index l.parts)
