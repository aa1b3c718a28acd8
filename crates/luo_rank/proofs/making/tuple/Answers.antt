use Rattle.std.proofs.Common.{refl}
use Rattle.luo_struct.proofs.ViewLemmas.{tuple_tree}
use Rattle.luo_struct.specs.declared.structure.Structure.{Tup}
use Rattle.luo_rank.proofs.making.tuple.Goals as goal

pub returns : goal.returns
returns c = tuple_tree (Tup c.args.parts) c.args.parts c.args.parts refl refl
