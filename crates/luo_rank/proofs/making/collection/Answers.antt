use Rattle.std.proofs.Common.{refl}
use Rattle.luo_struct.proofs.ViewLemmas.{collection_tree}
use Rattle.luo_struct.specs.declared.structure.Structure.{Coll}
use Rattle.luo_rank.proofs.making.collection.Goals as goal

pub returns : goal.returns
returns c = collection_tree (Coll c.args.parts) c.args.parts c.args.parts refl refl
