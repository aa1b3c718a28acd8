use Rattle.std.proofs.Common.{◌+◌, refl, sym}
use Rattle.luo_struct.proofs.ViewLemmas.{branch_tree}
use Rattle.luo_struct.specs.declared.structure.Structure.{Inj}
use Rattle.luo_rank.proofs.making.inject.Goals as goal

pub returns : goal.returns
returns c = branch_tree (Inj (c.args.branch + 1) c.in_ok-inner.inner) (c.args.branch + 1) c.in_ok-inner.inner c.args.inner refl (sym c.in_ok-inner.ensures)
