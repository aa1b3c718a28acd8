use Rattle.std.proofs.Common.{◌^◌, ◌-◌, min, arith, sym, ap, ◌∙◌}
use Rattle.luo_model.specs.Tree.{size_of}
use Rattle.luo_struct.proofs.ViewLemmas.{tuple_tree, collection_tree, branch_tree}
use Rattle.luo_struct.proofs.SizeLemmas.{sizes-take}
use Rattle.luo_struct.proofs.structure.+sizes.Goals as goal

pub Structure::size-returns-in-Inj : goal.Structure::size-returns-in-Inj
Structure::size-returns-in-Inj t c = c.size.ensures ∙ ap (λ t. min (size_of t) (2 ^ 64 - 1)) (sym (branch_tree c.args.self.now c.in-Inj.branch c.in-Inj.inner c.get.result.now c.in-Inj.is c.get.ensures))

pub Structure::size-returns-in-Tup : goal.Structure::size-returns-in-Tup
Structure::size-returns-in-Tup t c = c.sum_of_sizes.ensures ∙ ap (λ t. min (size_of t) (2 ^ 64 - 1)) (sym (tuple_tree c.args.self.now c.in-Tup.parts c.as_slice.result.now c.in-Tup.is c.as_slice.ensures))

pub Structure::size-returns-in-Coll : goal.Structure::size-returns-in-Coll
Structure::size-returns-in-Coll t c = c.sum_of_sizes-in-Coll.ensures ∙ ap (λ t. min (size_of t) (2 ^ 64 - 1)) (sym (collection_tree c.args.self.now c.in-Coll.parts c.as_slice-in-Coll.result.now c.in-Coll.is c.as_slice-in-Coll.ensures))

pub sum_of_sizes-loop-part-preserved : goal.sum_of_sizes-loop-part-preserved
sum_of_sizes-loop-part-preserved t c = omega (arith, sizes-take _ _ _ c.loop-part-test.true c.part-item.is)
