use Rattle.std.proofs.Common.{◌≡◌, length}
use Rattle.luo_model.specs.View.{plain_of}
use Rattle.luo_engine.specs.inner.Collections.{AreUnasked}
use Rattle.luo_engine.proofs.collecting.collections_of.Given as goal

abbrev pub invariant-loop-x : goal.invariant-loop-x
invariant-loop-x l = (length l.tables.items ≡ l.x) × AreUnasked (plain_of l.program) l.n_max l.tables.items l.x
