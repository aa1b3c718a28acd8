use Rattle.std.proofs.Common.{◌≡◌}
use Rattle.luo_model.specs.Structures.{labels_from}
use Rattle.luo_rank.proofs.ranker.labels_to.Given as goal

abbrev pub invariant-loop-k : goal.invariant-loop-k
invariant-loop-k l = l.labels ≡ labels_from 1 l.k
