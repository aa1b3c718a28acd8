-- The pieces of a small list, by computation.
use Rattle.std.proofs.Common.{refl}
use Rattle.luo_audit.specs.Pieces.{piece_sums}
use Rattle.luo_audit.specs.Laws.{PiecesOfPermutations}

pub pieces-of_permutations : PiecesOfPermutations
unfolding piece_sums
pieces-of_permutations = (refl, refl, refl, refl)
