use Rattle.luo_audit.proofs.laws.pieces_of_permutations.Goals as goal
use Rattle.luo_audit.proofs.FactLemmas.{pieces-of_permutations}

pub returns : goal.returns
returns c = pieces-of_permutations
