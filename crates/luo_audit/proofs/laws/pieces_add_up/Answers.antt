use Rattle.std.proofs.Common.{ℕ, List, length, ap, sym, ◌∙◌}
use Rattle.luo_audit.proofs.Cuts.{sums_long, all_pieces, pieces_add_up}
use Rattle.luo_audit.proofs.laws.pieces_add_up.Goals as goal

pub returns : goal.returns
returns c = λ xs workers l. (ap (λ (sums : List ℕ). length sums) (sym (all_pieces xs workers)) ∙ sums_long xs workers 0 workers, pieces_add_up xs workers l)
