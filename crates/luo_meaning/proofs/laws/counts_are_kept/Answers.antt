use Rattle.std.proofs.Common.{◌↔◌, ℕ, ◌<◌, length, sym, subst}
use Rattle.luo_model.specs.Program.{Program}
use Rattle.luo_model.specs.Tables.{IsCount}
use Rattle.luo_meaning.specs.Over.{HasCount}
use Rattle.luo_meaning.proofs.OverKept.{counts_kept}
use Rattle.luo_meaning.proofs.laws.counts_are_kept.Goals as goal

pub returns : goal.returns
returns c = λ source p is core n v.
    subst (λ (q : Program). ((x : ℕ) × (x < length q.nodes) × IsCount q x n v) ↔ HasCount source n v) (sym core.1) (counts_kept source is core.0 n v)
