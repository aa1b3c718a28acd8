use Rattle.std.proofs.Common.{◌↔◌, ℕ, ◌<◌, length, sym, subst}
use Rattle.luo_model.specs.Program.{Program}
use Rattle.luo_model.specs.Tables.{IsTotal}
use Rattle.luo_meaning.specs.Over.{HasTotal}
use Rattle.luo_meaning.proofs.OverKept.{totals_kept}
use Rattle.luo_meaning.proofs.CheckedSource.{checked_program}
use Rattle.luo_meaning.proofs.laws.totals_are_kept.Goals as goal

pub returns : goal.returns
returns c = λ source p is checked n t.
    subst (λ (q : Program). ((i : ℕ) × (i < length q.sites) × IsTotal q i n t) ↔ HasTotal source n t) (sym checked.1.1) (totals_kept source is checked.1.0 (checked_program source p is checked) n t)
