use Rattle.std.proofs.Common.{◌↔◌, sym, subst}
use Rattle.luo_model.specs.Program.{Program}
use Rattle.luo_meaning.specs.Over.{HasOver}
use Rattle.luo_meaning.specs.Laws.{IsOver}
use Rattle.luo_meaning.proofs.OverKept.{over_kept}
use Rattle.luo_meaning.proofs.CheckedSource.{checked_program}
use Rattle.luo_meaning.proofs.laws.over_is_kept.Goals as goal

pub returns : goal.returns
returns c = λ source p is checked most last.
    subst (λ (q : Program). IsOver q most last ↔ HasOver source most last) (sym checked.1.1) (over_kept source is checked.1.0 (checked_program source p is checked) most last)
