-- A checked source has a program.
use Rattle.std.specs.Prelude.{◌≤◌}
use Rattle.std.proofs.Common.{subst}
use Rattle.luo_num.specs.declared.limits.TheConstants.{WALK_LIMIT}
use Rattle.luo_model.specs.Program.{Program}
use Rattle.luo_model.specs.Invariant.{IsProgram}
use Rattle.luo_source.specs.Plain.Source.{Source}
use Rattle.luo_rules.specs.Checks.{IsSource, IsChecked}
use Rattle.luo_rules.specs.Whole.{walk_count, core}
use Rattle.luo_rules.proofs.CoreIsProgram.{core_is_program}

pub checked_program : (source : Source) (p : Program) → IsSource source → IsChecked source p → IsProgram (core source)
checked_program source p is checked = core_is_program source is checked.0 checked.1.0 (subst (λ q. walk_count q ≤ WALK_LIMIT) checked.1.1 checked.2)
