use Rattle.std.proofs.Common.{sym}
use Rattle.luo_rules.proofs.SettingLemmas.{shape_at-none}
use Rattle.luo_rules.proofs.setting.Setting.shape.Goals as goal

pub returns-in-None-clause-none : goal.returns-in-None-clause-none
returns-in-None-clause-none c = shape_at-none c.args.self.now c.args.node (sym c.in-None.ensures.value)
