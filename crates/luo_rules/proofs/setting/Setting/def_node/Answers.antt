use Rattle.std.proofs.Common.{sym}
use Rattle.luo_rules.proofs.SettingLemmas.{def_node-none}
use Rattle.luo_rules.proofs.setting.Setting.def_node.Goals as goal

pub returns-in-None : goal.returns-in-None
returns-in-None c = sym (def_node-none c.args.self.now c.args.definition (sym c.in-None.ensures.value))
