use Rattle.std.proofs.Common.{sym}
use Rattle.luo_rules.proofs.SettingLemmas.{signature-none}
use Rattle.luo_rules.proofs.setting.Setting.signature.Goals as goal

pub returns-in-None : goal.returns-in-None
returns-in-None c = sym (signature-none c.args.self.now c.args.procedure (sym c.in-None.ensures.value))
