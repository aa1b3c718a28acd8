-- The breaches of the callee of a call where a structure of this node is expected.
use Rattle.std.specs.Prelude.{ℕ, List, Some}
use Rattle.luo_source.specs.declared.names.Name.{Name}
use Rattle.luo_rules.specs.declared.rule.Breach.{Breach}
use Rattle.luo_rules.specs.declared.setting.Setting.{Setting}
use Rattle.luo_rules.specs.Breaches.{◌or_if_none◌}
use Rattle.luo_rules.specs.Meanings.{procedure_use}
use Rattle.luo_rules.specs.Settings.{meant, signature_meant}
use Rattle.luo_rules.specs.ValueBreaches.{result_breaches}

abbrev pub callee_breaches : Setting → ℕ → Name → List Breach
callee_breaches s e callee =
    procedure_use (meant s callee) callee
    or_if_none result_breaches (Some e) (signature_meant s (meant s callee)).result callee
