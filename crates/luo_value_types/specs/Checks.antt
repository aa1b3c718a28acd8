-- What a check answers.
use Rattle.std.specs.Prelude.{◌≡◌, List, [], Result, IfOk, IfErr, OnOk}
use Rattle.luo_rules.specs.declared.rule.Breach.{Breach}
use Rattle.luo_rules.specs.declared.rule.Stop.{Stop}
use Rattle.luo_rules.specs.Breaches.{StopsAt}

-- nothing is broken and this holds of the answer, or the check stops at the head of what is broken
abbrev pub Checks : {V : Type 0} → List Breach → Result V Stop → (V → Type 0) → Type 0
Checks bs result P = OnOk result (bs ≡ []) × (IfOk result P × IfErr result (StopsAt bs))
