use Rattle.std.proofs.Common.{sym, ◌∙◌}
use Rattle.luo_rules.proofs.laws.core_form_is_unique.Goals as goal

pub returns : goal.returns
returns c = λ source p q is_p is_q. is_p.1 ∙ sym is_q.1
