-- How the logic stores a definition.
use Rattle.std.proofs.Common.{ℕ, List, refl, ap}
use Rattle.std.specs.Coded.{Coded, code_by, coded×, coded_list, coded_ℕ}
use Rattle.luo_source.specs.contracts.types.TypeExpr as expr
use Rattle.luo_source.specs.declared.names.Name.{Name}
use Rattle.luo_source.specs.declared.types.TypeExpr.{TypeExpr}
use Rattle.luo_source.specs.View.{expr_of, held_expr}
use Rattle.luo_source.proofs.ViewLemmas.{held-shown}
use Rattle.luo_rules.specs.Definitions.{Definition}

abbrev pub coded_name : Coded Name
coded_name =
    code_by (List ℕ × ℕ) (coded× (coded_list coded_ℕ) coded_ℕ) (λ n. (n.text, n.at))
    (λ p. record { text = p.0; at = p.1 }) (λ _. refl)

abbrev pub coded_pair : Coded (Name × TypeExpr)
coded_pair = coded× coded_name expr.the_row.coded

-- as its name, and the type expression that the code holds
abbrev pub coded_definition : Coded Definition
coded_definition =
    code_by (Name × TypeExpr) coded_pair (λ d. (d.name, held_expr d.right))
    (λ p. record { name = p.0; right = expr_of p.1 })
    (λ d. ap (λ e. let x : Definition = record { name = d.name; right = e } in x)
    (held-shown d.right))
