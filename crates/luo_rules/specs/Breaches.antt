-- Lists of breaches, in text order.
use Rattle.std.specs.Prelude.{◌≡◌, ℕ, List, [], ◌∷◌}
use Rattle.luo_source.specs.declared.names.Name.{Name}
use Rattle.luo_rules.specs.declared.rule.Rule.{Rule}
use Rattle.luo_rules.specs.declared.rule.Breach.{Breach}
use Rattle.luo_rules.specs.declared.rule.Stop.TheVariants as stop
use Rattle.luo_rules.specs.declared.rule.Stop.{Stop}

-- the rule is broken at this token, about this
abbrev pub broken : Rule → ℕ → List ℕ → List Breach
broken rule token text = record { rule = rule; token = token; names = text ∷ [] } ∷ []

-- the rule is broken at this name, about it
abbrev pub broken_at : Rule → Name → List Breach
broken_at rule name = broken rule name.at name.text

-- the breaches of the first part, or where it has none those of what is spoken of only then
infixr 4 ◌or_if_none◌
abbrev pub ◌or_if_none◌ : List Breach → List Breach → List Breach
[] or_if_none rest = rest
(b ∷ bs) or_if_none rest = b ∷ bs

-- a check over these breaches stops at the first, or memory was refused
abbrev pub StopsAt : List Breach → Stop → Type 0
StopsAt bs (stop.Breach b) = (rest : List Breach) × (bs ≡ b ∷ rest)
StopsAt bs stop.NoMemory = Unit {0}
