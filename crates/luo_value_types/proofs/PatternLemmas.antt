-- Where the check of a pattern stops.
use Rattle.std.proofs.Common.{◌≡◌, ◌++◌, true, false, List, [], ◌∷◌, refl, sym, ◌∙◌, ap, subst}
use Rattle.luo_source.specs.declared.names.Name.{Name}
use Rattle.luo_source.specs.declared.statements.Pattern.{Pattern}
use Rattle.luo_model.specs.Scopes.Stands.{Stand}
use Rattle.luo_rules.specs.declared.rule.Rule.TheVariants.{Y11}
use Rattle.luo_rules.specs.declared.rule.Stop.{Stop}
use Rattle.luo_rules.specs.declared.setting.Setting.{Setting}
use Rattle.luo_rules.specs.Breaches.{broken, StopsAt}
use Rattle.luo_rules.specs.Patterns.{fits, first_token, pattern_type_use, factor_names, repeated, misfit, pattern_breaches, variables}
use Rattle.luo_value_types.proofs.StopLemmas.{StopsAt-left, StopsAt-first, StopsAt-then, none-or_if_none}

module _ (s : Setting) (stand : Stand) (var : Name) (pattern : Pattern) where
  pub type_stops : (at : Stop) → StopsAt (pattern_type_use s pattern) at → StopsAt (pattern_breaches s stand var pattern) at
  type_stops at h = StopsAt-left _ _ at (StopsAt-first _ _ at h)

  pub misfit_stops : (at : Stop) → pattern_type_use s pattern ≡ [] → fits s stand pattern ≡ false → StopsAt (broken Y11 (first_token pattern) var.text) at → StopsAt (pattern_breaches s stand var pattern) at
  misfit_stops at e f h = StopsAt-left _ _ at (StopsAt-then _ _ at e (subst (λ b. StopsAt (misfit b pattern var) at) (sym f) h))

  no_misfit : pattern_type_use s pattern ≡ [] → fits s stand pattern ≡ true → pattern_breaches s stand var pattern ≡ repeated [] (factor_names pattern)
  no_misfit e f = ap (λ z. z ++ repeated [] (factor_names pattern)) (none-or_if_none _ _ e (ap (λ b. misfit b pattern var) f))

  pub repeats_stop : (at : Stop) → pattern_type_use s pattern ≡ [] → fits s stand pattern ≡ true → StopsAt (repeated [] (factor_names pattern)) at → StopsAt (pattern_breaches s stand var pattern) at
  repeats_stop at e f h = subst (λ z. StopsAt z at) (sym (no_misfit e f)) h

  pub pattern_none : pattern_type_use s pattern ≡ [] → fits s stand pattern ≡ true → repeated [] (factor_names pattern) ≡ [] → pattern_breaches s stand var pattern ≡ []
  pattern_none e f g = no_misfit e f ∙ g

pub ruleset pattern_steps = (type_stops, misfit_stops, repeats_stop, pattern_none)

-- no nodes, no variables
pub variables-none : (names : List Name) → variables names [] ≡ []
variables-none [] = refl
variables-none (name ∷ names) = refl

pub ruleset no_variables = (variables-none)
