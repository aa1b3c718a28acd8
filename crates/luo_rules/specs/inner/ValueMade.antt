-- What making a value gives.
use Rattle.std.specs.Prelude.{◌≡◌, ℕ, ◌+◌, List, []}
use Rattle.luo_model.specs.declared.body.Body.{Body}
use Rattle.luo_model.specs.declared.value.Value.{Value}
use Rattle.luo_model.specs.Program as plain
use Rattle.luo_model.specs.Scopes.ValueBodies.{join_items, value_body, value_sites}
use Rattle.luo_model.specs.View.{value_of, body_of}
use Rattle.luo_rules.specs.declared.rule.Breach.{Breach}

-- a body with another after it
abbrev pub extended : plain.Body → plain.Body → plain.Body
extended (plain.Does own items) (plain.Does more_own more) =
    plain.Does (own + more_own) (join_items items more)

-- nothing is broken; the value is of this core form; what it charges, its calls and its cases stand
-- after the old body; and its sites are the next ones
pub record IsMade (breaches : List Breach) (core : plain.Value) (v : Value) (old new : Body)
    (first next : ℕ) : Type 0 where
  pub unbroken : breaches ≡ []
  pub formed : value_of v ≡ core
  pub behind : body_of new ≡ extended (body_of old) (value_body first core)
  pub numbered : next ≡ first + value_sites core
