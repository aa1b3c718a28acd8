-- What making parts and arms of values gives.
use Rattle.std.specs.Prelude.{◌≡◌, ℕ, ◌+◌, List, []}
use Rattle.luo_model.specs.declared.body.Arm.{Arm}
use Rattle.luo_model.specs.declared.body.Body.{Body}
use Rattle.luo_model.specs.declared.value.Value.{Value}
use Rattle.luo_model.specs.declared.value.ValueArm.{ValueArm}
use Rattle.luo_model.specs.Program as plain
use Rattle.luo_model.specs.Scopes.ValueBodies.{values_own, values_sites, values_items, value_arms_sites, value_arm_bodies}
use Rattle.luo_model.specs.Lists.{arm_list, value_list, value_arm_list}
use Rattle.luo_model.specs.View.{value_of, body_of}
use Rattle.luo_rules.specs.declared.rule.Breach.{Breach}
use Rattle.luo_rules.specs.inner.ValueMade.{extended}

-- parts are made, as a value is
pub record AreMade (breaches : List Breach) (core : plain.Values) (vs : List Value) (old new : Body)
    (first next : ℕ) : Type 0 where
  pub unbroken : breaches ≡ []
  pub formed : value_list vs ≡ core
  pub behind : body_of new
      ≡ extended (body_of old) (plain.Does (values_own core) (values_items first core))
  pub numbered : next ≡ first + values_sites core

-- arms are made: those of the value, and those of the body, whose sites are the next ones
pub record ArmsAreMade (breaches : List Breach) (core : plain.ValueArms) (values : List ValueArm)
    (bodies : List Arm) (first next : ℕ) : Type 0 where
  pub unbroken : breaches ≡ []
  pub formed : value_arm_list values ≡ core
  pub bodied : arm_list bodies ≡ value_arm_bodies first core
  pub numbered : next ≡ first + value_arms_sites core

-- an arm is made
pub record ArmIsMade (breaches : List Breach) (core : plain.ValueArms) (value : ValueArm)
    (body : Arm) (first next : ℕ) : Type 0 where
  pub unbroken : breaches ≡ []
  pub formed : plain.value_arm value.bind (value_of value.value) plain.no_value_arms ≡ core
  pub bodied : plain.arm body.bind (body_of body.body) plain.no_arms ≡ value_arm_bodies first core
  pub numbered : next ≡ first + value_arms_sites core
