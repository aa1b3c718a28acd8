-- Lists of the code, as plain data.
use Rattle.std.specs.Prelude.{List, [], ◌∷◌}
use Rattle.luo_model.specs.declared.body.Arm.{Arm}
use Rattle.luo_model.specs.declared.value.Value.{Value}
use Rattle.luo_model.specs.declared.value.ValueArm.{ValueArm}
use Rattle.luo_model.specs.Program as plain
use Rattle.luo_model.specs.View.{body_of, value_of}

abbrev pub arm_list : List Arm → plain.Arms
arm_list [] = plain.no_arms
arm_list (a ∷ arms) = plain.arm a.bind (body_of a.body) (arm_list arms)

abbrev pub value_list : List Value → plain.Values
value_list [] = plain.no_values
value_list (v ∷ vs) = plain.value (value_of v) (value_list vs)

abbrev pub value_arm_list : List ValueArm → plain.ValueArms
value_arm_list [] = plain.no_value_arms
value_arm_list (a ∷ arms) = plain.value_arm a.bind (value_of a.value) (value_arm_list arms)
