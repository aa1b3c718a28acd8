-- How large the values of a program are.
use Rattle.std.specs.Prelude.{ℕ, suc, ◌+◌, List, [], ◌∷◌, Option, Some, None}
use Rattle.luo_model.specs.Program.{Program, Procedure, Result, Value, Tuple, Branch, Chosen, Values, no_values, value, ValueArms, no_value_arms, value_arm}

abbrev mutual
  -- the number of its values, and of the places for them
  pub value_size : Value → ℕ
  value_size (Tuple vs) = suc (values_size vs)
  value_size (Branch number v) = suc (value_size v)
  value_size (Chosen var arms) = suc (value_arms_size arms)
  value_size _ = 1

  pub values_size : Values → ℕ
  values_size no_values = 0
  values_size (value v vs) = suc (value_size v + values_size vs)

  pub value_arms_size : ValueArms → ℕ
  value_arms_size no_value_arms = 0
  value_arms_size (value_arm bind v arms) = suc (value_size v + value_arms_size arms)

abbrev pub result_size : Option Result → ℕ
result_size None = 0
result_size (Some r) = value_size r.value

abbrev pub results_size : List Procedure → ℕ
results_size [] = 0
results_size (P ∷ Ps) = result_size P.result + results_size Ps

-- no value of the program is larger
unfoldable pub largest : Program → ℕ
largest p = results_size p.procs
