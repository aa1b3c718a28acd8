-- The body that a value gives: what it charges, its items and its sites.
use Rattle.std.proofs.Common.{ℕ, suc, ◌+◌, ◌*◌, ◌≤◌, List, [], ◌∷◌, Option, Some, None, arith}
use Rattle.std.proofs.Math.Nat.{add-mul}
use Rattle.luo_num.specs.declared.limits.TheConstants.{NUMBER_LIMIT, STATEMENT_LIMIT}
use Rattle.luo_model.specs.declared.program.Part.{Part}
use Rattle.luo_model.specs.Program.{Program, Value, Given, Made, Atom, Tuple, Branch, Chosen, Values, no_values, value, ValueArms, no_value_arms, value_arm, shape_of}
use Rattle.luo_model.specs.Scopes.Stands.{Stand, stands, bound_parts}
use Rattle.luo_model.specs.Scopes.Fits.{FitsValue, FitsValues, FitsValueArms}
use Rattle.luo_model.specs.Scopes.ValueBodies.{value_own, values_own, value_sites, values_sites, value_arms_sites, value_items, values_items, value_arm_bodies}
use Rattle.luo_model.specs.Scopes.Walks.{items_in, arms_in}
use Rattle.luo_source.specs.Plain.Values as val
use Rattle.luo_source.specs.Plain.Values.{SourceValue, SourceValues, no_source_values, a_source_value, SourceValueArms, no_source_value_arms, a_source_value_arm}
use Rattle.luo_rules.specs.declared.setting.Setting.{Setting}
use Rattle.luo_rules.specs.declared.setting.Variable.{Variable}
use Rattle.luo_rules.specs.Statements.{value_statements, values_statements, value_arms_statements}
use Rattle.luo_rules.specs.Settings.{found, case_stands}
use Rattle.luo_rules.specs.Patterns.{bound}
use Rattle.luo_rules.specs.ValueBreaches.{part_nodes, inner_node, count_values}
use Rattle.luo_rules.specs.ValueCore.{value_core, values_core, value_arms_core}
use Rattle.luo_rules.proofs.GoodItems.{GoodItems, GoodArms, good_none, good_join, good_call, good_case, good_no_arms, good_arm, own_within, join_in}

abbrev mutual
  -- each atom, variable handed on, call and case counts one
  pub value_size : Value → ℕ
  value_size (Given var) = 1
  value_size (Made var callee) = 1
  value_size (Atom weight own) = 1
  value_size (Tuple vs) = values_size vs
  value_size (Branch number v) = value_size v
  value_size (Chosen var arms) = suc (value_arms_size arms)

  pub values_size : Values → ℕ
  values_size no_values = 0
  values_size (value v vs) = value_size v + values_size vs

  pub value_arms_size : ValueArms → ℕ
  value_arms_size no_value_arms = 0
  value_arms_size (value_arm bind v arms) = value_size v + value_arms_size arms

mutual
  own_bound : (p : Program) (vars : List Part) (expected : ℕ) (v : Value) → FitsValue p vars expected v → value_own v ≤ value_size v * NUMBER_LIMIT
  own_bound p vars expected (Given var) h = omega arith
  own_bound p vars expected (Made var callee) h = omega arith
  own_bound p vars expected (Atom weight own) h = omega (arith, h.1)
  own_bound p vars expected (Tuple vs) h = owns_bound p vars _ vs h.1
  own_bound p vars expected (Branch number v) h = own_bound p vars _ v h.6
  own_bound p vars expected (Chosen var arms) h = omega arith

  owns_bound : (p : Program) (vars parts : List Part) (vs : Values) → FitsValues p vars parts vs → values_own vs ≤ values_size vs * NUMBER_LIMIT
  owns_bound p vars [] no_values h = omega arith
  owns_bound p vars (x ∷ parts) no_values h = absurd h
  owns_bound p vars [] (value v vs) h = absurd h
  owns_bound p vars (x ∷ parts) (value v vs) h = omega (arith, own_bound p vars x.node v h.0, owns_bound p vars parts vs h.1, add-mul (value_size v) (values_size vs) NUMBER_LIMIT)

-- what a value charges is within the limit, where it is small
pub value_within : (p : Program) (vars : List Part) (expected : ℕ) (v : Value) → FitsValue p vars expected v → value_size v ≤ STATEMENT_LIMIT → value_own v ≤ STATEMENT_LIMIT * NUMBER_LIMIT
value_within p vars expected v h l = own_within (value_own v) (value_size v) NUMBER_LIMIT (own_bound p vars expected v h) l

mutual
  pub value_good : (p : Program) (vars : List Part) (expected first : ℕ) (v : Value) → FitsValue p vars expected v → value_size v ≤ STATEMENT_LIMIT → GoodItems p vars first (value_sites v) (value_items first v)
  value_good p vars expected first (Given var) h l = good_none p vars first
  value_good p vars expected first (Made var callee) h l = good_call p vars var callee first (h.0, h.2, h.3, h.4, h.5)
  value_good p vars expected first (Atom weight own) h l = good_none p vars first
  value_good p vars expected first (Tuple vs) h l = values_good p vars _ first vs h.1 l
  value_good p vars expected first (Branch number v) h l = value_good p vars _ first v h.6 l
  value_good p vars expected first (Chosen var arms) h l = good_case p vars var h.0 first (value_arms_sites arms) (value_arm_bodies first arms) h.1 h.2 (value_arms_good p (stands h.0 (shape_of p h.0.node)) expected first arms h.3 (omega arith))

  values_good : (p : Program) (vars parts : List Part) (first : ℕ) (vs : Values) → FitsValues p vars parts vs → values_size vs ≤ STATEMENT_LIMIT → GoodItems p vars first (values_sites vs) (values_items first vs)
  values_good p vars [] first no_values h l = good_none p vars first
  values_good p vars (x ∷ parts) first no_values h l = absurd h
  values_good p vars [] first (value v vs) h l = absurd h
  values_good p vars (x ∷ parts) first (value v vs) h l =
      good_join p vars first (value_sites v) (values_sites vs) (value_items first v) (values_items (first + value_sites v) vs) (value_good p vars x.node first v h.0 (omega arith)) (values_good p vars parts (first + value_sites v) vs h.1 (omega arith))

  value_arms_good : (p : Program) (ss : List Stand) (expected first : ℕ) (arms : ValueArms) → FitsValueArms p ss expected arms → value_arms_size arms ≤ STATEMENT_LIMIT → GoodArms p ss first (value_arms_sites arms) (value_arm_bodies first arms)
  value_arms_good p [] expected first no_value_arms h l = good_no_arms p first
  value_arms_good p (stand ∷ ss) expected first no_value_arms h l = absurd h
  value_arms_good p [] expected first (value_arm bind v arms) h l = absurd h
  value_arms_good p (stand ∷ ss) expected first (value_arm bind v arms) h l =
      good_arm p stand ss bind (value_own v) first (value_sites v) (value_arms_sites arms) (value_items first v) (value_arm_bodies (first + value_sites v) arms) h.0
      (value_within p (bound_parts p stand bind) expected v h.1 (omega arith)) (value_good p (bound_parts p stand bind) expected first v h.1 (omega arith)) (value_arms_good p ss expected (first + value_sites v) arms h.2 (omega arith))

mutual
  -- a value has no more items than it is large
  pub items_few : (first : ℕ) (v : Value) → items_in (value_items first v) ≤ value_size v
  items_few first (Given var) = omega arith
  items_few first (Made var callee) = omega arith
  items_few first (Atom weight own) = omega arith
  items_few first (Tuple vs) = values_few first vs
  items_few first (Branch number v) = items_few first v
  items_few first (Chosen var arms) = omega (arith, arms_few first arms)

  values_few : (first : ℕ) (vs : Values) → items_in (values_items first vs) ≤ values_size vs
  values_few first no_values = omega arith
  values_few first (value v vs) = omega (arith, join_in (value_items first v) (values_items (first + value_sites v) vs), items_few first v, values_few (first + value_sites v) vs)

  arms_few : (first : ℕ) (arms : ValueArms) → arms_in (value_arm_bodies first arms) ≤ value_arms_size arms
  arms_few first no_value_arms = omega arith
  arms_few first (value_arm bind v arms) = omega (arith, items_few first v, arms_few (first + value_sites v) arms)

module _ (s : Setting) where
  mutual
    -- the core form of a value is no larger than its statements
    pub core_small : (scope : List Variable) (expected : Option ℕ) (v : SourceValue) → value_size (value_core s scope expected v) ≤ value_statements v
    core_small scope expected (val.Given name) = omega arith
    core_small scope expected (val.Made callee arg) = omega arith
    core_small scope expected (val.Atom charge at) = omega arith
    core_small scope expected (val.Tuple parts at) = cores_small scope (part_nodes s expected (count_values parts)) parts
    core_small scope expected (val.Branch number at inner) = core_small scope (inner_node s expected number) inner
    core_small scope expected (val.Case var arms) = omega (arith, arms_small (case_stands s (found scope var)) expected arms)

    cores_small : (scope : List Variable) (nodes : List ℕ) (row : SourceValues) → values_size (values_core s scope nodes row) ≤ values_statements row
    cores_small scope nodes no_source_values = omega arith
    cores_small scope [] (a_source_value v rest) = omega (arith, core_small scope None v, cores_small scope [] rest)
    cores_small scope (x ∷ nodes) (a_source_value v rest) = omega (arith, core_small scope (Some x) v, cores_small scope nodes rest)

    arms_small : (ss : List Stand) (expected : Option ℕ) (row : SourceValueArms) → value_arms_size (value_arms_core s ss expected row) ≤ value_arms_statements row
    arms_small ss expected no_source_value_arms = omega arith
    arms_small [] expected (a_source_value_arm pattern body rest) = omega arith
    arms_small (stand ∷ ss) expected (a_source_value_arm pattern body rest) = omega (arith, core_small (bound s stand pattern) expected body, arms_small ss expected rest)
