-- The body that a value gives: what its atoms are charged, and its calls and cases.
use Rattle.std.specs.Prelude.{ℕ, ◌+◌}
use Rattle.luo_model.specs.Program.{Body, Does, Items, no_items, item, Call, Case, Arms, no_arms, arm, Value, Made, Atom, Tuple, Branch, Chosen, Values, no_values, value, ValueArms, no_value_arms, value_arm}

-- items one after another
abbrev pub join_items : Items → Items → Items
join_items no_items more = more
join_items (item i is) more = item i (join_items is more)

abbrev mutual
  -- what the atoms of a value's own scope are charged
  pub value_own : Value → ℕ
  value_own (Atom weight own) = own
  value_own (Tuple vs) = values_own vs
  value_own (Branch number v) = value_own v
  value_own _ = 0

  pub values_own : Values → ℕ
  values_own no_values = 0
  values_own (value v vs) = value_own v + values_own vs

abbrev mutual
  -- the number of sites of a value: its calls and cases
  pub value_sites : Value → ℕ
  value_sites (Made var callee) = 1
  value_sites (Tuple vs) = values_sites vs
  value_sites (Branch number v) = value_sites v
  value_sites (Chosen var arms) = value_arms_sites arms + 1
  value_sites _ = 0

  pub values_sites : Values → ℕ
  values_sites no_values = 0
  values_sites (value v vs) = value_sites v + values_sites vs

  pub value_arms_sites : ValueArms → ℕ
  value_arms_sites no_value_arms = 0
  value_arms_sites (value_arm bind v arms) = value_sites v + value_arms_sites arms

abbrev mutual
  -- the calls and cases of a value's own scope, with sites from this number on
  pub value_items : ℕ → Value → Items
  value_items first (Made var callee) = item (Call var callee first) no_items
  value_items first (Tuple vs) = values_items first vs
  value_items first (Branch number v) = value_items first v
  value_items first (Chosen var arms) =
      item (Case var (value_arm_bodies first arms) (first + value_arms_sites arms)) no_items
  value_items first _ = no_items

  pub values_items : ℕ → Values → Items
  values_items first no_values = no_items
  values_items first (value v vs) =
      join_items (value_items first v) (values_items (first + value_sites v) vs)

  pub value_arm_bodies : ℕ → ValueArms → Arms
  value_arm_bodies first no_value_arms = no_arms
  value_arm_bodies first (value_arm bind v arms) =
      arm bind (Does (value_own v) (value_items first v))
      (value_arm_bodies (first + value_sites v) arms)

-- the body that a value gives, with sites from this number on
abbrev pub value_body : ℕ → Value → Body
value_body first v = Does (value_own v) (value_items first v)
