-- The breaches of a value, in text order.
use Rattle.std.specs.Prelude.{ℕ, zero, suc, List, [], ◌∷◌, ◌++◌, map, Option, Some, None, is_some, Bool, true, false, not, nat_eq, if◌then◌else◌, codes, decimal}
use Rattle.luo_source.specs.declared.names.Name.{Name}
use Rattle.luo_source.specs.Plain.Values.{SourceValue, Given, Made, Atom, Tuple, Branch, Case, SourceValues, no_source_values, a_source_value, SourceValueArms, no_source_value_arms, a_source_value_arm}
use Rattle.luo_model.specs.declared.program.Part.{Part}
use Rattle.luo_model.specs.declared.program.Shape.{Shape}
use Rattle.luo_model.specs.declared.program.Shape.TheVariants as shape
use Rattle.luo_model.specs.Scopes.Stands.{Stand, factors}
use Rattle.luo_rules.specs.declared.rule.Breach.{Breach}
use Rattle.luo_rules.specs.declared.rule.Rule.TheVariants.{Y13, Y15}
use Rattle.luo_rules.specs.declared.setting.Setting.{Setting}
use Rattle.luo_rules.specs.declared.setting.Variable.{Variable}
use Rattle.luo_rules.specs.Breaches.{broken, broken_at, ◌or_if_none◌}
use Rattle.luo_rules.specs.Meanings.{measure_use, procedure_use}
use Rattle.luo_rules.specs.Settings.{meant, signature_meant, shape_at, found, argument_breaches, case_stands}
use Rattle.luo_rules.specs.Patterns.{bound, arm_breaches, case_breaches, has_factors}

-- a structure of this node where another is expected; what isn't known is expected to be nothing
abbrev pub differs : Option ℕ → ℕ → Bool
differs None node = false
differs (Some expected) node = not (nat_eq node expected)

-- a variable that is handed on: it is bound, and of the node that is expected
abbrev pub given_breaches : Option (ℕ × Part) → Option ℕ → Name → List Breach
given_breaches None expected name = broken_at Y13 name
given_breaches (Some variable) expected name =
    if differs expected variable.1.node then broken_at Y15 name else []

-- a callee has a result of the node that is expected, where both are known
abbrev pub result_breaches : Option ℕ → Option (Option ℕ) → Name → List Breach
result_breaches None result name = []
result_breaches (Some expected) None name = broken_at Y15 name
result_breaches (Some expected) (Some None) name = []
result_breaches (Some expected) (Some (Some node)) name =
    if differs (Some expected) node then broken_at Y15 name else []

abbrev pub charge_use : Setting → Option Name → List Breach
charge_use s None = []
charge_use s (Some measure) = measure_use (meant s measure) measure

abbrev pub is_atom : Shape → Bool
is_atom (shape.Atom weight) = true
is_atom _ = false

-- the construct may stand where this node is expected, if any is
abbrev pub may_stand : Setting → Option ℕ → (Shape → Bool) → Bool
may_stand s None test = true
may_stand s (Some expected) test = test (shape_at s expected)

-- the nodes of the factors where a tuple of so many parts is expected, and none where it isn't
abbrev pub part_nodes : Setting → Option ℕ → ℕ → List ℕ
part_nodes s None k = []
part_nodes s (Some expected) k =
    if has_factors k (shape_at s expected) then map (λ part. part.node)
    (factors (shape_at s expected))
    else []

-- the node of a part
abbrev pub branch_at : List Part → ℕ → Option ℕ
branch_at [] number = None
branch_at (part ∷ parts) zero = None
branch_at (part ∷ parts) (suc zero) = Some part.node
branch_at (part ∷ parts) (suc (suc i)) = branch_at parts (suc i)

-- the node of this branch of a union, counted from 1
abbrev pub branch_of : Shape → ℕ → Option ℕ
branch_of (shape.Union parts) number = branch_at parts number
branch_of _ number = None

abbrev pub has_branch : ℕ → Shape → Bool
has_branch number form = is_some (branch_of form number)

-- the node inside a branch of this number, where a union with such a branch is expected
abbrev pub inner_node : Setting → Option ℕ → ℕ → Option ℕ
inner_node s None number = None
inner_node s (Some expected) number = branch_of (shape_at s expected) number

-- a construct at this token of a value, of this text, may not stand here
abbrev pub misplaced : Bool → ℕ → List ℕ → List Breach
misplaced true token text = []
misplaced false token text = broken Y15 token text

abbrev pub count_values : SourceValues → ℕ
count_values no_source_values = 0
count_values (a_source_value v rest) = suc (count_values rest)

abbrev pub count_value_arms : SourceValueArms → ℕ
count_value_arms no_source_value_arms = 0
count_value_arms (a_source_value_arm pattern body rest) = suc (count_value_arms rest)

abbrev mutual
  -- the breaches of a value in a scope, where a structure of this node is expected
  pub value_breaches : Setting → List Variable → Option ℕ → SourceValue → List Breach
  value_breaches s scope expected (Given name) = given_breaches (found scope name) expected name
  value_breaches s scope expected (Made callee arg) =
      (procedure_use (meant s callee) callee
      or_if_none result_breaches expected (signature_meant s (meant s callee)).result callee)
      ++ argument_breaches (found scope arg) (signature_meant s (meant s callee)).on arg callee
  value_breaches s scope expected (Atom charge at) =
      charge_use s charge ++ misplaced (may_stand s expected is_atom) at (codes "atom")
  value_breaches s scope expected (Tuple parts at) =
      misplaced (may_stand s expected (has_factors (count_values parts))) at (codes "product")
      ++ values_breaches s scope (part_nodes s expected (count_values parts)) parts
  value_breaches s scope expected (Branch number at inner) =
      misplaced (may_stand s expected (has_branch number)) at (decimal number)
      ++ value_breaches s scope (inner_node s expected number) inner
  value_breaches s scope expected (Case var arms) =
      case_breaches s (found scope var) var (count_value_arms arms)
      (value_arms_breaches s (case_stands s (found scope var)) expected var arms)

  -- the breaches of parts, of which these nodes are expected, and nothing of further ones
  pub values_breaches : Setting → List Variable → List ℕ → SourceValues
      → List Breach
  values_breaches s scope nodes no_source_values = []
  values_breaches s scope [] (a_source_value v rest) =
      value_breaches s scope None v ++ values_breaches s scope [] rest
  values_breaches s scope (node ∷ nodes) (a_source_value v rest) =
      value_breaches s scope (Some node) v ++ values_breaches s scope nodes rest

  -- those of arms that stand for these, in a case on this variable
  pub value_arms_breaches : Setting → List Stand → Option ℕ → Name → SourceValueArms → List Breach
  value_arms_breaches s stands expected var no_source_value_arms = []
  value_arms_breaches s [] expected var (a_source_value_arm pattern body rest) = []
  value_arms_breaches s (stand ∷ stands) expected var (a_source_value_arm pattern body rest) =
      arm_breaches s stand var pattern (value_breaches s (bound s stand pattern) expected body)
      ++ value_arms_breaches s stands expected var rest
