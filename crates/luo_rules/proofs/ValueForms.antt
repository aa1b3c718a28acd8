-- Values of the code whose parts and arms are in a list or a box.
use Rattle.std.proofs.Common.{◌≡◌, ℕ, suc, List, [], ◌∷◌, ◌++◌, Option, refl, ap, ◌∙◌, length, codes, decimal}
use Rattle.luo_source.specs.declared.names.Name.{Name}
use Rattle.luo_source.specs.declared.values.SourceValueArm.{SourceValueArm}
use Rattle.luo_source.specs.declared.values.SourceValue.{SourceValue, Tuple, Branch, Case}
use Rattle.luo_source.specs.View.{source_value_of, source_value_list, source_value_arm_list}
use Rattle.luo_source.proofs.ViewLemmas.{tuple_value, branch_value, case_value}
use Rattle.luo_model.specs.Program as plain
use Rattle.luo_rules.specs.declared.setting.Setting.{Setting}
use Rattle.luo_rules.specs.declared.setting.Variable.{Variable}
use Rattle.luo_rules.specs.Settings.{found, place_of, case_stands}
use Rattle.luo_rules.specs.Patterns.{case_breaches, has_factors}
use Rattle.luo_rules.specs.Statements.{value_statements, values_statements, value_arms_statements}
use Rattle.luo_rules.specs.ValueBreaches.{value_breaches, values_breaches, value_arms_breaches, misplaced, may_stand, part_nodes, has_branch, inner_node, count_values, count_value_arms}
use Rattle.luo_rules.specs.ValueCore.{value_core, values_core, value_arms_core}

pub values_counted : (vs : List SourceValue) → count_values (source_value_list vs) ≡ length vs
values_counted [] = refl
values_counted (v ∷ vs) = ap suc (values_counted vs)

pub value_arms_counted : (arms : List SourceValueArm) → count_value_arms (source_value_arm_list arms) ≡ length arms
value_arms_counted [] = refl
value_arms_counted (a ∷ arms) = ap suc (value_arms_counted arms)

module _ (s : Setting) (scope : List Variable) (expected : Option ℕ) where
  -- tuples
  pub tuple_breaches : (parts : List SourceValue) (at : ℕ) → value_breaches s scope expected (source_value_of (Tuple parts at))
      ≡ misplaced (may_stand s expected (has_factors (length parts))) at (codes "product") ++ values_breaches s scope (part_nodes s expected (length parts)) (source_value_list parts)
  tuple_breaches parts at =
      ap (value_breaches s scope expected) (tuple_value parts at)
      ∙ ap (λ k. misplaced (may_stand s expected (has_factors k)) at (codes "product") ++ values_breaches s scope (part_nodes s expected k) (source_value_list parts)) (values_counted parts)

  pub tuple_core : (parts : List SourceValue) (at : ℕ) → value_core s scope expected (source_value_of (Tuple parts at)) ≡ plain.Tuple (values_core s scope (part_nodes s expected (length parts)) (source_value_list parts))
  tuple_core parts at =
      ap (value_core s scope expected) (tuple_value parts at) ∙ ap (λ k. plain.Tuple (values_core s scope (part_nodes s expected k) (source_value_list parts))) (values_counted parts)

  -- branches
  pub branch_breaches : (number at : ℕ) (inner : SourceValue) → value_breaches s scope expected (source_value_of (Branch number at inner))
      ≡ misplaced (may_stand s expected (has_branch number)) at (decimal number) ++ value_breaches s scope (inner_node s expected number) (source_value_of inner)
  branch_breaches number at inner = ap (value_breaches s scope expected) (branch_value number at inner)

  pub branch_core : (number at : ℕ) (inner : SourceValue) → value_core s scope expected (source_value_of (Branch number at inner)) ≡ plain.Branch number (value_core s scope (inner_node s expected number) (source_value_of inner))
  branch_core number at inner = ap (value_core s scope expected) (branch_value number at inner)

  -- cases
  pub case_value_breaches : (var : Name) (arms : List SourceValueArm) → value_breaches s scope expected (source_value_of (Case var arms))
      ≡ case_breaches s (found scope var) var (length arms) (value_arms_breaches s (case_stands s (found scope var)) expected var (source_value_arm_list arms))
  case_value_breaches var arms =
      ap (value_breaches s scope expected) (case_value var arms)
      ∙ ap (λ k. case_breaches s (found scope var) var k (value_arms_breaches s (case_stands s (found scope var)) expected var (source_value_arm_list arms))) (value_arms_counted arms)

  pub case_core : (var : Name) (arms : List SourceValueArm) → value_core s scope expected (source_value_of (Case var arms))
      ≡ plain.Chosen (place_of (found scope var)) (value_arms_core s (case_stands s (found scope var)) expected (source_value_arm_list arms))
  case_core var arms = ap (value_core s scope expected) (case_value var arms)

pub tuple_statements : (parts : List SourceValue) (at : ℕ) → value_statements (source_value_of (Tuple parts at)) ≡ values_statements (source_value_list parts)
tuple_statements parts at = ap value_statements (tuple_value parts at)

pub branch_statements : (number at : ℕ) (inner : SourceValue) → value_statements (source_value_of (Branch number at inner)) ≡ value_statements (source_value_of inner)
branch_statements number at inner = ap value_statements (branch_value number at inner)

pub case_statements : (var : Name) (arms : List SourceValueArm) → value_statements (source_value_of (Case var arms)) ≡ suc (value_arms_statements (source_value_arm_list arms))
case_statements var arms = ap value_statements (case_value var arms)
