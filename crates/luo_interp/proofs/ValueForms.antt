-- A value that code has taken apart, as plain data of what it holds.
use Rattle.std.proofs.Common.{◌≡◌, ℕ, List, ap, ◌∙◌, sym}
use Rattle.luo_model.specs.declared.value.ValueArm.{ValueArm}
use Rattle.luo_model.specs.declared.value.Value.{Value}
use Rattle.luo_model.specs.declared.value.Value as made
use Rattle.luo_model.specs.Program as plain
use Rattle.luo_model.specs.Lists.{value_list, value_arm_list}
use Rattle.luo_model.specs.View.{value_of}
use Rattle.luo_model.proofs.ViewLemmas.{tuple_value, branch_value, case_value}

pub tuple_form : (v : Value) (vs same : List Value) → v ≡ made.Tuple vs → same ≡ vs → value_of v ≡ plain.Tuple (value_list same)
tuple_form v vs same e f = ap value_of e ∙ tuple_value vs ∙ ap (λ z. plain.Tuple (value_list z)) (sym f)

pub branch_form : (v : Value) (number : ℕ) (inner same : Value) → v ≡ made.Branch number inner → same ≡ inner → value_of v ≡ plain.Branch number (value_of same)
branch_form v number inner same e f = ap value_of e ∙ branch_value number inner ∙ ap (λ z. plain.Branch number (value_of z)) (sym f)

pub case_form : (v : Value) (var : ℕ) (arms same : List ValueArm) → v ≡ made.Case var arms → same ≡ arms → value_of v ≡ plain.Chosen var (value_arm_list same)
case_form v var arms same e f = ap value_of e ∙ case_value var arms ∙ ap (λ z. plain.Chosen var (value_arm_list z)) (sym f)
