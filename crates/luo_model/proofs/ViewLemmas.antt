-- Items and values of the code whose parts are in a list or a box, as plain data.
use Rattle.std.proofs.Common.{◌≡◌, ℕ, List, refl, ap, ◌∙◌, sym}
use mathlib.Core.Former.{Count}
use denote.Hole.Carrier.{hidden}
use Rattle.luo_model.specs.declared.body.Arm.{Arm}
use Rattle.luo_model.specs.declared.body.Body.{Body}
use Rattle.luo_model.specs.declared.body.Item.{Item, Row_of-Item, end_of-Item, more_of-Item, items-the_row-Item, items_shown-the_row-Item-0, items_hidden-the_row-Item-0, Row_of-Arm, end_of-Arm, more_of-Arm, items-the_row-Arm, items_hidden-the_row-Arm-1}
use Rattle.luo_model.specs.declared.body.Item as done
use Rattle.luo_model.specs.declared.value.ValueArm.{ValueArm}
use Rattle.luo_model.specs.declared.value.Value.{Value, Row_of-Value, end_of-Value, more_of-Value, items-the_row-Value, items_hidden-the_row-Value-0, Row_of-ValueArm, end_of-ValueArm, more_of-ValueArm, items-the_row-ValueArm, items_hidden-the_row-ValueArm-2}
use Rattle.luo_model.specs.declared.value.Value as made
use Rattle.luo_model.specs.Program as plain
use Rattle.luo_model.specs.View.{body_of, item_of, item_list, items_of, arms_of, value_of, values_of, value_arms_of}
use Rattle.luo_model.specs.Lists.{arm_list, value_list, value_arm_list}

abbrev arms_in : Item → (k : Count) × Row_of-Arm k
arms_in (done.Case' _ _ row _) = (_, row)
arms_in _ = (_, end_of-Arm)

abbrev items_in : Item → (k : Count) × Row_of-Item k
items_in (done.Forall' _ _ _ row _ _) = (_, row)
items_in _ = (_, end_of-Item)

items_row : (k : _) (row : Row_of-Item k) → items_of row ≡ item_list (items-the_row-Item k row)
items_row k end_of-Item = refl
items_row k (more_of-Item i rest) = ap (plain.item (item_of i)) (items_row _ rest)

arms_row : (k : _) (row : Row_of-Arm k) → arms_of row ≡ arm_list (items-the_row-Arm k row)
arms_row k end_of-Arm = refl
arms_row k (more_of-Arm bind own shape items rest) =
    ap (λ z. plain.arm bind (plain.Does own z) (arms_of rest)) (items_row _ items ∙ ap item_list (sym (items_shown-the_row-Item-0 shape items)))
    ∙ ap (plain.arm bind (plain.Does own (item_list (Rattle.luo_model.specs.declared.body.Item.TheBlock.shown-the_row-Item-0 shape items)))) (arms_row _ rest)

pub case_item : (var : ℕ) (arms : List Arm) (site : ℕ) → item_of (done.Case var arms site) ≡ plain.Case var (arm_list arms) site
case_item var arms site =
    let row = arms_in (done.Case var arms site) in
    ap (λ z. plain.Case var z site) (arms_row row.0 row.1 ∙ ap arm_list (items_hidden-the_row-Arm-1 arms))

pub walk_item : (var : ℕ) (body : Body) (body_site site : ℕ) → item_of (done.Forall var body body_site site) ≡ plain.Forall var (body_of body) body_site site
walk_item var body body_site site =
    let row = items_in (done.Forall var body body_site site) in
    ap (λ is. plain.Forall var (plain.Does body.own is) body_site site) (items_row row.0 row.1 ∙ ap item_list (items_hidden-the_row-Item-0 body.items))

abbrev values_in : Value → (k : Count) × Row_of-Value k
values_in (made.Tuple' _ row) = (_, row)
values_in _ = (_, end_of-Value)

abbrev value_arms_in : Value → (k : Count) × Row_of-ValueArm k
value_arms_in (made.Case' _ _ row) = (_, row)
value_arms_in _ = (_, end_of-ValueArm)

values_row : (k : _) (row : Row_of-Value k) → values_of row ≡ value_list (items-the_row-Value k row)
values_row k end_of-Value = refl
values_row k (more_of-Value v rest) = ap (plain.value (value_of v)) (values_row _ rest)

value_arms_row : (k : _) (row : Row_of-ValueArm k) → value_arms_of row ≡ value_arm_list (items-the_row-ValueArm k row)
value_arms_row k end_of-ValueArm = refl
value_arms_row k (more_of-ValueArm bind v rest) = ap (plain.value_arm bind (value_of v)) (value_arms_row _ rest)

pub tuple_value : (vs : List Value) → value_of (made.Tuple vs) ≡ plain.Tuple (value_list vs)
tuple_value vs = let row = values_in (made.Tuple vs) in ap plain.Tuple (values_row row.0 row.1 ∙ ap value_list (items_hidden-the_row-Value-0 vs))

pub branch_value : (number : ℕ) (inner : Value) → value_of (made.Branch number inner) ≡ plain.Branch number (value_of inner)
unfolding Rattle.luo_model.specs.declared.value.Value.TheBlock.hidden-the_row-Value-1 hidden
branch_value number inner = refl

pub case_value : (var : ℕ) (arms : List ValueArm) → value_of (made.Case var arms) ≡ plain.Chosen var (value_arm_list arms)
case_value var arms = let row = value_arms_in (made.Case var arms) in ap (plain.Chosen var) (value_arms_row row.0 row.1 ∙ ap value_arm_list (items_hidden-the_row-ValueArm-2 arms))
