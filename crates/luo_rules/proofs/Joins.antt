-- Items, arms and values one after another.
use Rattle.std.proofs.Common.{◌≡◌, ℕ, ◌+◌, List, [], ◌∷◌, ◌++◌, refl, ap, sym, ◌∙◌, add_assoc, zero-add, add-zero}
use Rattle.luo_model.specs.declared.body.Arm.{Arm}
use Rattle.luo_model.specs.declared.body.Item.{Item}
use Rattle.luo_model.specs.declared.value.Value.{Value}
use Rattle.luo_model.specs.declared.value.ValueArm.{ValueArm}
use Rattle.luo_model.specs.Program as plain
use Rattle.luo_model.specs.Scopes.ValueBodies.{join_items, value_own, values_own, value_sites, values_sites, value_arms_sites, value_items, values_items, value_arm_bodies}
use Rattle.luo_model.specs.View.{item_of, item_list, body_of, value_of}
use Rattle.luo_rules.specs.inner.ValueMade.{extended}
use Rattle.luo_model.specs.Lists.{arm_list, value_list, value_arm_list}

pub items_none : (is : plain.Items) → join_items is plain.no_items ≡ is
items_none plain.no_items = refl
items_none (plain.item i is) = ap (λ z. plain.item i z) (items_none is)

pub items_assoc : (a b c : plain.Items) → join_items (join_items a b) c ≡ join_items a (join_items b c)
items_assoc plain.no_items b c = refl
items_assoc (plain.item i a) b c = ap (λ z. plain.item i z) (items_assoc a b c)

pub item_list_append : (a b : List Item) → item_list (a ++ b) ≡ join_items (item_list a) (item_list b)
item_list_append [] b = refl
item_list_append (i ∷ a) b = ap (λ z. plain.item (item_of i) z) (item_list_append a b)

-- nothing is put behind a body
pub extended_none : (b : plain.Body) → extended b (plain.Does 0 plain.no_items) ≡ b
extended_none (plain.Does own items) = ap (λ z. plain.Does z (join_items items plain.no_items)) (add-zero own) ∙ ap (plain.Does own) (items_none items)

pub extended_assoc : (a b c : plain.Body) → extended (extended a b) c ≡ extended a (extended b c)
extended_assoc (plain.Does a is) (plain.Does b js) (plain.Does c ks) = ap (λ z. plain.Does z (join_items (join_items is js) ks)) (add_assoc a b c) ∙ ap (plain.Does (a + (b + c))) (items_assoc is js ks)

-- a body behind an empty one
pub extended_empty : (b : plain.Body) → extended (plain.Does 0 plain.no_items) b ≡ b
extended_empty (plain.Does own items) = ap (λ z. plain.Does z items) (zero-add own)

abbrev pub join_values : plain.Values → plain.Values → plain.Values
join_values plain.no_values more = more
join_values (plain.value v vs) more = plain.value v (join_values vs more)

abbrev pub join_value_arms : plain.ValueArms → plain.ValueArms → plain.ValueArms
join_value_arms plain.no_value_arms more = more
join_value_arms (plain.value_arm bind v arms) more = plain.value_arm bind v (join_value_arms arms more)

abbrev pub join_arms : plain.Arms → plain.Arms → plain.Arms
join_arms plain.no_arms more = more
join_arms (plain.arm bind body arms) more = plain.arm bind body (join_arms arms more)

pub values_none : (vs : plain.Values) → join_values vs plain.no_values ≡ vs
values_none plain.no_values = refl
values_none (plain.value v vs) = ap (plain.value v) (values_none vs)

pub values_assoc : (a b c : plain.Values) → join_values (join_values a b) c ≡ join_values a (join_values b c)
values_assoc plain.no_values b c = refl
values_assoc (plain.value v a) b c = ap (plain.value v) (values_assoc a b c)

pub value_arms_none : (vs : plain.ValueArms) → join_value_arms vs plain.no_value_arms ≡ vs
value_arms_none plain.no_value_arms = refl
value_arms_none (plain.value_arm bind v vs) = ap (plain.value_arm bind v) (value_arms_none vs)

pub value_arms_assoc : (a b c : plain.ValueArms) → join_value_arms (join_value_arms a b) c ≡ join_value_arms a (join_value_arms b c)
value_arms_assoc plain.no_value_arms b c = refl
value_arms_assoc (plain.value_arm bind v a) b c = ap (plain.value_arm bind v) (value_arms_assoc a b c)

pub values_own_join : (a b : plain.Values) → values_own (join_values a b) ≡ values_own a + values_own b
values_own_join plain.no_values b = sym (zero-add _)
values_own_join (plain.value v a) b = ap (λ z. value_own v + z) (values_own_join a b) ∙ sym (add_assoc (value_own v) (values_own a) (values_own b))

pub values_sites_join : (a b : plain.Values) → values_sites (join_values a b) ≡ values_sites a + values_sites b
values_sites_join plain.no_values b = sym (zero-add _)
values_sites_join (plain.value v a) b = ap (λ z. value_sites v + z) (values_sites_join a b) ∙ sym (add_assoc (value_sites v) (values_sites a) (values_sites b))

pub value_arms_sites_join : (a b : plain.ValueArms) → value_arms_sites (join_value_arms a b) ≡ value_arms_sites a + value_arms_sites b
value_arms_sites_join plain.no_value_arms b = sym (zero-add _)
value_arms_sites_join (plain.value_arm bind v a) b = ap (λ z. value_sites v + z) (value_arms_sites_join a b) ∙ sym (add_assoc (value_sites v) (value_arms_sites a) (value_arms_sites b))

pub values_items_join : (first : ℕ) (a b : plain.Values) → values_items first (join_values a b) ≡ join_items (values_items first a) (values_items (first + values_sites a) b)
values_items_join first plain.no_values b = ap (λ z. values_items z b) (sym (add-zero first))
values_items_join first (plain.value v a) b =
    ap (join_items (value_items first v)) (values_items_join (first + value_sites v) a b ∙ ap (λ z. join_items (values_items (first + value_sites v) a) (values_items z b)) (add_assoc first (value_sites v) (values_sites a)))
    ∙ sym (items_assoc (value_items first v) (values_items (first + value_sites v) a) (values_items (first + (value_sites v + values_sites a)) b))

pub arm_bodies_join : (first : ℕ) (a b : plain.ValueArms) → value_arm_bodies first (join_value_arms a b) ≡ join_arms (value_arm_bodies first a) (value_arm_bodies (first + value_arms_sites a) b)
arm_bodies_join first plain.no_value_arms b = ap (λ z. value_arm_bodies z b) (sym (add-zero first))
arm_bodies_join first (plain.value_arm bind v a) b =
    ap (plain.arm bind (plain.Does (value_own v) (value_items first v))) (arm_bodies_join (first + value_sites v) a b ∙ ap (λ z. join_arms (value_arm_bodies (first + value_sites v) a) (value_arm_bodies z b)) (add_assoc first (value_sites v) (value_arms_sites a)))

pub value_list_append : (a b : List Value) → value_list (a ++ b) ≡ join_values (value_list a) (value_list b)
value_list_append [] b = refl
value_list_append (v ∷ a) b = ap (plain.value (value_of v)) (value_list_append a b)

pub value_arm_list_append : (a b : List ValueArm) → value_arm_list (a ++ b) ≡ join_value_arms (value_arm_list a) (value_arm_list b)
value_arm_list_append [] b = refl
value_arm_list_append (v ∷ a) b = ap (plain.value_arm v.bind (value_of v.value)) (value_arm_list_append a b)

pub arm_list_append : (a b : List Arm) → arm_list (a ++ b) ≡ join_arms (arm_list a) (arm_list b)
arm_list_append [] b = refl
arm_list_append (v ∷ a) b = ap (plain.arm v.bind (body_of v.body)) (arm_list_append a b)
