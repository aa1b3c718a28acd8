-- What is broken and made in the forms of a value.
use Rattle.std.proofs.Common.{◌≡◌, ℕ, zero, suc, ◌+◌, ◌^◌, ◌<◌, ◌≤◌, List, [], ◌∷◌, ◌++◌, Option, Some, None, true, false, Result, map, length, nat_eq, codes, decimal, eq-eqb, is_some, if◌then◌else◌, ap, sym, subst, ◌∙◌, arith, add-zero}
use Rattle.std.specs.Result.{IsErrAnd}
use Rattle.std.proofs.lemmas.Bool.{eqb-true}
use Rattle.std.proofs.lemmas.Result.{err_from_is_err_and}
use Rattle.luo_source.specs.declared.names.Name.{Name}
use Rattle.luo_source.specs.declared.values.SourceValue.{SourceValue}
use Rattle.luo_source.specs.declared.values.SourceValueArm.{SourceValueArm}
use Rattle.luo_source.specs.declared.values.SourceValue as source
use Rattle.luo_model.specs.declared.body.Arm.{Arm}
use Rattle.luo_model.specs.declared.body.Body.{Body}
use Rattle.luo_model.specs.declared.body.Item.{Item}
use Rattle.luo_model.specs.declared.body.Item as done
use Rattle.luo_model.specs.declared.program.Part.{Part}
use Rattle.luo_model.specs.declared.program.Shape.{Shape}
use Rattle.luo_model.specs.declared.program.Shape.TheVariants as shape
use Rattle.luo_model.specs.declared.value.Value.{Value}
use Rattle.luo_model.specs.declared.value.Value as made
use Rattle.luo_model.specs.declared.value.ValueArm.{ValueArm}
use Rattle.luo_model.specs.Invariant.{inner_parts}
use Rattle.luo_model.specs.Program as plain
use Rattle.luo_model.specs.Scopes.Stands.{Stand, stands, factors}
use Rattle.luo_model.specs.Scopes.ValueBodies.{value_arms_sites, value_arm_bodies}
use Rattle.luo_model.specs.View.{value_of, body_of, item_list, item_of}
use Rattle.luo_source.specs.View.{source_value_of}
use Rattle.luo_rules.specs.declared.rule.Breach.{Breach}
use Rattle.luo_rules.specs.declared.rule.Rule.TheVariants.{Y15}
use Rattle.luo_rules.specs.declared.rule.Stop.{Stop}
use Rattle.luo_rules.specs.declared.setting.Setting.{Setting}
use Rattle.luo_rules.specs.declared.setting.Variable.{Variable}
use Rattle.luo_rules.specs.Breaches.{◌or_if_none◌, broken, StopsAt}
use Rattle.luo_rules.specs.Meanings.{procedure_use, procedure_of}
use Rattle.luo_rules.specs.Settings.{meant, signature_meant, shape_at, found, place_of, argument_breaches, case_stands}
use Rattle.luo_rules.specs.Patterns.{bound, case_breaches, has_factors}
use Rattle.luo_value_types.specs.Checks.{Checks}
use Rattle.luo_value_types.specs.inner.Items.{HasItem}
use Rattle.luo_value_types.specs.inner.Room.{HasFewBranches, HasRoom}
use Rattle.luo_rules.specs.Statements.{value_statements}
use Rattle.luo_rules.specs.ValueBreaches.{value_breaches, given_breaches, result_breaches, charge_use, is_atom, misplaced, branch_at, branch_of, part_nodes}
use Rattle.luo_rules.specs.ValueCore.{value_core, weight_of, charge_of}
use Rattle.luo_rules.specs.inner.ValueLists.{AreMade, ArmsAreMade}
use Rattle.luo_value_types.specs.inner.Lists.{parts_breaches, parts_core, parts_statements, arms_breaches, arms_core, arms_statements}
use Rattle.luo_rules.specs.inner.ValueMade.{extended, IsMade}
use Rattle.luo_rules.proofs.Joins.{items_none, extended_none}
use Rattle.luo_value_types.proofs.StopLemmas.{StopsAt-left, none-append, case-arms}
use Rattle.luo_rules.proofs.ValueForms.{tuple_breaches, tuple_core, tuple_statements, branch_breaches, branch_core, branch_statements, case_value_breaches, case_core, case_statements}
use Rattle.luo_value_types.proofs.ValueRoom.{sites_within}
use Rattle.luo_model.proofs.ViewLemmas.{case_item}
use Rattle.luo_model.proofs.ViewLemmas.{tuple_value, branch_value, case_value}

-- a check that hands a stop on
pub stopped : {V : Type 0} (r : Result V Stop) (e : Stop) (bs : List Breach) (P : V → Type 0) → IsErrAnd r (λ y. y ≡ e) → StopsAt bs e → Checks bs r P
stopped r e bs P h p = let from = err_from_is_err_and r h in rw (from.1, from.2) (tt, (tt, p))

-- what is made at a value is made at the same one
made_along : (s : Setting) (scope : List Variable) (e : Option ℕ) (v w : SourceValue) (m : Value) (old new : Body) (first next : ℕ) → v ≡ w → IsMade (value_breaches s scope e (source_value_of w)) (value_core s scope e (source_value_of w)) m old new first next → IsMade (value_breaches s scope e (source_value_of v)) (value_core s scope e (source_value_of v)) m old new first next
made_along s scope e v w m old new first next is h = subst (λ z. IsMade (value_breaches s scope e (source_value_of z)) (value_core s scope e (source_value_of z)) m old new first next) (sym is) h

pub given_made : (s : Setting) (scope : List Variable) (e : ℕ) (v : SourceValue) (name : Name) (place : ℕ) (b : Body) (next : ℕ) → v ≡ source.Given name → given_breaches (found scope name) (Some e) name ≡ [] → place ≡ place_of (found scope name) → IsMade (value_breaches s scope (Some e) (source_value_of v)) (value_core s scope (Some e) (source_value_of v)) (made.Given place) b b next next
given_made s scope e v name place b next is unbroken there = made_along s scope (Some e) v (source.Given name) (made.Given place) b b next next is (record {
  unbroken = unbroken;
  formed = ap plain.Given there;
  behind = sym (extended_none (body_of b));
  numbered = sym (add-zero next);
})

pub call_made : (s : Setting) (scope : List Variable) (e : ℕ) (callee arg : Name) (var procedure : ℕ) (b new : Body) (next site after : ℕ) → (procedure_use (meant s callee) callee or_if_none result_breaches (Some e) (signature_meant s (meant s callee)).result callee) ≡ [] → procedure ≡ procedure_of (meant s callee)
    → argument_breaches (found scope arg) (signature_meant s (meant s callee)).on arg callee ≡ [] → var ≡ place_of (found scope arg) → site ≡ next → after ≡ next + 1 → HasItem (plain.Call var procedure site) b new
    → IsMade (value_breaches s scope (Some e) (source_value_of (source.Made callee arg))) (value_core s scope (Some e) (source_value_of (source.Made callee arg))) (made.Call var procedure) b new next after
call_made s scope e callee arg var procedure b new next site after left ep right ev taken counted has = record {
  unbroken = none-append _ _ left right;
  formed = ap (λ z. plain.Made z procedure) ev ∙ ap (plain.Made (place_of (found scope arg))) ep;
  behind =
      has
      ∙ ap (λ i. extended (body_of b) (plain.Does 0 (plain.item i plain.no_items)))
      (ap (λ z. plain.Call z procedure site) ev ∙ ap (λ z. plain.Call (place_of (found scope arg)) z site) ep ∙ ap (plain.Call (place_of (found scope arg)) (procedure_of (meant s callee))) taken);
  numbered = counted;
}

pub atom_made : (s : Setting) (e : ℕ) (charge : Option Name) (at weight own : ℕ) (b : Body) → charge_use s charge ≡ [] → own ≡ charge_of s charge → shape_at s e ≡ shape.Atom weight → (scope : List Variable) (next : ℕ) → IsMade (value_breaches s scope (Some e) (source_value_of (source.Atom charge at))) (value_core s scope (Some e) (source_value_of (source.Atom charge at))) (made.Atom weight own) b (record { own = b.own + own; items = b.items }) next next
atom_made s e charge at weight own b unbroken eo es scope next = record {
  unbroken = none-append _ _ unbroken (ap (λ z. misplaced (is_atom z) at (codes "atom")) es);
  formed = ap (plain.Atom weight) eo ∙ ap (λ z. plain.Atom z (charge_of s charge)) (sym (ap weight_of es));
  behind = ap (λ z. plain.Does (b.own + z) (item_list b.items)) eo ∙ ap (plain.Does (b.own + charge_of s charge)) (sym (items_none (item_list b.items)));
  numbered = sym (add-zero next);
}

-- a tuple where a product of so many factors is expected
tuple_nodes : (s : Setting) (e : ℕ) (parts : List Part) (k : ℕ) → shape_at s e ≡ shape.Product parts → length parts ≡ k → part_nodes s (Some e) k ≡ map (λ p. p.node) parts
tuple_nodes s e parts k es el =
    ap (λ z. if has_factors k z then map (λ (p : Part). p.node) (factors z) else []) es
    ∙ ap (λ z. if z then map (λ (p : Part). p.node) parts else []) (eq-eqb (length parts) k el)

tuple_fits : (s : Setting) (e : ℕ) (parts : List Part) (k : ℕ) → shape_at s e ≡ shape.Product parts → length parts ≡ k → has_factors k (shape_at s e) ≡ true
tuple_fits s e parts k es el = ap (has_factors k) es ∙ eq-eqb (length parts) k el

tuple_is : (s : Setting) (scope : List Variable) (e : ℕ) (factors : List Part) (parts : List SourceValue) (at : ℕ) → shape_at s e ≡ shape.Product factors → length factors ≡ length parts → value_breaches s scope (Some e) (source_value_of (source.Tuple parts at)) ≡ parts_breaches s scope (map (λ p. p.node) factors) parts
tuple_is s scope e factors parts at es el =
    tuple_breaches s scope (Some e) parts at
    ∙ ap (λ z. misplaced z at (codes "product") ++ parts_breaches s scope (part_nodes s (Some e) (length parts)) parts) (tuple_fits s e factors (length parts) es el)
    ∙ ap (λ z. parts_breaches s scope z parts) (tuple_nodes s e factors (length parts) es el)

pub tuple_stops : (s : Setting) (scope : List Variable) (e : ℕ) (factors : List Part) (parts : List SourceValue) (at : ℕ) (stop : Stop) → shape_at s e ≡ shape.Product factors → length factors ≡ length parts → StopsAt (parts_breaches s scope (map (λ p. p.node) factors) parts) stop → StopsAt (value_breaches s scope (Some e) (source_value_of (source.Tuple parts at))) stop
tuple_stops s scope e factors parts at stop es el h = subst (λ z. StopsAt z stop) (sym (tuple_is s scope e factors parts at es el)) h

pub tuple_misplaced : (s : Setting) (scope : List Variable) (e : ℕ) (parts : List SourceValue) (at : ℕ) (stop : Stop) → has_factors (length parts) (shape_at s e) ≡ false → StopsAt (broken Y15 at (codes "product")) stop → StopsAt (value_breaches s scope (Some e) (source_value_of (source.Tuple parts at))) stop
tuple_misplaced s scope e parts at stop none h =
    subst (λ z. StopsAt z stop) (sym (tuple_breaches s scope (Some e) parts at ∙ ap (λ z. misplaced z at (codes "product") ++ parts_breaches s scope (part_nodes s (Some e) (length parts)) parts) none)) (StopsAt-left _ _ stop h)

pub tuple_made : (s : Setting) (scope : List Variable) (e : ℕ) (factors : List Part) (parts : List SourceValue) (at : ℕ) (vs : List Value) (old new : Body) (first next : ℕ) → shape_at s e ≡ shape.Product factors → length factors ≡ length parts → AreMade (parts_breaches s scope (map (λ p. p.node) factors) parts) (parts_core s scope (map (λ p. p.node) factors) parts) vs old new first next → IsMade (value_breaches s scope (Some e) (source_value_of (source.Tuple parts at))) (value_core s scope (Some e) (source_value_of (source.Tuple parts at))) (made.Tuple vs) old new first next
tuple_made s scope e factors parts at vs old new first next es el m =
    let core = parts_core s scope (map (λ p. p.node) factors) parts in
    let same : value_core s scope (Some e) (source_value_of (source.Tuple parts at)) ≡ plain.Tuple core = tuple_core s scope (Some e) parts at ∙ ap (λ z. plain.Tuple (parts_core s scope z parts)) (tuple_nodes s e factors (length parts) es el) in
    let one : IsMade (parts_breaches s scope (map (λ p. p.node) factors) parts) (plain.Tuple core) (made.Tuple vs) old new first next = record {
      unbroken = m.unbroken;
      formed = tuple_value vs ∙ ap plain.Tuple m.formed;
      behind = m.behind;
      numbered = m.numbered;
    } in
    subst (λ z. IsMade z (value_core s scope (Some e) (source_value_of (source.Tuple parts at))) (made.Tuple vs) old new first next) (sym (tuple_is s scope e factors parts at es el))
    (subst (λ z. IsMade (parts_breaches s scope (map (λ p. p.node) factors) parts) z (made.Tuple vs) old new first next) (sym same) one)

-- a branch where a union with such a branch is expected
branch_is : (s : Setting) (scope : List Variable) (e node number at : ℕ) (inner : SourceValue) → Some node ≡ branch_of (shape_at s e) number → value_breaches s scope (Some e) (source_value_of (source.Branch number at inner)) ≡ value_breaches s scope (Some node) (source_value_of inner)
branch_is s scope e node number at inner there =
    branch_breaches s scope (Some e) number at inner
    ∙ ap (λ z. misplaced (is_some z) at (decimal number) ++ value_breaches s scope z (source_value_of inner)) (sym there)

pub branch_stops : (s : Setting) (scope : List Variable) (e node number at : ℕ) (inner : SourceValue) (stop : Stop) → Some node ≡ branch_of (shape_at s e) number → StopsAt (value_breaches s scope (Some node) (source_value_of inner)) stop → StopsAt (value_breaches s scope (Some e) (source_value_of (source.Branch number at inner))) stop
branch_stops s scope e node number at inner stop there h = subst (λ z. StopsAt z stop) (sym (branch_is s scope e node number at inner there)) h

pub branch_misplaced : (s : Setting) (scope : List Variable) (e number at : ℕ) (inner : SourceValue) (stop : Stop) → None ≡ branch_of (shape_at s e) number → StopsAt (broken Y15 at (decimal number)) stop → StopsAt (value_breaches s scope (Some e) (source_value_of (source.Branch number at inner))) stop
branch_misplaced s scope e number at inner stop none h =
    subst (λ z. StopsAt z stop) (sym (branch_breaches s scope (Some e) number at inner ∙ ap (λ z. misplaced (is_some z) at (decimal number) ++ value_breaches s scope z (source_value_of inner)) (sym none))) (StopsAt-left _ _ stop h)

pub branch_made : (s : Setting) (scope : List Variable) (e node number at : ℕ) (inner : SourceValue) (v boxed : Value) (old new : Body) (first next : ℕ) → Some node ≡ branch_of (shape_at s e) number → boxed ≡ v → IsMade (value_breaches s scope (Some node) (source_value_of inner)) (value_core s scope (Some node) (source_value_of inner)) v old new first next → IsMade (value_breaches s scope (Some e) (source_value_of (source.Branch number at inner))) (value_core s scope (Some e) (source_value_of (source.Branch number at inner))) (made.Branch number boxed) old new first next
branch_made s scope e node number at inner v boxed old new first next there eb m =
    let core = value_core s scope (Some node) (source_value_of inner) in
    let same : value_core s scope (Some e) (source_value_of (source.Branch number at inner)) ≡ plain.Branch number core = branch_core s scope (Some e) number at inner ∙ ap (λ z. plain.Branch number (value_core s scope z (source_value_of inner))) (sym there) in
    let one : IsMade (value_breaches s scope (Some node) (source_value_of inner)) (plain.Branch number core) (made.Branch number boxed) old new first next = record {
      unbroken = m.unbroken;
      formed = branch_value number boxed ∙ ap (λ z. plain.Branch number (value_of z)) eb ∙ ap (plain.Branch number) m.formed;
      behind = m.behind;
      numbered = m.numbered;
    } in
    subst (λ z. IsMade z (value_core s scope (Some e) (source_value_of (source.Branch number at inner))) (made.Branch number boxed) old new first next) (sym (branch_is s scope e node number at inner there))
    (subst (λ z. IsMade (value_breaches s scope (Some node) (source_value_of inner)) z (made.Branch number boxed) old new first next) (sym same) one)

number_within : (parts : List Part) (node number : ℕ) → Some node ≡ branch_at parts number → number ≤ length parts
number_within [] node number there = cc
number_within (part ∷ parts) node zero there = cc
number_within (part ∷ parts) node (suc zero) there = omega arith
number_within (part ∷ parts) node (suc (suc i)) there = omega (arith, number_within parts node (suc i) there)

branch_within : (form : Shape) (node number : ℕ) → Some node ≡ branch_of form number → number ≤ length (inner_parts form)
branch_within (shape.Atom weight) node number there = cc
branch_within (shape.Union parts) node number there = number_within parts node number there
branch_within (shape.Product parts) node number there = cc
branch_within (shape.Coll kind part low high) node number there = cc

pub branch_small : (s : Setting) (e node number : ℕ) → HasFewBranches s → Some node ≡ branch_of (shape_at s e) number → number < 2 ^ 32
branch_small s e node number few there = omega (arith, few e, branch_within (shape_at s e) node number there)

-- a case on a bound variable with an arm for each thing to stand for
case_is : (s : Setting) (scope : List Variable) (e : ℕ) (var : Name) (arms : List SourceValueArm) (there : ℕ × Part) → found scope var ≡ Some there → nat_eq (length arms) (length (case_stands s (found scope var))) ≡ true → value_breaches s scope (Some e) (source_value_of (source.Case var arms)) ≡ arms_breaches s (stands there.1 (shape_at s there.1.node)) (Some e) var arms
case_is s scope e var arms there ef en =
    case_value_breaches s scope (Some e) var arms
    ∙ case-arms s (found scope var) there var (length arms) (arms_breaches s (case_stands s (found scope var)) (Some e) var arms) ef en
    ∙ ap (λ z. arms_breaches s (case_stands s z) (Some e) var arms) ef

-- a case has an arm for each thing to stand for
pub case_each : (s : Setting) (scope : List Variable) (var : Name) (count : ℕ) (there : ℕ × Part) → found scope var ≡ Some there → nat_eq count (length (case_stands s (found scope var))) ≡ true → count ≡ length (stands there.1 (shape_at s there.1.node))
case_each s scope var count there ef en = eqb-true _ _ (ap (λ z. nat_eq count (length (case_stands s z))) (sym ef) ∙ en)

pub case_variable_stops : (s : Setting) (scope : List Variable) (e : ℕ) (var : Name) (arms : List SourceValueArm) (stop : Stop) → ((inner : List Breach) → StopsAt (case_breaches s (found scope var) var (length arms) inner) stop) → StopsAt (value_breaches s scope (Some e) (source_value_of (source.Case var arms))) stop
case_variable_stops s scope e var arms stop h = subst (λ z. StopsAt z stop) (sym (case_value_breaches s scope (Some e) var arms)) (h _)

pub case_stops : (s : Setting) (scope : List Variable) (e : ℕ) (var : Name) (arms : List SourceValueArm) (there : ℕ × Part) (stop : Stop) → found scope var ≡ Some there → nat_eq (length arms) (length (case_stands s (found scope var))) ≡ true → StopsAt (arms_breaches s (stands there.1 (shape_at s there.1.node)) (Some e) var arms) stop → StopsAt (value_breaches s scope (Some e) (source_value_of (source.Case var arms))) stop
case_stops s scope e var arms there stop ef en h = subst (λ z. StopsAt z stop) (sym (case_is s scope e var arms there ef en)) h

pub case_made : (s : Setting) (scope : List Variable) (e : ℕ) (var : Name) (arms : List SourceValueArm) (there : ℕ × Part) (values : List ValueArm) (bodies : List Arm) (b new : Body) (first mid site after : ℕ) → found scope var ≡ Some there → nat_eq (length arms) (length (case_stands s (found scope var))) ≡ true
    → ArmsAreMade (arms_breaches s (stands there.1 (shape_at s there.1.node)) (Some e) var arms) (arms_core s (stands there.1 (shape_at s there.1.node)) (Some e) arms) values bodies first mid → site ≡ mid → after ≡ mid + 1 → HasItem (item_of (done.Case there.0 bodies site)) b new
    → IsMade (value_breaches s scope (Some e) (source_value_of (source.Case var arms))) (value_core s scope (Some e) (source_value_of (source.Case var arms))) (made.Case there.0 values) b new first after
case_made s scope e var arms there values bodies b new first mid site after ef en m taken counted has =
    let core = arms_core s (stands there.1 (shape_at s there.1.node)) (Some e) arms in
    let same : value_core s scope (Some e) (source_value_of (source.Case var arms)) ≡ plain.Chosen there.0 core = case_core s scope (Some e) var arms ∙ ap (λ z. plain.Chosen (place_of z) (arms_core s (case_stands s z) (Some e) arms)) ef in
    let one : IsMade (arms_breaches s (stands there.1 (shape_at s there.1.node)) (Some e) var arms) (plain.Chosen there.0 core) (made.Case there.0 values) b new first after = record {
      unbroken = m.unbroken;
      formed = case_value there.0 values ∙ ap (plain.Chosen there.0) m.formed;
      behind =
          has
          ∙ ap (λ i. extended (body_of b) (plain.Does 0 (plain.item i plain.no_items)))
          (case_item there.0 bodies site ∙ ap (λ z. plain.Case there.0 z site) m.bodied ∙ ap (plain.Case there.0 (value_arm_bodies first core)) (taken ∙ m.numbered));
      numbered = omega (arith, counted, m.numbered);
    } in
    subst (λ z. IsMade z (value_core s scope (Some e) (source_value_of (source.Case var arms))) (made.Case there.0 values) b new first after) (sym (case_is s scope e var arms there ef en))
    (subst (λ z. IsMade (arms_breaches s (stands there.1 (shape_at s there.1.node)) (Some e) var arms) z (made.Case there.0 values) b new first after) (sym same) one)

-- room inside
pub tuple_room : (parts : List SourceValue) (at own next : ℕ) → HasRoom (value_statements (source_value_of (source.Tuple parts at))) own next → HasRoom (parts_statements parts) own next
tuple_room parts at own next room = subst (λ z. HasRoom z own next) (tuple_statements parts at) room

pub branch_room : (number at : ℕ) (inner : SourceValue) (own next : ℕ) → HasRoom (value_statements (source_value_of (source.Branch number at inner))) own next → HasRoom (value_statements (source_value_of inner)) own next
branch_room number at inner own next room = subst (λ z. HasRoom z own next) (branch_statements number at inner) room

pub case_room : (var : Name) (arms : List SourceValueArm) (own next : ℕ) → HasRoom (value_statements (source_value_of (source.Case var arms))) own next → HasRoom (suc (arms_statements arms)) own next
case_room var arms own next room = subst (λ z. HasRoom z own next) (case_statements var arms) room

pub case_room_inside : (var : Name) (arms : List SourceValueArm) (own next : ℕ) → HasRoom (value_statements (source_value_of (source.Case var arms))) own next → HasRoom (arms_statements arms) 0 next
case_room_inside var arms own next room =
    let all = case_room var arms own next room in
    record { charges = omega (arith, all.charges); sites = omega (arith, all.sites) }

arms_sites_within : (s : Setting) (stands : List Stand) (e : Option ℕ) (arms : List SourceValueArm) → value_arms_sites (arms_core s stands e arms) ≤ arms_statements arms
arms_sites_within s stands e [] = omega arith
arms_sites_within s [] e (a ∷ arms) = omega arith
arms_sites_within s (stand ∷ stands) e (a ∷ arms) = omega (arith, sites_within s (bound s stand a.pattern) e (source_value_of a.body), arms_sites_within s stands e arms)

-- the site behind those of the arms
pub case_next_small : (s : Setting) (stands : List Stand) (e : Option ℕ) (var : Name) (arms : List SourceValueArm) (own first next : ℕ) → HasRoom (value_statements (source_value_of (source.Case var arms))) own first → next ≡ first + value_arms_sites (arms_core s stands e arms) → next < 2 ^ 33
case_next_small s stands e var arms own first next room numbered =
    let all = case_room var arms own first room in
    omega (arith, all.sites, arms_sites_within s stands e arms, numbered)
