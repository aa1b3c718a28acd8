-- A node stands for a type expression: what its branches, factors and components stand for.
use Rattle.std.proofs.Common.{◌≡◌, ℕ, ◌≤◌, List, [], ◌∷◌, map, length, Some, slice_get, refl, sym, ap, ◌∙◌, subst, inl, inr, arith}
use Rattle.luo_model.specs.declared.program.Part.{Part}
use Rattle.luo_model.specs.declared.program.Shape.TheVariants as shape
use Rattle.luo_model.specs.Scopes.Stands.{Stand, inside, stand_part, stands, component, IsCollection}
use Rattle.luo_source.specs.declared.names.Name.{Name}
use Rattle.luo_source.specs.Plain.Types.{TypeExpr, Named, Epsilon, Atom, Union, Product, Coll, TypeExprs, no_exprs, an_expr}
use Rattle.luo_source.specs.Plain.Source.{Source}
use Rattle.luo_rules.specs.declared.setting.Variable.{Variable}
use Rattle.luo_rules.specs.Settings.{found}
use Rattle.luo_rules.specs.Counted.{own_nodes}
use Rattle.luo_rules.specs.Definitions.{definitions, names_of, definition_meant, first_node}
use Rattle.luo_rules.specs.Nodes.{Spot, behind, named_part, part_at, parts_at, start}
use Rattle.luo_rules.proofs.Lists.{below_get}
use Rattle.luo_rules.proofs.DefinitionFacts.{whole_node}
use Rattle.luo_rules.proofs.CleanSource.{Clean}
use Rattle.luo_meaning.specs.Structures.{exprs_in}
use Rattle.luo_meaning.specs.Types.{LeadsTo, IsUnionOf, union_of, IsProductOf, product_of, IsCollectionOf, collection_of, Types, type_of, typed, BindsTypes, AreStands}
use Rattle.luo_meaning.specs.Types as sites
use Rattle.luo_meaning.specs.Constructs.{IsConstruct}
use Rattle.luo_meaning.proofs.Named.{named_type}
use Rattle.luo_meaning.proofs.Sits.{Sits, AllSit, shape_in, shape_at_node, shape_here, head_sits, tail_sits, union_sits, coll_sits, definition_sits}
use Rattle.luo_meaning.proofs.Leads.{leads}

-- node x stands for this type expression
pub record Holds (source : Source) (x : ℕ) (e : TypeExpr) : Type 0 where
  pub owner : ℕ
  pub spot : Spot
  pub sits : Sits source owner spot e
  pub at : (part_at (names_of source) (definitions source) spot e).node ≡ x

-- what stands for a stand of a case, one after another
abbrev pub SameStands : Source → List Stand → List TypeExpr → Type 0
SameStands source [] [] = Unit {0}
SameStands source (stand ∷ ss) (e ∷ es) = Holds source (stand_part stand).node e × SameStands source ss es
SameStands source _ _ = ⊥

-- a variable that is found: its part, and its type as written
pub record IsTyped (source : Source) (types : Types) (vars : List Part) (text : List ℕ) (place : ℕ) (part : Part) : Type 0 where
  pub there : slice_get vars place ≡ Some part
  pub e : TypeExpr
  pub type : type_of types text ≡ Some e
  pub holds : Holds source part.node e

abbrev pub AgreeTypes : Source → List Variable → Types → List Part → Type 0
AgreeTypes source scope types vars = (name : Name) (v : ℕ × Part) → found scope name ≡ Some v → IsTyped source types vars name.text v.0 v.1

module _ (source : Source) (c : Clean source) where
  -- going on from a name keeps the node
  pub down : {k e : TypeExpr} → LeadsTo source k e → (x : ℕ) → Holds source x e → Holds source x k
  down sites.itself x h = h
  down (sites.by_name {name} right is l) x h =
      let names = names_of source in
      let defs = definitions source in
      let n = named_type source c name.text right is in
      let first : Spot = start names defs (first_node defs n.i) in
      let node : (part_at names defs first right).node ≡ (part_at names defs h.spot (Named name)).node =
      ap (λ (z : TypeExpr). (part_at names defs first z).node) (sym n.right_side)
      ∙ (whole_node source.universe names defs c.all n.i n.d (first_node defs n.i) n.is refl (below_get defs n.i n.d n.is)
      ∙ sym (ap (λ o. (named_part names defs (definition_meant o)).node) n.means)) in
      down l x (record { owner = n.i; spot = first; sits = subst (Sits source n.i first) n.right_side (definition_sits source c n.i n.d n.is); at = node ∙ h.at })

  -- the shape of the node of a construct
  pub shape_of_construct : (k : TypeExpr) (x : ℕ) → IsConstruct k → (h : Holds source x k) → (part_at (names_of source) (definitions source) h.spot k).node ≡ h.spot.node → shape_at_node source x ≡ shape_in source h.spot k
  shape_of_construct k x q h e = ap (shape_at_node source) (sym (sym e ∙ h.at)) ∙ shape_here source h.owner h.spot k q h.sits

  pub union_shape : (parts : _) (x : ℕ) (h : Holds source x (Union parts)) → shape_at_node source x ≡ shape.Union (parts_at (names_of source) (definitions source) (behind h.spot 1) parts)
  union_shape parts x h = shape_of_construct (Union parts) x tt h refl

  pub product_shape : (parts : _) (token x : ℕ) (h : Holds source x (Product parts token)) → shape_at_node source x ≡ shape.Product (parts_at (names_of source) (definitions source) (behind h.spot 1) parts)
  product_shape parts token x h = shape_of_construct (Product parts token) x tt h refl

  -- branches stand for themselves
  branches_same : (owner : ℕ) (at : Spot) (row : TypeExprs) → AllSit source owner at row → SameStands source (map inside (parts_at (names_of source) (definitions source) at row)) (exprs_in row)
  branches_same owner at no_exprs a = tt
  branches_same owner at (an_expr e rest) a = (record { owner = owner; spot = at; sits = head_sits source owner at e rest a; at = refl }, branches_same owner (behind at (own_nodes e)) rest (tail_sits source owner at e rest a))

  -- what the arms of a case stand for, from the source to the core form
  pub stands_down : (x : Part) (e : TypeExpr) (es : List TypeExpr) → Holds source x.node e → AreStands source e es → SameStands source (stands x (shape_at_node source x.node)) es
  stands_down x e es h (inl (union_of {parts} l)) =
      let k = down l x.node h in
      subst (λ z. SameStands source (stands x z) (exprs_in parts)) (sym (union_shape parts x.node k)) (branches_same k.owner (behind k.spot 1) parts (union_sits source k.owner k.spot parts k.sits))
  stands_down x e es h (inr p) = by_product p.0 p.1 p.2
    where
      by_product : (fs : List TypeExpr) → IsProductOf source e fs → es ≡ e ∷ [] → SameStands source (stands x (shape_at_node source x.node)) es
      by_product fs (product_of {parts} {at} l) is =
          let k = down l x.node h in
          subst (λ z. SameStands source (stands x (shape_at_node source x.node)) z) (sym is) (subst (λ z. SameStands source (stands x z) (e ∷ [])) (sym (product_shape parts at x.node k)) (h, tt))

  -- and back, where there is an arm
  pub record Stood (x : Part) (e : TypeExpr) : Type 0 where
    pub es : List TypeExpr
    pub are : AreStands source e es

  by_construct : (x : Part) (e k : TypeExpr) → LeadsTo source k e → Holds source x.node k → IsConstruct k → 1 ≤ length (stands x (shape_at_node source x.node)) → Stood x e
  by_construct x e (Named name) l h q many = absurd q
  by_construct x e (Epsilon token) l h q many = let n : 1 ≤ 0 = subst (λ z. 1 ≤ length (stands x z)) (shape_of_construct (Epsilon token) x.node tt h refl) many in absurd (omega (arith, n))
  by_construct x e (Atom weight weight_at token) l h q many = let n : 1 ≤ 0 = subst (λ z. 1 ≤ length (stands x z)) (shape_of_construct (Atom weight weight_at token) x.node tt h refl) many in absurd (omega (arith, n))
  by_construct x e (Union parts) l h q many = record { es = exprs_in parts; are = inl (union_of l) }
  by_construct x e (Product parts token) l h q many = record { es = e ∷ []; are = inr (exprs_in parts, product_of l, refl) }
  by_construct x e (Coll kind part bound token) l h q many = let n : 1 ≤ 0 = subst (λ z. 1 ≤ length (stands x z)) (shape_of_construct (Coll kind part bound token) x.node tt h refl) many in absurd (omega (arith, n))

  -- the construct that a node's expression leads to
  pub record Up (x : ℕ) (e : TypeExpr) : Type 0 where
    pub k : TypeExpr
    pub is_construct : IsConstruct k
    pub to : LeadsTo source k e
    pub holds : Holds source x k

  pub up : (x : ℕ) (e : TypeExpr) → Holds source x e → Up x e
  up x e h =
      let l = leads source c h.owner h.spot e h.sits in
      record { k = l.construct; is_construct = l.is_construct; to = l.to; holds = down l.to x h }

  pub stands_up : (x : Part) (e : TypeExpr) → Holds source x.node e → 1 ≤ length (stands x (shape_at_node source x.node)) → Stood x e
  stands_up x e h many = let u = up x.node e h in by_construct x e u.k u.to u.holds u.is_construct many

  -- the component of a collection
  pub component_down : (x : ℕ) (e f : TypeExpr) → Holds source x e → IsCollectionOf source e f → Holds source (component (shape_at_node source x)).node f
  component_down x e f h (collection_of {kind} {bound} {at} l) =
      let k = down l x h in
      let form = shape_of_construct (Coll kind f bound at) x tt k refl in
      let node : (part_at (names_of source) (definitions source) (behind k.spot 1) f).node ≡ (component (shape_at_node source x)).node = ap (λ (q : Part). q.node) (sym (ap component form)) in
      record { owner = k.owner; spot = behind k.spot 1; sits = coll_sits source k.owner k.spot kind f bound at k.sits; at = node }

  by_collection : (x : ℕ) (e k : TypeExpr) → LeadsTo source k e → Holds source x k → IsConstruct k → IsCollection (shape_at_node source x) → (f : TypeExpr) × IsCollectionOf source e f
  by_collection x e (Named name) l h q is = absurd q
  by_collection x e (Epsilon token) l h q is = absurd (subst IsCollection (shape_of_construct (Epsilon token) x tt h refl) is)
  by_collection x e (Atom weight weight_at token) l h q is = absurd (subst IsCollection (shape_of_construct (Atom weight weight_at token) x tt h refl) is)
  by_collection x e (Union parts) l h q is = absurd (subst IsCollection (shape_of_construct (Union parts) x tt h refl) is)
  by_collection x e (Product parts token) l h q is = absurd (subst IsCollection (shape_of_construct (Product parts token) x tt h refl) is)
  by_collection x e (Coll kind part bound token) l h q is = (part, collection_of l)

  pub component_up : (x : ℕ) (e : TypeExpr) → Holds source x e → IsCollection (shape_at_node source x) → (f : TypeExpr) × IsCollectionOf source e f
  component_up x e h is = let u = up x e h in by_collection x e u.k u.to u.holds u.is_construct is
