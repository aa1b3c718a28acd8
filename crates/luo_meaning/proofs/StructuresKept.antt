-- Members of the node of a type expression are its structures, in both directions.
use Rattle.std.proofs.Common.{◌≡◌, ℕ, zero, suc, ◌↔◌, List, length, Option, Some, None, refl, sym, ap, ◌∙◌, subst, arith}
use Rattle.luo_model.specs.declared.program.Universe.{Universe}
use Rattle.luo_model.specs.declared.program.Universe.TheVariants.{Unlabelled, Labelled}
use Rattle.luo_model.specs.declared.program.Kind.{Kind}
use Rattle.luo_model.specs.declared.program.Kind.TheVariants.{Sequence, Set, Cycle, Multiset, Powerset}
use Rattle.luo_model.specs.declared.program.Part.{Part}
use Rattle.luo_model.specs.declared.program.Shape.{Shape}
use Rattle.luo_model.specs.declared.program.Shape.TheVariants as shape
use Rattle.luo_model.specs.Tree.{Tree, Trees, Atom, Inj, Tup, Coll, none, more, to_list}
use Rattle.luo_model.specs.Program.{Program}
use Rattle.luo_model.specs.Member.{IsLabel, IsWithin, Fits, FitAll, FitEach, Member}
use Rattle.luo_source.specs.declared.types.Range.{Range}
use Rattle.luo_source.specs.declared.types.Range.TheVariants.{Exactly, AtMost, AtLeast, Between}
use Rattle.luo_source.specs.declared.types.Bound.{Bound}
use Rattle.luo_source.specs.Plain.Types as type
use Rattle.luo_source.specs.Plain.Types.{TypeExpr, Named, Epsilon, Union, Product, Coll, TypeExprs, no_exprs, an_expr}
use Rattle.luo_source.specs.Plain.Source.{Source}
use Rattle.luo_rules.specs.Counted.{own_nodes}
use Rattle.luo_rules.specs.Definitions.{definitions, names_of, definition_meant, first_node}
use Rattle.luo_rules.specs.TypeBreaches.{least_of, low_of, high_of}
use Rattle.luo_rules.specs.Nodes.{Spot, behind, named_part, part_at, parts_at, start}
use Rattle.luo_rules.specs.Whole.{core}
use Rattle.luo_rules.proofs.Lists.{none_some, below_get}
use Rattle.luo_rules.proofs.DefinitionFacts.{whole_node}
use Rattle.luo_rules.proofs.CleanSource.{Clean}
use Rattle.luo_meaning.specs.Structures.{exprs_in, least_count, AllowsCount, by_name, empty, atom, branch, tuple, collection, no_parts, more_parts, no_components, more_components}
use Rattle.luo_meaning.specs.Structures.{IsOf, AreOf, EachOf}
use Rattle.luo_meaning.specs.Constructs.{IsConstruct}
use Rattle.luo_meaning.proofs.Named.{named_type}
use Rattle.luo_meaning.proofs.Sits.{Sits, AllSit, shape_in, shape_at_node, shape_here, head_sits, tail_sits, union_sits, product_sits, coll_sits, row_get, row_back, definition_sits}
use Rattle.luo_meaning.proofs.Leads.{leads}

no_label : (universe : Universe) (w l : ℕ) → w ≡ 0 → IsLabel universe w l → l ≡ 0
no_label Unlabelled w l e h = h
no_label Labelled w l e h = h.1 (λ one. absurd (omega (arith, e, one)))

pub zero_label : (universe : Universe) → IsLabel universe 0 0
zero_label Unlabelled = refl
zero_label Labelled = (λ one. absurd (omega (arith, one)), λ no. refl)

least_same : (kind : Kind) → least_of kind ≡ least_count kind
least_same Sequence = refl
least_same Set = refl
least_same Cycle = refl
least_same Multiset = refl
least_same Powerset = refl

range_same : (kind : Kind) (at : ℕ) (range : Range) (k : ℕ) → IsWithin (low_of kind (Some (record { range = range; at = at }))) (high_of (Some (record { range = range; at = at }))) k ↔ AllowsCount kind (Some (record { range = range; at = at })) k
range_same kind at (Exactly n) k = (λ h. omega (arith, h), λ h. (omega arith, omega arith))
range_same kind at (AtMost n) k = (λ h. (omega (arith, h.0, least_same kind), h.1), λ h. (omega (arith, h.0, least_same kind), h.1))
range_same kind at (AtLeast n) k = (λ h. h, λ h. h)
range_same kind at (Between low high) k = (λ h. h, λ h. h)

-- so many components are allowed
pub bound_same : (kind : Kind) (bound : Option Bound) (k : ℕ) → IsWithin (low_of kind bound) (high_of bound) k ↔ AllowsCount kind bound k
bound_same kind None k = (λ h. omega (arith, h, least_same kind), λ h. omega (arith, h, least_same kind))
bound_same kind (Some b) k = range_same kind b.at b.range k

no_branch : (p : Program) (form : Shape) (t : Tree) → Fits p form (Inj 0 t) → ⊥
no_branch p (shape.Atom weight) t f = f
no_branch p (shape.Union parts) t f = f
no_branch p (shape.Product parts) t f = f
no_branch p (shape.Coll kind part low high) t f = f

module _ (source : Source) (c : Clean source) where
  -- a member of the node of an expression's construct is of the construct
  mutual
    construct_of : (t : Tree) (owner : ℕ) (at : Spot) (e : TypeExpr) → Sits source owner at e → Fits (core source) (shape_in source at e) t → IsOf source e t
    construct_of (Inj (suc i) t) owner at (Named name) s f = absurd (none_some f.0 f.1)
    construct_of (Atom w l) owner at (Epsilon token) s f =
        subst (λ z. IsOf source (Epsilon token) (Atom z l)) (sym f.0) (subst (λ z. IsOf source (Epsilon token) (Atom 0 z)) (sym (no_label source.universe w l f.0 f.1)) empty)
    construct_of (Atom w l) owner at (type.Atom weight weight_at token) s f =
        subst (λ z. IsOf source (type.Atom weight weight_at token) (Atom z l)) (sym f.0) (atom (subst (λ z. IsLabel source.universe z l) f.0 f.1))
    construct_of (Inj (suc i) t) owner at (Union parts) s f =
        let r = row_get source owner (behind at 1) parts (union_sits source owner at parts s) i f.0 f.1 in
        let l = leads source c owner r.1.spot r.0 r.1.sits in
        let there : Fits (core source) (shape_at_node source f.0.node) t = f.2 in
        let shape = ap (shape_at_node source) (ap (λ (q : Part). q.node) r.1.is ∙ l.at) ∙ shape_here source l.owner l.spot l.construct l.is_construct l.sits in
        branch i r.0 r.1.written (l.back t (construct_of t l.owner l.spot l.construct l.sits (subst (λ z. Fits (core source) z t) shape there)))
    construct_of (Tup ts) owner at (Product parts token) s f = tuple (row_of ts owner (behind at 1) parts (product_sits source owner at parts token s) f)
    construct_of (Coll ts) owner at (Coll kind part bound token) s f =
        collection ((bound_same kind bound (length (to_list ts))).0 f.0) (each_of ts owner (behind at 1) part (coll_sits source owner at kind part bound token s) _ refl f.1) f.2
    construct_of (Inj zero t) owner at e s f = absurd (no_branch (core source) (shape_in source at e) t f)
    construct_of _ owner at e s f = absurd f

    row_of : (ts : Trees) (owner : ℕ) (at : Spot) (row : TypeExprs) → AllSit source owner at row → FitAll (core source) (parts_at (names_of source) (definitions source) at row) ts → AreOf source (exprs_in row) ts
    row_of none owner at no_exprs a f = no_parts
    row_of (more t ts) owner at (an_expr e rest) a f =
        let l = leads source c owner at e (head_sits source owner at e rest a) in
        let there : Fits (core source) (shape_at_node source (part_at (names_of source) (definitions source) at e).node) t = f.0 in
        let shape = ap (shape_at_node source) l.at ∙ shape_here source l.owner l.spot l.construct l.is_construct l.sits in
        more_parts (l.back t (construct_of t l.owner l.spot l.construct l.sits (subst (λ z. Fits (core source) z t) shape there)))
        (row_of ts owner (behind at (own_nodes e)) rest (tail_sits source owner at e rest a) f.1)
    row_of _ owner at row a f = absurd f

    each_of : (ts : Trees) (owner : ℕ) (at : Spot) (e : TypeExpr) → Sits source owner at e → (part : Part) → part ≡ part_at (names_of source) (definitions source) at e → FitEach (core source) part ts → EachOf source e ts
    each_of none owner at e s part is f = no_components
    each_of (more t ts) owner at e s part is f =
        let l = leads source c owner at e s in
        let there : Fits (core source) (shape_at_node source part.node) t = f.0 in
        let shape = ap (shape_at_node source) (ap (λ (q : Part). q.node) is ∙ l.at) ∙ shape_here source l.owner l.spot l.construct l.is_construct l.sits in
        more_components (l.back t (construct_of t l.owner l.spot l.construct l.sits (subst (λ z. Fits (core source) z t) shape there))) (each_of ts owner at e s part is f.1)

  pub member_is_of : (t : Tree) (owner : ℕ) (at : Spot) (e : TypeExpr) → Sits source owner at e → Member (core source) (part_at (names_of source) (definitions source) at e).node t → IsOf source e t
  member_is_of t owner at e s f =
      let l = leads source c owner at e s in
      let there : Fits (core source) (shape_at_node source (part_at (names_of source) (definitions source) at e).node) t = f in
      let shape = ap (shape_at_node source) l.at ∙ shape_here source l.owner l.spot l.construct l.is_construct l.sits in
      l.back t (construct_of t l.owner l.spot l.construct l.sits (subst (λ z. Fits (core source) z t) shape there))

  -- at the shape of a construct
  by_shape : (t : Tree) (owner : ℕ) (at : Spot) (e : TypeExpr) → IsConstruct e → Sits source owner at e → Fits (core source) (shape_in source at e) t → Fits (core source) (shape_at_node source at.node) t
  by_shape t owner at e q s f = subst (λ z. Fits (core source) z t) (sym (shape_here source owner at e q s)) f

  mutual
    pub of_is_member : {e : TypeExpr} {t : Tree} → IsOf source e t → (owner : ℕ) (at : Spot) → Sits source owner at e → Fits (core source) (shape_at_node source (part_at (names_of source) (definitions source) at e).node) t
    of_is_member (by_name {name} {t} right is h) owner at s =
        let names = names_of source in
        let defs = definitions source in
        let n = named_type source c name.text right is in
        let first : Spot = start names defs (first_node defs n.i) in
        let inside : Sits source n.i first right = subst (Sits source n.i first) n.right_side (definition_sits source c n.i n.d n.is) in
        let node : (part_at names defs first right).node ≡ (part_at names defs at (Named name)).node =
        ap (λ (z : TypeExpr). (part_at names defs first z).node) (sym n.right_side)
        ∙ (whole_node source.universe names defs c.all n.i n.d (first_node defs n.i) n.is refl (below_get defs n.i n.d n.is)
        ∙ sym (ap (λ o. (named_part names defs (definition_meant o)).node) n.means)) in
        subst (λ z. Fits (core source) (shape_at_node source z) t) node (of_is_member h n.i first inside)
    of_is_member (empty {at = token}) owner at s = by_shape (Atom 0 0) owner at (Epsilon token) tt s (refl, zero_label source.universe)
    of_is_member (atom {weight} {weight_at} {at = token} {label} l) owner at s = by_shape (Atom weight label) owner at (type.Atom weight weight_at token) tt s (refl, l)
    of_is_member (branch {parts} {t} i e get h) owner at s =
        let r = row_back source owner (behind at 1) parts (union_sits source owner at parts s) i e get in
        let inner = of_is_member h owner r.1.spot r.1.sits in
        let there : Fits (core source) (shape_at_node source r.0.node) t = subst (λ (q : Part). Fits (core source) (shape_at_node source q.node) t) (sym r.1.is) inner in
        by_shape (Inj (suc i) t) owner at (Union parts) tt s (r.0, r.1.get, there)
    of_is_member (tuple {parts} {at = token} {ts} a) owner at s =
        by_shape (Tup ts) owner at (Product parts token) tt s (are_fit a owner (behind at 1) parts (product_sits source owner at parts token s) refl)
    of_is_member (collection {kind} {e} {bound} {at = token} {ts} k each stand) owner at s =
        by_shape (Coll ts) owner at (Coll kind e bound token) tt s
        ((bound_same kind bound (length (to_list ts))).1 k, each_fit each owner (behind at 1) (coll_sits source owner at kind e bound token s) _ refl, stand)

    are_fit : {es : List TypeExpr} {ts : Trees} → AreOf source es ts → (owner : ℕ) (at : Spot) (row : TypeExprs) → AllSit source owner at row → exprs_in row ≡ es → FitAll (core source) (parts_at (names_of source) (definitions source) at row) ts
    are_fit no_parts owner at no_exprs a l = tt
    are_fit no_parts owner at (an_expr e rest) a l = absurd (cc)
    are_fit (more_parts h hs) owner at no_exprs a l = absurd (cc)
    are_fit (more_parts {e} {es} {t} {ts} h hs) owner at (an_expr f rest) a l =
        let same : f ≡ e = cc in
        let others : exprs_in rest ≡ es = cc in
        let first = of_is_member h owner at (subst (Sits source owner at) same (head_sits source owner at f rest a)) in
        (subst (λ z. Fits (core source) (shape_at_node source (part_at (names_of source) (definitions source) at z).node) t) (sym same) first, are_fit hs owner (behind at (own_nodes f)) rest (tail_sits source owner at f rest a) others)

    each_fit : {e : TypeExpr} {ts : Trees} → EachOf source e ts → (owner : ℕ) (at : Spot) → Sits source owner at e → (part : Part) → part ≡ part_at (names_of source) (definitions source) at e → FitEach (core source) part ts
    each_fit no_components owner at s part is = tt
    each_fit (more_components {e} {t} {ts} h hs) owner at s part is =
        let first = of_is_member h owner at s in
        (subst (λ (q : Part). Fits (core source) (shape_at_node source q.node) t) (sym is) first, each_fit hs owner at s part is)
