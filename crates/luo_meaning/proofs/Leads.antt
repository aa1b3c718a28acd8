-- Where a type expression leads: the construct at the end of its names, its node, and its structures.
use Rattle.std.proofs.Common.{◌≡◌, ℕ, zero, suc, ◌<◌, ◌⊎◌, [], length, Some, None, slice_get, refl, sym, ap, ◌∙◌, subst, inl, inr}
use Rattle.luo_model.specs.Tree.{Tree}
use Rattle.luo_source.specs.declared.names.Name.{Name}
use Rattle.luo_source.specs.Plain.Types.{TypeExpr, Named, Epsilon, Atom, Union, Product, Coll}
use Rattle.luo_source.specs.Plain.Source.{Source}
use Rattle.luo_rules.specs.declared.names.Meaning.TheVariants as mean
use Rattle.luo_rules.specs.Meanings.{meaning}
use Rattle.luo_rules.specs.Definitions.{Definition, definitions, names_of, definition_meant, named_by, named_at, next, first_node}
use Rattle.luo_rules.specs.inner.Naming.{node_of}
use Rattle.luo_rules.specs.TypeBreaches.{expr_breaches}
use Rattle.luo_rules.specs.Nodes.{Spot, named_part, part_at, start}
use Rattle.luo_rules.proofs.Lists.{some_same, none_some, get_below}
use Rattle.luo_rules.proofs.NamingFacts.{EndsBy}
use Rattle.luo_rules.proofs.DefinitionFacts.{type_meant, node_of_next, node_of_first, all_end}
use Rattle.luo_rules.proofs.CleanSource.{Clean}
use Rattle.luo_meaning.specs.Structures.{IsOf}
use Rattle.luo_meaning.specs.Structures.{by_name}
use Rattle.luo_meaning.specs.Types.{LeadsTo, itself}
use Rattle.luo_meaning.specs.Types as sites
use Rattle.luo_meaning.specs.Constructs.{IsConstruct}
use Rattle.luo_meaning.proofs.Named.{type_named}
use Rattle.luo_meaning.proofs.Sits.{Sits, definition_sits}

-- a name, or a construct
pub sort_of : (source : Source) (e : TypeExpr) → ((name : Name) × (e ≡ Named name)) ⊎ IsConstruct e
sort_of source (Named name) = inl (name, refl)
sort_of source (Epsilon at) = inr tt
sort_of source (Atom weight weight_at at) = inr tt
sort_of source (Union parts) = inr tt
sort_of source (Product parts at) = inr tt
sort_of source (Coll kind part bound at) = inr tt

pub names_none : (source : Source) (e : TypeExpr) → IsConstruct e → named_by (names_of source) e ≡ None
names_none source (Named name) q = absurd q
names_none source (Epsilon at) q = refl
names_none source (Atom weight weight_at at) q = refl
names_none source (Union parts) q = refl
names_none source (Product parts at) q = refl
names_none source (Coll kind part bound at) q = refl

pub bare_node : (source : Source) (at : Spot) (e : TypeExpr) → IsConstruct e → (part_at (names_of source) (definitions source) at e).node ≡ at.node
bare_node source at (Named name) q = absurd q
bare_node source at (Epsilon token) q = refl
bare_node source at (Atom weight weight_at token) q = refl
bare_node source at (Union parts) q = refl
bare_node source at (Product parts token) q = refl
bare_node source at (Coll kind part bound token) q = refl

-- a construct at this node, the structures of which are of this type expression
pub record Leads (source : Source) (node : ℕ) (e : TypeExpr) : Type 0 where
  pub owner : ℕ
  pub spot : Spot
  pub construct : TypeExpr
  pub is_construct : IsConstruct construct
  pub sits : Sits source owner spot construct
  pub at : node ≡ spot.node
  pub back : (t : Tree) → IsOf source construct t → IsOf source e t
  pub to : LeadsTo source construct e

module _ (source : Source) (c : Clean source) where
  definition_leads : (k i : ℕ) → EndsBy (names_of source) (definitions source) k i → (d : Definition) → slice_get (definitions source) i ≡ Some d → i < length (definitions source) → Leads source (node_of (names_of source) (definitions source) i) d.right
  definition_leads zero i e d h l = absurd e
  definition_leads (suc k) i (inl none) d h l =
      let names = names_of source in
      let defs = definitions source in
      let named : next names defs i ≡ named_by names d.right = ap (named_at names) h in
      elim (sort_of source d.right) [
        | inl s ↦
            let sound = (c.all.each i d h).right_side in
            let m = type_meant (meaning names s.0.text) s.0 (subst (λ (e : TypeExpr). expr_breaches source.universe (names_of source) e ≡ []) s.1 sound) in
            absurd (none_some m.0 (sym none ∙ (named ∙ (ap (named_by names) s.1 ∙ ap definition_meant m.1))))
        | inr q ↦ record {
          owner = i;
          spot = start names defs (first_node defs i);
          construct = d.right;
          is_construct = q;
          sits = definition_sits source c i d h;
          at = node_of_first source.universe names defs c.all i none;
          back = λ t is. is;
          to = itself;
        }
      ]
  definition_leads (suc k) i (inr e) d h l =
      let names = names_of source in
      let defs = definitions source in
      let named : named_by names d.right ≡ Some e.0 = sym (ap (named_at names) h) ∙ e.1 in
      elim (sort_of source d.right) [
        | inl s ↦
            let sound = (c.all.each i d h).right_side in
            let m = type_meant (meaning names s.0.text) s.0 (subst (λ (e : TypeExpr). expr_breaches source.universe (names_of source) e ≡ []) s.1 sound) in
            let same : m.0 ≡ e.0 = some_same m.0 e.0 (sym (ap (named_by names) s.1 ∙ ap definition_meant m.1) ∙ named) in
            let means : meaning names s.0.text ≡ Some (mean.Definition e.0) = m.1 ∙ ap (λ n. Some (mean.Definition n)) same in
            let below = c.all.below s.0.text e.0 means in
            let next_one = get_below defs e.0 below in
            let r = definition_leads k e.0 e.2 next_one.0 next_one.1 below in
            record {
              owner = r.owner;
              spot = r.spot;
              construct = r.construct;
              is_construct = r.is_construct;
              sits = r.sits;
              at = node_of_next source.universe names defs c.all i e.0 l e.1 ∙ r.at;
              back = λ t is. subst (λ (z : TypeExpr). IsOf source z t) (sym s.1) (by_name next_one.0.right (type_named source c s.0.text e.0 next_one.0 means next_one.1) (r.back t is));
              to = subst (λ (z : TypeExpr). LeadsTo source r.construct z) (sym s.1) (sites.by_name next_one.0.right (type_named source c s.0.text e.0 next_one.0 means next_one.1) r.to);
            }
        | inr q ↦ absurd (none_some e.0 (sym (names_none source d.right q) ∙ named))
      ]

  -- each type expression leads to a construct
  pub leads : (owner : ℕ) (at : Spot) (e : TypeExpr) → Sits source owner at e → Leads source (part_at (names_of source) (definitions source) at e).node e
  leads owner at e s =
      let names = names_of source in
      let defs = definitions source in
      elim (sort_of source e) [
        | inl n ↦
            let m = type_meant (meaning names n.0.text) n.0 (subst (λ (e : TypeExpr). expr_breaches source.universe (names_of source) e ≡ []) n.1 s.sound) in
            let below = c.all.below n.0.text m.0 m.1 in
            let d = get_below defs m.0 below in
            let r = definition_leads (length defs) m.0 (all_end source.universe names defs c.all m.0 below) d.0 d.1 below in
            let node : (part_at names defs at e).node ≡ node_of names defs m.0 = ap (λ (z : TypeExpr). (part_at names defs at z).node) n.1 ∙ ap (λ o. (named_part names defs (definition_meant o)).node) m.1 in
            record {
              owner = r.owner;
              spot = r.spot;
              construct = r.construct;
              is_construct = r.is_construct;
              sits = r.sits;
              at = node ∙ r.at;
              back = λ t is. subst (λ (z : TypeExpr). IsOf source z t) (sym n.1) (by_name d.0.right (type_named source c n.0.text m.0 d.0 m.1 d.1) (r.back t is));
              to = subst (λ (z : TypeExpr). LeadsTo source r.construct z) (sym n.1) (sites.by_name d.0.right (type_named source c n.0.text m.0 d.0 m.1 d.1) r.to);
            }
        | inr q ↦ record { owner = owner; spot = at; construct = e; is_construct = q; sits = s; at = bare_node source at e q; back = λ t is. is; to = itself }
      ]
