-- Definitions without breach: the parts that stand for right sides, and the nodes of names.
use Rattle.std.proofs.Common.{◌≡◌, ℕ, zero, suc, ◌<◌, ◌≤◌, ◌⊎◌, List, [], ◌∷◌, length, Option, Some, None, slice_get, sum_by, refl, sym, ap, ◌∙◌, subst, inl, inr, arith}
use Rattle.std.specs.Option.{option_map}
use Rattle.luo_model.specs.declared.program.Universe.{Universe}
use Rattle.luo_model.specs.declared.program.Part.{Part}
use Rattle.luo_model.specs.Invariant.{bare}
use Rattle.luo_source.specs.declared.names.Name.{Name}
use Rattle.luo_source.specs.Plain.Types.{TypeExpr, Named, Epsilon, Atom, Union, Product, Coll}
use Rattle.luo_rules.specs.declared.names.Meaning.{Meaning}
use Rattle.luo_rules.specs.declared.names.Meaning.TheVariants as mean
use Rattle.luo_rules.specs.Meanings.{meaning, type_use}
use Rattle.luo_rules.specs.Counted.{own_nodes}
use Rattle.luo_rules.specs.Definitions.{Definition, or_by, definition_meant, named_at, named_by, next, first_node, name_of}
use Rattle.luo_rules.specs.inner.Naming.{node_within, node_of, way_within}
use Rattle.luo_rules.specs.TypeBreaches.{expr_breaches}
use Rattle.luo_rules.specs.Nodes.{Spot, named_part, part_at, start}
use Rattle.luo_rules.proofs.Lists.{some_same, none_some, get_below}
use Rattle.luo_rules.proofs.NodeLists.{first_within}
use Rattle.luo_rules.proofs.NameFacts.{NoCircle, Sound}
use Rattle.luo_rules.proofs.NamingFacts.{after, EndsBy, NoWays, NextsThere, no_way, ends_by, node_same}
use Rattle.luo_rules.proofs.ProperTypes.{ProperType}

-- all definitions are without breach
pub record SoundAll (universe : Universe) (names : List (List ℕ × Meaning)) (defs : List Definition) : Type 0 where
  pub each : (i : ℕ) (d : Definition) → slice_get defs i ≡ Some d → Sound universe names defs i d
  pub proper : (i : ℕ) (d : Definition) → slice_get defs i ≡ Some d → ProperType d.right
  pub below : (text : List ℕ) (i : ℕ) → meaning names text ≡ Some (mean.Definition i) → i < length defs

-- a name that may be used as a type is one
pub type_meant : (o : Option Meaning) (name : Name) → type_use o name ≡ [] → (i : ℕ) × (o ≡ Some (mean.Definition i))
type_meant None name e = absurd (cc)
type_meant (Some (mean.Definition i)) name e = (i, refl)
type_meant (Some (mean.Measure k v)) name e = absurd (cc)
type_meant (Some (mean.Procedure f)) name e = absurd (cc)

pub definition_back : (o : Option Meaning) (i : ℕ) → definition_meant o ≡ Some i → o ≡ Some (mean.Definition i)
definition_back None i e = absurd (none_some i e)
definition_back (Some (mean.Definition j)) i e = ap (λ k. Some (mean.Definition k)) (some_same j i e)
definition_back (Some (mean.Measure k v)) i e = absurd (none_some i e)
definition_back (Some (mean.Procedure f)) i e = absurd (none_some i e)

named_next : (names : List (List ℕ × Meaning)) (defs : List Definition) (i : ℕ) (d : Definition) → slice_get defs i ≡ Some d → next names defs i ≡ named_by names d.right
named_next names defs i d e = ap (named_at names) e

-- a right side that is a name
pub record NamedRight (names : List (List ℕ × Meaning)) (defs : List Definition) (e : TypeExpr) : Type 0 where
  pub j : ℕ
  pub is : named_by names e ≡ Some j
  pub below : j < length defs
  pub no_nodes : own_nodes e ≡ 0
  pub part : (at : Spot) → part_at names defs at e ≡ record { node = node_of names defs j; name = Some j }

-- a right side that is a construct
pub record BareRight (names : List (List ℕ × Meaning)) (defs : List Definition) (e : TypeExpr) : Type 0 where
  pub none : named_by names e ≡ None
  pub nodes : 1 ≤ own_nodes e
  pub part : (at : Spot) → part_at names defs at e ≡ bare at.node

module _ (universe : Universe) (names : List (List ℕ × Meaning)) (defs : List Definition) (all : SoundAll universe names defs) where
  pub right_sort : (e : TypeExpr) → expr_breaches universe names e ≡ [] → NamedRight names defs e ⊎ BareRight names defs e
  right_sort (Named name) h =
      let m = type_meant (meaning names name.text) name h in
      let is : definition_meant (meaning names name.text) ≡ Some m.0 = ap definition_meant m.1 in
      inl (record { j = m.0; is = is; below = all.below name.text m.0 m.1; no_nodes = refl; part = λ at. ap (named_part names defs) is })
  right_sort (Epsilon at) h = inr (record { none = refl; nodes = omega arith; part = λ at. refl })
  right_sort (Atom weight weight_at at) h = inr (record { none = refl; nodes = omega arith; part = λ at. refl })
  right_sort (Union parts) h = inr (record { none = refl; nodes = omega arith; part = λ at. refl })
  right_sort (Product parts at) h = inr (record { none = refl; nodes = omega arith; part = λ at. refl })
  right_sort (Coll kind part bound at) h = inr (record { none = refl; nodes = omega arith; part = λ at. refl })

  by_right : (i j : ℕ) (e : TypeExpr) → named_by names e ≡ Some j → j < length defs
  by_right i j (Named name) h = all.below name.text j (definition_back (meaning names name.text) j h)
  by_right i j (Epsilon at) h = absurd (none_some j h)
  by_right i j (Atom weight weight_at at) h = absurd (none_some j h)
  by_right i j (Union parts) h = absurd (none_some j h)
  by_right i j (Product parts at) h = absurd (none_some j h)
  by_right i j (Coll kind part bound at) h = absurd (none_some j h)

  pub nexts_there : NextsThere names defs
  nexts_there i j h = by (slice_get defs i) h
    where
      by : (o : Option Definition) → named_at names o ≡ Some j → j < length defs
      by None h = absurd (none_some j h)
      by (Some d) h = by_right i j d.right h

  no_circle_way : (i : ℕ) (way : Option (List (List ℕ))) → option_map (λ w. name_of defs i ∷ w) way ≡ None → way ≡ None
  no_circle_way i None e = refl
  no_circle_way i (Some w) e = absurd (cc)

  no_next : (i k : ℕ) → next names defs i ≡ None → after names defs (suc k) i ≡ Some i → ⊥
  no_next i k n h = none_some i (sym (ap (λ o. or_by o (after names defs k) None) n) ∙ h)

  by_circle : (i k : ℕ) (e : TypeExpr) → next names defs i ≡ named_by names e → NoCircle names defs i e → k < length defs → after names defs (suc k) i ≡ Some i → ⊥
  by_circle i k (Named name) n c l h = no_way names defs i (length defs) i k (no_circle_way i (way_within names defs i (length defs) i) c) l h
  by_circle i k (Epsilon at) n c l h = no_next i k n h
  by_circle i k (Atom weight weight_at at) n c l h = no_next i k n h
  by_circle i k (Union parts) n c l h = no_next i k n h
  by_circle i k (Product parts at) n c l h = no_next i k n h
  by_circle i k (Coll kind part bound at) n c l h = no_next i k n h

  pub no_ways : NoWays names defs
  no_ways i k l m h = let d = get_below defs i l in by_circle i k d.0.right (named_next names defs i d.0 d.1) (all.each i d.0 d.1).no_circle m h

  pub all_end : (i : ℕ) → i < length defs → EndsBy names defs (length defs) i
  all_end i l = ends_by names defs no_ways nexts_there i l

  -- a name has the node of what it names
  pub node_of_next : (i j : ℕ) → i < length defs → next names defs i ≡ Some j → node_of names defs i ≡ node_of names defs j
  node_of_next i j l n = by (length defs) (all_end i l)
    where
      by : (m : ℕ) → EndsBy names defs m i → node_within names defs (suc m) i ≡ node_within names defs (suc m) j
      by zero e = absurd e
      by (suc m) (inl e) = absurd (none_some j (sym e ∙ n))
      by (suc m) (inr e) =
          let same : e.0 ≡ j = some_same e.0 j (sym e.1 ∙ n) in
          let left : node_within names defs (suc (suc m)) i ≡ node_within names defs (suc m) j = ap (λ o. or_by o (node_within names defs (suc m)) (first_node defs i)) n in
          left ∙ node_same names defs m (suc m) (suc (suc m)) j (subst (EndsBy names defs m) same e.2) (omega arith) (omega arith)

  pub node_of_first : (i : ℕ) → next names defs i ≡ None → node_of names defs i ≡ first_node defs i
  node_of_first i n = ap (λ o. or_by o (node_within names defs (length defs)) (first_node defs i)) n

  within_below : (k s i : ℕ) → EndsBy names defs k i → i < length defs → k ≤ s → node_within names defs s i < sum_by (λ d. own_nodes d.right) defs
  within_below zero s i e l m = absurd e
  within_below (suc k) zero i e l m = absurd (omega arith)
  within_below (suc k) (suc s) i (inl e) l m =
      let d = get_below defs i l in
      let first : node_within names defs (suc s) i ≡ first_node defs i = ap (λ o. or_by o (node_within names defs s) (first_node defs i)) e in
      let room = first_within defs i d.0 d.1 in
      elim (right_sort d.0.right (all.each i d.0 d.1).right_side) [
        | inl r ↦ absurd (none_some r.j (sym e ∙ (named_next names defs i d.0 d.1 ∙ r.is)))
        | inr r ↦ omega (arith, r.nodes, first, room)
      ]
  within_below (suc k) (suc s) i (inr e) l m =
      let on : node_within names defs (suc s) i ≡ node_within names defs s e.0 = ap (λ o. or_by o (node_within names defs s) (first_node defs i)) e.1 in
      let more = within_below k s e.0 e.2 (nexts_there i e.0 e.1) (omega arith) in
      omega (arith, on, more)

  pub node_of_below : (i : ℕ) → i < length defs → node_of names defs i < sum_by (λ d. own_nodes d.right) defs
  node_of_below i l = within_below (length defs) (suc (length defs)) i (all_end i l) l (omega arith)

  -- the whole of a definition stands at its node
  pub whole_node : (i : ℕ) (d : Definition) (x : ℕ) → slice_get defs i ≡ Some d → x ≡ first_node defs i → i < length defs → (part_at names defs (start names defs x) d.right).node ≡ node_of names defs i
  whole_node i d x e f l =
      elim (right_sort d.right (all.each i d e).right_side) [
        | inl r ↦ ap (λ (q : Part). q.node) (r.part (start names defs x)) ∙ sym (node_of_next i r.j l (named_next names defs i d e ∙ r.is))
        | inr r ↦ ap (λ (q : Part). q.node) (r.part (start names defs x)) ∙ (f ∙ sym (node_of_first i (named_next names defs i d e ∙ r.none)))
      ]
