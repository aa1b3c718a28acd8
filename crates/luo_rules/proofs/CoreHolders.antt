-- The holders of nodes in the core form of a source without breach.
use Rattle.std.proofs.Common.{◌≡◌, ℕ, zero, suc, ◌+◌, ◌-◌, ◌<◌, ◌≤◌, List, Some, slice_get, refl, sym, ap, ◌∙◌, subst, arith}
use Rattle.luo_finite.specs.Listing.{In}
use Rattle.luo_model.specs.declared.program.Universe.{Universe}
use Rattle.luo_model.specs.declared.program.Node.{Node}
use Rattle.luo_model.specs.declared.program.Site.{Site}
use Rattle.luo_model.specs.Program.{Procedure}
use Rattle.luo_model.specs.Invariant.{bare, inner_parts, Holds}
use Rattle.luo_rules.specs.declared.names.Meaning.{Meaning}
use Rattle.luo_rules.specs.Counted.{own_nodes}
use Rattle.luo_rules.specs.Definitions.{Definition, first_node}
use Rattle.luo_rules.specs.Nodes.{nodes_at, start, nodes_from}
use Rattle.luo_rules.proofs.Lists.{some_same, get_below}
use Rattle.luo_rules.proofs.NodeLists.{nodes_length}
use Rattle.luo_rules.proofs.DefinitionFacts.{SoundAll}
use Rattle.luo_rules.proofs.Holders.{HeldBy, held_range, held_once, held_some}
use Rattle.luo_rules.proofs.CoreNodes.{program_of, AtNode, at_node, of_place, there_node, same_definition}

module _ (universe : Universe) (names : List (List ℕ × Meaning)) (defs : List Definition) (all : SoundAll universe names defs) (procs : List Procedure) (sites : List Site) (analyses : List ℕ) where
  -- what node k of a definition has as a part by itself, it holds
  holds_in : (j : ℕ) (d : Definition) (k : ℕ) (node : Node) (x y : ℕ) → slice_get defs j ≡ Some d → slice_get (nodes_at names defs j (start names defs (first_node defs j)) d.right) k ≡ Some node → x ≡ first_node defs j + k
      → In (bare y) (inner_parts node.shape) → Holds (program_of universe names defs procs sites analyses) x y
  holds_in j d k node x y e f n i =
      let at = start names defs (first_node defs j) in
      let r = held_range universe names defs all j at d.right (all.proper j d e) (all.each j d e).right_side k y (node, f, i) in
      inside (y - first_node defs j) (omega (arith, r.from)) (omega (arith, r.from, r.to)) r.from
    where
      inside : (m : ℕ) → y ≡ first_node defs j + m → m < own_nodes d.right → suc (first_node defs j + k) ≤ y → Holds (program_of universe names defs procs sites analyses) x y
      inside m place l behind =
          let inner = get_below (nodes_at names defs j (start names defs (first_node defs j)) d.right) m (omega (arith, l, nodes_length names defs j (start names defs (first_node defs j)) d.right)) in
          let a = of_place universe names defs all j d k node e f in
          let b = of_place universe names defs all j d m inner.0 e inner.1 in
          record {
            node = node;
            inner = inner.0;
            is_node = ap (slice_get (nodes_from names defs 0 0 defs)) n ∙ there_node universe names defs all j d k node e f;
            is_inner = ap (slice_get (nodes_from names defs 0 0 defs)) place ∙ there_node universe names defs all j d m inner.0 e inner.1;
            part = i;
            behind = omega (arith, n, behind);
            together = b.0 ∙ sym a.0;
            not_first = λ z. absurd (omega (arith, b.1, z, place, behind));
          }

  pub bare_held : (x y : ℕ) (node : Node) → slice_get (nodes_from names defs 0 0 defs) x ≡ Some node → In (bare y) (inner_parts node.shape) → Holds (program_of universe names defs procs sites analyses) x y
  bare_held x y node e i = let a = at_node universe names defs all x node e in holds_in a.j a.d a.m node x y a.is_definition a.is_node a.number i

  pub held : (y : ℕ) (node : Node) → slice_get (nodes_from names defs 0 0 defs) y ≡ Some node → (node.place ≡ 0 → ⊥)
      → (x : ℕ) × Holds (program_of universe names defs procs sites analyses) x y × ((z : ℕ) → Holds (program_of universe names defs procs sites analyses) z y → z ≡ x)
  held y node e inner = by (at_node universe names defs all y node e)
    where
      by : AtNode universe names defs y node → (x : ℕ) × Holds (program_of universe names defs procs sites analyses) x y × ((z : ℕ) → Holds (program_of universe names defs procs sites analyses) z y → z ≡ x)
      by a =
          let at = start names defs (first_node defs a.j) in
          let sound = (all.each a.j a.d a.is_definition).right_side in
          let proper = all.proper a.j a.d a.is_definition in
          let h = held_some universe names defs all a.j at a.d.right proper sound y a.m a.number (positive a.m (λ z. inner (a.place ∙ z))) a.inside in
          (first_node defs a.j + h.0, holds_in a.j a.d h.0 h.1.0 (first_node defs a.j + h.0) y a.is_definition h.1.1 refl h.1.2, λ z g. once a h.0 h.1 z g (at_node universe names defs all z g.node g.is_node))
        where
          positive : (m : ℕ) → (m ≡ 0 → ⊥) → 1 ≤ m
          positive zero f = absurd (f refl)
          positive (suc m) f = omega arith

          once : (a : AtNode universe names defs y node) (k : ℕ) → HeldBy (nodes_at names defs a.j (start names defs (first_node defs a.j)) a.d.right) k y → (z : ℕ) (g : Holds (program_of universe names defs procs sites analyses) z y) → AtNode universe names defs z g.node
              → z ≡ first_node defs a.j + k
          once a k h z g b =
              let r = held_range universe names defs all b.j (start names defs (first_node defs b.j)) b.d.right (all.proper b.j b.d b.is_definition) (all.each b.j b.d b.is_definition).right_side b.m y (g.node, b.is_node, g.part) in
              let same : b.j ≡ a.j = same_definition universe names defs all b.j a.j y b.d a.d b.is_definition a.is_definition (omega (arith, r.from)) r.to (omega (arith, a.number)) (omega (arith, a.number, a.inside)) in
              let one : b.d ≡ a.d = some_same b.d a.d (sym b.is_definition ∙ (ap (slice_get defs) same ∙ a.is_definition)) in
              let P : ℕ → Definition → Type 0 = λ j d. HeldBy (nodes_at names defs j (start names defs (first_node defs j)) d.right) b.m y in
              let moved : P a.j a.d = subst (λ j. P j a.d) same (subst (λ d. P b.j d) one (g.node, b.is_node, g.part)) in
              let index : b.m ≡ k = held_once universe names defs all a.j (start names defs (first_node defs a.j)) a.d.right (all.proper a.j a.d a.is_definition) (all.each a.j a.d a.is_definition).right_side y b.m k moved h in
              let first : first_node defs b.j ≡ first_node defs a.j = ap (first_node defs) same in
              omega (arith, b.number, index, first)
