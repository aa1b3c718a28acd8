-- The same-size steps as a graph.
use Rattle.std.proofs.Common.{◌≡◌, ℕ, zero, suc, ◌≤◌, ◌<◌, List, [], inl, ⊎_elim, length, refl, sym, subst, arith, Bool, Some, slice_get}
use Rattle.std.proofs.lemmas.Option.{slice_get_within}
use Rattle.luo_finite.specs.Listing.{In}
use Rattle.luo_model.specs.declared.program.Node.{Node}
use Rattle.luo_model.specs.declared.program.Part.{Part}
use Rattle.luo_model.specs.declared.program.Shape.{Shape}
use Rattle.luo_model.specs.declared.program.Shape.TheVariants as shape
use Rattle.luo_model.specs.Program.{Program}
use Rattle.luo_model.specs.Invariant.{IsProgram, inner_parts}
use Rattle.luo_founded.specs.inner.Marks.{Marked, Marks}
use Rattle.luo_founded.specs.inner.Graph.{IsGraph}
use Rattle.luo_model.specs.Founded.{IsBuilt, BuiltWithin, HasZero, KeepsSize, SameSize}
use Rattle.luo_finite.proofs.Places.{In_get, get_within}
use Rattle.luo_model.proofs.NodeLemmas.{node_at_place, shape_there}
use Rattle.luo_finite.proofs.Gathered.{EachGives}

pub keeps_into : (Y Z : ℕ → Type 0) → ((x : ℕ) → Y x → Z x) → (s : Shape) (y : ℕ) → KeepsSize Y s y → KeepsSize Z s y
keeps_into Y Z h (shape.Atom w) y k = k
keeps_into Y Z h (shape.Union parts) y k = k
keeps_into Y Z h (shape.Product parts) y k = (k.0, k.1, k.2, k.3, λ j other e n. h other.node (k.4 j other e n))
keeps_into Y Z h (shape.Coll kind part low high) y k = k

keeps_part : (Z : ℕ → Type 0) (s : Shape) (y : ℕ) → KeepsSize Z s y → (part : Part) × In part (inner_parts s) × (part.node ≡ y)
keeps_part Z (shape.Atom w) y k = absurd k
keeps_part Z (shape.Union parts) y k = k
keeps_part Z (shape.Product parts) y k = (k.1, In_get parts k.0 k.1 k.2, k.3)
keeps_part Z (shape.Coll kind part low high) y k = (part, inl refl, k.0)

pub made_there : (From : ℕ → Type 0) (p : Program) (d x : ℕ) → BuiltWithin From p d x → x < length p.nodes
made_there From p zero x m = absurd m
made_there From p (suc d) x m = ⊎_elim (λ a. a.3) (λ u. absurd (nothing (subst (IsBuilt From (BuiltWithin From p d)) u m))) (node_at_place p x)
  where
    nothing : IsBuilt From (BuiltWithin From p d) (shape.Union []) → ⊥
    nothing m = m.1

module _ (p : Program) (q : IsProgram p) where
  pub step_there : (x y : ℕ) → SameSize p x y → (node : Node) × (slice_get p.nodes x ≡ Some node) × (x < length p.nodes)
  step_there x y k = ⊎_elim (λ a. (a.0, a.1, a.3)) (λ u. absurd (nothing (subst (λ s. KeepsSize (HasZero p) s y) u k))) (node_at_place p x)
    where
      nothing : KeepsSize (HasZero p) (shape.Union []) y → ⊥
      nothing k = k.1

  pub step_within : (x y : ℕ) → SameSize p x y → y < length p.nodes
  step_within x y k =
      let a = step_there x y k in
      let r = keeps_part (HasZero p) a.0.shape y (subst (λ s. KeepsSize (HasZero p) s y) (shape_there p x a.0 a.1) k) in
      subst (λ z. z < length p.nodes) r.2 (q.parts_there x a.0 a.1 r.0 r.1).0

  pub steps_graph : (table : List Bool) (n : ℕ) (edges : List (List ℕ)) → Marks (HasZero p) (length p.nodes) table → length p.nodes ≤ n → EachGives (λ (node : Node) y. KeepsSize (Marked table) node.shape y) p.nodes n edges
      → n ≤ length p.nodes → IsGraph (SameSize p) (length p.nodes) edges
  steps_graph table n edges m l g u = record {
    long = omega (arith, g.long);
    sound = λ x y e.
        let a = get_within p.nodes x (omega (arith, slice_get_within edges x e.0 e.1, g.long)) in
        subst (λ s. KeepsSize (HasZero p) s y) (sym (shape_there p x a.0 a.1)) (keeps_into (Marked table) (HasZero p) m.sound a.0.shape y ((g.gives x a.0 e.0 a.1 e.1 y).0 e.2));
    complete = λ x y k.
        let a = step_there x y k in
        let b = get_within edges x (omega (arith, a.2, g.long)) in
        (b.0, b.1, (g.gives x a.0 b.0 a.1 b.1 y).1 (keeps_into (HasZero p) (Marked table) (λ z h. m.complete z (made_there (λ w. w ≡ 0) p h.0 z h.1) h) a.0.shape y (subst (λ s. KeepsSize (HasZero p) s y) (shape_there p x a.0 a.1) k)));
    within = step_within;
  }
