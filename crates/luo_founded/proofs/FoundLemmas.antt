-- What the tables say of the rules.
use Rattle.std.proofs.Common.{◌≡◌, ◌↔◌, ℕ, zero, suc, ◌+◌, ◌≤◌, ◌<◌, List, [], ◌∷◌, ⊎_elim, length, refl, sym, ◌∙◌, ap, subst, arith, get_or, Bool}
use Rattle.std.proofs.lemmas.Option.{slice_get_within, slice_get_read}
use Rattle.luo_finite.specs.Listing.{Neighbours}
use Rattle.luo_model.specs.declared.program.Node.{Node}
use Rattle.luo_model.specs.declared.program.Shape.{Shape}
use Rattle.luo_model.specs.declared.program.Shape.TheVariants as shape
use Rattle.luo_model.specs.Program.{Program}
use Rattle.luo_founded.specs.inner.Marks.{Marked, Marks, MarkedComponent, ComponentAt}
use Rattle.luo_founded.specs.inner.Graph.{Edge, IsGraph}
use Rattle.luo_founded.specs.inner.Longest.{AreLongest}
use Rattle.luo_founded.specs.inner.Ranked.{IsRanked}
use Rattle.luo_founded.specs.inner.Wholes.{levels_of, AreWholes}
use Rattle.luo_model.specs.Charges.{works_of}
use Rattle.luo_model.specs.Invariant.{IsProgram}
use Rattle.luo_founded.proofs.LevelLemmas.{levels_long, level_right}
use Rattle.luo_founded.specs.inner.Least.{AreLeast}
use Rattle.luo_model.specs.View.{Held, plain_of}
use Rattle.luo_founded.proofs.StepsGraph.{made_there}
use Rattle.luo_finite.specs.Walk.{Walk, OnCircle, IsCircle, IsNamedCircle}
use Rattle.luo_model.specs.Founded.{IsInhabited, HasZero, HasEmptyComponent, BreaksW1, BreaksW2, IsLeast, SameSize, IsFounded}
use Rattle.luo_finite.proofs.Places.{some_same, less_or_same}
use Rattle.luo_model.proofs.NodeLemmas.{node_at_place, shape_there}

not_less : (a b : ℕ) → (b < a → ⊥) → a ≤ b
not_less a b h = grind arith

-- a loop that looks for the first place of something
pub none_yet : (P : ℕ → Type 0) (n : ℕ) → ((k : ℕ) → k < n → P k → ⊥) → (P n → ⊥) → (k : ℕ) → k < n + 1 → P k → ⊥
none_yet P n before here k h q = ⊎_elim (λ (a : k < n). before k a q) (λ (b : k ≡ n). here (subst P b q)) (less_or_same k n (omega arith))

pub first_is_least : (P : ℕ → Type 0) (n : ℕ) → ((k : ℕ) → k < n → P k → ⊥) → P n → IsLeast P n
first_is_least P n before here = (here, λ y q. not_less n y (λ l. before y l q))

pub component_at : (nodes : List Node) (table : List Bool) (x : ℕ) (node : Node) → x < length nodes → node ≡ get_or nodes x node → MarkedComponent table node.shape → ComponentAt nodes table x
component_at nodes table x node h is m = (node, slice_get_read nodes (length nodes) x node refl h is, m)

pub no_component_at : (nodes : List Node) (table : List Bool) (x : ℕ) (node : Node) → x < length nodes → node ≡ get_or nodes x node → (MarkedComponent table node.shape → ⊥) → ComponentAt nodes table x → ⊥
no_component_at nodes table x node h is n c = n (subst (λ (a : Node). MarkedComponent table a.shape) (some_same c.0 node (sym c.1 ∙ slice_get_read nodes (length nodes) x node refl h is)) c.2)

pub no_component : (nodes : List Node) (table : List Bool) (n : ℕ) → length nodes ≤ n → ((k : ℕ) → k < n → ComponentAt nodes table k → ⊥) → (x : ℕ) → ComponentAt nodes table x → ⊥
no_component nodes table n l h x c = h x (omega (arith, slice_get_within nodes x c.0 c.1)) c

module _ (p : Program) where
  -- W1 by the table of the inhabited
  pub breaks_w1 : (table slice : List Bool) (x : ℕ) → Marks (IsInhabited p) (length p.nodes) table → slice ≡ table → IsLeast (λ y. (y < length slice) × (Marked slice y → ⊥)) x → IsLeast (BreaksW1 p) x
  breaks_w1 table slice x m e l = (
    (omega (arith, l.0.0, ap length e, m.long), λ i. l.0.1 (subst (λ t. Marked t x) (sym e) (m.complete x (omega (arith, l.0.0, ap length e, m.long)) i))),
    λ y b. l.1 y (omega (arith, b.0, ap length e, m.long), λ k. b.1 (m.sound y (subst (λ t. Marked t y) e k))),
  )

  pub all_inhabited : (table slice : List Bool) → Marks (IsInhabited p) (length p.nodes) table → slice ≡ table → ((x : ℕ) → x < length slice → Marked slice x) → (x : ℕ) → x < length p.nodes → IsInhabited p x
  all_inhabited table slice m e h x l = m.sound x (subst (λ t. Marked t x) e (h x (omega (arith, ap length e, m.long))))

  -- W2 by the table of those with a structure of size 0
  component_rule : (table : List Bool) → Marks (HasZero p) (length p.nodes) table → (s : Shape) → MarkedComponent table s ↔ HasEmptyComponent p s
  component_rule table m (shape.Atom w) = (λ h. h, λ h. h)
  component_rule table m (shape.Union parts) = (λ h. h, λ h. h)
  component_rule table m (shape.Product parts) = (λ h. h, λ h. h)
  component_rule table m (shape.Coll kind part low high) = (m.sound part.node, λ z. m.complete part.node (made_there (λ w. w ≡ 0) p z.0 part.node z.1) z)

  w2_at : (table : List Bool) → Marks (HasZero p) (length p.nodes) table → (x : ℕ) → ComponentAt p.nodes table x ↔ BreaksW2 p x
  w2_at table m x = (
    λ c. subst (HasEmptyComponent p) (sym (shape_there p x c.0 c.1)) ((component_rule table m c.0.shape).0 c.2),
    λ b. ⊎_elim
        (λ a. (a.0, a.1, (component_rule table m a.0.shape).1 (subst (HasEmptyComponent p) a.2 b)))
        (λ u. absurd (subst (HasEmptyComponent p) u b))
        (node_at_place p x),
  )

  pub breaks_w2 : (nodes : List Node) (table slice : List Bool) (x : ℕ) → nodes ≡ p.nodes → Marks (HasZero p) (length p.nodes) table → slice ≡ table → IsLeast (ComponentAt nodes slice) x → IsLeast (BreaksW2 p) x
  breaks_w2 nodes table slice x d m e l =
      let k : IsLeast (ComponentAt p.nodes table) x = subst (λ t. IsLeast (ComponentAt p.nodes t) x) e (subst (λ ns. IsLeast (ComponentAt ns slice) x) d l) in
      ((w2_at table m x).0 k.0, λ y b. k.1 y ((w2_at table m y).1 b))

  pub all_solid : (nodes : List Node) (table slice : List Bool) → nodes ≡ p.nodes → Marks (HasZero p) (length p.nodes) table → slice ≡ table → ((x : ℕ) → ComponentAt nodes slice x → ⊥) → (x : ℕ) → BreaksW2 p x → ⊥
  all_solid nodes table slice d m e h x b = h x (subst (λ ns. ComponentAt ns slice x) (sym d) (subst (λ t. ComponentAt p.nodes t x) (sym e) ((w2_at table m x).1 b)))

-- circles of a graph are those of its steps
module _ (R S : ℕ → ℕ → Type 0) (into : (x y : ℕ) → R x y → S x y) where
  pub walk_into : (k x y : ℕ) → Walk R k x y → Walk S k x y
  walk_into zero x y w = w
  walk_into (suc k) x y w = (w.0, into x w.0 w.1, walk_into k w.0 y w.2)

  pub on_circle_into : (x : ℕ) → OnCircle R x → OnCircle S x
  on_circle_into x c = (c.0, walk_into (suc c.0) x x c.1)

  neighbours_into : (x : ℕ) (rest : List ℕ) → Neighbours R (x ∷ rest) → Neighbours S (x ∷ rest)
  neighbours_into x [] n = tt
  neighbours_into x (y ∷ rest) n = (into x y n.0, neighbours_into y rest n.1)

  circle_into : (x : ℕ) (chain : List ℕ) → IsCircle R x chain → IsCircle S x chain
  circle_into x [] c = absurd c
  circle_into x (y ∷ []) c = absurd c
  circle_into x (y ∷ (z ∷ rest)) c = (c.0, neighbours_into y (z ∷ rest) c.1, c.2)

module _ (R : ℕ → ℕ → Type 0) (n : ℕ) (edges slice : List (List ℕ)) (g : IsGraph R n edges) (same : slice ≡ edges) where
  edge_step : (x y : ℕ) → Edge slice x y → R x y
  edge_step x y e = g.sound x y (subst (λ l. Edge l x y) same e)

  step_edge : (x y : ℕ) → R x y → Edge slice x y
  step_edge x y r = subst (λ l. Edge l x y) (sym same) (g.complete x y r)

  pub named_step : (chain : List ℕ) → (x : ℕ) × IsNamedCircle (Edge slice) x chain → (x : ℕ) × IsNamedCircle R x chain
  named_step chain r = (
    r.0,
    record {
      circle = circle_into (Edge slice) R edge_step r.0 chain r.1.circle;
      least = λ y c. r.1.least y (on_circle_into R (Edge slice) step_edge y c);
      shortest = λ other c. r.1.shortest other (circle_into R (Edge slice) step_edge r.0 other c);
      first = λ other c e. r.1.first other (circle_into R (Edge slice) step_edge r.0 other c) e;
    },
  )

  pub no_step_circle : ((x : ℕ) → OnCircle (Edge slice) x → ⊥) → (x : ℕ) → OnCircle R x → ⊥
  no_step_circle h x c = h x (on_circle_into R (Edge slice) step_edge x c)

pub none_w1 : (p : Program) → ((x : ℕ) → x < length p.nodes → IsInhabited p x) → (y : ℕ) → BreaksW1 p y → ⊥
none_w1 p h y b = b.1 (h y b.0)

module _ (p : Held) (edges slice : List (List ℕ)) (g : IsGraph (SameSize (plain_of p)) (length p.nodes) edges) (same : slice ≡ edges) where
  pub edges_within : (x y : ℕ) → Edge slice x y → y < length slice
  edges_within x y e = omega (arith, g.within x y (edge_step (SameSize (plain_of p)) (length p.nodes) edges slice g same x y e), g.long, ap length same)

  pub no_edge_circle : ((x : ℕ) → OnCircle (SameSize (plain_of p)) x → ⊥) → (x : ℕ) → OnCircle (Edge slice) x → ⊥
  no_edge_circle h x c = h x (on_circle_into (Edge slice) (SameSize (plain_of p)) (edge_step (SameSize (plain_of p)) (length p.nodes) edges slice g same) x c)

  -- ranks, levels and least sizes are those of the program
  pub ranked : IsProgram (plain_of p) → IsFounded (plain_of p) → (ranks wholes whole_slice levels sizes : List ℕ) → AreLongest slice ranks → AreWholes (plain_of p) wholes → whole_slice ≡ wholes
      → levels ≡ levels_of whole_slice (works_of (plain_of p)) → AreLeast (plain_of p) sizes → IsRanked p ranks levels sizes
  ranked q f ranks wholes whole_slice levels sizes a ws s lv ls = record {
    founded = f;
    ranks_long = a.long ∙ ap length same ∙ g.long;
    ranked = λ x r e.
        let h = a.each x r e in (
          (h.0.0, walk_into (Edge slice) (SameSize (plain_of p)) (edge_step (SameSize (plain_of p)) (length p.nodes) edges slice g same) r x h.0.0 h.0.1),
          λ k y w. h.1 k y (walk_into (SameSize (plain_of p)) (Edge slice) (step_edge (SameSize (plain_of p)) (length p.nodes) edges slice g same) k x y w),
        );
    levels_long = levels_long (plain_of p) q wholes levels right;
    leveled = level_right (plain_of p) q wholes levels ws right;
    least = ls;
  }
    where
      right : levels ≡ levels_of wholes (works_of (plain_of p))
      right = lv ∙ ap (λ w. levels_of w (works_of (plain_of p))) s
