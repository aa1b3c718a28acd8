-- The nodes of a program by their places.
use Rattle.std.proofs.Common.{◌≡◌, ℕ, zero, suc, ◌≤◌, ◌<◌, List, [], ◌∷◌, ◌⊎◌, inl, inr, ⊎_elim, length, refl, ap, arith, get_or, Some, slice_get}
use Rattle.std.proofs.lemmas.Option.{slice_get-get_or, get_or_from_slice_get}
use Rattle.luo_model.specs.declared.program.Node.{Node}
use Rattle.luo_model.specs.declared.program.Shape.TheVariants as shape
use Rattle.luo_model.specs.Program.{Program, shape_of, no_node}

-- a place holds a node, or a union of nothing
pub node_at_place : (p : Program) (x : ℕ) → ((node : Node) × (slice_get p.nodes x ≡ Some node) × (shape_of p x ≡ node.shape) × (x < length p.nodes)) ⊎ (shape_of p x ≡ shape.Union [])
node_at_place p x = ⊎_elim
    (λ (h : x < length p.nodes).
    let e = slice_get-get_or p.nodes x no_node h in
    inl (get_or p.nodes x no_node, e, ap (λ (n : Node). n.shape) (get_or_from_slice_get p.nodes x (get_or p.nodes x no_node) no_node e), h))
    (λ (h : length p.nodes ≤ x). inr (ap (λ (n : Node). n.shape) (past p.nodes x h)))
    (within_or x (length p.nodes))
  where
    within_or : (a b : ℕ) → (a < b) ⊎ (b ≤ a)
    within_or a b = grind arith

    past : (nodes : List Node) (i : ℕ) → length nodes ≤ i → get_or nodes i no_node ≡ no_node
    past [] i h = refl
    past (n ∷ nodes) zero h = absurd (omega arith)
    past (n ∷ nodes) (suc i) h = past nodes i (omega arith)

pub shape_there : (p : Program) (x : ℕ) (node : Node) → slice_get p.nodes x ≡ Some node → shape_of p x ≡ node.shape
shape_there p x node e = ap (λ (n : Node). n.shape) (get_or_from_slice_get p.nodes x node no_node e)
