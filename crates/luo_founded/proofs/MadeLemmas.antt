-- What the rules make, and what trees show of it.
use Rattle.std.proofs.Common.{◌≡◌, ℕ, zero, suc, ◌+◌, ◌≤◌, List, [], ◌∷◌, inl, inr, ⊎_elim, refl, sym, subst, arith, Some, None}
use Rattle.luo_finite.specs.Listing.{In}
use Rattle.luo_model.specs.declared.program.Part.{Part}
use Rattle.luo_model.specs.declared.program.Shape.{Shape}
use Rattle.luo_model.specs.declared.program.Shape.TheVariants as shape
use Rattle.luo_model.specs.Tree.{Tree, Trees, Atom, Inj, Tup, Coll, none, more, size_of, sizes_of}
use Rattle.luo_model.specs.Program.{Program, shape_of}
use Rattle.luo_model.specs.Member.{Fits, FitAll, Member}
use Rattle.luo_model.specs.Founded.{IsBuilt, BuiltWithin, Built, IsInhabited, HasZero}
use Rattle.luo_finite.proofs.Places.{In_get}

module _ (From : ℕ → Type 0) where
  pub made_into : (Q S : ℕ → Type 0) → ((x : ℕ) → Q x → S x) → (s : Shape) → IsBuilt From Q s → IsBuilt From S s
  made_into Q S h (shape.Atom w) m = m
  made_into Q S h (shape.Union parts) m = (m.0, m.1, h m.0.node m.2)
  made_into Q S h (shape.Product parts) m = λ part i. h part.node (m part i)
  made_into Q S h (shape.Coll kind part low high) m = ⊎_elim (λ e. inl e) (λ q. inr (h part.node q)) m

  module _ (p : Program) where
    pub made_later : (d e : ℕ) → d ≤ e → (x : ℕ) → BuiltWithin From p d x → BuiltWithin From p e x
    made_later zero e h x m = absurd m
    made_later (suc d) zero h x m = absurd (omega (arith, h))
    made_later (suc d) (suc e) h x m = made_into (BuiltWithin From p d) (BuiltWithin From p e) (made_later d e (omega arith)) (shape_of p x) m

    in_one_round : (parts : List Part) → ((part : Part) → In part parts → Built From p part.node) → (d : ℕ) × ((part : Part) → In part parts → BuiltWithin From p d part.node)
    in_one_round [] h = (0, λ part i. absurd i)
    in_one_round (first ∷ parts) h =
        let a = h first (inl refl) in
        let b = in_one_round parts (λ part i. h part (inr i)) in (
          a.0 + b.0,
          λ part i. ⊎_elim
              (λ e. made_later a.0 (a.0 + b.0) (omega arith) part.node (subst (λ (q : Part). BuiltWithin From p a.0 q.node) (sym e) a.1))
              (λ j. made_later b.0 (a.0 + b.0) (omega arith) part.node (b.1 part j)) i,
        )

    made_round : (s : Shape) → IsBuilt From (Built From p) s → (d : ℕ) × IsBuilt From (BuiltWithin From p d) s
    made_round (shape.Atom w) m = (0, m)
    made_round (shape.Union parts) m = (m.2.0, (m.0, m.1, m.2.1))
    made_round (shape.Product parts) m = in_one_round parts m
    made_round (shape.Coll kind part low high) m = ⊎_elim (λ e. (0, inl e)) (λ (q : Built From p part.node). (q.0, inr q.1)) m

    -- what the rules make of what they make, they make
    pub made_by_rule : (x : ℕ) (s : Shape) → shape_of p x ≡ s → IsBuilt From (Built From p) s → Built From p x
    made_by_rule x s e m = let r = made_round s m in (suc r.0, subst (IsBuilt From (BuiltWithin From p r.0)) (sym e) r.1)

    pub made_by : (x : ℕ) → Built From p x → IsBuilt From (Built From p) (shape_of p x)
    made_by x (zero, m) = absurd m
    made_by x (suc d, m) = made_into (BuiltWithin From p d) (Built From p) (λ y k. (d, k)) (shape_of p x) m

    -- they make nothing more than what is closed under them
    pub made_least : (Q : ℕ → Type 0) → ((x : ℕ) → IsBuilt From Q (shape_of p x) → Q x) → (d x : ℕ) → BuiltWithin From p d x → Q x
    made_least Q closed zero x m = absurd m
    made_least Q closed (suc d) x m = closed x (made_into (BuiltWithin From p d) Q (made_least Q closed d) (shape_of p x) m)

    -- the node of a tree is made, where the weights up to the tree's size are
    mutual
      made_of_tree : (t : Tree) (x : ℕ) (s : Shape) → shape_of p x ≡ s → Fits p s t → ((w : ℕ) → w ≤ size_of t → From w) → Built From p x
      made_of_tree (Atom w l) x (shape.Atom weight) e m h = made_by_rule x (shape.Atom weight) e (subst From m.0 (h w (omega arith)))
      made_of_tree (Inj zero t) x (shape.Union parts) e m h = absurd m
      made_of_tree (Inj (suc i) t) x (shape.Union parts) e m h = made_by_rule x (shape.Union parts) e (m.0, In_get parts i m.0 m.1, made_of_tree t m.0.node (shape_of p m.0.node) refl m.2 h)
      made_of_tree (Tup ts) x (shape.Product parts) e m h = made_by_rule x (shape.Product parts) e (made_of_trees ts parts m h)
      made_of_tree (Coll none) x (shape.Coll kind part low None) e m h = made_by_rule x (shape.Coll kind part low None) e (inl (omega (arith, m.0)))
      made_of_tree (Coll none) x (shape.Coll kind part low (Some high)) e m h = made_by_rule x (shape.Coll kind part low (Some high)) e (inl (omega (arith, m.0.0)))
      made_of_tree (Coll (more t ts)) x (shape.Coll kind part low high) e m h =
          made_by_rule x (shape.Coll kind part low high) e (inr (made_of_tree t part.node (shape_of p part.node) refl m.1.0 (λ w k. h w (omega arith))))
      made_of_tree t x s e m h = absurd m

      made_of_trees : (ts : Trees) (parts : List Part) → FitAll p parts ts → ((w : ℕ) → w ≤ sizes_of ts → From w) → (part : Part) → In part parts → Built From p part.node
      made_of_trees none [] m h part i = absurd i
      made_of_trees none (first ∷ parts) m h part i = absurd m
      made_of_trees (more t ts) [] m h part i = absurd i
      made_of_trees (more t ts) (first ∷ parts) m h part i = ⊎_elim
          (λ e. subst (λ (q : Part). Built From p q.node) (sym e) (made_of_tree t first.node (shape_of p first.node) refl m.0 (λ w k. h w (omega arith))))
          (λ j. made_of_trees ts parts m.1 (λ w k. h w (omega arith)) part j) i

    pub made_of_member : (x : ℕ) (t : Tree) → Member p x t → ((w : ℕ) → w ≤ size_of t → From w) → Built From p x
    made_of_member x t m h = made_of_tree t x (shape_of p x) refl m h

    pub made_of_all : (ts : Trees) (parts : List Part) → FitAll p parts ts → ((w : ℕ) → w ≤ sizes_of ts → From w) → (part : Part) → In part parts → Built From p part.node
    made_of_all ts parts m h = made_of_trees ts parts m h

-- a node with a member is inhabited
pub inhabited_of_member : (p : Program) (x : ℕ) (t : Tree) → Member p x t → IsInhabited p x
inhabited_of_member p x t m = made_of_member (λ w. Unit {0}) p x t m (λ w h. tt)

-- a node with a member of size 0 has a structure of size 0 by the rules
pub zero_of_member : (p : Program) (x : ℕ) (t : Tree) → Member p x t → size_of t ≡ 0 → HasZero p x
zero_of_member p x t m e = made_of_member (λ w. w ≡ 0) p x t m (λ w h. omega arith)

pub zero_of_all : (p : Program) (ts : Trees) (parts : List Part) → FitAll p parts ts → sizes_of ts ≡ 0 → (part : Part) → In part parts → HasZero p part.node
zero_of_all p ts parts m e = made_of_all (λ w. w ≡ 0) p ts parts m (λ w h. omega arith)
