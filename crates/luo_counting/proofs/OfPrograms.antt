-- What the laws of counting ask of every program: atoms are light, and collections suit their universe.
use Rattle.std.proofs.Common.{◌≡◌, ℕ, suc, ◌≤◌, refl, sym, ◌∙◌, subst, Option, inl, inr, ⊎_elim, []}
use Rattle.luo_model.specs.declared.program.Universe.{Universe}
use Rattle.luo_model.specs.declared.program.Universe.TheVariants.{Unlabelled, Labelled}
use Rattle.luo_model.specs.declared.program.Kind.{Kind}
use Rattle.luo_model.specs.declared.program.Kind.TheVariants.{Sequence, Set, Cycle, Multiset, Powerset}
use Rattle.luo_model.specs.declared.program.Part.{Part}
use Rattle.luo_model.specs.declared.program.Shape.{Shape}
use Rattle.luo_model.specs.declared.program.Shape.TheVariants as shape
use Rattle.luo_model.specs.Program.{Program, shape_of}
use Rattle.luo_model.specs.Invariant.{IsProgram, IsAllowed, IsKind, IsLow}
use Rattle.luo_model.proofs.NodeLemmas.{node_at_place}
use Rattle.luo_counting.specs.Items.{Suits}
use Rattle.luo_counting.specs.Counted.{IsLight, AreLight}

pub light_program : (p : Program) → IsProgram p → AreLight p
light_program p q e x = ⊎_elim (λ n. subst IsLight (sym n.2) (light_shape p.universe n.0.shape e (q.allowed x n.0 n.1))) (λ s. subst IsLight (sym s) tt) (node_at_place p x)
  where
    light_shape : (u : Universe) (s : Shape) → u ≡ Labelled → IsAllowed u s → IsLight s
    light_shape Labelled (shape.Atom weight) e a = a
    light_shape Unlabelled (shape.Atom weight) e a = absurd (cc)
    light_shape u (shape.Union parts) e a = tt
    light_shape u (shape.Product parts) e a = tt
    light_shape u (shape.Coll kind part low high) e a = tt

pub suits_program : (p : Program) → IsProgram p → (x : ℕ) (kind : Kind) (part : Part) (low : ℕ) (high : Option ℕ) → shape_of p x ≡ shape.Coll kind part low high → Suits p.universe kind low
suits_program p q x kind part low high is = ⊎_elim
    (λ n. let a = subst (IsAllowed p.universe) (sym n.2 ∙ is) (q.allowed x n.0 n.1) in suits p.universe kind low a.0 a.1)
    (λ s. absurd (let e : shape.Union [] ≡ shape.Coll kind part low high = sym s ∙ is in cc)) (node_at_place p x)
  where
    suits : (u : Universe) (kind : Kind) (low : ℕ) → IsKind u kind → IsLow kind low → Suits u kind low
    suits u Sequence low k l = tt
    suits u Set low k l = subst (λ v. Suits v Set low) (sym k) tt
    suits u Cycle low k l = subst (λ v. Suits v Cycle low) (sym k) l
    suits u Multiset low k l = subst (λ v. Suits v Multiset low) (sym k) tt
    suits u Powerset low k l = subst (λ v. Suits v Powerset low) (sym k) tt
