-- Structures of size n carry the labels 1 to n, or none.
use Rattle.std.proofs.Common.{◌≡◌, ℕ, ◌+◌, ◌≤◌, List, [], refl, sym, subst, arith}
use Rattle.luo_finite.specs.Places.{IsPlace}
use Rattle.luo_model.specs.declared.program.Universe.{Universe}
use Rattle.luo_model.specs.declared.program.Universe.TheVariants.{Unlabelled, Labelled}
use Rattle.luo_model.specs.Tree.{Tree}
use Rattle.luo_model.specs.Order.{IsBefore}
use Rattle.luo_model.specs.Program.{Program}
use Rattle.luo_model.specs.Structures.{IsStructure, IsStructureOn, Carries, labels_from}
use Rattle.luo_model.specs.View.{Held, plain_of}
use Rattle.luo_counting.proofs.Numbered.{room_of}
use Rattle.luo_counting.proofs.Orders.{trees_ordered}
use Rattle.luo_places.specs.steps.Next.{IsNext}
use Rattle.luo_places.proofs.steps.Next.{next_place, Next-iff}
use Rattle.luo_struct.specs.declared.structure.Structure.{Structure}
use Rattle.luo_struct.specs.View.{tree_of}
use Rattle.luo_rank.specs.inner.Lookup.{Looked}
use Rattle.luo_stepper.specs.declared.stepping.Step.TheVariants as step
use Rattle.luo_stepper.specs.inner.Stepping.{AreLabels, Here, IsHere, IsSome, Stepped}

carried : (u : Universe) → u ≡ Unlabelled → (L : List ℕ) (s : Tree) → Carries u L s
carried Unlabelled e L s = tt
carried Labelled e L s = absurd (cc)

-- the labels of the structures of a size
labels_for : (p : Program) (u : Universe) → u ≡ p.universe → (x n : ℕ)
    → (L : List ℕ) × AreLabels u L n × ((s : Tree) → IsStructure p x n s → IsStructureOn p x L n s) × ((s : Tree) → IsStructureOn p x L n s → IsStructure p x n s)
labels_for p Unlabelled e x n = ([], refl, (λ s m. (m.0, m.1, carried p.universe (sym e) [] s)), λ s m. (m.0, m.1, carried p.universe (sym e) (labels_from 1 n) s))
labels_for p Labelled e x n = (labels_from 1 n, room_of Labelled n, (λ s m. m), λ s m. m)

module _ (t : Looked) (q : Held) (n : ℕ) (same : (t.program ≡ q) × (t.last ≡ n)) (x : ℕ) (s : Tree) where
  pub some_here : IsStructure (plain_of q) x n s → IsSome t x s
  some_here m =
      let k = labels_for (plain_of t.program) t.program.universe refl x n in (
        k.0,
        n,
        record {
          labels = k.1;
          within = subst (λ v. n ≤ v) (sym same.1) (let o : n ≤ n = omega arith in o);
          is = k.2 s (subst (λ (h : Held). IsStructure (plain_of h) x n s) (sym same.0) m);
        },
      )

  pub next_has_place : (place : ℕ) (labels : List ℕ) (u : Structure) → IsPlace (IsStructure (plain_of q) x n) IsBefore place s → Stepped t x s labels (step.Next u) → IsPlace (IsStructure (plain_of q) x n) IsBefore (place + 1) (tree_of u)
  next_has_place place labels u m told =
      let k = labels_for (plain_of t.program) t.program.universe refl x n in
      let h : IsHere t x k.0 n s = record {
        labels = k.1;
        within = subst (λ v. n ≤ v) (sym same.1) (let o : n ≤ n = omega arith in o);
        is = k.2 s (subst (λ (h : Held). IsStructure (plain_of h) x n s) (sym same.0) m.there);
      } in
      let w : IsNext (IsStructure (plain_of t.program) x n) IsBefore s (tree_of u) =
      Next-iff (Here t x k.0 n) (IsStructure (plain_of t.program) x n) IsBefore IsBefore k.3 k.2 (λ y z p q h. h) s (tree_of u) (λ h. h) (told k.0 n h) in
      next_place (IsStructure (plain_of q) x n) IsBefore trees_ordered place s (tree_of u) m (subst (λ (h : Held). IsNext (IsStructure (plain_of h) x n) IsBefore s (tree_of u)) same.0 w)
