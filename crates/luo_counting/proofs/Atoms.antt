-- Atoms: there is one of its weight, on any labels.
use Rattle.std.proofs.Common.{◌≡◌, ℕ, zero, suc, ◌≤◌, List, [], ◌∷◌, inl, ⊎_elim, refl, sym, ◌∙◌, subst, arith}
use Rattle.luo_finite.proofs.Sums.{Sums-none, Sums-one}
use Rattle.luo_model.specs.declared.program.Universe.{Universe}
use Rattle.luo_model.specs.declared.program.Universe.TheVariants.{Unlabelled, Labelled}
use Rattle.luo_model.specs.declared.program.Shape.TheVariants as shape
use Rattle.luo_model.specs.Tree.{Tree, Atom, Inj, Tup, Coll, size_of}
use Rattle.luo_model.specs.Program.{Program, shape_of}
use Rattle.luo_model.specs.Member.{Fits, IsLabel}
use Rattle.luo_model.specs.Structures.{IsStructureOn, Carries}
use Rattle.luo_counting.specs.Sharing.{IsRoom}
use Rattle.luo_counting.specs.Counted.{CountsAt, IsLight, AreLight}

-- the atom on given labels
atom_of : Universe → ℕ → List ℕ → Tree
atom_of Unlabelled weight L = Atom weight 0
atom_of Labelled weight [] = Atom weight 0
atom_of Labelled weight (l ∷ L) = Atom weight l

IsAtom : Universe → ℕ → List ℕ → ℕ → ℕ → Type 0
IsAtom u weight L w l = (w ≡ weight) × IsLabel u w l × Carries u L (Atom w l)

atom_there : (u : Universe) (weight : ℕ) (L : List ℕ) → (u ≡ Labelled → weight ≤ 1) → IsRoom u L weight → (l : ℕ) × (atom_of u weight L ≡ Atom weight l) × IsAtom u weight L weight l
unfolding atom_of IsAtom
atom_there Unlabelled weight L light r = (0, refl, (refl, refl, tt))
atom_there Labelled zero [] light r = (0, refl, (refl, ((λ e. absurd (omega (arith, e))), λ o. refl), (tt, (λ x i. i), λ x i. i)))
atom_there Labelled zero (l ∷ L) light r = absurd (omega (arith, r.1))
atom_there Labelled (suc weight) [] light r = absurd (omega (arith, r.1))
atom_there Labelled (suc weight) (zero ∷ L) light r = let h : 1 ≤ 0 = r.2 0 (inl refl) in absurd (omega (arith, h))
atom_there Labelled (suc weight) (suc l ∷ (m ∷ L)) light r = absurd (omega (arith, r.1, light refl))
atom_there Labelled (suc weight) (suc l ∷ []) light r =
    (suc l, refl, (refl, ((λ e. omega arith), λ o. absurd (o (omega (arith, light refl)))), (((λ i. i), tt), (λ x i. i), λ x i. i)))

only_atom : (u : Universe) (weight w l : ℕ) (L : List ℕ) → (u ≡ Labelled → weight ≤ 1) → IsRoom u L weight → IsAtom u weight L w l → Atom w l ≡ atom_of u weight L
unfolding atom_of IsAtom
only_atom Unlabelled weight w l L light r m = λ i. Atom (m.0 i) (m.1 i)
only_atom Labelled weight w zero [] light r m = λ i. Atom (m.0 i) 0
only_atom Labelled weight w (suc l) [] light r m = absurd ((m.2).1 (suc l) (inl refl))
only_atom Labelled weight w zero (k ∷ L) light r m = absurd ((m.2).2 k (inl refl))
only_atom Labelled weight w (suc l) (k ∷ L) light r m =
    let e : k ≡ suc l = ⊎_elim (λ q. q) (λ n. absurd n) ((m.2).2 k (inl refl)) in
    λ i. Atom (m.0 i) (sym e i)

module _ (p : Program) (x weight : ℕ) (is : shape_of p x ≡ shape.Atom weight) (light : AreLight p) where
  is_light : p.universe ≡ Labelled → weight ≤ 1
  is_light u = subst IsLight is (light u x)

  from_atom : (L : List ℕ) (n : ℕ) → n ≡ weight → IsRoom p.universe L n → IsStructureOn p x L n (atom_of p.universe weight L)
  unfolding IsAtom
  from_atom L n e r =
      let a = atom_there p.universe weight L is_light (subst (IsRoom p.universe L) e r) in
      let m = a.2 in
      subst (IsStructureOn p x L n) (sym a.1) (subst (λ s. Fits p s (Atom weight a.0)) (sym is) (m.0, m.1), sym e, m.2)

  atom_only : (L : List ℕ) (n : ℕ) → n ≡ weight → IsRoom p.universe L n → (t : Tree) → Fits p (shape.Atom weight) t → Carries p.universe L t → t ≡ atom_of p.universe weight L
  unfolding IsAtom
  atom_only L n e r (Atom w l) m c = only_atom p.universe weight w l L is_light (subst (IsRoom p.universe L) e r) (m.0, m.1, c)
  atom_only L n e r (Inj i t) m c = absurd m
  atom_only L n e r (Tup ts) m c = absurd m
  atom_only L n e r (Coll ts) m c = absurd m

  atom_size : (t : Tree) → Fits p (shape.Atom weight) t → size_of t ≡ weight
  atom_size (Atom w l) m = m.0
  atom_size (Inj i t) m = absurd m
  atom_size (Tup ts) m = absurd m
  atom_size (Coll ts) m = absurd m

  -- of its weight there is one
  pub CountsAt-atom : (n : ℕ) → n ≡ weight → CountsAt p x n 1
  CountsAt-atom n e L r = Sums-one (IsStructureOn p x L n) (λ t. 1) (atom_of p.universe weight L) (from_atom L n e r) (λ t m. atom_only L n e r t (subst (λ s. Fits p s t) is m.0) m.2)

  pub CountsAt-no_atom : (n : ℕ) → (n ≡ weight → ⊥) → CountsAt p x n 0
  CountsAt-no_atom n o L r = Sums-none (IsStructureOn p x L n) (λ t. 1) (λ t m. o (sym m.1 ∙ atom_size t (subst (λ s. Fits p s t) is m.0)))
