-- Charges that count the atoms that are made.
use Rattle.std.proofs.Common.{◌≡◌, ℕ, zero, suc, ◌+◌, List, [], ◌∷◌, refl, sym, ap, subst, ◌∙◌, arith}
use Rattle.luo_model.specs.Tree.{Tree, Trees, Inj, Tup, Coll, none, more}
use Rattle.luo_model.specs.Tree as tree
use Rattle.luo_model.specs.Program.{Items, no_items, item, Value, Given, Made, Atom, Tuple, Branch, Chosen, Values, no_values, value, ValueArms, no_value_arms, value_arm}
use Rattle.luo_model.specs.Charges.{bound, BodyCharges, ItemsCharge, CaseCharges, ChargesWithin}
use Rattle.luo_model.specs.Scopes.ValueBodies.{join_items, value_own, values_own, value_items, values_items, value_sites, value_arm_bodies, value_body}
use Rattle.luo_interp.specs.Laws.{atoms_in, all_atoms_in, ChargesAtoms, EachChargesAtoms, ArmsChargeAtoms, AtomsAreCharged}
use Rattle.luo_interp.specs.Makes.{ValueMakes, ValuesMake, ArmsMake, MakesWithin}
use Rattle.luo_interp.proofs.MakeSteps.{result_fits}

module _ (R : ℕ → Tree → Tree → Type 0) (C : ℕ → Tree → ℕ → Type 0) (charged : (g : ℕ) (t u : Tree) → R g t u → C g t (atoms_in u)) where
  join_charged : (is js : Items) (vars : List Tree) (a b : ℕ) → ItemsCharge C is vars a → ItemsCharge C js vars b → ItemsCharge C (join_items is js) vars (a + b)
  join_charged no_items js vars a b x y = subst (ItemsCharge C js vars) (same a b x) y
    where
      same : (a b : ℕ) → a ≡ 0 → b ≡ a + b
      same a b e = omega arith
  join_charged (item i is) js vars a b x y = (x.0, x.1 + b, x.2, join_charged is js vars x.1 b x.3 y, sums a b x.0 x.1 x.4)
    where
      sums : (a b c d : ℕ) → a ≡ c + d → a + b ≡ c + (d + b)
      sums a b c d e = omega arith

  -- what a value's own scope charges, without its own
  abbrev Counts : Items → ℕ → List Tree → ℕ → Type 0
  Counts items own vars n = (r : ℕ) × ItemsCharge C items vars r × (n ≡ own + r)

  sums : (a b c d x y : ℕ) → a ≡ c + x → b ≡ d + y → a + b ≡ c + d + (x + y)
  sums a b c d x y e f = omega arith

  mutual
    value_counts : (first : ℕ) (v : Value) (vars : List Tree) (u : Tree) → ChargesAtoms v → ValueMakes R v vars u → Counts (value_items first v) (value_own v) vars (atoms_in u)
    value_counts first (Given var) vars u a m = absurd a
    value_counts first (Made var callee) vars u a m = (atoms_in u, (atoms_in u, 0, (m.0, m.1, charged callee m.0 u m.2), refl, omega arith), omega arith)
    value_counts first (Atom w own) vars u a m = (0, refl, omega (arith, ap atoms_in m, a))
    value_counts first (Tuple vs) vars u a m = let r = values_count first vs vars m.0 a m.1 in (r.0, r.1, ap atoms_in m.2 ∙ r.2)
    value_counts first (Branch number v) vars u a m = let r = value_counts first v vars m.0 a m.1 in (r.0, r.1, ap atoms_in m.2 ∙ r.2)
    value_counts first (Chosen var arms) vars u a m = (atoms_in u, (atoms_in u, 0, (m.0, m.1, arms_count first arms m.0 u a m.2), refl, omega arith), omega arith)

    values_count : (first : ℕ) (vs : Values) (vars : List Tree) (us : Trees) → EachChargesAtoms vs → ValuesMake R vs vars us → Counts (values_items first vs) (values_own vs) vars (all_atoms_in us)
    values_count first no_values vars us a m = (0, refl, omega (arith, ap all_atoms_in m))
    values_count first (value v vs) vars us a m =
        let x = value_counts first v vars m.0 a.0 m.2 in
        let y = values_count (first + value_sites v) vs vars m.1 a.1 m.3 in (
          x.0 + y.0,
          join_charged (value_items first v) (values_items (first + value_sites v) vs) vars x.0 y.0 x.1 y.1,
          ap all_atoms_in m.4 ∙ sums (atoms_in m.0) (all_atoms_in m.1) (value_own v) (values_own vs) x.0 y.0 x.2 y.2,
        )

    arms_count : (first : ℕ) (arms : ValueArms) (t u : Tree) → ArmsChargeAtoms arms → ArmsMake R arms t u → CaseCharges C (value_arm_bodies first arms) t (atoms_in u)
    arms_count first no_value_arms (tree.Atom w l) u a m = absurd m
    arms_count first no_value_arms (Inj zero t) u a m = absurd m
    arms_count first no_value_arms (Inj (suc zero) t) u a m = absurd m
    arms_count first no_value_arms (Inj (suc (suc i)) t) u a m = absurd m
    arms_count first no_value_arms (Tup ts) u a m = absurd m
    arms_count first no_value_arms (Coll ts) u a m = absurd m
    arms_count first (value_arm b v no_value_arms) (Tup ts) u a m = value_counts first v (bound b (Tup ts)) u a.0 m
    arms_count first (value_arm b v (value_arm d other arms)) (Tup ts) u a m = absurd m
    arms_count first (value_arm b v no_value_arms) (Inj zero t) u a m = absurd m
    arms_count first (value_arm b v (value_arm d other arms)) (Inj zero t) u a m = absurd m
    arms_count first (value_arm b v no_value_arms) (Inj (suc zero) t) u a m = value_counts first v (bound b t) u a.0 m
    arms_count first (value_arm b v (value_arm d other arms)) (Inj (suc zero) t) u a m = value_counts first v (bound b t) u a.0 m
    arms_count first (value_arm b v no_value_arms) (Inj (suc (suc i)) t) u a m = arms_count (first + value_sites v) no_value_arms (Inj (suc i) t) u a.1 m
    arms_count first (value_arm b v (value_arm d other arms)) (Inj (suc (suc i)) t) u a m = arms_count (first + value_sites v) (value_arm d other arms) (Inj (suc i) t) u a.1 m
    arms_count first (value_arm b v no_value_arms) (tree.Atom w l) u a m = absurd m
    arms_count first (value_arm b v (value_arm d other arms)) (tree.Atom w l) u a m = absurd m
    arms_count first (value_arm b v no_value_arms) (Coll ts) u a m = absurd m
    arms_count first (value_arm b v (value_arm d other arms)) (Coll ts) u a m = absurd m

  pub body_counts : (first : ℕ) (v : Value) (vars : List Tree) (u : Tree) → ChargesAtoms v → ValueMakes R v vars u → BodyCharges C (value_body first v) vars (atoms_in u)
  body_counts = value_counts

pub atoms_are_charged : AtomsAreCharged
atoms_are_charged p q ones f s made m = (m.0, within m.0 f s made m.1)
  where
    within : (depth f : ℕ) (s made : Tree) → MakesWithin p.procs depth f s made → ChargesWithin p.procs depth f s (atoms_in made)
    within zero f s made m = absurd m
    within (suc depth) f s made m =
        let P = m.0 in
        let r = m.1 in
        let b = (result_fits p q f P r m.2 m.3).3 in
        (P, m.2, subst (λ z. BodyCharges (ChargesWithin p.procs depth) z (s ∷ []) (atoms_in made)) (sym b.1) (body_counts (MakesWithin p.procs depth) (ChargesWithin p.procs depth) (within depth) b.0 r.value (s ∷ []) made (ones f P r m.2 m.3) m.4))
