-- No structure is smaller than a settled table says.
use Rattle.std.proofs.Common.{◌≡◌, ℕ, zero, suc, ◌*◌, ◌≤◌, List, [], ◌∷◌, ⊎_elim, length, min, sum_by, refl, ap, subst, arith, Option, Some, None}
use Rattle.std.proofs.lemmas.List.Sums.{sum_by-cons}
use Rattle.std.proofs.Math.Nat.{suc-mul}
use Rattle.luo_finite.specs.Listing.{In}
use Rattle.luo_model.specs.declared.program.Part.{Part}
use Rattle.luo_model.specs.declared.program.Shape.{Shape}
use Rattle.luo_model.specs.declared.program.Shape.TheVariants as shape
use Rattle.luo_model.specs.Tree.{Tree, Trees, Atom, Inj, Tup, Coll, none, more, to_list, size_of, sizes_of}
use Rattle.luo_model.specs.Program.{Program, shape_of}
use Rattle.luo_model.specs.Member.{Fits, FitAll, FitEach, Member, IsWithin}
use Rattle.luo_founded.specs.inner.Least.{least_part, least_by, IsSettled}
use Rattle.luo_finite.proofs.Places.{In_get}

min_left : (a b : ℕ) → min a b ≤ a
min_left a b = grind arith

min_right : (a b : ℕ) → min a b ≤ b
min_right a b = grind arith

least_part_le : (T : ℕ → ℕ) (parts : List Part) (part : Part) → In part parts → least_part T parts ≤ T part.node
least_part_le T [] part i = absurd i
least_part_le T (first ∷ parts) part i = ⊎_elim
    (λ e. omega (arith, min_left (T first.node) (least_part T parts), ap (λ (q : Part). T q.node) e))
    (λ j. omega (arith, min_right (T first.node) (least_part T parts), least_part_le T parts part j)) i

at_least_low : (low : ℕ) (high : Option ℕ) (k : ℕ) → IsWithin low high k → low ≤ k
at_least_low low None k w = w
at_least_low low (Some high) k w = w.0

times_le : (a b c : ℕ) → a ≤ b → a * c ≤ b * c
times_le zero b c h = omega arith
times_le (suc a) zero c h = absurd (omega arith)
times_le (suc a) (suc b) c h = omega (arith, times_le a b c (omega arith), suc-mul a c, suc-mul b c)

module _ (p : Program) (T : ℕ → ℕ) (settled : IsSettled p T) where
  mutual
    no_less : (t : Tree) (x : ℕ) (s : Shape) → shape_of p x ≡ s → Fits p s t → T x ≤ size_of t
    no_less (Atom w l) x (shape.Atom weight) e m = let h : T x ≤ weight = subst (λ z. T x ≤ least_by T z) e (settled x) in omega (arith, m.0)
    no_less (Inj zero t) x (shape.Union parts) e m = absurd m
    no_less (Inj (suc i) t) x (shape.Union parts) e m =
        let h : T x ≤ least_part T parts = subst (λ z. T x ≤ least_by T z) e (settled x) in
        omega (arith, least_part_le T parts m.0 (In_get parts i m.0 m.1), no_less t m.0.node (shape_of p m.0.node) refl m.2)
    no_less (Tup ts) x (shape.Product parts) e m =
        let h : T x ≤ sum_by (λ (part : Part). T part.node) parts = subst (λ z. T x ≤ least_by T z) e (settled x) in
        omega (arith, no_less_all ts parts m)
    no_less (Coll ts) x (shape.Coll kind part low high) e m =
        let h : T x ≤ low * T part.node = subst (λ z. T x ≤ least_by T z) e (settled x) in
        omega (arith, times_le low (length (to_list ts)) (T part.node) (at_least_low low high (length (to_list ts)) m.0), no_less_each ts part m.1)
    no_less t x s e m = absurd m

    no_less_all : (ts : Trees) (parts : List Part) → FitAll p parts ts → sum_by (λ (part : Part). T part.node) parts ≤ sizes_of ts
    no_less_all none [] m = omega arith
    no_less_all none (part ∷ parts) m = absurd m
    no_less_all (more t ts) [] m = absurd m
    no_less_all (more t ts) (part ∷ parts) m = omega (arith, sum_by-cons (λ (q : Part). T q.node) part parts, no_less t part.node (shape_of p part.node) refl m.0, no_less_all ts parts m.1)

    no_less_each : (ts : Trees) (part : Part) → FitEach p part ts → length (to_list ts) * T part.node ≤ sizes_of ts
    no_less_each none part m = omega arith
    no_less_each (more t ts) part m = omega (arith, no_less t part.node (shape_of p part.node) refl m.0, no_less_each ts part m.1, suc-mul (length (to_list ts)) (T part.node))

  pub least_low : (x : ℕ) (t : Tree) → Member p x t → T x ≤ size_of t
  least_low x t m = no_less t x (shape_of p x) refl m
