-- Structures of the unlabelled universe have no labels.
use Rattle.std.proofs.Common.{◌≡◌, ℕ, zero, suc, List, [], ◌∷◌, inl, ⊎_elim, subst, refl}
use Rattle.luo_finite.specs.Listing.{In}
use Rattle.luo_finite.proofs.Membership.{In-append_cases}
use Rattle.luo_model.specs.declared.program.Universe.TheVariants.{Unlabelled}
use Rattle.luo_model.specs.declared.program.Part.{Part}
use Rattle.luo_model.specs.declared.program.Shape.{Shape}
use Rattle.luo_model.specs.declared.program.Shape.TheVariants as shape
use Rattle.luo_model.specs.Tree.{Tree, Trees, Atom, Inj, Tup, Coll, none, more, label_list, labels_of, all_labels_of}
use Rattle.luo_model.specs.Program.{Program, shape_of}
use Rattle.luo_model.specs.Member.{Fits, FitAll, FitEach, IsLabel}

-- no structure of the unlabelled universe has a label
module _ (p : Program) (u : p.universe ≡ Unlabelled) where
  mutual
    pub no_labels : (t : Tree) (s : Shape) → Fits p s t → (y : ℕ) → In y (labels_of t) → ⊥
    no_labels (Atom w l) (shape.Atom weight) m y i = subst (λ k. In y (label_list k)) (subst (λ v. IsLabel v w l) u m.1) i
    no_labels (Inj zero t) (shape.Union parts) m y i = absurd m
    no_labels (Inj (suc k) t) (shape.Union parts) m y i = no_labels t (shape_of p m.0.node) m.2 y i
    no_labels (Tup ts) (shape.Product parts) m y i = none_of_all ts parts m y i
    no_labels (Coll ts) (shape.Coll kind part low high) m y i = none_of_each ts part m.1 y i
    no_labels t s m y i = absurd m

    none_of_all : (ts : Trees) (parts : List Part) → FitAll p parts ts → (y : ℕ) → In y (all_labels_of ts) → ⊥
    none_of_all none [] m y i = i
    none_of_all none (part ∷ parts) m y i = absurd m
    none_of_all (more t ts) [] m y i = absurd m
    none_of_all (more t ts) (part ∷ parts) m y i =
        ⊎_elim (λ j. no_labels t (shape_of p part.node) m.0 y j) (λ j. none_of_all ts parts m.1 y j) (In-append_cases y (labels_of t) (all_labels_of ts) i)

    none_of_each : (ts : Trees) (part : Part) → FitEach p part ts → (y : ℕ) → In y (all_labels_of ts) → ⊥
    none_of_each none part m y i = i
    none_of_each (more t ts) part m y i =
        ⊎_elim (λ j. no_labels t (shape_of p part.node) m.0 y j) (λ j. none_of_each ts part m.1 y j) (In-append_cases y (labels_of t) (all_labels_of ts) i)

pub nothing_in : (l : List ℕ) → ((y : ℕ) → In y l → ⊥) → l ≡ []
nothing_in [] h = refl
nothing_in (x ∷ l) h = absurd (h x (inl refl))
