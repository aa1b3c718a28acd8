-- Each node and size has a listing on each list of labels.
use Rattle.std.proofs.Common.{◌≡◌, ℕ, zero, suc, ◌+◌, List, [], ◌∷◌, inl, inr, ⊎_elim, length, refl, subst, arith}
use Rattle.luo_finite.specs.Listing.{In, Lists}
use Rattle.luo_finite.proofs.Membership.{In-append_cases}
use Rattle.luo_model.specs.declared.program.Universe.{Universe}
use Rattle.luo_model.specs.declared.program.Universe.TheVariants.{Unlabelled, Labelled}
use Rattle.luo_model.specs.declared.program.Part.{Part}
use Rattle.luo_model.specs.declared.program.Shape.{Shape}
use Rattle.luo_model.specs.declared.program.Shape.TheVariants as shape
use Rattle.luo_model.specs.Tree.{Tree, Trees, Atom, Inj, Tup, Coll, none, more, label_list, labels_of, all_labels_of}
use Rattle.luo_model.specs.Program.{Program, shape_of}
use Rattle.luo_model.specs.Member.{Fits, FitAll, FitEach, Member, IsLabel}
use Rattle.luo_model.specs.Structures.{Carries, IsStructureOn, IsListing, labels_from}
use Rattle.luo_model.specs.Invariant.{IsProgram}
use Rattle.luo_founded.proofs.Bounded.{height_for, members_among}
use Rattle.luo_model.specs.Founded.{IsFounded}
use Rattle.luo_finite.proofs.Decided.{Listed-by}
use Rattle.luo_model.proofs.Unlabelled.{no_labels}
use Rattle.luo_model.proofs.AllTrees.{trees_to}
use Rattle.luo_model.proofs.Decisions.{same_tree, structure_decided}

labels_within : (p : Program) (v : Universe) → p.universe ≡ v → (x : ℕ) (t : Tree) (L : List ℕ) → Member p x t → Carries v L t → (y : ℕ) → In y (labels_of t) → In y (0 ∷ L)
labels_within p Unlabelled u x t L m c y i = absurd (no_labels p u t (shape_of p x) m y i)
labels_within p Labelled u x t L m c y i = inr (c.1 y i)

-- THE LAW: each node and size has a listing, on the labels of each list
pub listing_on : (p : Program) → IsProgram p → IsFounded p → (x : ℕ) (L : List ℕ) (n : ℕ) → (l : List Tree) × Lists (IsStructureOn p x L n) l
listing_on p q f x L n =
    Listed-by (IsStructureOn p x L n) same_tree (structure_decided p x L n) (trees_to (n + 64) (0 ∷ L) (height_for (length p.nodes) n))
    (λ t s. subst (λ h. In t (trees_to (n + 64) (0 ∷ L) (height_for (length p.nodes) h))) s.1
    (members_among p q f (n + 64) (0 ∷ L) (inl refl) x t s.0 (labels_within p p.universe refl x t L s.0 s.2) (omega (arith, s.1))))

pub listing_exists : (p : Program) → IsProgram p → IsFounded p → (x n : ℕ) → (l : List Tree) × IsListing p x n l
listing_exists p q f x n = listing_on p q f x (labels_from 1 n) n
