-- What holds of all that procedures with a result make.
use Rattle.std.specs.Prelude.{◌≡◌, ℕ, ◌+◌, [], Some, slice_get}
use Rattle.luo_model.specs.Tree.{Tree, Trees, Inj, Tup, Coll, none, more, labels_of}
use Rattle.luo_model.specs.Tree as tree
use Rattle.luo_model.specs.Program.{Program, Procedure, Result, Value, Given, Made, Atom, Tuple, Branch, Chosen, Values, no_values, value, ValueArms, no_value_arms, value_arm}
use Rattle.luo_model.specs.Member.{Member}
use Rattle.luo_model.specs.Charges.{Charges}
use Rattle.luo_model.specs.Invariant.{IsProgram}
use Rattle.luo_model.specs.Founded.{IsFounded}
use Rattle.luo_interp.specs.Makes.{Makes}

-- of each member a procedure with a result makes exactly one structure, a member of the result's
-- node without labels
abbrev pub EachMakesOne : Type 0
EachMakesOne =
    (p : Program) → IsProgram p → IsFounded p → (f : ℕ) (P : Procedure) (r : Result)
    → slice_get p.procs f ≡ Some P → P.result ≡ Some r → (s : Tree) → Member p P.on.node s
    → (made : Tree) × Makes p f s made × Member p r.on.node made × (labels_of made ≡ [])
    × ((other : Tree) → Makes p f s other → other ≡ made)

-- the number of atoms
abbrev mutual
  pub atoms_in : Tree → ℕ
  atoms_in (tree.Atom w l) = 1
  atoms_in (Inj i t) = atoms_in t
  atoms_in (Tup ts) = all_atoms_in ts
  atoms_in (Coll ts) = all_atoms_in ts

  pub all_atoms_in : Trees → ℕ
  all_atoms_in none = 0
  all_atoms_in (more t ts) = atoms_in t + all_atoms_in ts

-- each atom of the value charges 1, and no variable is handed on
abbrev mutual
  pub ChargesAtoms : Value → Type 0
  ChargesAtoms (Given var) = ⊥
  ChargesAtoms (Made var callee) = Unit {0}
  ChargesAtoms (Atom weight own) = own ≡ 1
  ChargesAtoms (Tuple vs) = EachChargesAtoms vs
  ChargesAtoms (Branch number v) = ChargesAtoms v
  ChargesAtoms (Chosen var arms) = ArmsChargeAtoms arms

  pub EachChargesAtoms : Values → Type 0
  EachChargesAtoms no_values = Unit {0}
  EachChargesAtoms (value v vs) = ChargesAtoms v × EachChargesAtoms vs

  pub ArmsChargeAtoms : ValueArms → Type 0
  ArmsChargeAtoms no_value_arms = Unit {0}
  ArmsChargeAtoms (value_arm bind v arms) = ChargesAtoms v × ArmsChargeAtoms arms

-- where that is so of all values of a program, a procedure charges as many as it makes atoms
abbrev pub AtomsAreCharged : Type 0
AtomsAreCharged =
    (p : Program) → IsProgram p
    → ((g : ℕ) (Q : Procedure) (r : Result) → slice_get p.procs g ≡ Some Q → Q.result ≡ Some r
    → ChargesAtoms r.value)
    → (f : ℕ) (s made : Tree) → Makes p f s made → Charges p f s (atoms_in made)
