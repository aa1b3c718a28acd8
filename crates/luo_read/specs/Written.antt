-- Which texts are texts of structures.
use Rattle.std.specs.Prelude.{◌≡◌, ℕ, zero, suc, ◌≤◌, ◌<◌, List, ◌++◌, length, take}
use Rattle.luo_model.specs.Tree.{Tree, Trees, Atom, Inj, Tup, Coll, none, more, to_list}
use Rattle.luo_struct.specs.Text.{structure_text}
use Rattle.luo_read.specs.declared.TheConstants.{GREATEST_NUMBER}

-- numbers have six digits at most, branches count from 1, and a tuple has at least two parts
abbrev mutual
  pub IsWritten : Tree → Type 0
  IsWritten (Atom weight zero) = weight ≤ GREATEST_NUMBER
  IsWritten (Atom weight (suc label)) = suc label ≤ GREATEST_NUMBER
  IsWritten (Inj branch t) = (1 ≤ branch) × (branch ≤ GREATEST_NUMBER) × IsWritten t
  IsWritten (Tup ts) = (2 ≤ length (to_list ts)) × AreWritten ts
  IsWritten (Coll ts) = AreWritten ts

  pub AreWritten : Trees → Type 0
  AreWritten none = Unit {0}
  AreWritten (more t ts) = IsWritten t × AreWritten ts

abbrev pub IsStructureText : List ℕ → Type 0
IsStructureText text = (t : Tree) × IsWritten t × (structure_text t ≡ text)

-- something after the text makes it a text of a structure
abbrev pub Begins : List ℕ → Type 0
Begins text = (rest : List ℕ) × IsStructureText (text ++ rest)

-- the text is no text of a structure, and its longest part that begins one has this length
pub record IsUnreadable (text : List ℕ) (at : ℕ) : Type 0 where
  pub no_text : IsStructureText text → ⊥
  pub within : at ≤ length text
  pub begins : Begins (take at text)
  pub longest : (k : ℕ) → at < k → k ≤ length text → Begins (take k text) → ⊥
