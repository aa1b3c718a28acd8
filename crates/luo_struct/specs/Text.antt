-- The text of a structure, and which texts are structure texts.
use Rattle.std.specs.Prelude.{ℕ, zero, suc, List, [], ◌++◌, codes, decimal}
use Rattle.luo_model.specs.Tree.{Tree, Trees, Atom, Inj, Tup, Coll, none, more}

-- an atom without a label by its weight, and one with a label by the label; a branch by its number
-- and what is inside; parts of a tuple and components in brackets, with commas between them
abbrev mutual
  pub structure_text : Tree → List ℕ
  structure_text (Atom weight zero) = codes "a" ++ decimal weight
  structure_text (Atom weight (suc label)) = codes "#" ++ decimal (suc label)
  structure_text (Inj branch t) = decimal branch ++ (codes ":" ++ structure_text t)
  structure_text (Tup ts) = codes "(" ++ joined ts ++ codes ")"
  structure_text (Coll ts) = codes "[" ++ joined ts ++ codes "]"

  pub joined : Trees → List ℕ
  joined none = []
  joined (more t ts) = structure_text t ++ followed ts

  -- each with a comma before it
  pub followed : Trees → List ℕ
  followed none = []
  followed (more t ts) = codes "," ++ structure_text t ++ followed ts
