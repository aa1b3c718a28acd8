-- A structure of the code as a tree.
use Rattle.std.specs.Prelude.{List, [], ◌∷◌}
use Rattle.luo_struct.specs.declared.structure.Structure.{Structure, Atom, Inj', Tup', Coll', Row_of-Structure, end_of-Structure, more_of-Structure}
use Rattle.luo_model.specs.Tree.{Tree, Trees, none, more}
use Rattle.luo_model.specs.Tree as tree

abbrev mutual
  pub tree_of : Structure → Tree
  tree_of (Atom weight label) = tree.Atom weight label
  tree_of (Inj' branch shape inner) = tree.Inj branch (first_tree inner)
  tree_of (Tup' shape parts) = tree.Tup (trees_of parts)
  tree_of (Coll' shape parts) = tree.Coll (trees_of parts)

  pub trees_of : {n : _} → Row_of-Structure n → Trees
  trees_of end_of-Structure = none
  trees_of (more_of-Structure s rest) = more (tree_of s) (trees_of rest)

  -- the one structure of a box
  pub first_tree : {n : _} → Row_of-Structure n → Tree
  first_tree end_of-Structure = tree.Tup none
  first_tree (more_of-Structure s rest) = tree_of s

-- the trees of a list
abbrev pub tree_list : List Structure → Trees
tree_list [] = none
tree_list (s ∷ ss) = more (tree_of s) (tree_list ss)
