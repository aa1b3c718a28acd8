-- Structures of the code whose parts are in a list or a box, as trees.
use Rattle.std.proofs.Common.{◌≡◌, ℕ, List, refl, sym, ap, ◌∙◌}
use mathlib.Core.Former.{Count}
use Rattle.luo_struct.specs.declared.structure.Structure.{Structure, Atom, Inj, Inj', Tup, Tup', Coll, Coll', Row_of-Structure, end_of-Structure, more_of-Structure, items-the_row-Structure, items_hidden-the_row-Structure-1}
use Rattle.luo_model.specs.Tree.{Tree, Trees, none, more}
use Rattle.luo_model.specs.Tree as tree
use Rattle.luo_struct.specs.View.{tree_of, trees_of, tree_list}

row_trees : (n : _) (row : Row_of-Structure n) → trees_of row ≡ tree_list (items-the_row-Structure n row)
row_trees n end_of-Structure = refl
row_trees n (more_of-Structure s rest) = ap (more (tree_of s)) (row_trees _ rest)

abbrev row_in : Structure → (n : Count) × Row_of-Structure n
row_in (Tup' _ row) = (_, row)
row_in (Coll' _ row) = (_, row)
row_in _ = (_, end_of-Structure)

pub tuple_tree : (s : Structure) (parts same : List Structure) → s ≡ Tup parts → same ≡ parts → tree_of s ≡ tree.Tup (tree_list same)
tuple_tree s parts same e f =
    let row = row_in (Tup parts) in
    ap tree_of e ∙ ap tree.Tup (row_trees row.0 row.1 ∙ ap tree_list (items_hidden-the_row-Structure-1 parts)) ∙ ap (λ ss. tree.Tup (tree_list ss)) (sym f)

pub collection_tree : (s : Structure) (parts same : List Structure) → s ≡ Coll parts → same ≡ parts → tree_of s ≡ tree.Coll (tree_list same)
collection_tree s parts same e f =
    let row = row_in (Coll parts) in
    ap tree_of e ∙ ap tree.Coll (row_trees row.0 row.1 ∙ ap tree_list (items_hidden-the_row-Structure-1 parts)) ∙ ap (λ ss. tree.Coll (tree_list ss)) (sym f)

inner_tree : (branch : ℕ) (inner : Structure) → tree_of (Inj branch inner) ≡ tree.Inj branch (tree_of inner)
unfolding Rattle.luo_struct.specs.declared.structure.Structure.TheBlock.hidden-the_row-Structure-0 denote.Hole.Carrier.hidden
inner_tree branch inner = refl

pub branch_tree : (s : Structure) (branch : ℕ) (inner same : Structure) → s ≡ Inj branch inner → same ≡ inner → tree_of s ≡ tree.Inj branch (tree_of same)
branch_tree s branch inner same e f = ap tree_of e ∙ inner_tree branch inner ∙ ap (λ t. tree.Inj branch (tree_of t)) (sym f)
