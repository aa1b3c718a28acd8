-- Sizes of structures of the code, part by part.
use Rattle.std.proofs.Common.{◌≡◌, ℕ, zero, suc, ◌+◌, ◌<◌, List, [], ◌∷◌, length, take, get_or, ap, arith, add-one}
use Rattle.luo_struct.specs.declared.structure.Structure.{Structure}
use Rattle.luo_model.specs.Tree.{size_of, sizes_of}
use Rattle.luo_struct.specs.View.{tree_of, tree_list}

pub sizes-take : (ss : List Structure) (i : ℕ) (s : Structure) → i < length ss → s ≡ get_or ss i s → sizes_of (tree_list (take (i + 1) ss)) ≡ sizes_of (tree_list (take i ss)) + size_of (tree_of s)
sizes-take ss i s h e = rw add-one (go ss i s h e)
  where
    go : (ss : List Structure) (i : ℕ) (s : Structure) → i < length ss → s ≡ get_or ss i s → sizes_of (tree_list (take (suc i) ss)) ≡ sizes_of (tree_list (take i ss)) + size_of (tree_of s)
    go [] i s h e = absurd (omega arith)
    go (x ∷ ss) zero s h e = omega (arith, ap (λ t. size_of (tree_of t)) e)
    go (x ∷ ss) (suc i) s h e = omega (arith, go ss i s (omega arith) e)
