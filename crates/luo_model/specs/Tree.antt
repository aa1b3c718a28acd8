-- Structures as trees, with their sizes and labels.
use Rattle.std.specs.Prelude.{ℕ, zero, suc, ◌+◌, List, [], ◌∷◌, ◌++◌, min}

mutual
  -- an atom of a weight with a label, where 0 is no label; a structure of a branch, from 1; a tuple
  -- of the parts of a product; a collection of components
  pub data Tree : Type 0 where
    Atom : ℕ → ℕ → Tree
    Inj : ℕ → Tree → Tree
    Tup : Trees → Tree
    Coll : Trees → Tree

  pub data Trees : Type 0 where
    none : Trees
    more : Tree → Trees → Trees

abbrev pub to_list : Trees → List Tree
to_list none = []
to_list (more t ts) = t ∷ to_list ts

abbrev pub from_list : List Tree → Trees
from_list [] = none
from_list (t ∷ ts) = more t (from_list ts)

-- the size is the sum of the weights
abbrev mutual
  pub size_of : Tree → ℕ
  size_of (Atom w l) = w
  size_of (Inj i t) = size_of t
  size_of (Tup ts) = sizes_of ts
  size_of (Coll ts) = sizes_of ts

  pub sizes_of : Trees → ℕ
  sizes_of none = 0
  sizes_of (more t ts) = size_of t + sizes_of ts

-- a label other than 0
abbrev pub label_list : ℕ → List ℕ
label_list zero = []
label_list (suc l) = suc l ∷ []

-- the labels other than 0, from the left
abbrev mutual
  pub labels_of : Tree → List ℕ
  labels_of (Atom w l) = label_list l
  labels_of (Inj i t) = labels_of t
  labels_of (Tup ts) = all_labels_of ts
  labels_of (Coll ts) = all_labels_of ts

  pub all_labels_of : Trees → List ℕ
  all_labels_of none = []
  all_labels_of (more t ts) = labels_of t ++ all_labels_of ts

-- the least of some numbers, and 0 where there is none
abbrev pub least_of : List ℕ → ℕ
least_of [] = 0
least_of (x ∷ []) = x
least_of (x ∷ (y ∷ l)) = min x (least_of (y ∷ l))

-- the least label, and 0 where there is none
abbrev pub least_label : Tree → ℕ
least_label t = least_of (labels_of t)
