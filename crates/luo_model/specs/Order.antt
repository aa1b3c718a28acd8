-- The order of structures: by size, then by their sorted labels, then by form and from the left.
use Rattle.std.specs.Prelude.{◌≡◌, ℕ, List, [], ◌∷◌, if◌then◌else◌, nat_le}
use Rattle.std.specs.declared.cmp.Ordering.{Ordering}
use Rattle.std.specs.declared.cmp.Ordering.TheVariants.{Less, Equal, Greater}
use Rattle.std.specs.Cmp.Lexicographic.{slice_cmp}
use Rattle.std.specs.Ordering.{nat_cmp}
use Rattle.luo_model.specs.Tree.{Tree, Trees, Atom, Inj, Tup, Coll, none, more, size_of, labels_of}

-- a number put into a rising list
abbrev pub put : ℕ → List ℕ → List ℕ
put x [] = x ∷ []
put x (y ∷ ys) = if nat_le x y then x ∷ (y ∷ ys) else y ∷ put x ys

-- the numbers of a list in rising order
abbrev pub sorted : List ℕ → List ℕ
sorted [] = []
sorted (x ∷ xs) = put x (sorted xs)

-- the first comparison, or where it finds no difference the second
abbrev pub then_by : Ordering → Ordering → Ordering
then_by Less other = Less
then_by Equal other = other
then_by Greater other = Greater

-- atoms come before structures of branches, these before tuples, and these before collections
abbrev pub form_of : Tree → ℕ
form_of (Atom w l) = 0
form_of (Inj i t) = 1
form_of (Tup ts) = 2
form_of (Coll ts) = 3

-- two structures by their sizes, and then by their labels
abbrev pub by_size_and_labels : Tree → Tree → Ordering
by_size_and_labels s t =
    then_by (nat_cmp (size_of s) (size_of t))
    (slice_cmp nat_cmp (sorted (labels_of s)) (sorted (labels_of t)))

abbrev mutual
  -- two structures by form: atoms by weight and label, structures of branches by branch and what is
  -- inside, lists part by part
  pub by_form : Tree → Tree → Ordering
  by_form (Atom w l) (Atom v k) = then_by (nat_cmp w v) (nat_cmp l k)
  by_form (Inj i s) (Inj j t) =
      then_by (nat_cmp i j) (then_by (by_size_and_labels s t) (by_form s t))
  by_form (Tup ss) (Tup ts) = by_parts ss ts
  by_form (Coll ss) (Coll ts) = by_parts ss ts
  by_form s t = nat_cmp (form_of s) (form_of t)

  -- two lists by their first difference, where a list that ends comes before one that goes on
  pub by_parts : Trees → Trees → Ordering
  by_parts none none = Equal
  by_parts none (more t ts) = Less
  by_parts (more s ss) none = Greater
  by_parts (more s ss) (more t ts) =
      then_by (then_by (by_size_and_labels s t) (by_form s t)) (by_parts ss ts)

-- the order of two structures
unfoldable pub order_of : Tree → Tree → Ordering
order_of s t = then_by (by_size_and_labels s t) (by_form s t)

-- s comes before t
abbrev pub IsBefore : Tree → Tree → Type 0
IsBefore s t = order_of s t ≡ Less

-- s doesn't come before t
abbrev pub IsNotBefore : Tree → Tree → Type 0
IsNotBefore s t = order_of s t ≡ Less → ⊥
