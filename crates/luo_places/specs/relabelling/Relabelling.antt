-- Structures with other labels.
use Rattle.std.specs.Prelude.{◌≡◌, ◌⊎◌, ℕ, zero, suc, ◌≤◌, ◌<◌, List}
use Rattle.luo_finite.specs.Listing.{In}
use Rattle.luo_model.specs.Tree.{Tree, Trees, Atom, Inj, Tup, Coll, none, more}

-- the label f l in place of l; 0, which is no label, stays
abbrev pub sent : (ℕ → ℕ) → ℕ → ℕ
sent f zero = 0
sent f (suc l) = f (suc l)

-- the structure with these labels
abbrev mutual
  pub relabelled : (ℕ → ℕ) → Tree → Tree
  relabelled f (Atom w l) = Atom w (sent f l)
  relabelled f (Inj i t) = Inj i (relabelled f t)
  relabelled f (Tup ts) = Tup (all_relabelled f ts)
  relabelled f (Coll ts) = Coll (all_relabelled f ts)

  pub all_relabelled : (ℕ → ℕ) → Trees → Trees
  all_relabelled f none = none
  all_relabelled f (more t ts) = more (relabelled f t) (all_relabelled f ts)

-- of the labels of D, f makes labels, and rises on them
pub record Rises (f : ℕ → ℕ) (D : List ℕ) : Type 0 where
  pub labels : (l : ℕ) → In l D → 1 ≤ f l
  pub rising : (l k : ℕ) → In l D → In k D → l < k → f l < f k

-- no label, or one of D
abbrev pub IsAmong : List ℕ → ℕ → Type 0
IsAmong D l = (l ≡ 0) ⊎ In l D
