-- What holds of structures with other labels, and of counts on any labels.
use Rattle.std.specs.Prelude.{◌≡◌, ℕ, List}
use Rattle.luo_finite.specs.Listing.{In}
use Rattle.luo_model.specs.Tree.{Tree, labels_of}
use Rattle.luo_model.specs.Order.{order_of}
use Rattle.luo_model.specs.Program.{Program}
use Rattle.luo_model.specs.Member.{Member}
use Rattle.luo_model.specs.Charges.{Charges, SiteCharges}
use Rattle.luo_model.specs.Tables.{IsCount}
use Rattle.luo_counting.specs.Counted.{CountsAt}
use Rattle.luo_places.specs.relabelling.Relabelling.{relabelled, Rises}

-- the labels of the structure are of D
abbrev pub HasLabelsOf : List ℕ → Tree → Type 0
HasLabelsOf D t = (l : ℕ) → In l (labels_of t) → In l D

-- labels sent to others so that they rise keep the order of structures
abbrev pub OrderIsKept : Type 0
OrderIsKept =
    (f : ℕ → ℕ) (D : List ℕ) → Rises f D → (s t : Tree) → HasLabelsOf D s → HasLabelsOf D t
    → order_of (relabelled f s) (relabelled f t) ≡ order_of s t

-- and who is a member of a node
abbrev pub MembersAreKept : Type 0
MembersAreKept =
    (f : ℕ → ℕ) (D : List ℕ) → Rises f D → (p : Program) (x : ℕ) (t : Tree) → HasLabelsOf D t
    → Member p x t → Member p x (relabelled f t)

-- and what procedures and sites charge, however they are sent
abbrev pub ChargesAreKept : Type 0
ChargesAreKept =
    ((f : ℕ → ℕ) (p : Program) (g : ℕ) (t : Tree) (q : ℕ) → Charges p g t q
    → Charges p g (relabelled f t) q)
    × ((f : ℕ → ℕ) (p : Program) (i : ℕ) (t : Tree) (q : ℕ) → SiteCharges p i t q
    → SiteCharges p i (relabelled f t) q)

-- a count is that of the structures on any labels of the size
abbrev pub CountsOnAnyLabels : Type 0
CountsOnAnyLabels = (p : Program) (x n c : ℕ) → IsCount p x n c → CountsAt p x n c
