-- What a step gives.
use Rattle.std.specs.Prelude.{◌≡◌, ℕ, zero, suc, ◌+◌, ◌-◌, ◌<◌, ◌≤◌, List, [], ◌∷◌, length, slice_index_or, Bool, true, false}
use Rattle.luo_finite.specs.Listing.{In}
use Rattle.luo_model.specs.declared.program.Universe.{Universe}
use Rattle.luo_model.specs.declared.program.Universe.TheVariants.{Unlabelled, Labelled}
use Rattle.luo_model.specs.declared.program.Part.{Part}
use Rattle.luo_model.specs.Tree.{Tree, Trees, Atom, Inj, Tup, Coll, none, more}
use Rattle.luo_model.specs.Order.{IsBefore}
use Rattle.luo_model.specs.Program.{shape_of}
use Rattle.luo_model.specs.Structures.{IsStructureOn, Rising}
use Rattle.luo_model.specs.View.{plain_of}
use Rattle.luo_counting.specs.Sharing.{IsRoom, splits}
use Rattle.luo_places.specs.Numbers.{PartsBefore}
use Rattle.luo_places.specs.Tails.{TailOn, first_node}
use Rattle.luo_places.specs.steps.Next.{IsNext, IsFirst, IsLast}
use Rattle.luo_places.specs.steps.Rooms.{RoomBefore, IsShare, HasSize, HasLabels, HasRoom}
use Rattle.luo_struct.specs.declared.structure.Structure.{Structure}
use Rattle.luo_struct.specs.View.{tree_of, tree_list}
use Rattle.luo_rank.specs.inner.Lookup.{Looked, entry_of, tail_at, behind, Stands, IsLeft, no_part, part_entry}
use Rattle.luo_stepper.specs.declared.stepping.Step.{Step}
use Rattle.luo_stepper.specs.declared.stepping.Step.TheVariants as step
use Rattle.luo_stepper.specs.declared.stepping.Row.{Row}
use Rattle.luo_stepper.specs.declared.stepping.Row.TheVariants as row

-- the labels of a structure of size n: none in the unlabelled universe
abbrev pub AreLabels : Universe → List ℕ → ℕ → Type 0
AreLabels Unlabelled L n = L ≡ []
AreLabels Labelled L n = IsRoom Labelled L n

-- the structures of a node on these labels
abbrev pub Here : Looked → ℕ → List ℕ → ℕ → Tree → Type 0
Here t x L n s = IsStructureOn (plain_of t.program) x L n s

-- what can be left after f parts
abbrev pub Left : Looked → ℕ → ℕ → List ℕ → ℕ → Trees → Type 0
Left t x f L n ts = TailOn (plain_of t.program) (tail_at (plain_of t.program) x f) L n ts

-- s is one of them
pub record IsHere (t : Looked) (x : ℕ) (L : List ℕ) (n : ℕ) (s : Tree) : Type 0 where
  pub labels : AreLabels t.program.universe L n
  pub within : n ≤ t.last
  pub is : Here t x L n s

-- these are left after f parts
pub record AreHere (t : Looked) (x f : ℕ) (L : List ℕ) (n : ℕ) (ts : Trees) : Type 0 where
  pub labels : AreLabels t.program.universe L n
  pub within : n ≤ t.last
  pub stands : Stands (shape_of (plain_of t.program) x) t.last f n
  pub are : Left t x f L n ts

abbrev pub IsSome : Looked → ℕ → Tree → Type 0
IsSome t x s = (L : List ℕ) × (n : ℕ) × IsHere t x L n s

abbrev pub AreSome : Looked → ℕ → ℕ → Trees → Type 0
AreSome t x f ts = (L : List ℕ) × (n : ℕ) × AreHere t x f L n ts

-- something is left after f parts
abbrev pub HasPart : Looked → ℕ → ℕ → Type 0
HasPart t x f =
    (n : ℕ) × Stands (shape_of (plain_of t.program) x) t.last f n
    × IsLeft (tail_at (plain_of t.program) x f) n

-- the next structure; or s was the last, of this size and these labels; or nothing is told
abbrev pub Stepped : Looked → ℕ → Tree → List ℕ → Step → Type 0
Stepped t x s labels (step.Next u) =
    (L : List ℕ) (n : ℕ) → IsHere t x L n s → IsNext (Here t x L n) IsBefore s (tree_of u)
Stepped t x s labels (step.Last m) =
    (L : List ℕ) (n : ℕ) → IsHere t x L n s
    → (m ≡ n) × (labels ≡ L) × IsLast (Here t x L n) IsBefore s
Stepped t x s labels step.Untold = Unit {0}

-- the structures from place k on, and those before it
abbrev pub from_place : ℕ → List Structure → List Structure
from_place zero xs = xs
from_place (suc k) [] = []
from_place (suc k) (x ∷ xs) = from_place k xs

abbrev pub up_to : ℕ → List Structure → List Structure
up_to zero xs = []
up_to (suc k) [] = []
up_to (suc k) (x ∷ xs) = x ∷ up_to k xs

-- after those of `before` stand the next parts; or the parts were the last, and are taken off; or
-- nothing is told
abbrev pub Moved : Looked → ℕ → ℕ → List Structure → Trees → List Structure → List ℕ → Row → Type 0
Moved t x f before ts new labels row.On = (L : List ℕ) (n : ℕ) → AreHere t x f L n ts
    → (us : Trees) × IsNext (Left t x f L n) PartsBefore ts us
    × (tree_list new ≡ behind (tree_list before) us)
Moved t x f before ts new labels (row.Ended m) =
    (new ≡ before) × ((L : List ℕ) (n : ℕ) → AreHere t x f L n ts
    → (m ≡ n) × (labels ≡ L) × IsLast (Left t x f L n) PartsBefore ts)
Moved t x f before ts new labels row.Untold = Unit {0}

-- after the trees of `old` stand the first of what is left
abbrev pub Began : Looked → ℕ → ℕ → List ℕ → ℕ → Trees → Trees → Type 0
Began t x f L n old new =
    (us : Trees) × IsFirst (Left t x f L n) PartsBefore us × (new ≡ behind old us)

-- the first number from a start on of which something holds, below a bound, or the bound
pub record IsFirstFrom (P : ℕ → Type 0) (start bound found : ℕ) : Type 0 where
  pub within : found ≤ bound
  pub past : start ≤ found
  pub empty : (k : ℕ) → start ≤ k → k < found → P k → ⊥
  pub some : found < bound → P found

-- the first has a structure of size k, and the rest of the size that is left
abbrev pub Fills : Looked → ℕ → ℕ → ℕ → ℕ → Type 0
Fills t x f n k =
    HasSize (plain_of t.program) (entry_of t.counts) (tail_at (plain_of t.program) x f) n k

abbrev pub Rooms : Looked → ℕ → ℕ → List ℕ → ℕ → ℕ × List ℕ → Type 0
Rooms t x f L n room =
    HasRoom (plain_of t.program) (entry_of t.counts) (tail_at (plain_of t.program) x f) L n room

-- a first of size i has the labels C
pub record IsRoomOf (t : Looked) (x f : ℕ) (L : List ℕ) (n i : ℕ) (C : List ℕ) : Type 0 where
  pub labels : AreLabels t.program.universe L n
  pub within : i ≤ n
  pub fills : Fills t x f n i
  pub own : HasLabels (plain_of t.program) (tail_at (plain_of t.program) x f) L i C

-- D are labels of a first of size k, and U are left of L
pub record AreParts (t : Looked) (L : List ℕ) (n k : ℕ) (D U : List ℕ) : Type 0 where
  pub within : k ≤ n
  pub share : IsShare t.program.universe L k D U
  pub first : AreLabels t.program.universe D k
  pub rest : AreLabels t.program.universe U (n - k)

-- they are the next, in size and labels, after i and C
pub record IsNextRoom (t : Looked) (x f : ℕ) (L : List ℕ) (n i : ℕ) (C : List ℕ) (k : ℕ)
    (D U : List ℕ) : Type 0 where
  pub parts : AreParts t L n k D U
  pub next : IsNext (Rooms t x f L n) RoomBefore (i, C) (k, D)

abbrev pub IsLastRoom : Looked → ℕ → ℕ → List ℕ → ℕ → ℕ → List ℕ → Type 0
IsLastRoom t x f L n i C = IsLast (Rooms t x f L n) RoomBefore (i, C)

-- the first and the rest begin again in the next room, after the trees of `old`; or there is none
abbrev pub Turned : Looked → ℕ → ℕ → List ℕ → ℕ → ℕ → List ℕ → List Structure → List Structure
    → Bool → Type 0
Turned t x f L n i C old new false = IsLastRoom t x f L n i C × (new ≡ old)
Turned t x f L n i C old new true = (k : ℕ) × (D U : List ℕ) × IsNextRoom t x f L n i C k D U
    × (s : Tree) × (ts : Trees)
    × IsFirst (Here t (first_node (tail_at (plain_of t.program) x f)) D k) IsBefore s
    × IsFirst (Left t x (f + 1) U (n - k)) PartsBefore ts
    × (tree_list new ≡ behind (tree_list old) (more s ts))

-- the node of a branch
abbrev pub node_of : List Part → ℕ → ℕ
node_of parts i = (slice_index_or parts i no_part).node

-- the first of the next branch that has a structure of size n; or there is none
abbrev pub Branched : Looked → List Part → ℕ → List ℕ → ℕ → Step → Type 0
Branched t parts n L branch (step.Next u) =
    (j : ℕ) × (v : Tree) × (tree_of u ≡ Inj (suc j) v) × (j < length parts)
    × IsFirstFrom (λ m. 1 ≤ part_entry t.counts parts n m) (branch + 1) (length parts) j
    × IsFirst (Here t (node_of parts j) L n) IsBefore v
Branched t parts n L branch (step.Last m) =
    (m ≡ n) × IsFirstFrom (λ m. 1 ≤ part_entry t.counts parts n m) (branch + 1) (length parts)
    (length parts)
Branched t parts n L branch step.Untold = Unit {0}

-- how many constructors stand in a tree
abbrev mutual
  pub weight_of : Tree → ℕ
  weight_of (Atom w l) = 1
  weight_of (Inj i t) = suc (weight_of t)
  weight_of (Tup ts) = suc (weights_of ts)
  weight_of (Coll ts) = suc (weights_of ts)

  pub weights_of : Trees → ℕ
  weights_of none = 1
  weights_of (more t ts) = suc (weight_of t + weights_of ts)

-- shares of the labels, put together again
abbrev pub IsSplit : List ℕ → List ℕ → List ℕ → Type 0
IsSplit L C T = Rising L × In (C, T) (splits L)
