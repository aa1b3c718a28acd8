-- What the words of this crate have to give.
use Rattle.std.specs.Prelude.{◌≡◌, ◌+◌, ◌-◌, ◌≤◌, ◌<◌, ℕ, suc, List, ◌∷◌, Option, Some, slice_get}
use Rattle.luo_finite.specs.Listing.{In}
use Rattle.luo_finite.specs.Places.{IsPlace, IsChoice, Lexical}
use Rattle.luo_model.specs.declared.program.Universe.TheVariants.{Unlabelled}
use Rattle.luo_model.specs.declared.program.Kind.{Kind}
use Rattle.luo_model.specs.declared.program.Part.{Part}
use Rattle.luo_model.specs.declared.program.Shape.TheVariants as shape
use Rattle.luo_model.specs.Tree.{Tree, Trees, Atom, Inj, Tup, Coll, none, more, size_of}
use Rattle.luo_model.specs.Order.{IsBefore}
use Rattle.luo_model.specs.Program.{Program, shape_of}
use Rattle.luo_model.specs.Member.{Member}
use Rattle.luo_model.specs.Structures.{IsStructure, IsStructureOn, IsOrderedListing, Rising}
use Rattle.luo_counting.specs.Sharing.{IsRoom}
use Rattle.luo_counting.specs.Counted.{AreLight}
use Rattle.luo_places.specs.Numbers.{PartsBefore, AllowsOne, one_less}
use Rattle.luo_places.specs.Tails.{Tail, factors, items, TailOn, first_node, behind_first, AreNumbers, IsThere, IsSpread, IsBag, GoesOn, Ends}
use Rattle.luo_places.specs.steps.Next.{IsNext, IsFirst, IsLast, Steps}
use Rattle.luo_places.specs.steps.Rooms.{RoomBefore, IsShare, IsLedBy, HasSize, HasLabels, HasRoom, MayStand, BagOn, HasRest}

-- what comes next has the next place, and what has the next place comes next
abbrev pub NextIsNextPlace : Type 0
NextIsNextPlace = (p : Program) (x n r : ℕ) (s t : Tree) → IsPlace (IsStructure p x n) IsBefore r s
    → (IsNext (IsStructure p x n) IsBefore s t → IsPlace (IsStructure p x n) IsBefore (r + 1) t)
    × (IsPlace (IsStructure p x n) IsBefore (r + 1) t → IsNext (IsStructure p x n) IsBefore s t)

-- the first is what has place 0
abbrev pub FirstIsPlaceZero : Type 0
FirstIsPlaceZero = (p : Program) (x n : ℕ) (s : Tree)
    → (IsFirst (IsStructure p x n) IsBefore s → IsPlace (IsStructure p x n) IsBefore 0 s)
    × (IsPlace (IsStructure p x n) IsBefore 0 s → IsFirst (IsStructure p x n) IsBefore s)

-- the structures from the first to the last, each the next of the one before it, are the ordered
-- listing
abbrev pub StepsAreListings : Type 0
StepsAreListings = (p : Program) (x n : ℕ) (l : List Tree)
    → (Steps (IsStructure p x n) IsBefore l → IsOrderedListing p x n l) × (IsOrderedListing p x n l
    → Steps (IsStructure p x n) IsBefore l)

-- an atom is the only structure of its node
abbrev pub AtomsStandAlone : Type 0
AtomsStandAlone = (p : Program) (x n weight l : ℕ) (L : List ℕ) → shape_of p x ≡ shape.Atom weight
    → IsStructureOn p x L n (Atom weight l)
    → IsFirst (IsStructureOn p x L n) IsBefore (Atom weight l)
    × IsLast (IsStructureOn p x L n) IsBefore (Atom weight l)

-- none of these branches has a structure
abbrev pub AreEmpty : Program → List Part → List ℕ → ℕ → (ℕ → Type 0) → Type 0
AreEmpty p parts L n which =
    (m : ℕ) (part : Part) → which m → slice_get parts m ≡ Some part → (t : Tree)
    → IsStructureOn p part.node L n t → ⊥

-- in a union the branch goes on, and after its last structure comes the first of the next branch
-- that has any
abbrev pub UnionsGoOn : Type 0
UnionsGoOn = (p : Program) (x n : ℕ) (L : List ℕ) (parts : List Part) → IsRoom p.universe L n
    → shape_of p x ≡ shape.Union parts
    → ((i : ℕ) (part : Part) → slice_get parts i ≡ Some part → (s t : Tree)
    → IsNext (IsStructureOn p part.node L n) IsBefore s t
    → IsNext (IsStructureOn p x L n) IsBefore (Inj (suc i) s) (Inj (suc i) t))
    × ((i j : ℕ) (part other : Part) → slice_get parts i ≡ Some part
    → slice_get parts j ≡ Some other → i < j
    → AreEmpty p parts L n (λ m. (i < m) × (m < j)) → (s t : Tree)
    → IsLast (IsStructureOn p part.node L n) IsBefore s
    → IsFirst (IsStructureOn p other.node L n) IsBefore t
    → IsNext (IsStructureOn p x L n) IsBefore (Inj (suc i) s) (Inj (suc j) t))

-- a union begins in the first branch that has a structure, and ends in the last
abbrev pub UnionsBeginAndEnd : Type 0
UnionsBeginAndEnd = (p : Program) (x n : ℕ) (L : List ℕ) (parts : List Part) → IsRoom p.universe L n
    → shape_of p x ≡ shape.Union parts
    → ((j : ℕ) (other : Part) → slice_get parts j ≡ Some other → AreEmpty p parts L n (λ m. m < j)
    → (t : Tree)
    → IsFirst (IsStructureOn p other.node L n) IsBefore t
    → IsFirst (IsStructureOn p x L n) IsBefore (Inj (suc j) t))
    × ((i : ℕ) (part : Part) → slice_get parts i ≡ Some part → AreEmpty p parts L n (λ m. i < m)
    → (t : Tree)
    → IsLast (IsStructureOn p part.node L n) IsBefore t
    → IsLast (IsStructureOn p x L n) IsBefore (Inj (suc i) t))

-- what holds of the parts holds of the structure
pub record StandsBy (p : Program) (x n : ℕ) (L : List ℕ) (tail : Tail)
    (form : Trees → Tree) : Type 0 where
  pub next : (us ts : Trees) → IsNext (TailOn p tail L n) PartsBefore us ts
      → IsNext (IsStructureOn p x L n) IsBefore (form us) (form ts)
  pub first : (ts : Trees) → IsFirst (TailOn p tail L n) PartsBefore ts
      → IsFirst (IsStructureOn p x L n) IsBefore (form ts)
  pub last : (ts : Trees) → IsLast (TailOn p tail L n) PartsBefore ts
      → IsLast (IsStructureOn p x L n) IsBefore (form ts)

-- products and collections go on as their parts do
abbrev pub PartsDecide : Type 0
PartsDecide = (p : Program) (x n : ℕ) (L : List ℕ) → IsRoom p.universe L n
    → ((parts : List Part) → shape_of p x ≡ shape.Product parts
    → StandsBy p x n L (factors parts) Tup)
    × ((kind : Kind) (part : Part) (low : ℕ) (high : Option ℕ)
    → shape_of p x ≡ shape.Coll kind part low high
    → StandsBy p x n L (items kind part.node low high) Coll)

-- how a tail goes on: i, C are the size and the labels of the first, j, T those of the rest
pub record GoesOnBy (p : Program) (a : ℕ → ℕ → ℕ) (tail : Tail) (L : List ℕ) (n : ℕ) : Type 0 where
  -- the rest goes on
  pub rest : (i j : ℕ) (C T : List ℕ) → i + j ≡ n → IsShare p.universe L i C T
      → IsLedBy tail p.universe L C
      → (t : Tree) (us ts : Trees)
      → IsStructureOn p (first_node tail) C i t
      → IsNext (TailOn p (behind_first tail) T j) PartsBefore us ts
      → IsNext (TailOn p tail L n) PartsBefore (more t us) (more t ts)
  -- after the last rest the first goes on, and the rest begins again
  pub first : (i j : ℕ) (C T : List ℕ) → i + j ≡ n → IsShare p.universe L i C T
      → IsLedBy tail p.universe L C
      → (s t : Tree) (us ts : Trees)
      → IsNext (IsStructureOn p (first_node tail) C i) IsBefore s t
      → IsLast (TailOn p (behind_first tail) T j) PartsBefore us
      → IsFirst (TailOn p (behind_first tail) T j) PartsBefore ts
      → IsNext (TailOn p tail L n) PartsBefore (more s us) (more t ts)
  -- and after the last first of these labels both begin again, in the next room
  pub room : (i j k h : ℕ) (C T D U : List ℕ) → i + j ≡ n → IsShare p.universe L i C T → k + h ≡ n
      → IsShare p.universe L k D U → (s t : Tree) (us ts : Trees)
      → IsLast (IsStructureOn p (first_node tail) C i) IsBefore s
      → IsLast (TailOn p (behind_first tail) T j) PartsBefore us
      → IsNext (HasRoom p a tail L n) RoomBefore (i, C) (k, D)
      → IsFirst (IsStructureOn p (first_node tail) D k) IsBefore t
      → IsFirst (TailOn p (behind_first tail) U h) PartsBefore ts
      → IsNext (TailOn p tail L n) PartsBefore (more s us) (more t ts)
  pub begin : (k h : ℕ) (D U : List ℕ) → k + h ≡ n → IsShare p.universe L k D U
      → (t : Tree) (ts : Trees)
      → IsFirst (HasRoom p a tail L n) RoomBefore (k, D)
      → IsFirst (IsStructureOn p (first_node tail) D k) IsBefore t
      → IsFirst (TailOn p (behind_first tail) U h) PartsBefore ts
      → IsFirst (TailOn p tail L n) PartsBefore (more t ts)
  pub end : (k h : ℕ) (D U : List ℕ) → k + h ≡ n → IsShare p.universe L k D U
      → (t : Tree) (ts : Trees)
      → IsLast (HasRoom p a tail L n) RoomBefore (k, D)
      → IsLast (IsStructureOn p (first_node tail) D k) IsBefore t
      → IsLast (TailOn p (behind_first tail) U h) PartsBefore ts
      → IsLast (TailOn p tail L n) PartsBefore (more t ts)

-- so factors, sequences, sets and cycles go on
abbrev pub TailsGoOn : Type 0
TailsGoOn = (p : Program) (nodes last : ℕ) (a : ℕ → ℕ → ℕ) (tail : Tail) (L : List ℕ) (n : ℕ)
    → AreNumbers p nodes last a → IsThere p nodes tail → IsSpread tail → n ≤ last → GoesOn tail n
    → IsRoom p.universe L n → GoesOnBy p a tail L n

-- the first has its size and its labels, and the rest what is left
abbrev pub TailsPart : Type 0
TailsPart =
    (p : Program) (nodes : ℕ) (tail : Tail) (L : List ℕ) (n : ℕ) → AreLight p → IsThere p nodes tail
    → IsSpread tail → GoesOn tail n → IsRoom p.universe L n → (t : Tree) (us : Trees)
    → TailOn p tail L n (more t us)
    → (C T : List ℕ) × (size_of t + (n - size_of t) ≡ n) × IsShare p.universe L (size_of t) C T
    × HasLabels p tail L (size_of t) C
    × IsStructureOn p (first_node tail) C (size_of t) t
    × TailOn p (behind_first tail) T (n - size_of t) us

-- after one room comes that of the next labels, and after the last labels the first of the next
-- size that has any
abbrev pub RoomsGoOn : Type 0
RoomsGoOn = (p : Program) (a : ℕ → ℕ → ℕ) (tail : Tail) (L : List ℕ) (n : ℕ)
    → ((i : ℕ) (C D : List ℕ) → HasSize p a tail n i → IsNext (HasLabels p tail L i) Lexical C D
    → IsNext (HasRoom p a tail L n) RoomBefore (i, C) (i, D))
    × ((i k : ℕ) (C D : List ℕ) → IsLast (HasLabels p tail L i) Lexical C
    → IsNext (λ h. HasSize p a tail n h × ((E : List ℕ) × HasLabels p tail L h E))
    (λ x y. x < y) i k
    → IsFirst (HasLabels p tail L k) Lexical D
    → IsNext (HasRoom p a tail L n) RoomBefore (i, C) (k, D))
    × ((k : ℕ) (D : List ℕ)
    → IsFirst (λ h. HasSize p a tail n h × ((E : List ℕ) × HasLabels p tail L h E)) (λ x y. x < y) k
    → IsFirst (HasLabels p tail L k) Lexical D → IsFirst (HasRoom p a tail L n) RoomBefore (k, D))
    × ((k : ℕ) (D : List ℕ)
    → IsLast (λ h. HasSize p a tail n h × ((E : List ℕ) × HasLabels p tail L h E)) (λ x y. x < y) k
    → IsLast (HasLabels p tail L k) Lexical D → IsLast (HasRoom p a tail L n) RoomBefore (k, D))

-- the next choice of k + 1 labels has the least label as long as the others go on, and then goes
-- without it
abbrev pub ChoicesGoOn : Type 0
ChoicesGoOn = (x : ℕ) (L : List ℕ) (k : ℕ) → Rising (x ∷ L)
    → ((C D : List ℕ) → IsNext (IsChoice L k) Lexical C D
    → IsNext (IsChoice (x ∷ L) (suc k)) Lexical (x ∷ C) (x ∷ D))
    × ((C D : List ℕ) → IsNext (IsChoice L (suc k)) Lexical C D
    → IsNext (IsChoice (x ∷ L) (suc k)) Lexical C D)
    × ((C D : List ℕ) → IsLast (IsChoice L k) Lexical C → IsFirst (IsChoice L (suc k)) Lexical D
    → IsNext (IsChoice (x ∷ L) (suc k)) Lexical (x ∷ C) D)
    × ((C : List ℕ) → IsFirst (IsChoice L k) Lexical C
    → IsFirst (IsChoice (x ∷ L) (suc k)) Lexical (x ∷ C))
    × ((C : List ℕ) → IsLast (IsChoice L (suc k)) Lexical C
    → IsLast (IsChoice (x ∷ L) (suc k)) Lexical C)
    × ((C : List ℕ) → ((D : List ℕ) → IsChoice L (suc k) D → ⊥) → IsLast (IsChoice L k) Lexical C
    → IsLast (IsChoice (x ∷ L) (suc k)) Lexical (x ∷ C))

-- and with the least label in it goes on as the others do
abbrev pub LedChoicesGoOn : Type 0
LedChoicesGoOn = (x : ℕ) (L : List ℕ) (k : ℕ) → Rising (x ∷ L)
    → ((C D : List ℕ) → IsNext (IsChoice L k) Lexical C D
    → IsNext (λ E. IsChoice (x ∷ L) (suc k) E × In x E) Lexical (x ∷ C) (x ∷ D))
    × ((C : List ℕ) → IsFirst (IsChoice L k) Lexical C
    → IsFirst (λ E. IsChoice (x ∷ L) (suc k) E × In x E) Lexical (x ∷ C))
    × ((C : List ℕ) → IsLast (IsChoice L k) Lexical C
    → IsLast (λ E. IsChoice (x ∷ L) (suc k) E × In x E) Lexical (x ∷ C))

-- where nothing is left to choose there is one way
abbrev pub TailsEnd : Type 0
TailsEnd =
    (p : Program) (nodes : ℕ) (tail : Tail) (L : List ℕ) (n : ℕ) → IsThere p nodes tail
    → Ends tail n
    → TailOn p tail L n none
    → IsFirst (TailOn p tail L n) PartsBefore none × IsLast (TailOn p tail L n) PartsBefore none

-- how the components of a multiset or a powerset go on that may come after a bound; what may
-- come after the first is bounded by it
pub record BagGoesOnBy (p : Program) (kind : Kind) (y low : ℕ) (high : Option ℕ)
    (bound : Option Tree) (n : ℕ) : Type 0 where
  -- the rest goes on
  pub rest : (x : Tree) (m : ℕ) → Member p y x → MayStand kind bound x → size_of x + m ≡ n
      → (us ts : Trees)
      → IsNext (BagOn p kind y (low - 1) (one_less high) (Some x) m) PartsBefore us ts
      → IsNext (BagOn p kind y low high bound n) PartsBefore (more x us) (more x ts)
  -- after the last rest the first goes on to the next that has a rest, and the rest begins again
  pub first : (x w : Tree) (m k : ℕ) → size_of x + m ≡ n → size_of w + k ≡ n → (us ts : Trees)
      → IsLast (BagOn p kind y (low - 1) (one_less high) (Some x) m) PartsBefore us
      → IsNext (HasRest p kind y low high bound n) IsBefore x w
      → IsFirst (BagOn p kind y (low - 1) (one_less high) (Some w) k) PartsBefore ts
      → IsNext (BagOn p kind y low high bound n) PartsBefore (more x us) (more w ts)
  -- the next of the same size that may come after the bound has a rest
  pub same : (x w : Tree) → HasRest p kind y low high bound n x
      → IsNext (λ z. (Member p y z × MayStand kind bound z) × (size_of z ≡ size_of x)) IsBefore x w
      → IsNext (HasRest p kind y low high bound n) IsBefore x w
  pub begin : (w : Tree) (k : ℕ) → size_of w + k ≡ n → (ts : Trees)
      → IsFirst (HasRest p kind y low high bound n) IsBefore w
      → IsFirst (BagOn p kind y (low - 1) (one_less high) (Some w) k) PartsBefore ts
      → IsFirst (BagOn p kind y low high bound n) PartsBefore (more w ts)
  pub end : (w : Tree) (k : ℕ) → size_of w + k ≡ n → (ts : Trees)
      → IsLast (HasRest p kind y low high bound n) IsBefore w
      → IsLast (BagOn p kind y (low - 1) (one_less high) (Some w) k) PartsBefore ts
      → IsLast (BagOn p kind y low high bound n) PartsBefore (more w ts)

-- the first may come after the bound, and the rest after the first
abbrev pub BagsPart : Type 0
BagsPart =
    (p : Program) (kind : Kind) (y low : ℕ) (high : Option ℕ) (bound : Option Tree) (n : ℕ)
    (x : Tree) (us : Trees)
    → p.universe ≡ Unlabelled → IsBag kind → AllowsOne high
    → (BagOn p kind y low high bound n (more x us)
    → (size_of x ≤ n) × (Member p y x × MayStand kind bound x)
    × BagOn p kind y (low - 1) (one_less high) (Some x) (n - size_of x) us)
    × (size_of x ≤ n → Member p y x × MayStand kind bound x
    → BagOn p kind y (low - 1) (one_less high) (Some x) (n - size_of x) us
    → BagOn p kind y low high bound n (more x us))

-- the next of one size, after one that is before a bound of this size, isn't above the bound, and
-- is below it unless it is the bound
abbrev pub BoundsAreKept : Type 0
BoundsAreKept = (p : Program) (y n : ℕ) (t w v : Tree) → Member p y t → size_of t ≡ n → IsBefore w t
    → IsNext (λ z. Member p y z × (size_of z ≡ n)) IsBefore w v
    → (IsBefore t v → ⊥) × ((v ≡ t → ⊥) → IsBefore v t)

-- so multisets and powersets go on
abbrev pub BagsGoOn : Type 0
BagsGoOn = (p : Program) (kind : Kind) (y low : ℕ) (high : Option ℕ) (bound : Option Tree) (n : ℕ)
    → p.universe ≡ Unlabelled → IsBag kind → AllowsOne high → 1 ≤ n
    → BagGoesOnBy p kind y low high bound n
