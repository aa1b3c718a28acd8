-- What is chosen of a tail before its first: a size and labels; and what may come after the first
-- of a multiset or a powerset.
use Rattle.std.specs.Prelude.{◌≡◌, ◌+◌, ◌-◌, ◌≤◌, ◌<◌, ℕ, List, [], ◌∷◌, length, Option, Some, None}
use Rattle.luo_finite.specs.Listing.{In}
use Rattle.luo_finite.specs.Each.{Each}
use Rattle.luo_finite.specs.Places.{Lex, Lexical, IsChoice}
use Rattle.luo_model.specs.declared.program.Universe.{Universe}
use Rattle.luo_model.specs.declared.program.Universe.TheVariants.{Unlabelled, Labelled}
use Rattle.luo_model.specs.declared.program.Kind.{Kind}
use Rattle.luo_model.specs.declared.program.Kind.TheVariants.{Set, Cycle, Multiset, Powerset}
use Rattle.luo_model.specs.Tree.{Tree, Trees, size_of, to_list}
use Rattle.luo_model.specs.Order.{IsBefore}
use Rattle.luo_model.specs.Program.{Program}
use Rattle.luo_model.specs.Member.{Member}
use Rattle.luo_counting.specs.Sharing.{splits}
use Rattle.luo_places.specs.Numbers.{one_less}
use Rattle.luo_places.specs.Tails.{Tail, factors, items, TailOn, first_node, behind_first, tail_count}

-- a size and its labels, by size and then by labels
abbrev pub RoomBefore : ℕ × List ℕ → ℕ × List ℕ → Type 0
RoomBefore y z = Lex (λ m n. m < n) Lexical y z

-- the least of the labels L is in C
abbrev pub HasLeast : List ℕ → List ℕ → Type 0
HasLeast [] C = ⊥
HasLeast (l ∷ L) C = In l C

-- C are k of the labels L; in the unlabelled universe there is none
abbrev pub IsFor : Universe → List ℕ → ℕ → List ℕ → Type 0
IsFor Unlabelled L k C = C ≡ []
IsFor Labelled L k C = IsChoice L k C

-- the first of a labelled set or a labelled cycle has the least label
abbrev pub IsLedBy : Tail → Universe → List ℕ → List ℕ → Type 0
IsLedBy (factors parts) u L C = Unit {0}
IsLedBy (items Set y low high) Labelled L C = HasLeast L C
IsLedBy (items Cycle y low high) Labelled L C = HasLeast L C
IsLedBy (items kind y low high) u L C = Unit {0}

-- C are k labels for one, and T those that are left of L
abbrev pub IsShare : Universe → List ℕ → ℕ → List ℕ → List ℕ → Type 0
IsShare Unlabelled L k C T = C ≡ []
IsShare Labelled L k C T = In (C, T) (splits L) × (length C ≡ k)

-- a size of a first that has a rest, where a x n is the count of node x at size n
abbrev pub HasSize : Program → (ℕ → ℕ → ℕ) → Tail → ℕ → ℕ → Type 0
HasSize p a tail n k =
    (k ≤ n) × (1 ≤ a (first_node tail) k)
    × (1 ≤ tail_count p.universe a (behind_first tail) (n - k))

-- labels that a first of size k can have
abbrev pub HasLabels : Program → Tail → List ℕ → ℕ → List ℕ → Type 0
HasLabels p tail L k C = IsFor p.universe L k C × IsLedBy tail p.universe L C

-- such a size and such labels
abbrev pub HasRoom : Program → (ℕ → ℕ → ℕ) → Tail → List ℕ → ℕ → ℕ × List ℕ → Type 0
HasRoom p a tail L n room = HasSize p a tail n room.0 × HasLabels p tail L room.0 room.1

-- y may come after x: in a multiset where it isn't above x, in a powerset where it is below x
abbrev pub MayFollow : Kind → Tree → Tree → Type 0
MayFollow Multiset x y = IsBefore x y → ⊥
MayFollow Powerset x y = IsBefore y x
MayFollow kind x y = Unit {0}

-- after nothing each may stand
abbrev pub MayStand : Kind → Option Tree → Tree → Type 0
MayStand kind None y = Unit {0}
MayStand kind (Some x) y = MayFollow kind x y

-- the trees that can stand there, of size n together, each of which may come after the bound
abbrev pub BagOn : Program → Kind → ℕ → ℕ → Option ℕ → Option Tree → ℕ → Trees → Type 0
BagOn p kind y low high bound n ts =
    TailOn p (items kind y low high) [] n ts × Each (MayStand kind bound) (to_list ts)

-- x may come after the bound, and something of size n together with x may come after x
abbrev pub HasRest : Program → Kind → ℕ → ℕ → Option ℕ → Option Tree → ℕ → Tree → Type 0
HasRest p kind y low high bound n x =
    (Member p y x × MayStand kind bound x)
    × ((m : ℕ) × (ts : Trees) × (size_of x + m ≡ n)
    × BagOn p kind y (low - 1) (one_less high) (Some x) m ts)
