-- What is left to choose of a structure: the factors of a product from one on, or the components of
-- a collection after some.
use Rattle.std.specs.Prelude.{◌≡◌, ℕ, zero, suc, ◌-◌, ◌≤◌, ◌<◌, List, [], ◌∷◌, Option, map}
use Rattle.luo_finite.specs.Listing.{In}
use Rattle.luo_finite.specs.Places.{IsPlace, IsChoice, Lexical}
use Rattle.luo_model.specs.declared.program.Universe.{Universe}
use Rattle.luo_model.specs.declared.program.Universe.TheVariants.{Labelled}
use Rattle.luo_model.specs.declared.program.Kind.{Kind}
use Rattle.luo_model.specs.declared.program.Kind.TheVariants.{Sequence, Set, Cycle, Multiset, Powerset}
use Rattle.luo_model.specs.declared.program.Part.{Part}
use Rattle.luo_model.specs.declared.program.Shape.{Shape}
use Rattle.luo_model.specs.declared.program.Shape.TheVariants as shape
use Rattle.luo_model.specs.Tree.{Tree, Trees, more, size_of, sizes_of, labels_of, all_labels_of, to_list}
use Rattle.luo_model.specs.Order.{IsBefore}
use Rattle.luo_model.specs.Program.{Program}
use Rattle.luo_model.specs.Member.{FitAll, Member}
use Rattle.luo_model.specs.Structures.{IsStructureOn}
use Rattle.luo_model.specs.Collections.{Bears, IsCollectionOf}
use Rattle.luo_counting.specs.Sharing.{splits, products, IsRoom}
use Rattle.luo_counting.specs.Numbers.{coll_count}
use Rattle.luo_counting.specs.Items.{Suits}
use Rattle.luo_counting.specs.Counted.{CountsAt, AreLight}
use Rattle.luo_places.specs.Numbers.{ways, led_ways, one_less, IsPart, AllowsOne, PartsBefore}

-- the factors of a product, or a kind of collection of a node within bounds
pub data Tail : Type 0 where
  factors : List Part → Tail
  items : Kind → ℕ → ℕ → Option ℕ → Tail

-- all that a structure of this construct has to choose part by part
abbrev pub tail_of : Shape → Tail
tail_of (shape.Product parts) = factors parts
tail_of (shape.Coll kind part low high) = items kind part.node low high
tail_of _ = factors []

-- after the first of a cycle stands a sequence
abbrev pub kind_behind : Kind → Kind
kind_behind Cycle = Sequence
kind_behind kind = kind

-- what is left after the first
abbrev pub behind_first : Tail → Tail
behind_first (factors []) = factors []
behind_first (factors (part ∷ parts)) = factors parts
behind_first (items kind y low high) = items (kind_behind kind) y (low - 1) (one_less high)

-- what is left after so many
abbrev pub behind_some : Tail → ℕ → Tail
behind_some tail zero = tail
behind_some tail (suc f) = behind_first (behind_some tail f)

-- the node of the first
abbrev pub first_node : Tail → ℕ
first_node (factors []) = 0
first_node (factors (part ∷ parts)) = part.node
first_node (items kind y low high) = y

-- the trees that can stand there, of size n together, on the labels L
abbrev pub TailOn : Program → Tail → List ℕ → ℕ → Trees → Type 0
TailOn p (factors parts) L n ts =
    FitAll p parts ts × (sizes_of ts ≡ n) × Bears p.universe L (all_labels_of ts)
TailOn p (items kind y low high) L n ts =
    IsCollectionOf p.universe (Member p y) size_of labels_of IsBefore kind low high L n (to_list ts)

-- how many there are, where a x n is the count of node x at size n
abbrev pub tail_count : Universe → (ℕ → ℕ → ℕ) → Tail → ℕ → ℕ
tail_count u a (factors parts) n = products u (map (λ (part : Part). a part.node) parts) n
tail_count u a (items kind y low high) n = coll_count u kind (a y) low high n

-- the ways to choose the k labels of the first of n
abbrev pub head_ways : Universe → Tail → ℕ → ℕ → ℕ
head_ways Labelled (items Set y low high) n k = led_ways n k
head_ways Labelled (items Cycle y low high) n k = led_ways n k
head_ways u tail n k = ways u n k

-- S are labels of the first, of which the least of L is one, with place q among the choices of the
-- others, and T those of the rest
abbrev pub IsLedPart : List ℕ → ℕ → ℕ → List ℕ → List ℕ → Type 0
IsLedPart [] i q S T = ⊥
IsLedPart (l ∷ L) zero q S T = ⊥
IsLedPart (l ∷ L) (suc i) q S T =
    (C : List ℕ) × (S ≡ l ∷ C) × In (C, T) (splits L) × IsPlace (IsChoice L i) Lexical q C

-- S are the labels of the first, with place q among those that a first of size i can have, and T
-- those of the rest
abbrev pub IsHead : Universe → Tail → List ℕ → ℕ → ℕ → List ℕ → List ℕ → Type 0
IsHead Labelled (items Set y low high) L i q S T = IsLedPart L i q S T
IsHead Labelled (items Cycle y low high) L i q S T = IsLedPart L i q S T
IsHead u tail L i q S T = IsPart u L i q S T

-- a x n is the count of node x at size n, for the nodes below `nodes` and the sizes up to `last`
pub record AreNumbers (p : Program) (nodes last : ℕ) (a : ℕ → ℕ → ℕ) : Type 0 where
  pub light : AreLight p
  pub right : (x n : ℕ) → x < nodes → n ≤ last → CountsAt p x n (a x n)

-- the nodes are there, and no component has size 0
abbrev pub IsThere : Program → ℕ → Tail → Type 0
IsThere p nodes (factors parts) = (part : Part) → In part parts → part.node < nodes
IsThere p nodes (items kind y low high) =
    (y < nodes) × Suits p.universe kind low × ((t : Tree) → Member p y t → size_of t ≡ 0 → ⊥)

-- the components don't stand by the order, but by their labels or as they come
abbrev pub IsSpread : Tail → Type 0
IsSpread (items Multiset y low high) = ⊥
IsSpread (items Powerset y low high) = ⊥
IsSpread _ = Unit {0}

-- something is left to choose, of size n together
abbrev pub GoesOn : Tail → ℕ → Type 0
GoesOn (factors []) n = ⊥
GoesOn (factors (part ∷ parts)) n = Unit {0}
GoesOn (items kind y low high) n = (1 ≤ n) × AllowsOne high

-- nothing is left to choose
abbrev pub Ends : Tail → ℕ → Type 0
Ends (factors []) n = Unit {0}
Ends (factors (part ∷ parts)) n = ⊥
Ends (items kind y low high) n = n ≡ 0

-- of a tail of size n, at place `rank` the first has this size, labels with place q, and this
-- place, and the rest has place `back`
pub record IsFirst (p : Program) (a : ℕ → ℕ → ℕ) (tail : Tail)
    (n rank size q place back : ℕ) : Type 0 where
  pub sizes : size ≤ n
  pub ways : q < head_ways p.universe tail n size
  pub first : place < a (first_node tail) size
  pub second : back < tail_count p.universe a (behind_first tail) (n - size)
  pub step : (L S T : List ℕ) → IsRoom p.universe L n → IsHead p.universe tail L size q S T
      → (t : Tree) (ts : Trees)
      → IsPlace (IsStructureOn p (first_node tail) S size) IsBefore place t
      → IsPlace (TailOn p (behind_first tail) T (n - size)) PartsBefore back ts
      → IsPlace (TailOn p tail L n) PartsBefore rank (more t ts)

-- the components stand by the order
abbrev pub IsBag : Kind → Type 0
IsBag Multiset = Unit {0}
IsBag Powerset = Unit {0}
IsBag _ = ⊥
