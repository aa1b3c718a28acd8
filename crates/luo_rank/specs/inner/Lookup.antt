-- How a structure is looked up: what is left to choose, and how much work is left.
use Rattle.std.specs.Prelude.{◌≡◌, ℕ, suc, ◌+◌, ◌*◌, ◌-◌, ◌<◌, ◌≤◌, List, [], ◌∷◌, ◌++◌, length, slice_index, slice_index_or, Option, Some, None, min}
use Rattle.luo_model.specs.declared.program.Universe.{Universe}
use Rattle.luo_model.specs.declared.program.Universe.TheVariants.{Unlabelled, Labelled}
use Rattle.luo_model.specs.Tree.{Tree, Trees, none, more, size_of}
use Rattle.luo_model.specs.Order.{IsBefore}
use Rattle.luo_model.specs.Program.{Program, shape_of}
use Rattle.luo_model.specs.Structures.{IsStructureOn, labels_from}
use Rattle.luo_model.specs.Founded.{SameSize}
use Rattle.luo_model.specs.Levels.{IsRank}
use Rattle.luo_model.specs.Tables.{IsCount}
use Rattle.luo_finite.specs.Places.{IsPlace, IsChoice, Lexical}
use Rattle.luo_model.specs.declared.program.Kind.{Kind}
use Rattle.luo_model.specs.declared.program.Kind.TheVariants.{Set, Cycle}
use Rattle.luo_finite.specs.Listing.{In}
use Rattle.luo_finite.specs.Range.{sum_below}
use Rattle.luo_model.specs.declared.program.Part.{Part}
use Rattle.luo_places.specs.Numbers.{PartsBefore, cut}
use Rattle.luo_counting.specs.Numbers.{coll_count, plane, back, chosen}
use Rattle.luo_num.specs.declared.TheConstants.{MAX}
use Rattle.luo_num.specs.Mark.{capped}
use Rattle.luo_model.specs.declared.program.Shape.{Shape}
use Rattle.luo_model.specs.declared.program.Shape.TheVariants.{Product, Coll}
use Rattle.luo_model.specs.View.{Held, plain_of}
use Rattle.luo_model.specs.Invariant.{IsProgram}
use Rattle.luo_model.specs.Founded.{IsFounded}
use Rattle.luo_counting.specs.Sharing.{IsRoom, splits}
use Rattle.luo_places.specs.Tails.{Tail, factors, items, tail_of, behind_some, behind_first, first_node, TailOn, tail_count, head_ways, IsHead, IsSpread, IsBag, AreNumbers, IsFirst}

-- entry n of row x
abbrev pub entry_of : List (List ℕ) → ℕ → ℕ → ℕ
entry_of rows x n = slice_index (slice_index_or rows x []) n

-- what is left of a structure of node x after its first f parts
abbrev pub tail_at : Program → ℕ → ℕ → Tail
tail_at p x f = behind_some (tail_of (shape_of p x)) f

-- trees after others
abbrev pub behind : Trees → Trees → Trees
behind none us = us
behind (more t ts) us = more t (behind ts us)

-- after the trees of `old` stand those at place r of what is left after f parts of a structure of
-- node x
abbrev pub Tailed : Program → ℕ → ℕ → List ℕ → ℕ → ℕ → Trees → Trees → Type 0
Tailed p x f L n r old new =
    (ts : Trees) × IsPlace (TailOn p (tail_at p x f) L n) PartsBefore r ts × (new ≡ behind old ts)

-- the label of an atom on these labels
abbrev pub label_on : Universe → List ℕ → ℕ
label_on Unlabelled L = 0
label_on Labelled [] = 0
label_on Labelled (l ∷ L) = l

-- ranks fall from a node to a part of the same size
pub record AreRanks (p : Program) (rank : ℕ → ℕ) : Type 0 where
  pub steps : (x y : ℕ) → SameSize p x y → rank y < rank x
  pub below : (x : ℕ) → rank x ≤ length p.nodes

-- the work that is left for a structure of a node and a size
abbrev pub work : Program → (ℕ → ℕ) → ℕ → ℕ → ℕ
work p rank x n = n * suc (length p.nodes) + rank x

-- each of these trees is less work
abbrev pub IsLess : Program → (ℕ → ℕ) → ℕ → Tail → Trees → Type 0
IsLess p rank most tail none = Unit {0}
IsLess p rank most tail (more t ts) =
    (work p rank (first_node tail) (size_of t) < most) × IsLess p rank most (behind_first tail) ts

-- what stands at this place is less work
abbrev pub IsUnder : Program → (ℕ → ℕ) → ℕ → Tail → List ℕ → ℕ → ℕ → Type 0
IsUnder p rank most tail L n r =
    (ts : Trees) → IsPlace (TailOn p tail L n) PartsBefore r ts → IsLess p rank most tail ts

-- something is left
abbrev pub IsLeft : Tail → ℕ → Type 0
IsLeft (factors []) n = ⊥
IsLeft (factors (part ∷ parts)) n = Unit {0}
IsLeft (items kind y low high) n = 1 ≤ n

-- after f parts of a structure of a product or a collection, size n is left
abbrev pub Stands : Shape → ℕ → ℕ → ℕ → Type 0
Stands (Product parts) last f n = f ≤ length parts
Stands (Coll kind part low high) last f n = f + n ≤ last
Stands _ last f n = ⊥

-- what is looked up in
pub record Looked : Type 0 where
  -- the program, and the greatest size
  pub program : Held
  pub last : ℕ
  -- the last row of binomials
  pub reach : ℕ
  -- the rank of each node
  pub ranks : List ℕ
  -- for each node its counts
  pub counts : List (List ℕ)
  -- for each node the counts of what is left, from the last part down
  pub rests : List (List (List ℕ))
  -- for each node of multisets or powersets the planes of its components, size by size
  pub planes : List (List (List (List ℕ)))

abbrev pub rank_in : List ℕ → ℕ → ℕ
rank_in ranks x = slice_index ranks x

-- how many there are of what is left
abbrev pub left_count : Looked → ℕ → ℕ → ℕ → ℕ
left_count t x f n =
    tail_count t.program.universe (entry_of t.counts) (tail_at (plain_of t.program) x f) n

-- the most parts after which something may be left
abbrev pub top_of : Shape → ℕ → ℕ
top_of (Product parts) last = length parts
top_of (Coll kind part low high) last = last
top_of _ last = 0

-- how many there are of what is left after f parts, marked, as far as it stands
abbrev pub IsRow : Looked → ℕ → ℕ → List ℕ → Type 0
IsRow t x f row =
    (n : ℕ) → Stands (shape_of (plain_of t.program) x) t.last f n → n ≤ t.last
    → (n < length row) × (slice_index row n ≡ capped (left_count t x f n))

-- so many rows of a node stand, from the last part down
pub record AreRows (t : Looked) (x done : ℕ) (rows : List (List ℕ)) : Type 0 where
  pub long : length rows ≡ done
  pub right : (g : ℕ) → g < done
      → IsRow t x (top_of (shape_of (plain_of t.program) x) t.last - g) (slice_index_or rows g [])

-- the rows of a node whose parts don't stand by the order
abbrev pub AreRests : Looked → ℕ → List (List ℕ) → Type 0
AreRests t x rows =
    IsSpread (tail_of (shape_of (plain_of t.program) x))
    → AreRows t x (suc (top_of (shape_of (plain_of t.program) x) t.last)) rows

-- cell n of row k is the number of collections of k components of sizes up to d, of size n, marked:
-- so many rows stand
pub record ArePlaneRows (kind : Kind) (a : ℕ → ℕ) (d last done : ℕ)
    (rows : List (List ℕ)) : Type 0 where
  pub long : length rows ≡ done
  pub wide : (k : ℕ) → k < done → length (slice_index_or rows k []) ≡ suc last
  pub right : (k n : ℕ) → k < done → n < suc last
      → slice_index (slice_index_or rows k []) n ≡ capped (plane kind a d k n)

abbrev pub IsPlane : Kind → (ℕ → ℕ) → ℕ → ℕ → List (List ℕ) → Type 0
IsPlane kind a d last rows = ArePlaneRows kind a d last (suc last) rows

-- the planes of the sizes below `done`
pub record ArePlanes (kind : Kind) (a : ℕ → ℕ) (last done : ℕ)
    (planes : List (List (List ℕ))) : Type 0 where
  pub long : length planes ≡ done
  pub right : (d : ℕ) → d < done → IsPlane kind a d last (slice_index_or planes d [])

-- the planes of a node of multisets or powersets
abbrev pub HasPlanes : (ℕ → ℕ → ℕ) → ℕ → Shape → List (List (List ℕ)) → Type 0
HasPlanes a last (Coll kind part low high) planes =
    IsBag kind → ArePlanes kind (a part.node) last (suc last) planes
HasPlanes a last _ planes = Unit {0}

-- the program is well-founded, and its ranks and counts are right
pub record IsCounted (t : Looked) : Type 0 where
  pub proper : IsProgram (plain_of t.program)
  pub founded : IsFounded (plain_of t.program)
  pub few : t.last ≤ 40
  pub reached : t.last ≤ t.reach
  pub ranked : AreRanks (plain_of t.program) (rank_in t.ranks)
  pub numbers : AreNumbers (plain_of t.program) (length t.program.nodes) t.last (entry_of t.counts)
  pub many : length t.counts ≡ length t.program.nodes
  pub long : (x : ℕ) → x < length t.program.nodes
      → length (slice_index_or t.counts x []) ≡ suc t.last
  pub small : (x n : ℕ) → x < length t.program.nodes → n ≤ t.last → entry_of t.counts x n ≤ MAX

-- and so is all that is made of them
pub record IsLooked (t : Looked) : Type 0 where
  pub base : IsCounted t
  pub rests_many : length t.rests ≡ length t.program.nodes
  pub rests : (x : ℕ) → x < length t.program.nodes → AreRests t x (slice_index_or t.rests x [])
  pub planes_many : length t.planes ≡ length t.program.nodes
  pub planes : (x : ℕ) → x < length t.program.nodes
      → HasPlanes (entry_of t.counts) t.last (shape_of (plain_of t.program) x)
      (slice_index_or t.planes x [])

-- the first of what is left at a place
abbrev pub IsFirstOf : Looked → ℕ → ℕ → ℕ → ℕ → ℕ → ℕ → ℕ → ℕ → Type 0
IsFirstOf t x f n rank size q place back =
    IsFirst (plain_of t.program) (entry_of t.counts)
    (tail_at (plain_of t.program) x f) n rank size q place back

-- S and T are labels of the first and of the rest
pub record ArePartLabels (u : Universe) (tail : Tail) (L : List ℕ) (n size q : ℕ)
    (S T : List ℕ) : Type 0 where
  pub head : IsHead u tail L size q S T
  pub first : IsRoom u S size
  pub rest : IsRoom u T (n - size)

-- s stands at this place
abbrev pub StandsAt : Looked → ℕ → List ℕ → ℕ → ℕ → Tree → Type 0
StandsAt t x L n rank s = IsPlace (IsStructureOn (plain_of t.program) x L n) IsBefore rank s

-- a place that holds no part
abbrev pub no_part : Part
no_part = record { node = 0; name = None }

-- entry n of the node of part i
abbrev pub part_entry : List (List ℕ) → List Part → ℕ → ℕ → ℕ
part_entry counts parts n i = entry_of counts (slice_index_or parts i no_part).node n

abbrev pub AreThere : List Part → ℕ → Type 0
AreThere parts nodes = (part : Part) → In part parts → part.node < nodes

-- of n groups with f k places each, place r is place `rest` of the group
pub record IsFound (f : ℕ → ℕ) (n r group rest : ℕ) : Type 0 where
  pub there : group < n
  pub inside : rest < f group
  pub is : sum_below f group + rest ≡ r

-- the first has the least label
abbrev pub IsLedTail : Tail → Type 0
IsLedTail (items Set y low high) = Unit {0}
IsLedTail (items Cycle y low high) = Unit {0}
IsLedTail _ = ⊥

-- the chosen labels come after those of `first`, and the others after those of `rest`
abbrev pub IsChosen : List ℕ → List ℕ → List ℕ → List ℕ → List ℕ → List ℕ → Type 0
IsChosen labels chosen first first_new rest rest_new =
    (first_new ≡ first ++ chosen)
    × ((T : List ℕ) × In (chosen, T) (splits labels) × (rest_new ≡ rest ++ T))

-- the choice at a place comes after the labels of `first`, and the others are the rest
abbrev pub ArePlaced : List ℕ → ℕ → ℕ → List ℕ → List ℕ → List ℕ → Type 0
ArePlaced labels size place first first_new rest =
    (C : List ℕ) × (first_new ≡ first ++ C) × In (C, rest) (splits labels)
    × IsPlace (IsChoice labels size) Lexical place C

-- how many of what is left have a first of size k
abbrev pub term_of : Looked → ℕ → ℕ → ℕ → ℕ → ℕ
term_of t x f n k =
    (entry_of t.counts
    (first_node (tail_at (plain_of t.program) x f)) k * tail_count t.program.universe
    (entry_of t.counts) (behind_first (tail_at (plain_of t.program) x f)) (n - k))
    * head_ways t.program.universe (tail_at (plain_of t.program) x f) n k

-- the components stand by the order
abbrev pub IsBagTail : Tail → Type 0
IsBagTail (items kind y low high) = IsBag kind
IsBagTail (factors parts) = ⊥

-- how many have only components before place i of size d
abbrev pub below_in : (ℕ → ℕ → ℕ) → Tail → ℕ → ℕ → ℕ → ℕ
below_in a (items kind y low high) n d i = coll_count Unlabelled kind (cut (a y) d i) low high n
below_in a (factors parts) n d i = 0

abbrev pub below_of : Looked → ℕ → ℕ → ℕ → ℕ → ℕ → ℕ
below_of t x f n d i = below_in (entry_of t.counts) (tail_at (plain_of t.program) x f) n d i

-- the ways to take j components of size d, times the cell of the others: the sum over j
abbrev pub with_size : List ℕ → List (List ℕ) → ℕ → ℕ → ℕ → ℕ
with_size ways rows d k n =
    sum_below (λ j. slice_index ways j * back (j * d)
    (slice_index (slice_index_or rows (k - j) [])) n) (suc k)

-- the ways to take j of c components of size d, marked, as far as they fit into size n
abbrev pub AreWays : Kind → ℕ → ℕ → ℕ → List ℕ → Type 0
AreWays kind c d n ways =
    (j : ℕ) → j * d ≤ n → (j < length ways) × (slice_index ways j ≡ capped (chosen kind c j))

-- what the bounds leave after f components
abbrev pub less_by : ℕ → Option ℕ → Option ℕ
less_by f (Some high) = Some (high - f)
less_by f None = None

-- the greatest number of components of size n
abbrev pub most_of : Option ℕ → ℕ → ℕ
most_of (Some high) n = min high n
most_of None n = n

-- each row reaches size n
abbrev pub IsWide : List (List ℕ) → ℕ → Type 0
IsWide rows n = (k : ℕ) → k < length rows → n < length (slice_index_or rows k [])

-- row k of the plane of the sizes up to d, as far as it is made
pub record IsCellRow (kind : Kind) (a : ℕ → ℕ) (d k done : ℕ) (row : List ℕ) : Type 0 where
  pub long : length row ≡ done
  pub right : (n : ℕ) → n < done → slice_index row n ≡ capped (plane kind a d k n)

-- the counts of a node at the sizes below `done`
pub record IsCountRow (p : Program) (x done : ℕ) (row : List ℕ) : Type 0 where
  pub long : length row ≡ done
  pub right : (n : ℕ) → n < done → IsCount p x n (slice_index row n)
  pub small : (n : ℕ) → n < done → slice_index row n ≤ MAX

-- the counts of the first nodes
pub record AreCountRows (p : Program) (last done : ℕ) (rows : List (List ℕ)) : Type 0 where
  pub long : length rows ≡ done
  pub each : (x : ℕ) → x < done → IsCountRow p x (suc last) (slice_index_or rows x [])

-- the ranks of the first nodes
pub record IsRankRow (p : Program) (done : ℕ) (row : List ℕ) : Type 0 where
  pub long : length row ≡ done
  pub right : (x : ℕ) → x < done → IsRank p x (slice_index row x)

-- what is made for the first nodes
pub record AreAllRests (t : Looked) (done : ℕ) (rests : List (List (List ℕ))) : Type 0 where
  pub long : length rests ≡ done
  pub each : (x : ℕ) → x < done → AreRests t x (slice_index_or rests x [])

pub record AreAllPlanes (t : Looked) (done : ℕ)
    (planes : List (List (List (List ℕ)))) : Type 0 where
  pub long : length planes ≡ done
  pub each : (x : ℕ) → x < done
      → HasPlanes (entry_of t.counts) t.last (shape_of (plain_of t.program) x)
      (slice_index_or planes x [])

-- the numbers before what is made of them
abbrev pub counted : Held → ℕ → ℕ → List ℕ → List (List ℕ) → Looked
counted program last reach ranks counts =
    record {
      program = program;
      last = last;
      reach = reach;
      ranks = ranks;
      counts = counts;
      rests = [];
      planes = [];
    }

-- the plane of the sizes up to d of the components of a node
abbrev pub HasPlane : Looked → ℕ → ℕ → List (List ℕ) → Type 0
HasPlane t x d rows =
    (kind : Kind) (part : Part) (low : ℕ) (high : Option ℕ)
    → shape_of (plain_of t.program) x ≡ Coll kind part low high
    → IsPlane kind (entry_of t.counts part.node) d t.last rows

-- these are looked up in for a node, at the last size
pub record Looks (t : Looked) (labels : List ℕ) (node count : ℕ) : Type 0 where
  pub looked : IsLooked t
  pub there : node < length t.program.nodes
  pub first : labels ≡ labels_from 1 t.last
  pub counted : count ≡ entry_of t.counts node t.last
