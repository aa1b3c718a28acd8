-- What small sources mean.
use Rattle.std.specs.Prelude.{◌≡◌, ℕ, List, [], ◌∷◌, codes, map}
use Rattle.luo_finite.specs.Listing.{Lists}
use Rattle.luo_model.specs.Tree.{Tree, Atom, Inj, Tup, Coll, none, more}
use Rattle.luo_source.specs.Plain.Types.{Named}
use Rattle.luo_source.specs.Plain.Source.{Source}
use Rattle.luo_source.specs.Plain.Statements.{Call}
use Rattle.luo_rules.specs.declared.rule.Rule.TheVariants.{Y9}
use Rattle.luo_rules.specs.declared.rule.Breach.{Breach}
use Rattle.luo_rules.specs.Sources.{name, binary_source, permutations_source, few_cycles, copying}
use Rattle.luo_model.specs.declared.table.Entry.TheVariants.{Count, Total}
use Rattle.luo_meaning.specs.Broken.{StmtBreaks}
use Rattle.luo_meaning.specs.Places.{Placed, of_name, IsSameType}
use Rattle.luo_meaning.specs.Entries.{constructs, site_places, HasRank, HasLevel, Precedes}
use Rattle.luo_meaning.specs.Examples.{choices, spines}
use Rattle.luo_meaning.specs.Rows.{IsStructureOf}
use Rattle.luo_meaning.specs.Charges.{ProcCharges}
use Rattle.luo_meaning.specs.Made.{ProcMakes}

-- the list has the structures of size n of this name, each once
abbrev pub AreAllOf : Source → List ℕ → ℕ → List Tree → Type 0
AreAllOf source text n trees =
    Lists (IsStructureOf source (Named (record { text = text; at = 0 })) n) trees

-- the procedure of this name charges q on t, and nothing else
abbrev pub ChargesJust : Source → List ℕ → Tree → ℕ → Type 0
ChargesJust source text t q =
    ProcCharges source text t q × ((other : ℕ) → ProcCharges source text t other → other ≡ q)

-- an atom of weight 1 with a label
abbrev pub point : ℕ → Tree
point label = Atom 1 label

-- a binary tree without inner node, and an inner node between two binary trees
abbrev pub leaf : Tree
leaf = Inj 1 (Atom 0 0)

abbrev pub inner : Tree → Tree → Tree
inner left right = Inj 2 (Tup (more (point 0) (more left (more right none))))

-- a second inner node stands at the left or at the right
abbrev pub BinaryTreesOfTwo : Type 0
BinaryTreesOfTwo =
    AreAllOf binary_source (codes "tree") 2
    (inner (inner leaf leaf) leaf ∷ inner leaf (inner leaf leaf) ∷ [])

-- the path length of a tree of two inner nodes is 1, and of three in a row 1 + 2
abbrev pub PathLengths : Type 0
PathLengths =
    ChargesJust binary_source (codes "path") (inner (inner leaf leaf) leaf) 1
    × ChargesJust binary_source (codes "path") (inner leaf (inner leaf leaf)) 1
    × ChargesJust binary_source (codes "path") (inner (inner (inner leaf leaf) leaf) leaf) 3

-- who goes on to the left alone finds two inner nodes in the one tree of two, and one in the other
abbrev pub SpinesAreCharged : Type 0
SpinesAreCharged =
    ChargesJust spines (codes "spine") (inner (inner leaf leaf) leaf) 2
    × ChargesJust spines (codes "spine") (inner leaf (inner leaf leaf)) 1

-- two points are permuted in one cycle or in two
abbrev pub PermutationsOfTwo : Type 0
PermutationsOfTwo =
    AreAllOf permutations_source (codes "perm") 2
    (Coll (more (Coll (more (point 1) (more (point 2) none))) none)
    ∷ Coll (more (Coll (more (point 1) none)) (more (Coll (more (point 2) none)) none)) ∷ [])

-- where exactly two cycles are allowed, only the second remains
abbrev pub FewCyclesOfTwo : Type 0
FewCyclesOfTwo =
    AreAllOf few_cycles (codes "perm") 2
    (Coll (more (Coll (more (point 1) none)) (more (Coll (more (point 2) none)) none)) ∷ [])

-- a walk over the cycles of a permutation charges one for each
abbrev pub CyclesAreCharged : Type 0
CyclesAreCharged =
    ChargesJust permutations_source (codes "cycles")
    (Coll (more (Coll (more (point 1) (more (point 2) none))) none)) 1
    × ChargesJust permutations_source (codes "cycles")
    (Coll (more (Coll (more (point 1) none)) (more (Coll (more (point 2) none)) none))) 2

-- one of two kinds of points
abbrev pub first_kind : Tree
first_kind = Inj 1 (point 0)

abbrev pub second_kind : Tree
second_kind = Inj 2 (point 0)

-- of at most two points of two kinds: one set is empty, one has both kinds, and with copies there
-- are three of two points
abbrev pub ChoicesOfTwo : Type 0
ChoicesOfTwo =
    AreAllOf choices (codes "u") 0 (Coll none ∷ [])
    × AreAllOf choices (codes "u") 2 (Coll (more second_kind (more first_kind none)) ∷ [])
    × AreAllOf choices (codes "x") 2
    (Coll (more first_kind (more first_kind none)) ∷ Coll (more second_kind (more first_kind none))
    ∷ Coll (more second_kind (more second_kind none)) ∷ [])

-- a bit that is `zero` or `one`, and two bits as a tuple
abbrev pub zero_bit : Tree
zero_bit = Inj 1 (point 0)

abbrev pub one_bit : Tree
one_bit = Inj 2 (point 0)

abbrev pub bits : Tree → Tree → Tree
bits s t = Tup (more s (more t none))

-- `both` turns the second bit and puts it before the first, and charges 3 where that bit was `zero`
abbrev pub BothIsMade : Type 0
BothIsMade =
    ProcMakes copying (codes "both") (bits one_bit zero_bit) (bits one_bit one_bit)
    × ChargesJust copying (codes "both") (bits one_bit zero_bit) 3
    × ProcMakes copying (codes "both") (bits one_bit one_bit) (bits zero_bit one_bit)
    × ChargesJust copying (codes "both") (bits one_bit one_bit) 0

-- the constructs of the source of binary trees, and its sites: two calls, a case and a whole, and
-- then four calls
abbrev pub PlacesOfBinaryTrees : Type 0
PlacesOfBinaryTrees =
    (map {B = List ℕ × ℕ} (λ (c : Placed). (c.name, c.place)) (constructs binary_source)
    ≡ (codes "leaf", 0) ∷ (codes "node", 0) ∷ (codes "tree", 0) ∷ (codes "tree", 1) ∷ [])
    × (site_places binary_source
    ≡ (codes "size", 0) ∷ (codes "size", 1) ∷ (codes "size", 2) ∷ (codes "size", 3)
    ∷ (codes "path", 0) ∷ (codes "path", 1) ∷ (codes "path", 2) ∷ (codes "path", 3)
    ∷ (codes "path", 4) ∷ (codes "path", 5) ∷ [])

-- a union keeps the size of its branches, and the product that of the node beside two leaves; so
-- `tree.0` is of rank 2, and `tree.1` of rank 1
abbrev pub RanksOfBinaryTrees : Type 0
RanksOfBinaryTrees =
    HasRank binary_source (Count 0) 0 × HasRank binary_source (Count 1) 0
    × HasRank binary_source (Count 2) 2 × HasRank binary_source (Count 3) 1

-- a case is at level 0, and a procedure of one case at 1; its call is one above
abbrev pub LevelsOfBinaryTrees : Type 0
LevelsOfBinaryTrees =
    HasLevel binary_source 0 2 × HasLevel binary_source 2 0 × HasLevel binary_source 3 1

-- so the counts come in the order `leaf.0`, `node.0`, `tree.1`, `tree.0`, before all totals; and of
-- `size` first the case, then the whole, then a call
abbrev pub OrderOfBinaryTrees : Type 0
OrderOfBinaryTrees =
    Precedes binary_source (Count 0) (Count 1) × Precedes binary_source (Count 1) (Count 3)
    × Precedes binary_source (Count 3) (Count 2)
    × Precedes binary_source (Count 2) (Total 0) × Precedes binary_source (Total 2) (Total 3)
    × Precedes binary_source (Total 3) (Total 0)

-- of two names with one right side each is a type of its own. A call of `p`, whose parameter is of
-- type u, on a variable of type z breaks Y9, and on one of type u nothing
abbrev pub TypesOfChoices : Type 0
TypesOfChoices =
    IsSameType choices (of_name (name (codes "a") 0)) (of_name (name (codes "a") 1))
    × (IsSameType choices (of_name (name (codes "a") 0)) (of_name (name (codes "b") 0)) → ⊥)
    × StmtBreaks choices ((codes "v", of_name (name (codes "z") 0)) ∷ [])
    (Call (name (codes "p") 70) (name (codes "v") 72))
    (record { rule = Y9; token = 72; names = codes "v" ∷ codes "p" ∷ [] })
    × ((b : Breach)
    → StmtBreaks choices ((codes "v", of_name (name (codes "u") 0)) ∷ [])
    (Call (name (codes "p") 70) (name (codes "v") 72)) b → ⊥)
