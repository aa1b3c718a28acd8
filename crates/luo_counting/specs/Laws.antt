-- What the numbers of collections have to be.
use Rattle.std.specs.Prelude.{◌≡◌, ℕ, suc, ◌+◌, ◌*◌, ◌-◌, ◌≤◌, ◌<◌, [], ◌∷◌, Option}
use Rattle.luo_finite.specs.Listing.{In, Sums}
use Rattle.luo_finite.specs.Range.{sum_below}
use Rattle.luo_finite.specs.Binomial.{choose}
use Rattle.luo_model.specs.declared.program.Universe.{Universe}
use Rattle.luo_model.specs.declared.program.Universe.TheVariants.{Labelled}
use Rattle.luo_model.specs.declared.program.Kind.{Kind}
use Rattle.luo_model.specs.declared.program.Part.{Part}
use Rattle.luo_model.specs.declared.program.Shape.TheVariants.{Coll}
use Rattle.luo_model.specs.Tree.{Tree, size_of}
use Rattle.luo_model.specs.Program.{Program, Body, shape_of, site_node}
use Rattle.luo_model.specs.Member.{Member, IsWithin}
use Rattle.luo_model.specs.Numbered.{NumberedCollection, charged, IsCollectionCount, IsCollectionTotal}
use Rattle.luo_model.specs.Charges.{Charges, BodyCharges, of_walk, works_of}
use Rattle.luo_model.specs.Tables.{IsCount, IsTotal}
use Rattle.luo_counting.specs.Sharing.{shares}
use Rattle.luo_counting.specs.Items.{Suits}
use Rattle.luo_counting.specs.Numbers.{rows, row_totals, sets, set_totals, cycles, cycle_totals, repeats, repeat_totals, coll_count, coll_total}
use Rattle.luo_counting.specs.Fours.{coll_pairs}
use Rattle.luo_counting.specs.Counted.{CountsAt, SumsAt, AreLight}

-- the numbers f and g, one of size j and one of what is left of n, in as many ways as j of n labels
-- can be chosen
abbrev pub by_binomials : (ℕ → ℕ) → (ℕ → ℕ) → ℕ → ℕ
by_binomials f g n = sum_below (λ j. choose n j * (f j * g (n - j))) (suc n)

-- n labels are shared between two as binomials say
abbrev pub ShareIsBinomial : Type 0
ShareIsBinomial = (a b : ℕ → ℕ) (n : ℕ) → shares Labelled a b n ≡ by_binomials a b n

-- labelled rows of one item more, and the charges over them
abbrev pub RowsAreBinomial : Type 0
RowsAreBinomial =
    (a b : ℕ → ℕ) (k n : ℕ) → (rows Labelled a (suc k) n ≡ by_binomials a (rows Labelled a k) n)
    × (row_totals Labelled a b (suc k) n
    ≡ by_binomials b (rows Labelled a k) n + by_binomials a (row_totals Labelled a b k) n)

-- sets and cycles of one item more: one of the n + 1 labels is that of the first, which has j of
-- the others
abbrev pub SetsAreBinomial : Type 0
SetsAreBinomial =
    (a b : ℕ → ℕ) (k n : ℕ) → (sets a (suc k) (suc n) ≡ by_binomials (λ j. a (suc j)) (sets a k) n)
    × (set_totals a b (suc k) (suc n)
    ≡ by_binomials (λ j. b (suc j)) (sets a k) n
    + by_binomials (λ j. a (suc j)) (set_totals a b k) n)

abbrev pub CyclesAreBinomial : Type 0
CyclesAreBinomial =
    (a b : ℕ → ℕ) (k n : ℕ)
    → (cycles a (suc k) (suc n) ≡ by_binomials (λ j. a (suc j)) (rows Labelled a k) n)
    × (cycle_totals a b (suc k) (suc n)
    ≡ by_binomials (λ j. b (suc j)) (rows Labelled a k) n
    + by_binomials (λ j. a (suc j)) (row_totals Labelled a b k) n)

-- of a + 1 things there are C(a + j, j) multisets of j; over all multisets of j + 1 of a things the
-- charges sum to t C(a + j, j)
abbrev pub RepeatsAreBinomial : Type 0
RepeatsAreBinomial =
    ((a j : ℕ) → repeats (suc a) j ≡ choose (a + j) j)
    × ((a t j : ℕ) → repeat_totals a t (suc j) ≡ t * choose (a + j) j)

-- the numbered collections are as many as the number says, where no item has size 0
abbrev pub CollectionsAreCounted : Type 0
CollectionsAreCounted =
    (u : Universe) (kind : Kind) (low : ℕ) (high : Option ℕ) (a : ℕ → ℕ) (n : ℕ) → Suits u kind low
    → a 0 ≡ 0
    → IsCollectionCount u kind low high a n (coll_count u kind a low high n)

-- and their items' charges sum to the total, for every choice q of charges with the sums b
abbrev pub CollectionsAreTotalled : Type 0
CollectionsAreTotalled =
    (u : Universe) (kind : Kind) (low : ℕ) (high : Option ℕ) (a b : ℕ → ℕ) (q : ℕ → ℕ → ℕ) (n : ℕ)
    → Suits u kind low → a 0 ≡ 0
    → ((m : ℕ) → sum_below (q m) (a m) ≡ b m)
    → IsCollectionTotal u kind low high a q n (coll_total u kind a b low high n)

-- and so for the products of what two choices of charges come to on each collection
abbrev pub PairsAreTotalled : Type 0
PairsAreTotalled =
    (u : Universe) (kind : Kind) (low : ℕ) (high : Option ℕ) (a b d g : ℕ → ℕ) (q r : ℕ → ℕ → ℕ)
    (n : ℕ) → Suits u kind low → a 0 ≡ 0
    → ((m : ℕ) → sum_below (q m) (a m) ≡ b m) → ((m : ℕ) → sum_below (r m) (a m) ≡ d m)
    → ((m : ℕ) → sum_below (λ i. q m i * r m i) (a m) ≡ g m)
    → Sums (NumberedCollection u kind low high a n) (λ xs. charged q xs * charged r xs)
    (coll_pairs u kind a b d g low high n)

-- node x has collections of the part, within these bounds, and no component of size 0
pub record IsCollectionNode (p : Program) (x : ℕ) (kind : Kind) (part : Part) (low : ℕ)
    (high : Option ℕ) : Type 0 where
  pub light : AreLight p
  pub is : shape_of p x ≡ Coll kind part low high
  pub suits : Suits p.universe kind low
  pub solid : (t : Tree) → Member p part.node t → size_of t ≡ 0 → ⊥

-- of the components of size m, for all m that a collection of size n can have, there are a m, and
-- over them w sums to b m
abbrev pub AreComponents : Program → Part → (Tree → ℕ) → (ℕ → ℕ) → (ℕ → ℕ) → Type 0 → ℕ → Type 0
AreComponents p part w a b wanted n =
    ((m : ℕ) → 1 ≤ m → m < n → CountsAt p part.node m (a m) × SumsAt p part.node w m (b m))
    × (wanted → CountsAt p part.node n (a n) × SumsAt p part.node w n (b n))

-- a node of collections has as many structures as there are numbered collections over the counts of
-- its component
abbrev pub NodesAreCounted : Type 0
NodesAreCounted =
    (p : Program) (x : ℕ) (kind : Kind) (part : Part) (low : ℕ) (high : Option ℕ) (a : ℕ → ℕ)
    (n c : ℕ) → IsCollectionNode p x kind part low high → a 0 ≡ 0
    → AreComponents p part (λ t. 0) a (λ m. 0) (IsWithin low high 1) n
    → IsCollectionCount p.universe kind low high a n c → IsCount p x n c

-- a walk has the total of numbered collections over the charges of its body, for every choice q of
-- charges with the body's sums
abbrev pub WalksAreTotalled : Type 0
WalksAreTotalled =
    (p : Program) (i n t : ℕ) (body : Body) (kind : Kind) (part : Part) (low : ℕ) (high : Option ℕ)
    (w : Tree → ℕ) (a b : ℕ → ℕ) (q : ℕ → ℕ → ℕ)
    → In (i, of_walk body) (works_of p)
    → IsCollectionNode p (site_node p i) kind part low high
    → ((s : Tree) → Member p part.node s → BodyCharges (Charges p) body (s ∷ []) (w s)) → a 0 ≡ 0
    → b 0 ≡ 0
    → AreComponents p part w a b (IsWithin low high 1) n → ((m : ℕ) → sum_below (q m) (a m) ≡ b m)
    → IsCollectionTotal p.universe kind low high a q n t → IsTotal p i n t
