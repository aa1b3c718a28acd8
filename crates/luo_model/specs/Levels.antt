-- Ranks, levels and least sizes.
use Rattle.std.specs.Prelude.{◌≡◌, ◌⊎◌, ℕ, zero, suc, ◌+◌, ◌≤◌, ◌<◌, List, slice_get, Some, max}
use Rattle.luo_finite.specs.Listing.{In}
use Rattle.luo_model.specs.Tree.{Tree}
use Rattle.luo_model.specs.Program.{Program, Procedure, Body, Does, Items, no_items, item, Item, Call, Case, Forall}
use Rattle.luo_model.specs.Structures.{IsStructure}
use Rattle.luo_model.specs.Charges.{Work, of_body, of_call, of_case, of_walk, works_of}
use Rattle.luo_finite.specs.Walk.{IsLongest}
use Rattle.luo_model.specs.Founded.{SameSize}

-- the rank of a node: the length of the longest chain of same-size steps from it
abbrev pub IsRank : Program → ℕ → ℕ → Type 0
IsRank p x r = IsLongest (SameSize p) x r

-- R gives the levels of the wholes of called procedures
module _ (R : ℕ → ℕ → Type 0) where
  -- 1 more than the level of the called whole for a call, and 0 for a case or a walk
  abbrev pub ItemLevel : Item → ℕ → Type 0
  ItemLevel (Call var callee site) n = (m : ℕ) × R callee m × (n ≡ suc m)
  ItemLevel (Case var arms site) n = n ≡ 0
  ItemLevel (Forall var body body_site site) n = n ≡ 0

  -- the greatest level of these items, and 0 of none
  abbrev pub ItemsLevel : Items → ℕ → Type 0
  ItemsLevel no_items n = n ≡ 0
  ItemsLevel (item i is) n = (a : ℕ) × (b : ℕ) × ItemLevel i a × ItemsLevel is b × (n ≡ max a b)

  -- 1 more than the greatest level of its items, and 0 without items
  abbrev pub BodyLevel : Body → ℕ → Type 0
  BodyLevel (Does own no_items) n = n ≡ 0
  BodyLevel (Does own (item i is)) n = (m : ℕ) × ItemsLevel (item i is) m × (n ≡ suc m)

-- the level of a procedure's whole, by calls that are at most so many deep
abbrev pub LevelWithin : List Procedure → ℕ → ℕ → ℕ → Type 0
LevelWithin procs zero f n = ⊥
LevelWithin procs (suc depth) f n =
    (P : Procedure) × (slice_get procs f ≡ Some P) × BodyLevel (LevelWithin procs depth) P.body n

abbrev pub WholeLevel : Program → ℕ → ℕ → Type 0
WholeLevel p f n = (depth : ℕ) × LevelWithin p.procs depth f n

abbrev pub WorkLevel : Program → Work → ℕ → Type 0
WorkLevel p (of_body body) n = BodyLevel (WholeLevel p) body n
WorkLevel p (of_call callee) n = (m : ℕ) × WholeLevel p callee m × (n ≡ suc m)
WorkLevel p (of_case arms) n = n ≡ 0
WorkLevel p (of_walk body) n = n ≡ 0

-- the level of a site
abbrev pub IsLevel : Program → ℕ → ℕ → Type 0
IsLevel p site n = (work : Work) × In (site, work) (works_of p) × WorkLevel p work n

-- n is the least size of a structure of node x
abbrev pub IsLeastSize : Program → ℕ → ℕ → Type 0
IsLeastSize p x n =
    ((s : Tree) × IsStructure p x n s) × ((m : ℕ) (s : Tree) → IsStructure p x m s → n ≤ m)

-- the same up to a last size, and 1 more than that where all are larger
abbrev pub IsLeastSizeUpTo : Program → ℕ → ℕ → ℕ → Type 0
IsLeastSizeUpTo p last x n =
    (IsLeastSize p x n × (n ≤ last))
    ⊎ ((n ≡ last + 1) × ((m : ℕ) (s : Tree) → IsStructure p x m s → last < m))
