-- What holds of every well-founded program, and of what breaks its rules.
use Rattle.std.specs.Prelude.{◌≡◌, ℕ, ◌<◌, List, Some, length, slice_get}
use Rattle.luo_finite.specs.Listing.{Lists}
use Rattle.luo_founded.specs.declared.checking.NotFounded.{NotFounded}
use Rattle.luo_founded.specs.Found.{Breaks}
use Rattle.luo_model.specs.Tree.{Tree}
use Rattle.luo_model.specs.Program.{Program, Procedure, site_node}
use Rattle.luo_model.specs.Member.{Member}
use Rattle.luo_model.specs.Structures.{IsStructure, IsStructureOn}
use Rattle.luo_model.specs.Charges.{Charges, SiteCharges}
use Rattle.luo_model.specs.Tables.{IsCount, IsTotal}
use Rattle.luo_model.specs.Invariant.{IsProgram}
use Rattle.luo_finite.specs.Walk.{OnCircle}
use Rattle.luo_model.specs.Founded.{IsFounded, BreaksW1, OwnCall}

-- every node has a structure
abbrev pub EachHasStructure : Type 0
EachHasStructure =
    (p : Program) → IsProgram p → IsFounded p → (x : ℕ) → x < length p.nodes
    → (n : ℕ) × (s : Tree) × IsStructure p x n s

-- every node and size has a listing, on the labels of any list
abbrev pub EachHasListing : Type 0
EachHasListing =
    (p : Program) → IsProgram p → IsFounded p → (x : ℕ) (L : List ℕ) (n : ℕ)
    → (l : List Tree) × Lists (IsStructureOn p x L n) l

-- every procedure has exactly one charge on each member
abbrev pub EachChargesOnce : Type 0
EachChargesOnce =
    (p : Program) → IsProgram p → IsFounded p → (f : ℕ) (P : Procedure)
    → slice_get p.procs f ≡ Some P → (s : Tree) → Member p P.on.node s
    → (a : ℕ) × Charges p f s a × ((b : ℕ) → Charges p f s b → b ≡ a)

-- and so has every site on each member of its node
abbrev pub EachSiteChargesOnce : Type 0
EachSiteChargesOnce =
    (p : Program) → IsProgram p → IsFounded p → (i : ℕ) → i < length p.sites → (s : Tree)
    → Member p (site_node p i) s
    → (a : ℕ) × SiteCharges p i s a × ((b : ℕ) → SiteCharges p i s b → b ≡ a)

-- every node has a count at every size
abbrev pub EachIsCounted : Type 0
EachIsCounted = (p : Program) → IsProgram p → IsFounded p → (x n : ℕ) → (c : ℕ) × IsCount p x n c

-- every site has a total at every size
abbrev pub EachHasTotal : Type 0
EachHasTotal =
    (p : Program) → IsProgram p → IsFounded p → (i n : ℕ) → i < length p.sites
    → (t : ℕ) × IsTotal p i n t

-- no tree is a member of a node that isn't inhabited
abbrev pub NoneOfUninhabited : Type 0
NoneOfUninhabited = (p : Program) (x : ℕ) (s : Tree) → BreaksW1 p x → Member p x s → ⊥

-- nothing is a charge of a procedure on a circle of calls
abbrev pub CirclesChargeNothing : Type 0
CirclesChargeNothing =
    (p : Program) (f : ℕ) → OnCircle (OwnCall p) f → (s : Tree) (q : ℕ) → Charges p f s q → ⊥

-- a rule is the first that is broken with one node or chain at most, and none is in a founded
-- program
abbrev pub FirstBreachIsOne : Type 0
FirstBreachIsOne =
    ((p : Program) (d e : NotFounded) → Breaks p d → Breaks p e → d ≡ e)
    × ((p : Program) (e : NotFounded) → IsFounded p → Breaks p e → ⊥)

-- it can't be that a program isn't founded and no rule is the first that is broken
abbrev pub FirstBreachComes : Type 0
FirstBreachComes = (p : Program) → ((e : NotFounded) → Breaks p e → ⊥) → (IsFounded p → ⊥) → ⊥
