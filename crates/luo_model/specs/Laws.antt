-- What holds of charges, of the order, and of counts and totals in every program.
use Rattle.std.specs.Prelude.{◌≡◌, ℕ, ◌<◌, List, [], ◌∷◌, Bool, IsTrue, map, slice_get, Some}
use Rattle.std.specs.Cmp.{IsTotalOrder}
use Rattle.std.specs.declared.cmp.Ordering.TheVariants.{Equal}
use Rattle.luo_finite.specs.Listing.{NoDouble, Neighbours}
use Rattle.luo_model.specs.declared.program.Kind.TheVariants.{Set, Multiset, Powerset}
use Rattle.luo_model.specs.Tree.{Tree, least_label}
use Rattle.luo_model.specs.Order.{order_of, IsBefore, IsNotBefore}
use Rattle.luo_model.specs.Member.{ComponentsStand}
use Rattle.luo_model.specs.Program.{Program, Procedure}
use Rattle.luo_model.specs.Charges.{BodyCharges, Charges, SiteCharges, works_of}
use Rattle.luo_model.specs.Tables.{IsCount, IsTotal}
use Rattle.luo_model.specs.Invariant.{IsProgram}

-- no two sites have one number
abbrev pub SitesAreApart : Program → Type 0
SitesAreApart p = NoDouble (map (λ w. w.0) (works_of p))

-- and none of a program have
abbrev pub SitesOfProgramsAreApart : Type 0
SitesOfProgramsAreApart = (p : Program) → IsProgram p → SitesAreApart p

-- a procedure charges at most one number on a structure
abbrev pub ChargesAreSingle : Type 0
ChargesAreSingle =
    (p : Program) (f : ℕ) (s : Tree) (a b : ℕ) → Charges p f s a → Charges p f s b → a ≡ b

-- charges are the least relation that follows the bodies: a test that passes what follows from what
-- it passes, passes all charges
abbrev pub ChargesAreLeast : Type 0
ChargesAreLeast =
    (p : Program) (test : ℕ → Tree → ℕ → Bool)
    → ((f : ℕ) (P : Procedure) (s : Tree) (q : ℕ) → slice_get p.procs f ≡ Some P
    → BodyCharges (λ g t r. IsTrue (test g t r)) P.body (s ∷ []) q → IsTrue (test f s q))
    → (f : ℕ) (s : Tree) (q : ℕ) → Charges p f s q → IsTrue (test f s q)

-- a site charges at most one number on a structure
abbrev pub SiteChargesAreSingle : Type 0
SiteChargesAreSingle =
    (p : Program) → SitesAreApart p → (i : ℕ) (s : Tree) (a b : ℕ) → SiteCharges p i s a
    → SiteCharges p i s b → a ≡ b

-- a procedure charges what its body does, where what the body calls may go on as deep as it likes
abbrev pub ProceduresChargeTheirBodies : Type 0
ProceduresChargeTheirBodies =
    (p : Program) (f : ℕ) (P : Procedure) (s : Tree) (q : ℕ) → slice_get p.procs f ≡ Some P
    → (Charges p f s q → BodyCharges (Charges p) P.body (s ∷ []) q)
    × (BodyCharges (Charges p) P.body (s ∷ []) q → Charges p f s q)

-- the site of a procedure's whole charges what the procedure does
abbrev pub WholesCharge : Type 0
WholesCharge =
    (p : Program) (f : ℕ) (P : Procedure) (s : Tree) (q : ℕ) → slice_get p.procs f ≡ Some P
    → Charges p f s q → SiteCharges p P.site s q

-- and nothing else
abbrev pub WholesChargeNoMore : Type 0
WholesChargeNoMore =
    (p : Program) → SitesAreApart p → (f : ℕ) (P : Procedure) (s : Tree) (q : ℕ)
    → slice_get p.procs f ≡ Some P → SiteCharges p P.site s q → Charges p f s q

-- the order of structures is total, and finds no difference only between equal ones
abbrev pub OrderIsTotal : Type 0
OrderIsTotal =
    IsTotalOrder order_of × ((s : Tree) → order_of s s ≡ Equal)
    × ((s t : Tree) → order_of s t ≡ Equal → s ≡ t)

-- components stand as their kind wants them where each neighbour does
abbrev pub NeighboursStand : Type 0
NeighboursStand =
    ((ts : List Tree) → Neighbours (λ s t. least_label s < least_label t) ts
    → ComponentsStand Set ts)
    × ((ts : List Tree) → Neighbours IsNotBefore ts → ComponentsStand Multiset ts)
    × ((ts : List Tree) → Neighbours (λ s t. IsBefore t s) ts → ComponentsStand Powerset ts)

-- a node has one count at a size
abbrev pub CountsAreSingle : Type 0
CountsAreSingle = (p : Program) (x n a b : ℕ) → IsCount p x n a → IsCount p x n b → a ≡ b

-- a site has one total at a size
abbrev pub TotalsAreSingle : Type 0
TotalsAreSingle =
    (p : Program) → SitesAreApart p → (i n a b : ℕ) → IsTotal p i n a → IsTotal p i n b → a ≡ b
