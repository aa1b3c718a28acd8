-- Small programs that keep or break the rules of well-foundedness.
use Rattle.std.specs.Prelude.{ℕ, suc, List, [], ◌∷◌, Option, None}
use Rattle.luo_finite.specs.Walk.{OnCircle, IsNamedCircle}
use Rattle.luo_model.specs.declared.program.Universe.TheVariants.{Unlabelled}
use Rattle.luo_model.specs.declared.program.Kind.TheVariants.{Sequence, Multiset}
use Rattle.luo_model.specs.declared.program.Shape.{Shape}
use Rattle.luo_model.specs.declared.program.Shape.TheVariants.{Atom, Union, Product, Coll}
use Rattle.luo_model.specs.declared.program.Node.{Node}
use Rattle.luo_model.specs.declared.body.Bind.TheVariants.{Whole}
use Rattle.luo_model.specs.Program.{Program, Procedure, Body, Does, no_items, item, Call, Case, Forall, no_arms, arm}
use Rattle.luo_model.specs.Member.{IsWithin}
use Rattle.luo_model.specs.Invariant.{bare}
use Rattle.luo_model.specs.Founded.{IsFounded, BreaksW1, BreaksW2, IsLeast, SameSize, OwnCall}

-- programs of these constructs and bodies, each procedure on node 0
abbrev pub nodes_of : List Shape → List Node
nodes_of [] = []
nodes_of (s ∷ shapes) = record { shape = s; owner = 0; place = 0 } ∷ nodes_of shapes

abbrev pub procedure : Body → Procedure
procedure body = record { name = []; on = bare 0; body = body; site = 0; result = None }

abbrev pub procedures_of : List Body → List Procedure
procedures_of [] = []
procedures_of (body ∷ bodies) = procedure body ∷ procedures_of bodies

abbrev pub programs : List Shape → List Body → Program
programs shapes bodies = record {
  universe = Unlabelled;
  defs = [];
  nodes = nodes_of shapes;
  procs = procedures_of bodies;
  sites = [];
  analyses = [];
}

-- leaves, or multisets of at least two hierarchies: `type h = leaf | multiset(h, card >= 2)`; and
-- the number of leaves
abbrev pub leaves : Body
leaves =
    Does 0 (item (Case 0
    (arm Whole (Does 1 no_items)
    (arm Whole (Does 0 (item
    (Forall 0 (Does 0 (item (Call 0 0 0) no_items)) 0 0) no_items)) no_arms)) 0) no_items)

abbrev pub hierarchies : Program
hierarchies =
    programs (Union (bare 1 ∷ (bare 2 ∷ [])) ∷ (Atom 1 ∷ (Coll Multiset (bare 0) 2 None ∷ [])))
    (leaves ∷ [])

abbrev pub HierarchiesAreFounded : Type 0
HierarchiesAreFounded = IsFounded hierarchies

-- `type t = z | sequence(t, card .. )`
abbrev pub nested : ℕ → Option ℕ → Program
nested low high =
    programs (Union (bare 1 ∷ (bare 2 ∷ [])) ∷ (Atom 1 ∷ (Coll Sequence (bare 0) low high ∷ []))) []

-- where one component is allowed, a collection of one leads back to the union
abbrev pub OneComponentLeadsBack : Type 0
OneComponentLeadsBack =
    (low : ℕ) (high : Option ℕ) → IsWithin low high 1
    → IsNamedCircle (SameSize (nested low high)) 0 (0 ∷ (2 ∷ (0 ∷ [])))

-- where one isn't allowed, as with at least two or with none, nothing leads back
abbrev pub OtherBoundsEndThere : Type 0
OtherBoundsEndThere =
    (low : ℕ) (high : Option ℕ) → (IsWithin low high 1 → ⊥) → (x : ℕ)
    → OnCircle (SameSize (nested low high)) x → ⊥

-- `type t = product(z, t)`
abbrev pub endless : Program
endless = programs (Atom 1 ∷ (Product (bare 0 ∷ (bare 1 ∷ [])) ∷ [])) []

-- it never ends, and is the least node that doesn't
abbrev pub EndlessProductsAreNamed : Type 0
EndlessProductsAreNamed = IsLeast (BreaksW1 endless) 1

-- `type z = atom(1); type s = sequence(epsilon)`
abbrev pub hollow : Program
hollow = programs (Atom 1 ∷ (Coll Sequence (bare 2) 0 None ∷ (Atom 0 ∷ []))) []

abbrev pub EmptyComponentsAreNamed : Type 0
EmptyComponentsAreNamed = IsLeast (BreaksW2 hollow) 1

-- `type t = z | product(e, t)` with e of this weight
abbrev pub beside : ℕ → Program
beside weight =
    programs (Union (bare 1 ∷ (bare 2 ∷ []))
    ∷ (Atom 1 ∷ (Product (bare 3 ∷ (bare 0 ∷ [])) ∷ (Atom weight ∷ [])))) []

-- beside an empty factor a product is as large as the other
abbrev pub EmptyFactorsLeadBack : Type 0
EmptyFactorsLeadBack = IsNamedCircle (SameSize (beside 0)) 0 (0 ∷ (2 ∷ (0 ∷ [])))

-- and beside any other it is larger
abbrev pub OtherFactorsEndThere : Type 0
OtherFactorsEndThere = (weight : ℕ) → (x : ℕ) → OnCircle (SameSize (beside (suc weight))) x → ⊥

-- a procedure that calls itself on its own parameter is named
abbrev pub OwnCallsAreNamed : Type 0
OwnCallsAreNamed =
    IsNamedCircle (OwnCall (programs (Atom 1 ∷ []) (Does 0 (item (Call 0 0 0) no_items) ∷ []))) 0
    (0 ∷ (0 ∷ []))
