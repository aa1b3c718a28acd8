-- The rules of well-foundedness.
use Rattle.std.specs.Prelude.{◌≡◌, ◌⊎◌, ℕ, zero, suc, ◌<◌, ◌≤◌, length, slice_get, Some}
use Rattle.luo_finite.specs.Listing.{In}
use Rattle.luo_model.specs.declared.program.Part.{Part}
use Rattle.luo_model.specs.declared.program.Shape.{Shape}
use Rattle.luo_model.specs.declared.program.Shape.TheVariants as shape
use Rattle.luo_model.specs.Program.{Program, Procedure, Body, Does, Items, no_items, item, Call, Case, Forall, shape_of}
use Rattle.luo_model.specs.Member.{IsWithin}
use Rattle.luo_finite.specs.Walk.{OnCircle}

-- From says of which weights atoms are made, and Q which parts are made
abbrev pub IsBuilt : (ℕ → Type 0) → (ℕ → Type 0) → Shape → Type 0
IsBuilt From Q (shape.Atom weight) = From weight
IsBuilt From Q (shape.Union parts) = (part : Part) × In part parts × Q part.node
IsBuilt From Q (shape.Product parts) = (part : Part) → In part parts → Q part.node
IsBuilt From Q (shape.Coll kind part low high) = (low ≡ 0) ⊎ Q part.node

-- the rules make node x in at most so many rounds
abbrev pub BuiltWithin : (ℕ → Type 0) → Program → ℕ → ℕ → Type 0
BuiltWithin From p zero x = ⊥
BuiltWithin From p (suc rounds) x = IsBuilt From (BuiltWithin From p rounds) (shape_of p x)

abbrev pub Built : (ℕ → Type 0) → Program → ℕ → Type 0
Built From p x = (rounds : ℕ) × BuiltWithin From p rounds x

-- an atom is inhabited; a union is where one branch is; a product is where all factors are; a
-- collection is where low is 0 or its component is
abbrev pub IsInhabited : Program → ℕ → Type 0
IsInhabited p x = Built (λ weight. Unit {0}) p x

-- and the same with atoms of weight 0: node x has a structure of size 0
abbrev pub HasZero : Program → ℕ → Type 0
HasZero p x = Built (λ weight. weight ≡ 0) p x

-- a structure of this construct may have the size of a part that is node y, where Z says which
-- parts may have size 0: of a product, where each other factor may
abbrev pub KeepsSize : (ℕ → Type 0) → Shape → ℕ → Type 0
KeepsSize Z (shape.Atom weight) y = ⊥
KeepsSize Z (shape.Union parts) y = (part : Part) × In part parts × (part.node ≡ y)
KeepsSize Z (shape.Product parts) y =
    (i : ℕ) × (part : Part) × (slice_get parts i ≡ Some part) × (part.node ≡ y)
    × ((k : ℕ) (other : Part) → slice_get parts k ≡ Some other → (k ≡ i → ⊥) → Z other.node)
KeepsSize Z (shape.Coll kind part low high) y = (part.node ≡ y) × IsWithin low high 1

-- a same-size step
abbrev pub SameSize : Program → ℕ → ℕ → Type 0
SameSize p x y = KeepsSize (HasZero p) (shape_of p x) y

-- a collection whose component has a structure of size 0
abbrev pub HasEmptyComponent : Program → Shape → Type 0
HasEmptyComponent p (shape.Coll kind part low high) = HasZero p part.node
HasEmptyComponent p _ = ⊥

-- one of the items is a call of g
abbrev pub CallsAmong : ℕ → Items → Type 0
CallsAmong g no_items = ⊥
CallsAmong g (item (Call var callee site) is) = (callee ≡ g) ⊎ CallsAmong g is
CallsAmong g (item (Case var arms site) is) = CallsAmong g is
CallsAmong g (item (Forall var body body_site site) is) = CallsAmong g is

abbrev pub CallsIn : ℕ → Body → Type 0
CallsIn g (Does own items) = CallsAmong g items

-- procedure f calls g on its own parameter: among the items of its whole
abbrev pub OwnCall : Program → ℕ → ℕ → Type 0
OwnCall p f g = (P : Procedure) × (slice_get p.procs f ≡ Some P) × CallsIn g P.body

-- node x isn't inhabited
abbrev pub BreaksW1 : Program → ℕ → Type 0
BreaksW1 p x = (x < length p.nodes) × (IsInhabited p x → ⊥)

-- node x is a collection whose component has a structure of size 0
abbrev pub BreaksW2 : Program → ℕ → Type 0
BreaksW2 p x = HasEmptyComponent p (shape_of p x)

-- no rule is broken
pub record IsFounded (p : Program) : Type 0 where
  pub inhabited : (x : ℕ) → x < length p.nodes → IsInhabited p x
  pub solid : (x : ℕ) → BreaksW2 p x → ⊥
  pub no_circle : (x : ℕ) → OnCircle (SameSize p) x → ⊥
  pub no_endless : (f : ℕ) → OnCircle (OwnCall p) f → ⊥

-- x is the least number of which P holds
abbrev pub IsLeast : (ℕ → Type 0) → ℕ → Type 0
IsLeast P x = P x × ((y : ℕ) → P y → x ≤ y)
