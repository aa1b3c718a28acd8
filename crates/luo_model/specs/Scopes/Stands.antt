-- The variables of scopes, each by the part that stands there: a node, with the name of a
-- definition where one is written.
use Rattle.std.specs.Prelude.{◌≡◌, ℕ, List, [], ◌∷◌, map, length, None, slice_index_or}
use Rattle.luo_model.specs.declared.body.Bind.{Bind}
use Rattle.luo_model.specs.declared.body.Bind.TheVariants.{Nothing, Whole, Parts}
use Rattle.luo_model.specs.declared.program.Part.{Part}
use Rattle.luo_model.specs.declared.program.Shape.{Shape}
use Rattle.luo_model.specs.declared.program.Shape.TheVariants as shape
use Rattle.luo_model.specs.Program.{Program, shape_of}

-- what an arm stands for: a branch of a union, or a product itself
pub data Stand : Type 0 where
  inside itself : Part → Stand

abbrev pub stand_part : Stand → Part
stand_part (inside part) = part
stand_part (itself part) = part

-- what the arms of a case on this part stand for, in order: one for each branch of a union, and one
-- for a product
abbrev pub stands : Part → Shape → List Stand
stands on (shape.Atom weight) = []
stands on (shape.Union parts) = map inside parts
stands on (shape.Product parts) = itself on ∷ []
stands on (shape.Coll kind part low high) = []

-- the factors of a product
abbrev pub factors : Shape → List Part
factors (shape.Product parts) = parts
factors _ = []

-- a place past the end of a scope
abbrev pub no_part : Part
no_part = record { node = 0; name = None }

-- the components of a collection
abbrev pub component : Shape → Part
component (shape.Coll kind part low high) = part
component _ = no_part

abbrev pub IsCollection : Shape → Type 0
IsCollection (shape.Coll kind part low high) = Unit {0}
IsCollection _ = ⊥

-- a product of so many factors
abbrev pub IsProductOf : ℕ → Shape → Type 0
IsProductOf k (shape.Product parts) = length parts ≡ k
IsProductOf k _ = ⊥

-- an arm that stands for this may bind so: the structure inside only of a branch, and so many parts
-- only of a product of so many factors
abbrev pub MayBind : Program → Stand → Bind → Type 0
MayBind p stand Nothing = Unit {0}
MayBind p (inside part) Whole = Unit {0}
MayBind p (itself part) Whole = ⊥
MayBind p stand (Parts k) = IsProductOf k (shape_of p (stand_part stand).node)

-- the variables that the arm binds
abbrev pub bound_parts : Program → Stand → Bind → List Part
bound_parts p stand Nothing = []
bound_parts p stand Whole = stand_part stand ∷ []
bound_parts p stand (Parts k) = factors (shape_of p (stand_part stand).node)

-- the variable at a place
abbrev pub part_at : List Part → ℕ → Part
part_at vars var = slice_index_or vars var no_part
