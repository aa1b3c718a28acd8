-- Type expressions in their places, and which of them are the same type.
use Rattle.std.specs.Prelude.{◌≡◌, ℕ, suc, ◌+◌, ◌++◌, List, [], ◌∷◌, length}
use Rattle.luo_finite.specs.Listing.{In}
use Rattle.luo_source.specs.declared.names.Name.{Name}
use Rattle.luo_source.specs.Plain.Types as type
use Rattle.luo_source.specs.Plain.Types.{TypeExpr, Named, Epsilon, Union, Product, Coll, TypeExprs, no_exprs, an_expr}
use Rattle.luo_source.specs.Plain.Source.{Source}
use Rattle.luo_rules.specs.Definitions.{Definition, definitions}
use Rattle.luo_meaning.specs.Constructs.{IsConstruct}

abbrev mutual
  -- the constructs of a type expression from the left, each before those inside it; a name is none
  pub constructs_in : TypeExpr → List TypeExpr
  constructs_in (Named name) = []
  constructs_in (Epsilon at) = Epsilon at ∷ []
  constructs_in (type.Atom weight weight_at at) = type.Atom weight weight_at at ∷ []
  constructs_in (Union parts) = Union parts ∷ constructs_among parts
  constructs_in (Product parts at) = Product parts at ∷ constructs_among parts
  constructs_in (Coll kind part bound at) = Coll kind part bound at ∷ constructs_in part

  pub constructs_among : TypeExprs → List TypeExpr
  constructs_among no_exprs = []
  constructs_among (an_expr e rest) = constructs_in e ++ constructs_among rest

-- a type expression with the name of the definition in whose right side it stands, and the number
-- of constructs before it there
pub record Placed : Type 0 where
  pub name : List ℕ
  pub place : ℕ
  pub form : TypeExpr

-- a type's name by itself, which needs no place
abbrev pub of_name : Name → Placed
of_name name = record { name = []; place = 0; form = Named name }

-- the right side of a definition
abbrev pub right_of : Definition → Placed
right_of d = record { name = d.name.text; place = 0; form = d.right }

-- type expressions in their places, the first after so many constructs
abbrev pub parts_from : List ℕ → ℕ → TypeExprs → List Placed
parts_from text place no_exprs = []
parts_from text place (an_expr e rest) =
    record { name = text; place = place; form = e }
    ∷ parts_from text (place + length (constructs_in e)) rest

-- from one type expression one comes to another by going from names to what they stand for
pub data LeadsAt (source : Source) (c : Placed) : Placed → Type 0 where
  itself : LeadsAt source c c
  by_name : {text : List ℕ} {place : ℕ} {name : Name} (d : Definition) → In d (definitions source)
      → d.name.text ≡ name.text
      → LeadsAt source c (right_of d)
      → LeadsAt source c (record { name = text; place = place; form = Named name })

-- the same type: both lead to constructs, and these stand in one place
pub record IsSameType (source : Source) (a b : Placed) : Type 0 where
  pub c : Placed
  pub d : Placed
  pub first : LeadsAt source c a
  pub second : LeadsAt source d b
  pub first_construct : IsConstruct c.form
  pub second_construct : IsConstruct d.form
  pub name : c.name ≡ d.name
  pub place : c.place ≡ d.place

-- it leads to a union of these branches, a product of these factors, or a collection of this
-- component, each in its place
pub data IsUnionAt (source : Source) (a : Placed) : List Placed → Type 0 where
  union_at : {text : List ℕ} {place : ℕ} {parts : _}
      → LeadsAt source (record { name = text; place = place; form = Union parts }) a
      → IsUnionAt source a (parts_from text (suc place) parts)

pub data IsProductAt (source : Source) (a : Placed) : List Placed → Type 0 where
  product_at : {text : List ℕ} {place : ℕ} {parts : _} {at : ℕ}
      → LeadsAt source (record { name = text; place = place; form = Product parts at }) a
      → IsProductAt source a (parts_from text (suc place) parts)

pub data IsCollectionAt (source : Source) (a : Placed) : Placed → Type 0 where
  collection_at : {text : List ℕ} {place : ℕ} {kind : _} {part : _} {bound : _} {at : ℕ}
      → LeadsAt source
      (record { name = text; place = place; form = Coll kind part bound at }) a
      → IsCollectionAt source a (record { name = text; place = suc place; form = part })

-- it leads to an atom or `epsilon`
pub data IsAtomAt (source : Source) (a : Placed) : Type 0 where
  atom_at : {text : List ℕ} {place : ℕ} {weight weight_at at : ℕ}
      → LeadsAt source
      (record { name = text; place = place; form = type.Atom weight weight_at at }) a
      → IsAtomAt source a
  epsilon_at : {text : List ℕ} {place : ℕ} {at : ℕ}
      → LeadsAt source (record { name = text; place = place; form = Epsilon at }) a
      → IsAtomAt source a
