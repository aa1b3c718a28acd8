-- Variables by their names, with their types as written, and what a type expression leads to.
use Rattle.std.specs.Prelude.{◌≡◌, ◌⊎◌, ℕ, List, [], ◌∷◌, Option, Some, None, if◌then◌else◌}
use Rattle.std.specs.Str.{bytes_eq}
use Rattle.luo_model.specs.declared.program.Kind.{Kind}
use Rattle.luo_source.specs.declared.names.Name.{Name}
use Rattle.luo_source.specs.declared.types.Bound.{Bound}
use Rattle.luo_source.specs.Plain.Types.{TypeExpr, Union, Product, Coll}
use Rattle.luo_source.specs.Plain.Types as type
use Rattle.luo_source.specs.declared.statements.Pattern.{Pattern}
use Rattle.luo_source.specs.declared.statements.Pattern.TheVariants.{Named, NamedWhole, NamedParts, Parts, Any, AnyWhole}
use Rattle.luo_source.specs.Plain.Source.{Source}
use Rattle.luo_meaning.specs.Defined.{DefinesType}
use Rattle.luo_meaning.specs.Structures.{exprs_in}

-- from a type expression one comes to c by going from names to what they stand for
pub data LeadsTo (source : Source) (c : TypeExpr) : TypeExpr → Type 0 where
  itself : LeadsTo source c c
  by_name : {name : Name} (right : TypeExpr) → DefinesType source name.text right
      → LeadsTo source c right → LeadsTo source c (type.Named name)

-- it leads to a union of these branches
pub data IsUnionOf (source : Source) (e : TypeExpr) : List TypeExpr → Type 0 where
  union_of : {parts : _} → LeadsTo source (Union parts) e
      → IsUnionOf source e (exprs_in parts)

-- it leads to a product of these factors
pub data IsProductOf (source : Source) (e : TypeExpr) : List TypeExpr → Type 0 where
  product_of : {parts : _} {at : ℕ} → LeadsTo source (Product parts at) e
      → IsProductOf source e (exprs_in parts)

-- it leads to a collection of this component
pub data IsCollectionOf (source : Source) (e : TypeExpr) : TypeExpr → Type 0 where
  collection_of : {kind : Kind} {f : TypeExpr} {bound : Option Bound} {at : ℕ}
      → LeadsTo source (Coll kind f bound at) e → IsCollectionOf source e f

-- the variables of a scope: names with types
abbrev pub Types : Type 0
Types = List (List ℕ × TypeExpr)

-- the type of a name, if it is a variable of the scope
abbrev pub type_of : Types → List ℕ → Option TypeExpr
type_of [] text = None
type_of (v ∷ vs) text = if bytes_eq v.0 text then Some v.1 else type_of vs text

-- the first name with the first type, and so on
abbrev pub typed : List Name → List TypeExpr → Types
typed (name ∷ names) (e ∷ es) = (name.text, e) ∷ typed names es
typed _ _ = []

-- the types of what a pattern binds, in an arm that looks at a structure of e
abbrev pub BindsTypes : Source → Pattern → TypeExpr → Types → Type 0
BindsTypes source (Named name) e types = types ≡ []
BindsTypes source (NamedWhole name var) e types = types ≡ (var.text, e) ∷ []
BindsTypes source (NamedParts name names) e types =
    (es : List TypeExpr) × IsProductOf source e es × (types ≡ typed names es)
BindsTypes source (Parts names at) e types =
    (es : List TypeExpr) × IsProductOf source e es × (types ≡ typed names es)
BindsTypes source (Any at) e types = types ≡ []
BindsTypes source (AnyWhole var at) e types = types ≡ (var.text, e) ∷ []

-- what the arms of a case on e look at, in order: structures of each branch of a union, or those of
-- a product themselves
abbrev pub AreStands : Source → TypeExpr → List TypeExpr → Type 0
AreStands source e stands =
    IsUnionOf source e stands ⊎ ((es : List TypeExpr) × IsProductOf source e es × (stands ≡ e ∷ []))
