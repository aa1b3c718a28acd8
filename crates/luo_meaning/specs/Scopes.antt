-- Variables by their names, with their types in their places, what arms look at, and which patterns
-- fit it.
use Rattle.std.specs.Prelude.{◌≡◌, ℕ, List, [], ◌∷◌, map, length, Option, Some, None, if◌then◌else◌}
use Rattle.std.specs.Str.{bytes_eq}
use Rattle.luo_source.specs.declared.names.Name.{Name}
use Rattle.luo_source.specs.declared.statements.Pattern.{Pattern}
use Rattle.luo_source.specs.declared.statements.Pattern.TheVariants.{Named, NamedWhole, NamedParts, Parts, Any, AnyWhole}
use Rattle.luo_source.specs.Plain.Source.{Source}
use Rattle.luo_meaning.specs.Places.{Placed, of_name, IsSameType, IsUnionAt, IsProductAt, IsCollectionAt, IsAtomAt}

-- the variables of a scope: names with types
abbrev pub Scope : Type 0
Scope = List (List ℕ × Placed)

-- the type of a name, if it is a variable of the scope
abbrev pub type_at : Scope → List ℕ → Option Placed
type_at [] text = None
type_at (v ∷ vs) text = if bytes_eq v.0 text then Some v.1 else type_at vs text

-- a scope of one variable, and of the first name with the first type, and so on
abbrev pub one_variable : Name → Placed → Scope
one_variable name a = (name.text, a) ∷ []

abbrev pub named_parts : List Name → List Placed → Scope
named_parts (name ∷ names) (a ∷ parts) = (name.text, a) ∷ named_parts names parts
named_parts _ _ = []

-- what an arm looks at: a structure inside a branch, which is of this type, or a tuple of this type
-- itself
pub data Look : Type 0 where
  inside tuple : Placed → Look

abbrev pub looked_at : Look → Placed
looked_at (inside a) = a
looked_at (tuple a) = a

-- what the arms of a case on a variable of type a look at, in order: structures of each branch of a
-- union, tuples of a product, and else nothing
pub data AreLooks (source : Source) (a : Placed) : List Look → Type 0 where
  branches : (parts : List Placed) → IsUnionAt source a parts → AreLooks source a (map inside parts)
  tuples : (parts : List Placed) → IsProductAt source a parts → AreLooks source a (tuple a ∷ [])
  of_collection : (f : Placed) → IsCollectionAt source a f → AreLooks source a []
  of_atom : IsAtomAt source a → AreLooks source a []

-- it leads to a product of so many factors
abbrev pub HasFactors : Source → Placed → ℕ → Type 0
HasFactors source a k = (parts : List Placed) × IsProductAt source a parts × (length parts ≡ k)

-- the pattern fits a branch of type a: its type is the branch's, and it has as many names as the
-- branch has factors
abbrev pub FitsBranch : Source → Placed → Pattern → Type 0
FitsBranch source a (Named type) = IsSameType source (of_name type) a
FitsBranch source a (NamedWhole type name) = IsSameType source (of_name type) a
FitsBranch source a (NamedParts type names) =
    IsSameType source (of_name type) a × HasFactors source a (length names)
FitsBranch source a (Parts names at) = HasFactors source a (length names)
FitsBranch source a (Any at) = Unit {0}
FitsBranch source a (AnyWhole name at) = Unit {0}

-- the pattern fits a tuple of type a: it has a name for each factor, or it is `_`
abbrev pub FitsTuple : Source → Placed → Pattern → Type 0
FitsTuple source a (NamedParts type names) =
    IsSameType source (of_name type) a × HasFactors source a (length names)
FitsTuple source a (Parts names at) = HasFactors source a (length names)
FitsTuple source a (Any at) = Unit {0}
FitsTuple source a _ = ⊥

abbrev pub Fits : Source → Look → Pattern → Type 0
Fits source (inside a) pattern = FitsBranch source a pattern
Fits source (tuple a) pattern = FitsTuple source a pattern

-- the variables that a pattern binds, in an arm that looks at a structure of type a
abbrev pub BindsScope : Source → Pattern → Placed → Scope → Type 0
BindsScope source (Named type) a scope = scope ≡ []
BindsScope source (NamedWhole type var) a scope = scope ≡ one_variable var a
BindsScope source (NamedParts type names) a scope =
    (parts : List Placed) × IsProductAt source a parts × (scope ≡ named_parts names parts)
BindsScope source (Parts names at) a scope =
    (parts : List Placed) × IsProductAt source a parts × (scope ≡ named_parts names parts)
BindsScope source (Any at) a scope = scope ≡ []
BindsScope source (AnyWhole var at) a scope = scope ≡ one_variable var a
