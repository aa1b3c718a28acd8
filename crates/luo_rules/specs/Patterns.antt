-- Patterns: whether they fit what an arm stands for, and what they bind.
use Rattle.std.specs.Prelude.{ℕ, List, [], ◌∷◌, ◌++◌, Option, Some, None, Bool, true, false, ◌&&◌, nat_eq, if◌then◌else◌, length}
use Rattle.std.specs.Str.{bytes_eq}
use Rattle.luo_source.specs.declared.names.Name.{Name}
use Rattle.luo_source.specs.declared.statements.Pattern.{Pattern}
use Rattle.luo_source.specs.declared.statements.Pattern.TheVariants.{Named, NamedWhole, NamedParts, Parts, Any, AnyWhole}
use Rattle.luo_model.specs.declared.body.Bind.{Bind}
use Rattle.luo_model.specs.declared.body.Bind.TheVariants as bind
use Rattle.luo_model.specs.declared.program.Part.{Part}
use Rattle.luo_model.specs.declared.program.Shape.{Shape}
use Rattle.luo_model.specs.declared.program.Shape.TheVariants as shape
use Rattle.luo_model.specs.Scopes.Stands.{Stand, inside, itself, stand_part, factors}
use Rattle.luo_rules.specs.declared.rule.Breach.{Breach}
use Rattle.luo_rules.specs.declared.rule.Rule.TheVariants.{Y1, Y10, Y11, Y13}
use Rattle.luo_rules.specs.declared.setting.Setting.{Setting}
use Rattle.luo_rules.specs.declared.setting.Variable.{Variable}
use Rattle.luo_rules.specs.Breaches.{broken, broken_at, ◌or_if_none◌}
use Rattle.luo_rules.specs.Meanings.{type_use}
use Rattle.luo_rules.specs.Settings.{meant, type_node, shape_at, case_stands}

-- this is the node
abbrev pub is_node : Option ℕ → ℕ → Bool
is_node None x = false
is_node (Some y) x = nat_eq y x

-- a product of so many factors
abbrev pub has_factors : ℕ → Shape → Bool
has_factors k (shape.Product parts) = nat_eq (length parts) k
has_factors k _ = false

-- the pattern fits a branch: its type is the branch's, and it has as many names as the branch has
-- factors
abbrev pub fits_branch : Setting → ℕ → Pattern → Bool
fits_branch s y (Named type) = is_node (type_node s type) y
fits_branch s y (NamedWhole type name) = is_node (type_node s type) y
fits_branch s y (NamedParts type names) =
    is_node (type_node s type) y && has_factors (length names) (shape_at s y)
fits_branch s y (Parts names at) = has_factors (length names) (shape_at s y)
fits_branch s y (Any at) = true
fits_branch s y (AnyWhole name at) = true

-- the pattern fits a product: it has a name for each factor, or it is `_`
abbrev pub fits_product : Setting → ℕ → Pattern → Bool
fits_product s x (NamedParts type names) =
    is_node (type_node s type) x && has_factors (length names) (shape_at s x)
fits_product s x (Parts names at) = has_factors (length names) (shape_at s x)
fits_product s x (Any at) = true
fits_product s x _ = false

abbrev pub fits : Setting → Stand → Pattern → Bool
fits s (inside part) pattern = fits_branch s part.node pattern
fits s (itself part) pattern = fits_product s part.node pattern

-- the first token of a pattern
abbrev pub first_token : Pattern → ℕ
first_token (Named type) = type.at
first_token (NamedWhole type name) = type.at
first_token (NamedParts type names) = type.at
first_token (Parts names at) = at
first_token (Any at) = at
first_token (AnyWhole name at) = at

-- the type that a pattern names is one
abbrev pub pattern_type_use : Setting → Pattern → List Breach
pattern_type_use s (Named type) = type_use (meant s type) type
pattern_type_use s (NamedWhole type name) = type_use (meant s type) type
pattern_type_use s (NamedParts type names) = type_use (meant s type) type
pattern_type_use s _ = []

-- the names of the factors
abbrev pub factor_names : Pattern → List Name
factor_names (NamedParts type names) = names
factor_names (Parts names at) = names
factor_names _ = []

abbrev pub is_among : List ℕ → List Name → Bool
is_among text [] = false
is_among text (name ∷ names) = if bytes_eq name.text text then true else is_among text names

-- names that stand a second time, after these
abbrev pub repeated : List Name → List Name → List Breach
repeated earlier [] = []
repeated earlier (name ∷ names) =
    (if is_among name.text earlier then broken_at Y1 name else [])
    ++ repeated (earlier ++ name ∷ []) names

-- the pattern doesn't fit, in a case on this variable
abbrev pub misfit : Bool → Pattern → Name → List Breach
misfit true pattern var = []
misfit false pattern var = broken Y11 (first_token pattern) var.text

-- the breaches of a pattern, in a case on this variable, in an arm that stands for this
abbrev pub pattern_breaches : Setting → Stand → Name → Pattern → List Breach
pattern_breaches s stand var pattern =
    (pattern_type_use s pattern or_if_none misfit (fits s stand pattern) pattern var)
    ++ repeated [] (factor_names pattern)

abbrev pub bind_of : Pattern → Bind
bind_of (Named type) = bind.Nothing
bind_of (NamedWhole type name) = bind.Whole
bind_of (NamedParts type names) = bind.Parts (length names)
bind_of (Parts names at) = bind.Parts (length names)
bind_of (Any at) = bind.Nothing
bind_of (AnyWhole name at) = bind.Whole

-- variables of these names and parts, one of each
abbrev pub variables : List Name → List Part → List Variable
variables (name ∷ names) (part ∷ parts) =
    record { name = name.text; part = part } ∷ variables names parts
variables _ _ = []

-- the variables that the pattern binds, in an arm that stands for this
abbrev pub bound : Setting → Stand → Pattern → List Variable
bound s stand (Named type) = []
bound s stand (NamedWhole type name) = record { name = name.text; part = stand_part stand } ∷ []
bound s stand (NamedParts type names) =
    variables names (factors (shape_at s (stand_part stand).node))
bound s stand (Parts names at) = variables names (factors (shape_at s (stand_part stand).node))
bound s stand (Any at) = []
bound s stand (AnyWhole name at) = record { name = name.text; part = stand_part stand } ∷ []

-- the breaches of an arm: those of its pattern, and those of its body, which are spoken of where
-- the pattern fits
abbrev pub arm_breaches : Setting → Stand → Name → Pattern → List Breach → List Breach
arm_breaches s stand var pattern body =
    pattern_breaches s stand var pattern ++ (if fits s stand pattern then body else [])

-- the breaches of a case on a variable: it is bound, there are as many arms as things to stand for,
-- and then those of the arms
abbrev pub case_breaches : Setting → Option (ℕ × Part) → Name → ℕ → List Breach → List Breach
case_breaches s None var arms inner = broken_at Y13 var
case_breaches s (Some variable) var arms inner =
    if nat_eq arms (length (case_stands s (Some variable))) then inner else broken_at Y10 var
