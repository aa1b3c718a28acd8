-- Variables by their names, with the structures that they hold.
use Rattle.std.specs.Prelude.{ℕ, List, [], ◌∷◌, Option, Some, None, if◌then◌else◌}
use Rattle.std.specs.Str.{bytes_eq}
use Rattle.luo_model.specs.Tree.{Tree}
use Rattle.luo_model.specs.Charges.{parts_of}
use Rattle.luo_source.specs.declared.names.Name.{Name}
use Rattle.luo_source.specs.declared.statements.Pattern.{Pattern}
use Rattle.luo_source.specs.declared.statements.Pattern.TheVariants.{Named, NamedWhole, NamedParts, Parts, Any, AnyWhole}

-- the variables of a scope: names with structures
abbrev pub Environment : Type 0
Environment = List (List ℕ × Tree)

-- what a name holds, if it is a variable of the scope
abbrev pub structure_of : Environment → List ℕ → Option Tree
structure_of [] text = None
structure_of (v ∷ vs) text = if bytes_eq v.0 text then Some v.1 else structure_of vs text

-- the first name with the first structure, and so on
abbrev pub paired : List Name → List Tree → Environment
paired (name ∷ names) (t ∷ ts) = (name.text, t) ∷ paired names ts
paired _ _ = []

-- what a pattern binds of what its arm looks at, the structure inside a branch or a tuple itself:
-- `x` after `as` names it, `(a, b)` its parts
abbrev pub binds : Pattern → Tree → Environment
binds (Named type) t = []
binds (NamedWhole type name) t = (name.text, t) ∷ []
binds (NamedParts type names) t = paired names (parts_of t)
binds (Parts names at) t = paired names (parts_of t)
binds (Any at) t = []
binds (AnyWhole name at) t = (name.text, t) ∷ []
