-- What the names of a program stand for, and the variables of a scope.
use Rattle.std.specs.Prelude.{ℕ, suc, List, [], ◌∷◌, Option, Some, None, nat_eq, if◌then◌else◌, slice_index_or}
use Rattle.std.specs.Str.{bytes_eq}
use Rattle.luo_source.specs.declared.names.Name.{Name}
use Rattle.luo_model.specs.declared.program.Part.{Part}
use Rattle.luo_model.specs.declared.program.Shape.{Shape}
use Rattle.luo_model.specs.Program.{Program, shape_of}
use Rattle.luo_model.specs.Scopes.Stands.{Stand, stands, no_part}
use Rattle.luo_rules.specs.declared.names.Meaning.{Meaning}
use Rattle.luo_rules.specs.declared.names.Meaning.TheVariants.{Definition, Procedure}
use Rattle.luo_rules.specs.declared.rule.Breach.{Breach}
use Rattle.luo_rules.specs.declared.rule.Rule.TheVariants.{Y9, Y13}
use Rattle.luo_rules.specs.declared.setting.Setting.{Setting}
use Rattle.luo_rules.specs.declared.setting.Signature.{Signature}
use Rattle.luo_rules.specs.declared.setting.Variable.{Variable}
use Rattle.luo_rules.specs.Breaches.{broken_at}
use Rattle.luo_rules.specs.Meanings.{meaning}

-- the types of the setting as a program without procedures
abbrev pub types_of : Setting → Program
types_of s =
    record {
      universe = s.universe;
      defs = s.defs;
      nodes = s.nodes;
      procs = [];
      sites = [];
      analyses = [];
    }

abbrev pub meant : Setting → Name → Option Meaning
meant s name = meaning s.names name.text

-- the node of definition i
abbrev pub def_node : Setting → ℕ → ℕ
def_node s i =
    (slice_index_or s.defs i
    (record { name = []; whole = record { node = 0; name = None } })).whole.node

abbrev pub node_meant : Setting → Option Meaning → Option ℕ
node_meant s (Some (Definition i)) = Some (def_node s i)
node_meant s _ = None

-- the node of the type of this name
abbrev pub type_node : Setting → Name → Option ℕ
type_node s name = node_meant s (meant s name)

-- the part that stands for a type by its name
abbrev pub part_meant : Setting → Option Meaning → Part
part_meant s (Some (Definition i)) = record { node = def_node s i; name = Some i }
part_meant s _ = no_part

-- the signature of a name's procedure
abbrev pub no_signature : Signature
no_signature = record { on = None; result = None }

abbrev pub signature_meant : Setting → Option Meaning → Signature
signature_meant s (Some (Procedure f)) = slice_index_or s.signatures f no_signature
signature_meant s _ = no_signature

-- the construct of a node
abbrev pub shape_at : Setting → ℕ → Shape
shape_at s x = shape_of (types_of s) x

-- the first variable of this name, from place k on: its place and its part
abbrev pub found_from : ℕ → List Variable → List ℕ → Option (ℕ × Part)
found_from k [] text = None
found_from k (v ∷ vs) text =
    if bytes_eq v.name text then Some (k, v.part) else found_from (suc k) vs text

abbrev pub found : List Variable → Name → Option (ℕ × Part)
found scope name = found_from 0 scope name.text

abbrev pub place_of : Option (ℕ × Part) → ℕ
place_of None = 0
place_of (Some variable) = variable.0

-- a variable that the scope doesn't bind
abbrev pub variable_use : Option (ℕ × Part) → Name → List Breach
variable_use None name = broken_at Y13 name
variable_use (Some variable) name = []

-- a call's argument: it is bound, and of the parameter's type, where that is known
abbrev pub argument_breaches : Option (ℕ × Part) → Option ℕ → Name → Name → List Breach
argument_breaches None on arg callee = broken_at Y13 arg
argument_breaches (Some variable) None arg callee = []
argument_breaches (Some variable) (Some node) arg callee =
    if nat_eq variable.1.node node then [] else record {
      rule = Y9;
      token = arg.at;
      names = arg.text ∷ callee.text ∷ [];
    } ∷ []

-- what the arms of a case on a variable stand for
abbrev pub case_stands : Setting → Option (ℕ × Part) → List Stand
case_stands s None = []
case_stands s (Some variable) = stands variable.1 (shape_at s variable.1.node)
