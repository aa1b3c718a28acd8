-- What definitions, nodes, procedures and sites of a program are called in lines.
use Rattle.std.specs.Prelude.{ℕ, ◌++◌, List, [], codes, decimal, Option, Some, None, slice_get}
use Rattle.luo_model.specs.declared.program.Def.{Def}
use Rattle.luo_model.specs.declared.program.Node.{Node}
use Rattle.luo_model.specs.declared.program.Site.{Site}
use Rattle.luo_model.specs.Program.{Program, Procedure}

abbrev pub name_of_definition : Option Def → List ℕ
name_of_definition None = []
name_of_definition (Some d) = d.name

-- a node's definition and its place there: `t.1`
abbrev pub name_of_node : Program → Option Node → List ℕ
name_of_node p None = []
name_of_node p (Some node) =
    name_of_definition (slice_get p.defs node.owner) ++ codes "." ++ decimal node.place

abbrev pub node_name : Program → ℕ → List ℕ
node_name p x = name_of_node p (slice_get p.nodes x)

abbrev pub name_of_procedure : Option Procedure → List ℕ
name_of_procedure None = []
name_of_procedure (Some P) = P.name

abbrev pub procedure_name : Program → ℕ → List ℕ
procedure_name p f = name_of_procedure (slice_get p.procs f)

-- a site's procedure and its place there: `p.1`
abbrev pub name_of_site : Program → Option Site → List ℕ
name_of_site p None = []
name_of_site p (Some site) = procedure_name p site.caller ++ codes "." ++ decimal site.place

abbrev pub site_name : Program → ℕ → List ℕ
site_name p i = name_of_site p (slice_get p.sites i)
