use Rattle.std.proofs.Common.{◌≡◌, ℕ, Some, slice_get, sym, subst}
use Rattle.luo_model.specs.declared.program.Def.{Def}
use Rattle.luo_model.specs.Program.{Program, Procedure}
use Rattle.luo_source.specs.Plain.Source.{ProcDef}
use Rattle.luo_meaning.proofs.RowsKept.{clean_source}
use Rattle.luo_meaning.proofs.TablesKept.{heading_kept}
use Rattle.luo_meaning.proofs.laws.headings_are_kept.Goals as goal

pub returns : goal.returns
returns c = λ source p is core.
    subst
    (λ (q : Program). (f : ℕ) (d : ProcDef) (P : Procedure) → slice_get source.procs f ≡ Some d → slice_get q.procs f ≡ Some P
    → (P.name ≡ d.name.text) × ((i : ℕ) × (v : Def) × (P.on.name ≡ Some i) × (slice_get q.defs i ≡ Some v) × (v.name ≡ d.on.text)))
    (sym core.1) (heading_kept source (clean_source source is core.0))
