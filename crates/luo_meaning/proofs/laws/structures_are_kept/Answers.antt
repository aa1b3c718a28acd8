use Rattle.std.proofs.Common.{◌≡◌, ◌↔◌, ℕ, Some, slice_get, sym, subst}
use Rattle.luo_model.specs.declared.program.Def.{Def}
use Rattle.luo_model.specs.Program.{Program}
use Rattle.luo_model.specs.Tree.{Tree}
use Rattle.luo_model.specs.Member.{Member}
use Rattle.luo_source.specs.declared.names.Name.{Name}
use Rattle.luo_source.specs.Plain.Types.{Named}
use Rattle.luo_meaning.specs.Structures.{IsOf}
use Rattle.luo_meaning.proofs.RowsKept.{clean_source, definition_kept}
use Rattle.luo_meaning.proofs.laws.structures_are_kept.Goals as goal

pub returns : goal.returns
returns c = λ source p is core.
    subst (λ (p : Program). (i : ℕ) (d : Def) (name : Name) → slice_get p.defs i ≡ Some d → d.name ≡ name.text → (t : Tree) → Member p d.whole.node t ↔ IsOf source (Named name) t) (sym core.1)
    (definition_kept source (clean_source source is core.0))
