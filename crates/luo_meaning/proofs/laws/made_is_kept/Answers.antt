use Rattle.std.proofs.Common.{◌≡◌, ◌↔◌, ℕ, Some, slice_get, sym, subst}
use Rattle.luo_model.specs.Program.{Program, Procedure}
use Rattle.luo_model.specs.Tree.{Tree}
use Rattle.luo_interp.specs.Makes.{Makes}
use Rattle.luo_meaning.specs.Made.{ProcMakes}
use Rattle.luo_meaning.proofs.ProceduresMade.{maker_kept}
use Rattle.luo_meaning.proofs.laws.made_is_kept.Goals as goal

pub returns : goal.returns
returns c = λ source p is core.
    subst (λ (p : Program). (f : ℕ) (P : Procedure) → slice_get p.procs f ≡ Some P → (t r : Tree) → Makes p f t r ↔ ProcMakes source P.name t r) (sym core.1) (maker_kept source is core.0)
