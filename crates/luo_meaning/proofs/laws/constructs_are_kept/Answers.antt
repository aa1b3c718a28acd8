use Rattle.std.proofs.Common.{◌↔◌, ℕ, ◌<◌, length, sym, subst}
use Rattle.luo_model.specs.Program.{Program}
use Rattle.luo_model.specs.Tree.{Tree}
use Rattle.luo_model.specs.Member.{Member}
use Rattle.luo_source.specs.Plain.Types.{TypeExpr}
use Rattle.luo_meaning.specs.Structures.{IsOf}
use Rattle.luo_meaning.specs.Constructs.{IsConstructOf}
use Rattle.luo_meaning.proofs.OverKept.{constructs_kept, constructs_there}
use Rattle.luo_meaning.proofs.laws.constructs_are_kept.Goals as goal

pub returns : goal.returns
returns c = λ source p is core.
    subst
    (λ (p : Program). ((x : ℕ) → x < length p.nodes → (e : TypeExpr) × IsConstructOf source e × ((t : Tree) → Member p x t ↔ IsOf source e t))
    × ((e : TypeExpr) → IsConstructOf source e → (x : ℕ) × (x < length p.nodes) × ((t : Tree) → Member p x t ↔ IsOf source e t)))
    (sym core.1) (constructs_kept source is core.0, constructs_there source is core.0)
