use Rattle.std.proofs.Common.{◌≡◌, ◌↔◌, ℕ, sym, subst}
use Rattle.luo_model.specs.Program.{Program}
use Rattle.luo_rules.specs.Whole.{walk_count}
use Rattle.luo_meaning.specs.Walks.{ProcsWalk}
use Rattle.luo_meaning.proofs.WalksKept.{walks_kept}
use Rattle.luo_meaning.proofs.laws.walks_are_kept.Goals as goal

pub returns : goal.returns
returns c = λ source p is core. subst (λ (q : Program). (n : ℕ) → (n ≡ walk_count q) ↔ ProcsWalk source source.procs n) (sym core.1) (walks_kept source is core.0)
