use Rattle.std.proofs.Common.{◌↔◌, ℕ, ◌<◌, length, sym, subst}
use Rattle.luo_model.specs.declared.table.Entry.TheVariants.{Count, Total}
use Rattle.luo_model.specs.Founded.{IsFounded}
use Rattle.luo_model.specs.Levels.{IsRank, IsLevel}
use Rattle.luo_model.specs.Program.{Program, site_node}
use Rattle.luo_rules.specs.Checks.{IsChecked}
use Rattle.luo_meaning.specs.Entries.{HasRank, HasLevel}
use Rattle.luo_meaning.proofs.EntriesKept.{node_rank, site_rank, level_kept}
use Rattle.luo_meaning.proofs.laws.order_is_kept.Goals as goal

pub returns : goal.returns
returns c = λ source p is checked.
    subst (λ (q : Program). IsChecked source q → IsFounded q → ((x r : ℕ) → ((x < length q.nodes) × IsRank q x r) ↔ HasRank source (Count x) r) × ((i r : ℕ) → ((i < length q.sites) × IsRank q (site_node q i) r) ↔ HasRank source (Total i) r)
    × ((i l : ℕ) → ((i < length q.sites) × IsLevel q i l) ↔ HasLevel source i l))
    (sym checked.1.1) (λ k f. (node_rank source is k f, site_rank source is k f, level_kept source is k)) checked
