use Rattle.std.proofs.Common.{◌↔◌, ℕ, ◌<◌, length, sym, subst}
use Rattle.luo_model.specs.declared.table.Entry.TheVariants.{Count, Total}
use Rattle.luo_model.specs.Program.{Program}
use Rattle.luo_model.specs.Tables.{IsCount, IsTotal}
use Rattle.luo_rules.specs.Checks.{IsChecked}
use Rattle.luo_meaning.specs.Entries.{IsNumberOf}
use Rattle.luo_meaning.proofs.EntriesKept.{count_kept, total_kept}
use Rattle.luo_meaning.proofs.laws.numbers_are_kept.Goals as goal

pub returns : goal.returns
returns c = λ source p is checked.
    subst (λ (q : Program). IsChecked source q → ((x n v : ℕ) → ((x < length q.nodes) × IsCount q x n v) ↔ IsNumberOf source (Count x) n v) × ((i n v : ℕ) → ((i < length q.sites) × IsTotal q i n v) ↔ IsNumberOf source (Total i) n v))
    (sym checked.1.1) (λ k. (count_kept source is k, total_kept source is k)) checked
