use Rattle.std.proofs.Common.{◌↔◌, ℕ, List, sym, subst}
use Rattle.luo_model.specs.declared.table.Entry.TheVariants.{Count, Total}
use Rattle.luo_model.specs.Program.{Program}
use Rattle.luo_rules.specs.Checks.{IsChecked}
use Rattle.luo_meaning.specs.Entries.{IsEntryText}
use Rattle.luo_meaning.specs.Laws.{IsNodeText, IsSiteText}
use Rattle.luo_meaning.proofs.EntriesKept.{node_name_kept, site_name_kept}
use Rattle.luo_meaning.proofs.laws.entry_names_are_kept.Goals as goal

pub returns : goal.returns
returns c = λ source p is checked.
    subst (λ (q : Program). IsChecked source q → ((x : ℕ) (text : List ℕ) → IsNodeText q x text ↔ IsEntryText source (Count x) text) × ((i : ℕ) (text : List ℕ) → IsSiteText q i text ↔ IsEntryText source (Total i) text))
    (sym checked.1.1) (λ k. (node_name_kept source is k, site_name_kept source is k)) checked
