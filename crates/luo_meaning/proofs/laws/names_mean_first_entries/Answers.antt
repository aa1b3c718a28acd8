use Rattle.luo_meaning.proofs.FirstEntries as entries
use Rattle.luo_meaning.proofs.laws.names_mean_first_entries.Goals as goal

pub returns : goal.returns
returns c = entries.names_mean_first_entries
