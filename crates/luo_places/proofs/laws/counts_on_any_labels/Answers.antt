use Rattle.luo_places.proofs.relabelling.LabelMaps.{counts_at}
use Rattle.luo_places.proofs.laws.counts_on_any_labels.Goals as goal

pub returns : goal.returns
returns c = counts_at
