use Rattle.luo_places.proofs.steps.Choices.{next_with, next_without, next_past, first_with, last_without, last_with}
use Rattle.luo_places.proofs.laws.choices_go_on.Goals as goal

pub returns : goal.returns
returns c = λ x L k r. (next_with x L k r, next_without x L k r, next_past x L k r, first_with x L k r, last_without x L k r, last_with x L k r)
