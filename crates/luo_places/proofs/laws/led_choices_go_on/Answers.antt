use Rattle.luo_places.proofs.steps.Choices.{led_next, led_first, led_last}
use Rattle.luo_places.proofs.laws.led_choices_go_on.Goals as goal

pub returns : goal.returns
returns c = λ x L k r. (led_next x L k r, led_first x L k r, led_last x L k r)
