use Rattle.luo_print.proofs.SameTexts.{same_text}
use Rattle.luo_print.proofs.laws.places_do_not_show.Goals as goal

pub returns : goal.returns
returns c = same_text
