use Rattle.luo_print.proofs.SameTexts.{formats_once}
use Rattle.luo_print.proofs.laws.formatting_twice_is_formatting_once.Goals as goal

pub returns : goal.returns
returns c = formats_once
