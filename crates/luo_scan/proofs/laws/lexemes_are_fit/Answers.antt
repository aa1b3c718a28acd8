use Rattle.luo_scan.proofs.Inside.{lexemes_fit}
use Rattle.luo_scan.proofs.laws.lexemes_are_fit.Goals as goal

pub returns : goal.returns
returns c = lexemes_fit
