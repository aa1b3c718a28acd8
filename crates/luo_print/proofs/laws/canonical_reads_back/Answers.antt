use Rattle.luo_print.proofs.SourceBack.{reads_back}
use Rattle.luo_print.proofs.laws.canonical_reads_back.Goals as goal

pub returns : goal.returns
returns c = reads_back
