-- What holds of every outcome by the core form of a source holds of that by the source as it is written.
use Rattle.std.proofs.Common.{ℕ, List}
use Rattle.luo_finite.specs.Steps.{IsSingle}
use Rattle.luo_answer.specs.Answer.{Untold}
use Rattle.luo_answer.specs.Step.{HasNone}
use Rattle.luo_answer.specs.Told.{Told}
use Rattle.luo_top.specs.AsWritten.Outcome.{OutcomeAsWritten}
use Rattle.luo_top.specs.Laws.{FilesAreTold}
use Rattle.luo_top.proofs.OneOutcome.{outcome_single}
use Rattle.luo_top.proofs.OutcomeComes.{outcome_comes}
use Rattle.luo_top.proofs.OutcomeKept.{outcome_kept}
use Rattle.luo_top.proofs.OutcomeTells.{outcome_tells}

pub written_single : (told : Told) (words : List (List ℕ)) → IsSingle (OutcomeAsWritten told words)
written_single told words a b p q = outcome_single told words a b ((outcome_kept told words a).1 p) ((outcome_kept told words b).1 q)

pub written_comes : (told : Told) (words : List (List ℕ)) → HasNone (OutcomeAsWritten told words) → ⊥
written_comes told words none = outcome_comes told words (λ a o. none a ((outcome_kept told words a).0 o))

pub written_tells : (told : Told) (words : List (List ℕ)) → FilesAreTold told words → OutcomeAsWritten told words Untold → ⊥
written_tells told words there o = outcome_tells told words there ((outcome_kept told words Untold).1 o)
