-- An audit's output is the report, whatever the number of workers, as that of `analyse` is.
use Rattle.std.proofs.Common.{◌≡◌, ℕ, List, subst, Some}
use Rattle.luo_model.specs.Invariant.{IsProgram}
use Rattle.luo_model.specs.Program.{Program}
use Rattle.luo_model.proofs.TableLemmas.{totals_are_single}
use Rattle.luo_model.proofs.WorkLemmas.{sites_are_apart}
use Rattle.luo_answer.specs.Answer.{Output}
use Rattle.luo_answer.specs.Report.{IsReport}
use Rattle.luo_answer.specs.Step.{◌and_then◌}
use Rattle.luo_answer.specs.Told.{Told}
use Rattle.luo_answer.specs.Words.{Analyse, Audit, command_of}
use Rattle.luo_answer.proofs.OneReport.{reports_one}
use Rattle.luo_top.specs.AsWritten.Outcome.{OutcomeAsWritten}
use Rattle.luo_top.specs.Commands.Analyse.{analyse}
use Rattle.luo_top.specs.Commands.Audit.{audit}
use Rattle.luo_top.specs.Laws.{AuditsAgree, AuditsReport}
use Rattle.luo_top.specs.Steps.{file_program}
use Rattle.luo_top.proofs.OneOutcome.{program-sole}
use Rattle.luo_top.proofs.OutcomeKept.{outcome_kept}
use Rattle.luo_top.proofs.OutcomeTells.{handed_on}
use Rattle.luo_top.proofs.ProgramFacts.{program_is}

-- the bytes are the report of the program of a file
record IsReportIn (told : Told) (file : List ℕ) (n : ℕ) (bytes : List ℕ) : Type 0 where
  program : Program
  of_file : (file_program file told).hands program
  right : IsReport program n bytes

audit_reports : (told : Told) (file : List ℕ) (n w : ℕ) (bytes : List ℕ) → (audit file n w told).hands bytes → IsReportIn told file n bytes
unfolding ◌and_then◌
audit_reports told file n w bytes (p, h, (_, _, (size, s, (_, _, (_, _, (_, _, (_, _, r))))))) =
    record { program = p; of_file = h; right = subst (λ z. IsReport p z bytes) s.1 r.1 }

analyse_reports : (told : Told) (file : List ℕ) (n : ℕ) (bytes : List ℕ) → (analyse file n told).hands bytes → IsReportIn told file n bytes
unfolding ◌and_then◌
analyse_reports told file n bytes (p, h, (_, _, (size, s, (_, _, r)))) = record { program = p; of_file = h; right = subst (λ z. IsReport p z bytes) s.1 r.1 }

-- there is one
reports_agree : (told : Told) (file : List ℕ) (n : ℕ) (a b : List ℕ) → IsReportIn told file n a → IsReportIn told file n b → a ≡ b
reports_agree told file n a b x y =
    let p = x.program in
    let same : y.program ≡ p = (program-sole file told).hands y.program p y.of_file x.of_file in
    let is : IsProgram p = program_is file told p x.of_file in
    reports_one p (totals_are_single p (sites_are_apart p is)) n a b x.right (subst (λ (z : Program). IsReport z n b) same y.right)

-- what an output is where the words ask for a command
audit_output : (told : Told) (words : List (List ℕ)) (file : List ℕ) (n w : ℕ) → command_of words ≡ Some (Audit file n w)
    → (bytes : List ℕ) → OutcomeAsWritten told words (Output bytes) → IsReportIn told file n bytes
audit_output told words file n w e bytes o = audit_reports told file n w bytes (handed_on told words (Audit file n w) e bytes ((outcome_kept told words (Output bytes)).1 o))

analyse_output : (told : Told) (words : List (List ℕ)) (file : List ℕ) (n : ℕ) → command_of words ≡ Some (Analyse file n)
    → (bytes : List ℕ) → OutcomeAsWritten told words (Output bytes) → IsReportIn told file n bytes
analyse_output told words file n e bytes o = analyse_reports told file n bytes (handed_on told words (Analyse file n) e bytes ((outcome_kept told words (Output bytes)).1 o))

pub audits_agree : AuditsAgree
audits_agree told first second file n v w e d a b x y = reports_agree told file n a b (audit_output told first file n v e a x) (audit_output told second file n w d b y)

pub audits_report : AuditsReport
audits_report told first second file n w e d a b x y = reports_agree told file n a b (audit_output told first file n w e a x) (analyse_output told second file n d b y)
