use Rattle.luo_top.proofs.AuditsAgree.{audits_agree, audits_report}
use Rattle.luo_top.proofs.laws.audits_agree.Goals as goal

pub returns-clause-workers : goal.returns-clause-workers
returns-clause-workers c = audits_agree

pub returns-clause-report : goal.returns-clause-report
returns-clause-report c = audits_report
