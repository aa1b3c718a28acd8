use Rattle.luo_report.proofs.laws.reports_are_written.Goals as goal
use Rattle.luo_report.proofs.FactLemmas.{rows-written, headings-written, reports-written}

pub returns-clause-rows : goal.returns-clause-rows
returns-clause-rows c = rows-written

pub returns-clause-headings : goal.returns-clause-headings
returns-clause-headings c = headings-written

pub returns-clause-reports : goal.returns-clause-reports
returns-clause-reports c = reports-written
