use Rattle.std.proofs.Common.{◌≡◌, ◌++◌, take, flat_map}
use Rattle.luo_model.specs.View.{plain_of}
use Rattle.luo_report.specs.Report.{section}
use Rattle.luo_report.proofs.text.put_tables.Given as goal

abbrev pub invariant-loop-table : goal.invariant-loop-table
invariant-loop-table l = l.text.items ≡ l.fn.text.items ++ flat_map (λ t. section (plain_of l.program) t) (take l.table-index l.tables)
