use Rattle.std.proofs.Common.{sym, subst}
use Rattle.luo_finite.specs.Listing.{In}
use Rattle.luo_finite.proofs.Membership.{In-at}
use Rattle.luo_report.specs.declared.table.Table.{Table}
use Rattle.luo_report.proofs.text.put_tables.Goals as goal

pub put_heading-requires : goal.put_heading-requires
put_heading-requires c =
    c.requires.named c.table-item.result (subst (λ (t : Table). In t c.args.tables.now) (sym c.table-item.is) (In-at c.args.tables.now c.loop-table.table-index c.table-item.result c.loop-table-test.true))
