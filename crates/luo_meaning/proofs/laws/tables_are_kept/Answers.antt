use Rattle.std.proofs.Common.{◌↔◌, sym, subst}
use Rattle.luo_model.specs.Program.{Program}
use Rattle.luo_meaning.specs.Rows.{AreTablesOf}
use Rattle.luo_meaning.specs.Laws.{AreTables}
use Rattle.luo_meaning.proofs.RowsKept.{clean_source, measures_none}
use Rattle.luo_meaning.proofs.TablesKept.{tables_kept}
use Rattle.luo_meaning.proofs.CheckedSource.{checked_program}
use Rattle.luo_meaning.proofs.laws.tables_are_kept.Goals as goal

pub returns : goal.returns
returns c = λ source p is checked last tables.
    let clean = clean_source source is checked.1.0 in
    subst (λ (q : Program). AreTables q last q.analyses tables ↔ AreTablesOf source last source.analyses tables) (sym checked.1.1)
    (tables_kept source clean (measures_none source checked.1.0) (checked_program source p is checked) last source.analyses clean.analyses tables)
