use Rattle.std.proofs.Common.{◌↔◌, sym, subst}
use Rattle.luo_model.specs.Program.{Program}
use Rattle.luo_model.specs.Tables.{IsRow}
use Rattle.luo_meaning.specs.Rows.{IsRowOf}
use Rattle.luo_meaning.proofs.RowsKept.{clean_source, measures_none, row_kept}
use Rattle.luo_meaning.proofs.CheckedSource.{checked_program}
use Rattle.luo_meaning.proofs.laws.rows_are_kept.Goals as goal

pub returns : goal.returns
returns c = λ source p is checked f d there row.
    subst (λ (q : Program). IsRow q f row ↔ IsRowOf source d row) (sym checked.1.1)
    (row_kept source (clean_source source is checked.1.0) (measures_none source checked.1.0) (checked_program source p is checked) f d there row)
