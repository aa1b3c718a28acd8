-- How rows, headings and reports are written, by computation.
use Rattle.std.proofs.Common.{refl}
use Rattle.std.specs.Fmt.{digits}
use Rattle.luo_report.specs.Average.{average_of}
use Rattle.luo_report.specs.Facts.{RowsAreWritten, HeadingsAreWritten, ReportsAreWritten}

pub rows-written : RowsAreWritten
unfolding digits average_of
rows-written = (refl, refl, refl, refl, refl)

pub headings-written : HeadingsAreWritten
headings-written = (refl, refl, refl, refl)

pub reports-written : ReportsAreWritten
unfolding digits average_of
reports-written = refl
