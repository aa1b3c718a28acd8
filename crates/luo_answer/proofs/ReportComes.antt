-- A founded program has a report.
use Rattle.std.proofs.Common.{◌≡◌, ℕ, zero, suc, ◌+◌, ◌<◌, inl, inr, List, [], ◌∷◌, length, get_or, refl, arith, Some, slice_get}
use Rattle.std.proofs.lemmas.Option.{slice_get-get_or}
use Rattle.luo_finite.specs.Listing.{In}
use Rattle.luo_model.specs.declared.table.Row.{Row}
use Rattle.luo_model.specs.Program.{Program, Procedure}
use Rattle.luo_model.specs.Tables.{IsRow}
use Rattle.luo_model.specs.Invariant.{IsProgram}
use Rattle.luo_model.specs.Founded.{IsFounded}
use Rattle.luo_founded.proofs.Tabled.{count_exists, total_exists}
use Rattle.luo_equation.specs.Text.{no_procedure}
use Rattle.luo_report.specs.declared.table.Table.{Table}
use Rattle.luo_report.specs.Report.{report_text}
use Rattle.luo_system.specs.System.{system}
use Rattle.luo_system.proofs.Truth.{systems-tables}
use Rattle.luo_answer.specs.Report.{AreRowsFrom, AreTables, IsReport}
use Rattle.luo_answer.proofs.RowLemmas.{whole_there}

module _ (p : Program) (q : IsProgram p) (f : IsFounded p) where
  pub row_comes : (g : ℕ) (P : Procedure) → slice_get p.procs g ≡ Some P → (n : ℕ) → (row : Row) × (row.n ≡ n) × IsRow p g row
  row_comes g P there n =
      let c = count_exists p q f P.on.node n in
      let t = total_exists p q f P.site n (whole_there p q g P there) in
      (record { n = n; count = c.0; total = t.0 }, refl, (P, there, c.1, t.1))

  rows_come : (g : ℕ) (P : Procedure) → slice_get p.procs g ≡ Some P → (many n : ℕ) → (rows : List Row) × (length rows ≡ many) × AreRowsFrom p g n rows
  rows_come g P there zero n = ([], refl, tt)
  rows_come g P there (suc many) n =
      let (row, size, right) = row_comes g P there n in
      let (rows, long, rest) = rows_come g P there many (n + 1) in
      (row ∷ rows, omega (arith, long), (size, right, rest))

  tables_come : (last : ℕ) (fs : List ℕ) → ((g : ℕ) → In g fs → g < length p.procs) → (tables : List Table) × AreTables p last fs tables
  tables_come last [] h = ([], tt)
  tables_come last (g ∷ fs) h =
      let (rows, long, right) = rows_come g (get_or p.procs g no_procedure) (slice_get-get_or p.procs g no_procedure (h g (inl refl))) (last + 1) 0 in
      let (tables, rest) = tables_come last fs (λ i j. h i (inr j)) in
      (record { callee = g; rows = rows } ∷ tables, ((refl, (long, right)), rest))

  pub report_comes : (last : ℕ) → (bytes : List ℕ) × IsReport p last bytes
  report_comes last =
      let (tables, t) = tables_come last p.analyses q.analyses_there in
      (report_text p (system p) tables, (systems-tables p q f (system p) refl, (tables, t, refl)))
