-- A founded program has one summary at each size.
use Rattle.std.proofs.Common.{◌≡◌, ℕ, ◌<◌, inl, inr, List, [], ◌∷◌, length, get_or, refl, sym, ◌∙◌, ap}
use Rattle.std.proofs.lemmas.Option.{slice_get-get_or}
use Rattle.luo_finite.specs.Listing.{In}
use Rattle.luo_finite.specs.Steps.{IsSingle}
use Rattle.luo_model.specs.declared.table.Row.{Row}
use Rattle.luo_model.specs.Founded.{IsFounded}
use Rattle.luo_model.specs.Invariant.{IsProgram}
use Rattle.luo_model.specs.Program.{Program}
use Rattle.luo_model.specs.Tables.{IsTotal}
use Rattle.luo_model.proofs.TableLemmas.{totals_are_single}
use Rattle.luo_model.proofs.WorkLemmas.{sites_are_apart}
use Rattle.luo_equation.specs.Text.{no_procedure}
use Rattle.luo_answer.specs.Commands.Sample.{AreRowsAt, IsSummary, summary_text}
use Rattle.luo_answer.proofs.OneReport.{row_one}
use Rattle.luo_answer.proofs.ReportComes.{row_comes}

module _ (p : Program) (n : ℕ) where
  rows_one : ((i m a b : ℕ) → IsTotal p i m a → IsTotal p i m b → a ≡ b) → (fs : List ℕ) (rows others : List Row) → AreRowsAt p n fs rows → AreRowsAt p n fs others → rows ≡ others
  rows_one one [] [] [] a b = refl
  rows_one one [] [] (s ∷ others) a b = absurd b
  rows_one one [] (r ∷ rows) others a b = absurd a
  rows_one one (f ∷ fs) [] others a b = absurd a
  rows_one one (f ∷ fs) (r ∷ rows) [] a b = absurd b
  rows_one one (f ∷ fs) (r ∷ rows) (s ∷ others) (m, x, a) (k, y, b) =
      let first : r ≡ s = row_one p one f r s (m ∙ sym k) x y in
      let rest : rows ≡ others = rows_one one fs rows others a b in
      λ i. first i ∷ rest i

  pub summary_one : (number bytes : ℕ) → IsProgram p → IsSingle (IsSummary number bytes p n)
  summary_one number bytes q x y (rows, a, e) (others, b, h) =
      e ∙ ap (summary_text number bytes p) (rows_one (totals_are_single p (sites_are_apart p q)) p.analyses rows others a b) ∙ sym h

  rows_come : IsProgram p → IsFounded p → (fs : List ℕ) → ((g : ℕ) → In g fs → g < length p.procs) → (rows : List Row) × AreRowsAt p n fs rows
  rows_come q f [] there = ([], tt)
  rows_come q f (g ∷ fs) there =
      let (row, size, right) = row_comes p q f g (get_or p.procs g no_procedure) (slice_get-get_or p.procs g no_procedure (there g (inl refl))) n in
      let (rows, rest) = rows_come q f fs (λ h i. there h (inr i)) in
      (row ∷ rows, (size, right, rest))

  pub summary_comes : (number bytes : ℕ) → IsProgram p → IsFounded p → (text : List ℕ) × IsSummary number bytes p n text
  summary_comes number bytes q f = let (rows, a) = rows_come q f p.analyses q.analyses_there in (summary_text number bytes p rows, (rows, a, refl))
