-- A program has at most one report, where each site has at most one total.
use Rattle.std.proofs.Common.{◌≡◌, ℕ, zero, suc, ◌+◌, ◌<◌, take, List, [], ◌∷◌, length, refl, sym, ◌∙◌, ap, subst, arith, Some, inl, inr}
use Rattle.luo_finite.specs.Listing.{In}
use Rattle.luo_finite.specs.Steps.{IsSingle}
use Rattle.luo_finite.proofs.Sums.{Counts-unique}
use Rattle.luo_model.specs.declared.table.Row.{Row}
use Rattle.luo_model.specs.Program.{Program, Procedure}
use Rattle.luo_model.specs.Invariant.{IsProgram}
use Rattle.luo_model.specs.Structures.{IsStructure}
use Rattle.luo_model.specs.Tables.{IsCount, IsTotal, IsRow}
use Rattle.luo_report.specs.declared.table.Table.{Table}
use Rattle.luo_report.specs.Report.{report_text}
use Rattle.luo_system.specs.System.{system}
use Rattle.luo_answer.specs.Report.{AreRowsFrom, IsTable, AreTables, IsReport}

same_procedure : (P Q : Procedure) → Some P ≡ Some Q → P ≡ Q
same_procedure P Q e = cc

same_row : (r s : Row) → r.n ≡ s.n → r.count ≡ s.count → r.total ≡ s.total → r ≡ s
same_row r s a b c = λ i. record { n = a i; count = b i; total = c i }

module _ (p : Program) (one_total : (i n a b : ℕ) → IsTotal p i n a → IsTotal p i n b → a ≡ b) where
  pub row_one : (f : ℕ) (r s : Row) → r.n ≡ s.n → IsRow p f r → IsRow p f s → r ≡ s
  row_one f r s e (P, g, c, t) (Q, h, d, u) =
      let same : Q ≡ P = same_procedure Q P (sym h ∙ g) in
      let C : ℕ → Type 0 = λ n. IsCount p P.on.node n s.count in
      let T : ℕ → Type 0 = λ n. IsTotal p P.site n s.total in
      let counted : IsCount p P.on.node r.n s.count = subst C (sym e) (subst (λ (X : Procedure). IsCount p X.on.node s.n s.count) same d) in
      let summed : IsTotal p P.site r.n s.total = subst T (sym e) (subst (λ (X : Procedure). IsTotal p X.site s.n s.total) same u) in
      same_row r s e (Counts-unique (IsStructure p P.on.node r.n) r.count s.count c counted) (one_total P.site r.n r.total s.total t summed)

  rows_one : (f n : ℕ) (rs ss : List Row) → length rs ≡ length ss → AreRowsFrom p f n rs → AreRowsFrom p f n ss → rs ≡ ss
  rows_one f n [] [] e a b = refl
  rows_one f n [] (s ∷ ss) e a b = absurd (omega (arith, e))
  rows_one f n (r ∷ rs) [] e a b = absurd (omega (arith, e))
  rows_one f n (r ∷ rs) (s ∷ ss) e (m, x, a) (k, y, b) =
      let first : r ≡ s = row_one f r s (m ∙ sym k) x y in
      let rest : rs ≡ ss = rows_one f (n + 1) rs ss (omega (arith, e)) a b in
      λ i. first i ∷ rest i

  table_one : (last f : ℕ) (t u : Table) → IsTable p last f t → IsTable p last f u → t ≡ u
  table_one last f t u (e, (long, a)) (h, (wide, b)) =
      let callee : t.callee ≡ u.callee = e ∙ sym h in
      let rows : t.rows ≡ u.rows = rows_one f 0 t.rows u.rows (long ∙ sym wide) a b in
      λ i. record { callee = callee i; rows = rows i }

  tables_one : (last : ℕ) (fs : List ℕ) (ts us : List Table) → AreTables p last fs ts → AreTables p last fs us → ts ≡ us
  tables_one last [] [] [] a b = refl
  tables_one last [] [] (u ∷ us) a b = absurd b
  tables_one last [] (t ∷ ts) us a b = absurd a
  tables_one last (f ∷ fs) [] us a b = absurd a
  tables_one last (f ∷ fs) (t ∷ ts) [] a b = absurd b
  tables_one last (f ∷ fs) (t ∷ ts) (u ∷ us) a b =
      let first : t ≡ u = table_one last f t u a.0 b.0 in
      let rest : ts ≡ us = tables_one last fs ts us a.1 b.1 in
      λ i. first i ∷ rest i

  pub reports_one : (last : ℕ) → IsSingle (IsReport p last)
  reports_one last x y (_, (ts, a, e)) (_, (us, b, h)) = e ∙ ap (report_text p (system p)) (tables_one last p.analyses ts us a b) ∙ sym h

-- each table is that of one of these procedures
callee_in : (p : Program) (last : ℕ) (fs : List ℕ) (ts : List Table) → AreTables p last fs ts → (t : Table) → In t ts → In t.callee fs
callee_in p last [] [] a t i = absurd i
callee_in p last [] (u ∷ ts) a t i = absurd a
callee_in p last (f ∷ fs) [] a t i = absurd i
callee_in p last (f ∷ fs) (u ∷ ts) a t (inl e) = inl (ap (λ (v : Table). v.callee) e ∙ a.0.0)
callee_in p last (f ∷ fs) (u ∷ ts) a t (inr i) = inr (callee_in p last fs ts a.1 t i)

in_taken : (k : ℕ) (fs : List ℕ) (f : ℕ) → In f (take k fs) → In f fs
in_taken zero fs f i = absurd i
in_taken (suc k) [] f i = absurd i
in_taken (suc k) (g ∷ fs) f (inl e) = inl e
in_taken (suc k) (g ∷ fs) f (inr i) = inr (in_taken k fs f i)

-- and so of a procedure of the program
pub tables_named : (p : Program) → IsProgram p → (last k : ℕ) (fs : List ℕ) → fs ≡ p.analyses → (ts : List Table) → AreTables p last (take k fs) ts
    → (t : Table) → In t ts → t.callee < length p.procs
tables_named p q last k fs e ts a t i =
    q.analyses_there t.callee (subst (In t.callee) e (in_taken k fs t.callee (callee_in p last (take k fs) ts a t i)))
