-- Rows and tables, one more at a time, and what they read of a program.
use Rattle.std.proofs.Common.{◌≡◌, ℕ, zero, suc, ◌+◌, ◌<◌, inl, List, [], ◌∷◌, ◌++◌, length, flat_map, get_or, take, refl, sym, ◌∙◌, ap, subst, arith, Some, slice_get}
use Rattle.std.proofs.lemmas.List.{take_more}
use Rattle.std.proofs.lemmas.Option.{slice_get_within}
use Rattle.luo_finite.specs.Listing.{In}
use Rattle.luo_finite.proofs.Membership.{In-append_left, In-append_right}
use Rattle.luo_finite.proofs.Places.{none_some, some_same, place_in, one_longer, get_map}
use Rattle.luo_model.specs.declared.program.Proc.{Proc}
use Rattle.luo_model.specs.declared.table.Row.{Row}
use Rattle.luo_model.specs.Program.{Program, Procedure}
use Rattle.luo_model.specs.Charges.{Work, of_body, works_of, works_of_body, works_of_procedure}
use Rattle.luo_model.specs.Invariant.{IsProgram}
use Rattle.luo_model.specs.Tables.{IsCount, IsTotal, IsRow}
use Rattle.luo_model.specs.View.{Held, plain_of, procedure_of}
use Rattle.luo_model.proofs.WorkLemmas.{work_at}
use Rattle.luo_report.specs.declared.table.Table.{Table}
use Rattle.luo_answer.specs.Report.{AreRowsFrom, IsTable, AreTables}

-- the node of a procedure's parameter is there
pub on_there : (p : Program) → IsProgram p → (f : ℕ) (P : Procedure) → slice_get p.procs f ≡ Some P → P.on.node < length p.nodes
on_there p q f P there = (q.procedures f P there).0.0.0

among_works : (procs : List Procedure) (f : ℕ) (P : Procedure) (w : ℕ × Work) → slice_get procs f ≡ Some P → In w (works_of_procedure P) → In w (flat_map works_of_procedure procs)
among_works [] f P w e h = absurd (none_some P e)
among_works (Q ∷ procs) zero P w e h = In-append_left w (works_of_procedure Q) (flat_map works_of_procedure procs) (subst (λ (Z : Procedure). In w (works_of_procedure Z)) (sym (some_same Q P e)) h)
among_works (Q ∷ procs) (suc f) P w e h = In-append_right w (works_of_procedure Q) (flat_map works_of_procedure procs) (among_works procs f P w e h)

-- and so is the site of its whole
pub whole_there : (p : Program) → IsProgram p → (f : ℕ) (P : Procedure) → slice_get p.procs f ≡ Some P → P.site < length p.sites
whole_there p q f P there =
    let w : ℕ × Work = (P.site, of_body P.body) in
    let among : In w (works_of p) = among_works p.procs f P w there (In-append_right w (works_of_body P.body) (w ∷ []) (inl refl)) in
    let place = place_in w (works_of p) among in
    let at = work_at p q place.0 w place.1 in
    subst (λ i. i < length p.sites) (sym at.2) (slice_get_within p.sites place.0 at.0 at.1)

-- a procedure as the code holds it
module _ (h : Held) (q : IsProgram (plain_of h)) (procs : List Proc) (e : procs ≡ h.procs) (f : ℕ) (proc : Proc) (there : slice_get procs f ≡ Some proc) where
  pub plain_there : slice_get (plain_of h).procs f ≡ Some (procedure_of proc)
  plain_there = get_map procedure_of h.procs f proc (ap (λ (l : List Proc). slice_get l f) (sym e) ∙ there)

  pub node_within : proc.on.node < length h.nodes
  node_within = on_there (plain_of h) q f (procedure_of proc) plain_there

  pub site_within : proc.site < length h.sites
  site_within = whole_there (plain_of h) q f (procedure_of proc) plain_there

  pub row_right : (row : Row) → IsCount (plain_of h) proc.on.node row.n row.count → IsTotal (plain_of h) proc.site row.n row.total → IsRow (plain_of h) f row
  row_right row c t = (procedure_of proc, plain_there, c, t)

-- one more row
rows-more : (p : Program) (f n : ℕ) (rows : List Row) (row : Row) → AreRowsFrom p f n rows → row.n ≡ n + length rows → IsRow p f row → AreRowsFrom p f n (rows ++ row ∷ [])
rows-more p f n [] row a e r = (omega (arith, e), r, tt)
rows-more p f n (first ∷ rows) row (m, x, a) e r = (m, x, rows-more p f (n + 1) rows row a (omega (arith, e)) r)

-- the rows of the first sizes
abbrev pub AreRowsTo : Program → ℕ → ℕ → List Row → Type 0
AreRowsTo p f n rows = (length rows ≡ n) × AreRowsFrom p f 0 rows

pub rows-step : (p : Program) (f n : ℕ) (rows next : List Row) (row : Row) → AreRowsTo p f n rows → row.n ≡ n → IsRow p f row → next ≡ rows ++ row ∷ [] → AreRowsTo p f (n + 1) next
rows-step p f n rows next row (long, a) size r e = subst (AreRowsTo p f (n + 1)) (sym e) (one_longer rows row ∙ omega (arith, long), rows-more p f 0 rows row a (omega (arith, long, size)) r)

-- one more analyze line
tables-more : (p : Program) (last f : ℕ) (fs : List ℕ) (table : Table) (tables : List Table) → AreTables p last fs tables → IsTable p last f table
    → AreTables p last (fs ++ f ∷ []) (tables ++ table ∷ [])
tables-more p last f [] table [] t r = (r, tt)
tables-more p last f [] table (other ∷ tables) t r = absurd t
tables-more p last f (g ∷ fs) table [] t r = absurd t
tables-more p last f (g ∷ fs) table (other ∷ tables) t r = (t.0, tables-more p last f fs table tables t.1 r)

pub tables-step : (p : Program) (last i : ℕ) (fs : List ℕ) (table : Table) (tables next : List Table) → i < length fs → AreTables p last (take i fs) tables
    → IsTable p last (get_or fs i 0) table → next ≡ tables ++ table ∷ [] → AreTables p last (take (i + 1) fs) next
tables-step p last i fs table tables next h t r e =
    subst (λ (l : List Table). AreTables p last (take (i + 1) fs) l) (sym e)
    (subst (λ (l : List ℕ). AreTables p last l (tables ++ table ∷ [])) (sym (take_more fs i 0 h)) (tables-more p last (get_or fs i 0) (take i fs) table tables t r))
