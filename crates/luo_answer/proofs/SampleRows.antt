-- The rows of a summary, and its text line by line.
use Rattle.std.proofs.Common.{◌≡◌, ℕ, suc, ◌+◌, ◌<◌, ◌≤◌, List, [], ◌∷◌, ◌++◌, length, get_or, take, drop, refl, sym, ◌∙◌, ap, subst, arith, codes, append_assoc, Some, slice_get}
use Rattle.std.proofs.Math.Seq.{drop-cons}
use Rattle.std.proofs.Math.Numerals.{add-one}
use Rattle.std.proofs.lemmas.List.{take_more, append-nil, drop_all}
use Rattle.std.proofs.lemmas.Option.{slice_get-get_or}
use Rattle.luo_finite.proofs.Places.{some_same}
use Rattle.luo_model.specs.declared.table.Row.{Row}
use Rattle.luo_model.specs.Program.{Program}
use Rattle.luo_model.specs.Tables.{IsRow}
use Rattle.luo_report.specs.Report.{row_text}
use Rattle.luo_answer.specs.Commands.Sample.{AreRowsAt, row_lines}
use Rattle.luo_answer.specs.Names.{procedure_name}

-- a row that stands for none
abbrev pub no_row : Row
no_row = record { n = 0; count = 0; total = 0 }

-- one more row
more : (p : Program) (n f : ℕ) (fs : List ℕ) (row : Row) (rows : List Row) → AreRowsAt p n fs rows → row.n ≡ n → IsRow p f row → AreRowsAt p n (fs ++ f ∷ []) (rows ++ row ∷ [])
more p n f [] row [] a e r = (e, r, tt)
more p n f [] row (other ∷ rows) a e r = absurd a
more p n f (g ∷ fs) row [] a e r = absurd a
more p n f (g ∷ fs) row (other ∷ rows) (m, x, a) e r = (m, x, more p n f fs row rows a e r)

pub at-step : (p : Program) (n i : ℕ) (fs : List ℕ) (row : Row) (rows next : List Row) → i < length fs → AreRowsAt p n (take i fs) rows → row.n ≡ n → IsRow p (get_or fs i 0) row → next ≡ rows ++ row ∷ []
    → AreRowsAt p n (take (i + 1) fs) next
at-step p n i fs row rows next h a size r e =
    subst (λ (l : List Row). AreRowsAt p n (take (i + 1) fs) l) (sym e)
    (subst (λ (l : List ℕ). AreRowsAt p n l (rows ++ row ∷ [])) (sym (take_more fs i 0 h)) (more p n (get_or fs i 0) (take i fs) row rows a size r))

-- as many rows as procedures
pub rows_wide : (p : Program) (n : ℕ) (fs : List ℕ) (rows : List Row) → AreRowsAt p n fs rows → length rows ≡ length fs
rows_wide p n [] [] a = refl
rows_wide p n [] (row ∷ rows) a = absurd a
rows_wide p n (f ∷ fs) [] a = absurd a
rows_wide p n (f ∷ fs) (row ∷ rows) (m, x, a) = omega (arith, rows_wide p n fs rows a)

-- behind a line the others follow
lines-at : (p : Program) (fs : List ℕ) (rows : List Row) (i : ℕ) → i < length fs → length rows ≡ length fs
    → row_lines p (drop i fs) (drop i rows) ≡ procedure_name p (get_or fs i 0) ++ codes " " ++ row_text (get_or rows i no_row) ++ row_lines p (drop (i + 1) fs) (drop (i + 1) rows)
lines-at p fs rows i h wide =
    let there : i < length rows = omega (arith, wide) in
    rw add-one (ap (λ a. row_lines p a (drop i rows)) (drop-cons fs i 0 h) ∙ ap (λ b. row_lines p (get_or fs i 0 ∷ drop (suc i) fs) b) (drop-cons rows i no_row there))

-- the text so far and the lines to come are the whole, also behind one more line
pub lines_more : (p : Program) (fs : List ℕ) (rows : List Row) (i : ℕ) (before now : List ℕ) → i < length fs → length rows ≡ length fs
    → now ≡ ((before ++ procedure_name p (get_or fs i 0)) ++ codes " ") ++ row_text (get_or rows i no_row)
    → now ++ row_lines p (drop (i + 1) fs) (drop (i + 1) rows) ≡ before ++ row_lines p (drop i fs) (drop i rows)
lines_more p fs rows i before now h wide e =
    let rest = row_lines p (drop (i + 1) fs) (drop (i + 1) rows) in
    let name = procedure_name p (get_or fs i 0) in
    let row = row_text (get_or rows i no_row) in
    ap (λ t. t ++ rest) e ∙ append_assoc ((before ++ name) ++ codes " ") row rest ∙ append_assoc (before ++ name) (codes " ") (row ++ rest) ∙ append_assoc before name (codes " " ++ (row ++ rest))
    ∙ ap (λ t. before ++ t) (sym (append_assoc (name ++ codes " ") row rest ∙ append_assoc name (codes " ") (row ++ rest)) ∙ sym (lines-at p fs rows i h wide))

-- the same of what is read at a place
pub put_line : (p : Program) (fs items : List ℕ) (rows : List Row) (i f : ℕ) (row : Row) (before now whole : List ℕ) → items ≡ fs → i < length items → length rows ≡ length fs
    → slice_get items i ≡ Some f → slice_get rows i ≡ Some row → now ≡ ((before ++ procedure_name p f) ++ codes " ") ++ row_text row
    → before ++ row_lines p (drop i fs) (drop i rows) ≡ whole → now ++ row_lines p (drop (i + 1) fs) (drop (i + 1) rows) ≡ whole
put_line p fs items rows i f row before now whole same h wide there at e kept =
    let within : i < length fs = omega (arith, h, ap length same) in
    let found : get_or fs i 0 ≡ f = some_same (get_or fs i 0) f (sym (slice_get-get_or fs i 0 within) ∙ (ap (λ (l : List ℕ). slice_get l i) (sym same) ∙ there)) in
    let read : get_or rows i no_row ≡ row = some_same (get_or rows i no_row) row (sym (slice_get-get_or rows i no_row (omega (arith, within, wide))) ∙ at) in
    lines_more p fs rows i before now within wide (e ∙ (λ k. ((before ++ procedure_name p (sym found k)) ++ codes " ") ++ row_text (sym read k))) ∙ kept

-- no line is left
pub lines_end : (p : Program) (fs : List ℕ) (rows : List Row) (i : ℕ) (text : List ℕ) → length fs ≤ i → text ++ row_lines p (drop i fs) (drop i rows) ≡ text
lines_end p fs rows i text h = ap (λ a. text ++ row_lines p a (drop i rows)) (drop_all i fs h) ∙ append-nil text
