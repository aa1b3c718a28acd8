-- The text of a report, part by part.
use Rattle.std.proofs.Common.{◌≡◌, ℕ, List, [], ◌∷◌, ◌++◌, refl, sym, ◌∙◌, ap, map, flat_map, append_assoc, None, Some, slice_get}
use Rattle.std.proofs.lemmas.Option.{unwrap_or-slice_get}
use Rattle.std.specs.Option.{unwrap_or}
use Rattle.luo_model.specs.declared.program.Def.{Def}
use Rattle.luo_model.specs.Program.{Program}
use Rattle.luo_equation.specs.declared.equation.Equation as made
use Rattle.luo_equation.specs.View.{equation_of}
use Rattle.luo_report.specs.declared.table.Table.{Table}
use Rattle.luo_report.specs.Report.{name_of, universe_text, equation_line, section, report_text}

-- a definition that isn't there has no name
pub no_name : (p : Program) (at : ℕ) → slice_get p.defs at ≡ None → name_of p (Some at) ≡ []
no_name p at e =
    let empty : Def = record { name = []; whole = record { node = 0; name = None } } in
    ap (λ (d : Def). d.name) (sym (unwrap_or-slice_get p.defs at empty) ∙ ap (λ o. unwrap_or o empty) e)

pub flat_map-map : {X Y : Type 0} (f : X → Y) (g : Y → List ℕ) (xs : List X) → flat_map g (map f xs) ≡ flat_map (λ x. g (f x)) xs
flat_map-map f g [] = refl
flat_map-map f g (x ∷ xs) = ap (λ t. g (f x) ++ t) (flat_map-map f g xs)

-- the universe, the equations and the tables make the report
pub report_done : (p : Program) (equations : List made.Equation) (tables : List Table) (old first second text line' : List ℕ) → line' ≡ universe_text p.universe → first ≡ old ++ line'
    → second ≡ first ++ flat_map (λ e. equation_line p (equation_of e)) equations → text ≡ second ++ flat_map (λ t. section p t) tables → text ≡ old ++ report_text p (map equation_of equations) tables
report_done p equations tables old first second text line' u f s t =
    let U = universe_text p.universe in
    let E = flat_map (λ e. equation_line p (equation_of e)) equations in
    let T = flat_map (λ t. section p t) tables in
    t ∙ ap (λ l. l ++ T) (s ∙ ap (λ l. l ++ E) (f ∙ ap (λ l. old ++ l) u) ∙ append_assoc old U E) ∙ append_assoc old (U ++ E) T
    ∙ ap (λ l. old ++ ((U ++ l) ++ T)) (sym (flat_map-map equation_of (equation_line p) equations))
