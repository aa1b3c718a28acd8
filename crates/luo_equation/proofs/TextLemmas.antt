-- The texts of expressions in a list and in a box.
use Rattle.std.proofs.Common.{◌≡◌, ℕ, List, [], ◌∷◌, ◌++◌, refl, ap, ◌∙◌, sym, map, flat_map, codes, Option, None, slice_get, append_assoc}
use Rattle.std.specs.Option.{unwrap_or, option_map}
use Rattle.std.proofs.lemmas.Option.{unwrap_or-slice_get, slice_get-map}
use Rattle.std.specs.List.{join_by}
use Rattle.luo_model.specs.declared.program.Kind.{Kind}
use Rattle.luo_model.specs.declared.program.Def.{Def}
use Rattle.luo_model.specs.Program.{Program, Procedure}
use Rattle.luo_model.specs.View.{Held, plain_of, procedure_of}
use Rattle.luo_equation.specs.declared.equation.Expr.{Expr, Sum, Prod, Coll, Point}
use Rattle.luo_equation.specs.Expr as plain
use Rattle.luo_equation.specs.View.{expr_of, expr_list}
use Rattle.luo_equation.specs.Text.{definition_name, no_procedure, procedure_name, opening, closing, coll_text, marked_text, joined, expr_text, term_texts, factor_text, factor_texts}
use Rattle.luo_equation.proofs.ViewLemmas.{sum_view, product_view, coll_view, point_view}

flat_map_map : {X : Type 0} (f : X → List ℕ) (between : List ℕ) (xs : List X) → flat_map (λ t. between ++ t) (map f xs) ≡ flat_map (λ x. between ++ f x) xs
flat_map_map f between [] = refl
flat_map_map f between (x ∷ xs) = ap (λ t. (between ++ f x) ++ t) (flat_map_map f between xs)

joined_map : {X : Type 0} (f : X → List ℕ) (between : List ℕ) (xs : List X) → joined between (map f xs) ≡ join_by f between xs
joined_map f between [] = refl
joined_map f between (x ∷ xs) = ap (λ t. f x ++ t) (flat_map_map f between xs)

factor_list : (p : Program) (es : List Expr) → factor_texts p (expr_list es) ≡ map (λ e. factor_text p (expr_of e)) es
unfolding factor_text
factor_list p [] = refl
factor_list p (e ∷ es) = ap (λ t. (opening (expr_of e) ++ expr_text p (expr_of e) ++ closing (expr_of e)) ∷ t) (factor_list p es)

pub put_factor : (p : Program) (e : plain.Expr) (old opened put new : List ℕ) → opened ≡ old ++ opening e → put ≡ opened ++ expr_text p e → new ≡ put ++ closing e → new ≡ old ++ factor_text p e
unfolding factor_text
put_factor p e old opened put new o w n =
    n ∙ ap (λ t. t ++ closing e) (w ∙ ap (λ t. t ++ expr_text p e) o ∙ append_assoc old (opening e) (expr_text p e)) ∙ append_assoc old (opening e ++ expr_text p e) (closing e)

module _ (p : Program) where
  term_list : (es : List Expr) → term_texts p (expr_list es) ≡ map (λ e. expr_text p (expr_of e)) es
  term_list [] = refl
  term_list (e ∷ es) = ap (λ t. expr_text p (expr_of e) ∷ t) (term_list es)

  pub put_sum : (e : Expr) (es parts : List Expr) → e ≡ Sum es → parts ≡ es → join_by (λ f. expr_text p (expr_of f)) (codes " + ") parts ≡ expr_text p (expr_of e)
  put_sum e es parts is same =
      ap (join_by (λ f. expr_text p (expr_of f)) (codes " + ")) same
      ∙ sym (ap (joined (codes " + ")) (term_list es) ∙ joined_map (λ f. expr_text p (expr_of f)) (codes " + ") es)
      ∙ sym (ap (expr_text p) (ap expr_of is ∙ sum_view es))

  pub put_product : (e : Expr) (es parts : List Expr) → e ≡ Prod es → parts ≡ es → join_by (λ f. factor_text p (expr_of f)) (codes "*") parts ≡ expr_text p (expr_of e)
  put_product e es parts is same =
      ap (join_by (λ f. factor_text p (expr_of f)) (codes "*")) same
      ∙ sym (ap (joined (codes "*")) (factor_list p es) ∙ joined_map (λ f. factor_text p (expr_of f)) (codes "*") es)
      ∙ sym (ap (expr_text p) (ap expr_of is ∙ product_view es))

  pub put_collection : (e : Expr) (kind : Kind) (inner held : Expr) (low : ℕ) (high : Option ℕ) → e ≡ Coll kind inner low high → held ≡ inner
      → coll_text kind low high (expr_text p (expr_of held)) ≡ expr_text p (expr_of e)
  put_collection e kind inner held low high is same =
      ap (λ f. coll_text kind low high (expr_text p (expr_of f))) same ∙ sym (ap (expr_text p) (ap expr_of is ∙ coll_view kind inner low high))

  pub put_walk : (e : Expr) (kind : Kind) (inner held : Expr) (low : ℕ) (high : Option ℕ) (body kept : Expr) (old opened walked new : List ℕ) → e ≡ Point kind inner low high body → held ≡ inner → kept ≡ body
      → opened ≡ old ++ codes "Point[" → walked ≡ opened ++ coll_text kind low high (expr_text p (expr_of held)) → new ≡ walked ++ marked_text (expr_text p (expr_of kept)) → new ≡ old ++ expr_text p (expr_of e)
  put_walk e kind inner held low high body kept old opened walked new is same own o w n =
      let c = coll_text kind low high (expr_text p (expr_of held)) in
      let m = marked_text (expr_text p (expr_of kept)) in
      n ∙ ap (λ t. t ++ m) (w ∙ ap (λ t. t ++ c) o) ∙ append_assoc (old ++ codes "Point[") c m ∙ append_assoc old (codes "Point[") (c ++ m)
      ∙ ap (λ f. old ++ (codes "Point[" ++ coll_text kind low high (expr_text p (expr_of f)) ++ m)) same
      ∙ ap (λ f. old ++ (codes "Point[" ++ coll_text kind low high (expr_text p (expr_of inner)) ++ marked_text (expr_text p (expr_of f)))) own
      ∙ ap (λ t. old ++ t) (sym (ap (expr_text p) (ap expr_of is ∙ point_view kind inner low high body)))

-- what isn't there has no name
pub no_definition : (p : Program) (i : ℕ) → slice_get p.defs i ≡ None → definition_name p i ≡ []
no_definition p i e =
    let empty : Def = record { name = []; whole = record { node = 0; name = None } } in
    ap (λ (d : Def). d.name) (sym (unwrap_or-slice_get p.defs i empty) ∙ ap (λ o. unwrap_or o empty) e)

pub no_procedure_name : (p : Held) (f : ℕ) → slice_get p.procs f ≡ None → procedure_name (plain_of p) f ≡ []
no_procedure_name p f e =
    ap (λ (P : Procedure). P.name) (sym (unwrap_or-slice_get (plain_of p).procs f no_procedure)
    ∙ ap (λ o. unwrap_or o no_procedure) (slice_get-map procedure_of p.procs f ∙ ap (option_map procedure_of) e))
