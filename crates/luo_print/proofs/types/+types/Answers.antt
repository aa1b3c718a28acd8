use Rattle.std.proofs.Common.{◌≡◌, ◌++◌, ap, sym, arith, ◌∙◌}
use Rattle.std.proofs.lemmas.Grind.{common_steps}
use Rattle.std.specs.List.{join_by}
use Rattle.luo_source.specs.View.{expr_of}
use Rattle.luo_print.specs.CanonicalTypes.{expr_text}
use Rattle.luo_print.proofs.TypeTexts.{exprs_joined, put_union, put_product, put_collection}
use Rattle.luo_print.proofs.types.+types.Goals as goal

pub put_expr-returns-in_ok-put_exprs-in-Union : goal.put_expr-returns-in_ok-put_exprs-in-Union
put_expr-returns-in_ok-put_exprs-in-Union t c = c.in_ok-put_exprs-in-Union.ensures ∙ ap (λ s. c.args.text.now.items ++ s) (put_union _ _ _ c.in-Union.is c.as_slice-in-Union.ensures)

pub put_expr-returns-in_ok-put_product-in-Product : goal.put_expr-returns-in_ok-put_product-in-Product
put_expr-returns-in_ok-put_product-in-Product t c = c.in_ok-put_product-in-Product.ensures ∙ ap (λ s. c.args.text.now.items ++ s) (put_product _ _ _ _ c.in-Product.is c.as_slice-in-Product.ensures)

pub put_expr-returns-in_ok-put_collection-in-Coll : goal.put_expr-returns-in_ok-put_collection-in-Coll
put_expr-returns-in_ok-put_collection-in-Coll t c = c.in_ok-put_collection-in-Coll.ensures ∙ ap (λ s. c.args.text.now.items ++ s) (put_collection _ _ _ _ _ _ c.in-Coll.is c.get.ensures)

pub put_exprs-returns : goal.put_exprs-returns
put_exprs-returns t c =
    let joined : c.loop-expr.text.items ≡ c.args.text.now.items ++ join_by (λ e. expr_text (expr_of e)) c.args.between.now c.args.exprs.now = grind (arith, common_steps) in
    joined ∙ ap (λ s. c.args.text.now.items ++ s) (sym (exprs_joined c.args.between.now c.args.exprs.now))
