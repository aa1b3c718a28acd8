use Rattle.std.proofs.Common.{◌++◌, ap, ◌∙◌}
use Rattle.luo_model.specs.View.{plain_of}
use Rattle.luo_equation.specs.View.{expr_of}
use Rattle.luo_equation.proofs.TextLemmas.{put_factor, put_sum, put_product, put_collection, put_walk}
use Rattle.luo_equation.proofs.text.+exprs.Goals as goal

pub put_expr-returns-in_ok-put_terms-in-Sum : goal.put_expr-returns-in_ok-put_terms-in-Sum
put_expr-returns-in_ok-put_terms-in-Sum t c = c.in_ok-put_terms-in-Sum.ensures ∙ ap (λ s. c.args.text.now.items ++ s) (put_sum (plain_of c.args.program.now) _ _ _ c.in-Sum.is c.as_slice.ensures)

pub put_expr-returns-in_ok-put_factors-in-Prod : goal.put_expr-returns-in_ok-put_factors-in-Prod
put_expr-returns-in_ok-put_factors-in-Prod t c = c.in_ok-put_factors-in-Prod.ensures ∙ ap (λ s. c.args.text.now.items ++ s) (put_product (plain_of c.args.program.now) _ _ _ c.in-Prod.is c.as_slice-in-Prod.ensures)

pub put_expr-returns-in_ok-put_collection-in-Coll : goal.put_expr-returns-in_ok-put_collection-in-Coll
put_expr-returns-in_ok-put_collection-in-Coll t c = c.in_ok-put_collection-in-Coll.ensures ∙ ap (λ s. c.args.text.now.items ++ s) (put_collection (plain_of c.args.program.now) _ _ _ _ _ _ c.in-Coll.is c.get.ensures)

pub put_expr-returns-in_ok-put_marked-in-Point : goal.put_expr-returns-in_ok-put_marked-in-Point
put_expr-returns-in_ok-put_marked-in-Point t c =
    put_walk (plain_of c.args.program.now) c.args.e.now c.in-Point.kind c.in-Point.inner c.get-in-Point.result.now c.in-Point.low c.in-Point.high c.in-Point.body c.get-in-Point-2.result.now
    c.args.text.now.items c.extend_from_slice.new.self.items c.put_collection-in-Point.new.text.items c.put_marked.new.text.items
    c.in-Point.is c.get-in-Point.ensures c.get-in-Point-2.ensures c.in_ok-extend_from_slice-in-Point.ensures.items c.in_ok-put_collection-in-Point.ensures c.in_ok-put_marked-in-Point.ensures

pub put_factor-returns : goal.put_factor-returns
put_factor-returns t c =
    put_factor (plain_of c.args.program.now) (expr_of c.args.e.now) c.args.text.now.items c.extend_from_slice.new.self.items c.put_expr.new.text.items c.extend_from_slice-2.new.self.items
    (c.in_ok-extend_from_slice.ensures.items ∙ ap (λ b. c.args.text.now.items ++ b) c.open_bracket.ensures)
    c.in_ok-put_expr.ensures
    (c.in_ok-extend_from_slice-2.ensures.items ∙ ap (λ b. c.put_expr.new.text.items ++ b) c.close_bracket.ensures)
