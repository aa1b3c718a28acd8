use Rattle.luo_model.specs.View.{plain_of}
use Rattle.luo_equation.specs.Expr.{no_exprs}
use Rattle.luo_system.specs.Plain.{terms_of, factors_of}
use Rattle.luo_model.specs.Scopes.Stands.{no_part}
use Rattle.luo_system.specs.System.{inside_expr}
use Rattle.luo_compile.proofs.CodeLemmas.{put_read, sum_end, product_end}
use Rattle.luo_compile.proofs.BodyLemmas.{same_as, union_node, product_node, coll_node, no_node_there}
use Rattle.luo_compile.proofs.parts.+nodes.Goals as goal

pub union-loop-part-preserved : goal.union-loop-part-preserved
union-loop-part-preserved t c =
    put_read terms_of (inside_expr (plain_of c.args.program.now) c.args.depth) c.args.parts.now no_part c.loop-part.part-index _ no_exprs _ _
    c.loop-part-test.true c.in_ok-inside.ensures c.in_ok-add_term.ensures c.loop-part.invariant

pub union-returns : goal.union-returns
union-returns t c =
    sum_end (inside_expr (plain_of c.args.program.now) c.args.depth) c.args.parts.now c.loop-part.part-index _ _ c.loop-part-test.false c.loop-part.invariant c.sum_of_terms.ensures

pub product-loop-part-preserved : goal.product-loop-part-preserved
product-loop-part-preserved t c =
    put_read factors_of (inside_expr (plain_of c.args.program.now) c.args.depth) c.args.parts.now no_part c.loop-part.part-index _ no_exprs _ _
    c.loop-part-test.true c.in_ok-inside.ensures c.in_ok-add_factor.ensures c.loop-part.invariant

pub product-returns : goal.product-returns
product-returns t c =
    product_end (inside_expr (plain_of c.args.program.now) c.args.depth) c.args.parts.now c.loop-part.part-index _ _ c.loop-part-test.false c.loop-part.invariant c.product_of_factors.ensures

pub node-returns-in-Some-Union : goal.node-returns-in-Some-Union
node-returns-in-Some-Union t c =
    let p = plain_of c.args.program.now in
    same_as c.union.result _ _ (union_node p c.args.depth c.args.x c.if-depth-eq0.false c.in-Some-Union.field-0.now c.in-Some-Union.ensures.some c.in-Some-Union.parts
    c.as_slice.result.now c.in-Some-Union.field-0-is c.as_slice.ensures) c.union.ensures

pub node-returns-in-Some-Product : goal.node-returns-in-Some-Product
node-returns-in-Some-Product t c =
    let p = plain_of c.args.program.now in
    same_as c.product.result _ _ (product_node p c.args.depth c.args.x c.if-depth-eq0.false c.in-Some-Product.field-0.now c.in-Some-Product.ensures.some c.in-Some-Product.parts
    c.as_slice-in-Some-Product.result.now c.in-Some-Product.field-0-is
    c.as_slice-in-Some-Product.ensures) c.product.ensures

pub node-returns-in_ok-inner-in-Some-Coll : goal.node-returns-in_ok-inner-in-Some-Coll
node-returns-in_ok-inner-in-Some-Coll t c =
    let p = plain_of c.args.program.now in
    same_as c.collection.result _ _ (coll_node p c.args.depth c.args.x c.if-depth-eq0.false c.in-Some-Coll.field-0.now c.in-Some-Coll.ensures.some c.in-Some-Coll.kind
    c.in-Some-Coll.part c.in-Some-Coll.low c.in-Some-Coll.high _ c.in-Some-Coll.field-0-is
    c.in_ok-inner-in-Some-Coll.ensures) c.collection.ensures

pub node-returns-in-None : goal.node-returns-in-None
node-returns-in-None t c = no_node_there (plain_of c.args.program.now) c.args.depth c.args.x c.if-depth-eq0.false c.in-None.ensures.none
