use Rattle.std.proofs.Common.{◌∙◌, ap, arith, Some}
use Rattle.luo_model.specs.declared.program.Shape.TheVariants as shape
use Rattle.luo_types.specs.inner.NodeLists.{parts_of}
use Rattle.luo_types.proofs.CountLemmas.{counts_of_union, counts_of_product}
use Rattle.luo_types.proofs.NodeLemmas.{union_construct, product_construct, collection_construct}
use Rattle.luo_types.proofs.nodes.construct.Goals as goal

pub parts-requires : goal.parts-requires
parts-requires c = omega (arith, c.requires.room, (counts_of_union _ _ _ c.in-Union.is c.as_slice.ensures).nodes, ap (λ s. s.node) c.behind.ensures)

pub parts-requires-in-Product : goal.parts-requires-in-Product
parts-requires-in-Product c =
    omega (arith, c.requires.room, (counts_of_product _ _ _ _ c.in-Product.is c.as_slice-in-Product.ensures).nodes, ap (λ s. s.node) c.behind-in-Product.ensures)

pub returns-in_ok-parts-in-Union : goal.returns-in_ok-parts-in-Union
returns-in_ok-parts-in-Union c =
    let scheme = c.args.scheme.now in
    let parts = c.in_ok-parts-in-Union.ensures ∙ ap (λ s. parts_of scheme.names scheme.defs.items s c.as_slice.result.now) c.behind.ensures in
    ap (λ ps. Some (shape.Union ps)) parts ∙ union_construct scheme.names scheme.defs.items c.args.at _ _ _ c.in-Union.is c.as_slice.ensures

pub returns-in_ok-parts-in-Product : goal.returns-in_ok-parts-in-Product
returns-in_ok-parts-in-Product c =
    let scheme = c.args.scheme.now in
    let parts = c.in_ok-parts-in-Product.ensures ∙ ap (λ s. parts_of scheme.names scheme.defs.items s c.as_slice-in-Product.result.now) c.behind-in-Product.ensures in
    ap (λ ps. Some (shape.Product ps)) parts ∙ product_construct scheme.names scheme.defs.items c.args.at _ _ _ _ c.in-Product.is c.as_slice-in-Product.ensures

pub returns-in-Coll : goal.returns-in-Coll
returns-in-Coll c =
    let scheme = c.args.scheme.now in
    rw (c.part.ensures, c.behind-in-Coll.ensures, c.low_of.ensures, c.high_of.ensures)
    (collection_construct scheme.names scheme.defs.items c.args.at c.args.expr.now c.in-Coll.kind _ c.get.result.now c.in-Coll.bound _ c.in-Coll.is c.get.ensures)
