use Rattle.std.proofs.Common.{ap, ◌∙◌, sym}
use Rattle.luo_num.specs.Mark.{capped}
use Rattle.luo_types.proofs.CountLemmas.{counts_of_union, counts_of_product, counts_of_collection}
use Rattle.luo_types.proofs.counts.+counts.Goals as goal

pub count_expr-returns-in-Union-clause-nodes : goal.count_expr-returns-in-Union-clause-nodes
count_expr-returns-in-Union-clause-nodes t c = c.count_parts.ensures.nodes ∙ ap capped (sym (counts_of_union _ _ _ c.in-Union.is c.as_slice.ensures).nodes)

pub count_expr-returns-in-Union-clause-multisets : goal.count_expr-returns-in-Union-clause-multisets
count_expr-returns-in-Union-clause-multisets t c = c.count_parts.ensures.multisets ∙ ap capped (sym (counts_of_union _ _ _ c.in-Union.is c.as_slice.ensures).multisets)

pub count_expr-returns-in-Union-clause-parts : goal.count_expr-returns-in-Union-clause-parts
count_expr-returns-in-Union-clause-parts t c = c.count_parts.ensures.parts ∙ sym (counts_of_union _ _ _ c.in-Union.is c.as_slice.ensures).parts

pub count_expr-returns-in-Union-clause-bound : goal.count_expr-returns-in-Union-clause-bound
count_expr-returns-in-Union-clause-bound t c = c.count_parts.ensures.bound ∙ sym (counts_of_union _ _ _ c.in-Union.is c.as_slice.ensures).bound

pub count_expr-returns-in-Product-clause-nodes : goal.count_expr-returns-in-Product-clause-nodes
count_expr-returns-in-Product-clause-nodes t c = c.count_parts-in-Product.ensures.nodes ∙ ap capped (sym (counts_of_product _ _ _ _ c.in-Product.is c.as_slice-in-Product.ensures).nodes)

pub count_expr-returns-in-Product-clause-multisets : goal.count_expr-returns-in-Product-clause-multisets
count_expr-returns-in-Product-clause-multisets t c = c.count_parts-in-Product.ensures.multisets ∙ ap capped (sym (counts_of_product _ _ _ _ c.in-Product.is c.as_slice-in-Product.ensures).multisets)

pub count_expr-returns-in-Product-clause-parts : goal.count_expr-returns-in-Product-clause-parts
count_expr-returns-in-Product-clause-parts t c = c.count_parts-in-Product.ensures.parts ∙ sym (counts_of_product _ _ _ _ c.in-Product.is c.as_slice-in-Product.ensures).parts

pub count_expr-returns-in-Product-clause-bound : goal.count_expr-returns-in-Product-clause-bound
count_expr-returns-in-Product-clause-bound t c = c.count_parts-in-Product.ensures.bound ∙ sym (counts_of_product _ _ _ _ c.in-Product.is c.as_slice-in-Product.ensures).bound

pub count_expr-returns-in-Coll-clause-nodes : goal.count_expr-returns-in-Coll-clause-nodes
count_expr-returns-in-Coll-clause-nodes t c = c.count_collection.ensures.nodes ∙ ap capped (sym (counts_of_collection _ _ _ _ _ _ c.in-Coll.is c.get.ensures).nodes)

pub count_expr-returns-in-Coll-clause-multisets : goal.count_expr-returns-in-Coll-clause-multisets
count_expr-returns-in-Coll-clause-multisets t c = c.count_collection.ensures.multisets ∙ ap capped (sym (counts_of_collection _ _ _ _ _ _ c.in-Coll.is c.get.ensures).multisets)

pub count_expr-returns-in-Coll-clause-parts : goal.count_expr-returns-in-Coll-clause-parts
count_expr-returns-in-Coll-clause-parts t c = c.count_collection.ensures.parts ∙ sym (counts_of_collection _ _ _ _ _ _ c.in-Coll.is c.get.ensures).parts

pub count_expr-returns-in-Coll-clause-bound : goal.count_expr-returns-in-Coll-clause-bound
count_expr-returns-in-Coll-clause-bound t c = c.count_collection.ensures.bound ∙ sym (counts_of_collection _ _ _ _ _ _ c.in-Coll.is c.get.ensures).greatest
