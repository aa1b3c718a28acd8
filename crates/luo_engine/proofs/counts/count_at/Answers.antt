use Rattle.std.proofs.Common.{◌≡◌, ◌∙◌, sym, ap, subst, ℕ, List, Option, drop}
use Rattle.std.proofs.lemmas.Option.{get_or_from_slice_get}
use Rattle.luo_num.specs.Mark.{capped}
use Rattle.luo_model.specs.declared.program.Kind.{Kind}
use Rattle.luo_model.specs.declared.program.Part.{Part}
use Rattle.luo_model.specs.declared.program.Universe.{Universe}
use Rattle.luo_model.specs.declared.program.Shape.TheVariants.{Atom, Union, Product, Coll}
use Rattle.luo_model.specs.Program.{shape_of}
use Rattle.luo_model.specs.View.{plain_of}
use Rattle.luo_engine.specs.inner.Grid.{entry_of}
use Rattle.luo_recipes.specs.Shares.{tail_of}
use Rattle.luo_engine.specs.inner.Collections.{IsCollection}
use Rattle.luo_engine.proofs.inner.PlanLemmas.{parts_there, end_at, room_at, product_to, union_to, atom_to}
use Rattle.luo_engine.proofs.inner.CollectionLemmas.{collections_skip}
use Rattle.luo_engine.proofs.counts.count_at.Goals as goal

pub sum_at-requires-clause-there : goal.sum_at-requires-clause-there
sum_at-requires-clause-there c = parts_there c.args.plan.now c.node_at-x.ensures.plan c.args.k c.node_at-x.result c.node_at-x.ensures.place c.as_slice.result.now (Union c.in-Union.parts) (sym c.shape.ensures ∙ c.in-Union.is) (sym c.as_slice.ensures) _ c.requires.counted.wide

pub product_at-requires-clause-room : goal.product_at-requires-clause-room
product_at-requires-clause-room c = room_at c.args.plan.now c.node_at-x.ensures.plan c.args.k c.node_at-x.result c.node_at-x.ensures.place c.in-Product.parts c.start.result c.len.result c.factors.result.now (sym c.shape.ensures ∙ c.in-Product.is) c.start.ensures c.len.ensures c.factors.ensures

pub product_at-requires-clause-end : goal.product_at-requires-clause-end
product_at-requires-clause-end c = end_at c.args.plan.now c.node_at-x.ensures.plan c.args.k c.node_at-x.result c.node_at-x.ensures.place c.in-Product.parts c.start.result c.len.result c.factors.result.now (sym c.shape.ensures ∙ c.in-Product.is) c.start.ensures c.len.ensures c.factors.ensures

not_atom : (w low : ℕ) (kind : Kind) (part : Part) (high : Option ℕ) → Atom w ≡ Coll kind part low high → ⊥
not_atom w low kind part high e = absurd (cc)

not_union : (ps : List Part) (low : ℕ) (kind : Kind) (part : Part) (high : Option ℕ) → Union ps ≡ Coll kind part low high → ⊥
not_union ps low kind part high e = absurd (cc)

not_product : (ps : List Part) (low : ℕ) (kind : Kind) (part : Part) (high : Option ℕ) → Product ps ≡ Coll kind part low high → ⊥
not_product ps low kind part high e = absurd (cc)

pub returns-in-Atom-clause-number : goal.returns-in-Atom-clause-number
returns-in-Atom-clause-number c = atom_to c.args.plan.now c.node_at-x.ensures.plan c.args.k c.node_at-x.result c.node_at-x.ensures.place c.args.counts.now c.args.n c.atom_at.result c.requires.counted _ (sym c.shape.ensures ∙ c.in-Atom.is) c.atom_at.ensures

pub returns-in-Union-clause-number : goal.returns-in-Union-clause-number
returns-in-Union-clause-number c = union_to c.args.plan.now c.node_at-x.ensures.plan c.args.k c.node_at-x.result c.node_at-x.ensures.place c.args.counts.now c.args.n c.sum_at.result c.requires.counted c.as_slice.result.now (sym c.shape.ensures ∙ c.in-Union.is ∙ ap Union (sym c.as_slice.ensures)) c.sum_at.ensures

pub returns-in-Product-clause-number : goal.returns-in-Product-clause-number
returns-in-Product-clause-number c = product_to c.args.plan.now c.node_at-x.ensures.plan c.args.k c.node_at-x.result c.node_at-x.ensures.place c.args.counts.now c.args.n c.product_at.result c.requires.counted c.in-Product.parts c.start.result c.factors.result.now (sym c.shape.ensures ∙ c.in-Product.is) c.start.ensures c.factors.ensures
    (subst (λ (u : Universe). c.product_at.result ≡ capped (tail_of u (entry_of c.args.counts.now) (drop c.start.result c.factors.result.now) c.args.n)) c.universe.ensures c.product_at.ensures)

pub returns-in-Atom-clause-collections : goal.returns-in-Atom-clause-collections
returns-in-Atom-clause-collections c small =
    collections_skip (plain_of c.args.plan.now.program) c.args.plan.now.reach c.args.plan.now.order c.args.collections.now.items c.args.n c.args.k c.node_at-x.result c.node_at-x.ensures.place
    (λ low kind part high e. not_atom _ low kind part high (sym (sym c.shape.ensures ∙ c.in-Atom.is) ∙ e)) c.requires.collections

pub returns-in-Union-clause-collections : goal.returns-in-Union-clause-collections
returns-in-Union-clause-collections c small =
    collections_skip (plain_of c.args.plan.now.program) c.args.plan.now.reach c.args.plan.now.order c.args.collections.now.items c.args.n c.args.k c.node_at-x.result c.node_at-x.ensures.place
    (λ low kind part high e. not_union _ low kind part high (sym (sym c.shape.ensures ∙ c.in-Union.is) ∙ e)) c.requires.collections

pub returns-in-Product-clause-collections : goal.returns-in-Product-clause-collections
returns-in-Product-clause-collections c small =
    collections_skip (plain_of c.args.plan.now.program) c.args.plan.now.reach c.args.plan.now.order c.args.collections.now.items c.args.n c.args.k c.node_at-x.result c.node_at-x.ensures.place
    (λ low kind part high e. not_product _ low kind part high (sym (sym c.shape.ensures ∙ c.in-Product.is) ∙ e)) c.requires.collections

pub collection_at-requires-clause-collection : goal.collection_at-requires-clause-collection
collection_at-requires-clause-collection c =
    subst IsCollection (sym c.in-Coll.is ∙ c.shape.ensures ∙ ap (shape_of (plain_of c.args.plan.now.program)) (sym (get_or_from_slice_get c.args.plan.now.order c.args.k c.node_at-x.result 0 c.node_at-x.ensures.place))) tt
