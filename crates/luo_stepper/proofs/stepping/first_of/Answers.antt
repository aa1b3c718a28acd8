use Rattle.std.proofs.Common.{sym, ◌∙◌, ap, subst, ◌<◌, length}
use Rattle.luo_model.specs.declared.program.Shape.TheVariants as shape
use Rattle.luo_places.specs.Tails.{behind_some, tail_of, first_node}
use Rattle.luo_rank.specs.inner.Lookup.{IsLeft, Stands}
use Rattle.luo_rank.proofs.TailLemmas.{parts_more, parts_first, items_first}
use Rattle.luo_rank.proofs.StepLemmas.{first_there}
use Rattle.luo_stepper.proofs.stepping.first_of.Goals as goal

pub bounds-as_slice-f : goal.bounds-as_slice-f
bounds-as_slice-f c =
    let is = sym c.shape.ensures ∙ c.in-Product.is ∙ ap shape.Product (sym c.as_slice.ensures) in
    let n = c.requires.some.0 in
    parts_more c.as_slice.result.now c.args.f n (subst (λ v. Stands v c.args.tables.now.last c.args.f n) is c.requires.some.1) (subst (λ v. IsLeft (behind_some (tail_of v) c.args.f) n) is c.requires.some.2)

pub returns-in-Product-clause-first : goal.returns-in-Product-clause-first
returns-in-Product-clause-first c =
    let is = sym c.shape.ensures ∙ c.in-Product.is ∙ ap shape.Product (sym c.as_slice.ensures) in
    sym (ap (λ v. first_node (behind_some (tail_of v) c.args.f)) is ∙ parts_first c.as_slice.result.now c.args.f (bounds-as_slice-f c))

pub returns-in-Product-clause-there : goal.returns-in-Product-clause-there
returns-in-Product-clause-there c =
    subst (λ y. y < length c.args.tables.now.program.nodes) (sym (returns-in-Product-clause-first c)) (first_there c.args.tables.now c.requires.tables.base c.args.x c.args.f c.requires.some.0 c.requires.some.1 c.requires.some.2)

pub returns-in-Coll-clause-first : goal.returns-in-Coll-clause-first
returns-in-Coll-clause-first c =
    let is = sym c.shape.ensures ∙ c.in-Coll.is in
    sym (ap (λ v. first_node (behind_some (tail_of v) c.args.f)) is ∙ items_first c.in-Coll.kind c.in-Coll.part.node c.in-Coll.low c.in-Coll.high c.args.f)

pub returns-in-Coll-clause-there : goal.returns-in-Coll-clause-there
returns-in-Coll-clause-there c =
    subst (λ y. y < length c.args.tables.now.program.nodes) (sym (returns-in-Coll-clause-first c)) (first_there c.args.tables.now c.requires.tables.base c.args.x c.args.f c.requires.some.0 c.requires.some.1 c.requires.some.2)
