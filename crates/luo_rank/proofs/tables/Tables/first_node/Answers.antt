use Rattle.std.proofs.Common.{sym, ◌∙◌, ap, subst, ◌<◌, arith, length}
use Rattle.luo_model.specs.declared.program.Shape.TheVariants as shape
use Rattle.luo_places.specs.Tails.{behind_some, tail_of, first_node}
use Rattle.luo_rank.specs.inner.Lookup.{IsLeft, Stands}
use Rattle.luo_rank.proofs.TailLemmas.{parts_more, parts_first, items_first, default_none}
use Rattle.luo_rank.proofs.StepLemmas.{first_there, few_left}
use Rattle.luo_rank.proofs.tables.Tables.first_node.Goals as goal

pub bounds-as_slice-f : goal.bounds-as_slice-f
bounds-as_slice-f c =
    let is = sym c.shape.ensures ∙ c.in-Product.is ∙ ap shape.Product (sym c.as_slice.ensures) in
    parts_more c.as_slice.result.now c.args.f c.args.n (subst (λ v. Stands v c.args.self.now.last c.args.f c.args.n) is c.requires.stands) (subst (λ v. IsLeft (behind_some (tail_of v) c.args.f) c.args.n) is c.requires.left)

pub offset_bounds-as_slice-f : goal.offset_bounds-as_slice-f
offset_bounds-as_slice-f c = omega (arith, few_left c.args.self.now c.requires.tables c.args.x c.args.f c.args.n c.requires.stands)

pub returns-in-Product-clause-first : goal.returns-in-Product-clause-first
returns-in-Product-clause-first c =
    let is = sym c.shape.ensures ∙ c.in-Product.is ∙ ap shape.Product (sym c.as_slice.ensures) in
    sym (ap (λ v. first_node (behind_some (tail_of v) c.args.f)) is ∙ (parts_first c.as_slice.result.now c.args.f (parts_more c.as_slice.result.now c.args.f c.args.n (subst (λ v. Stands v c.args.self.now.last c.args.f c.args.n) is c.requires.stands) (subst (λ v. IsLeft (behind_some (tail_of v) c.args.f) c.args.n) is c.requires.left))))

pub returns-in-Product-clause-there : goal.returns-in-Product-clause-there
returns-in-Product-clause-there c =
    subst (λ y. y < length c.args.self.now.program.nodes) (sym (returns-in-Product-clause-first c)) (first_there c.args.self.now c.requires.tables c.args.x c.args.f c.args.n c.requires.stands c.requires.left)

pub returns-in-Coll-clause-first : goal.returns-in-Coll-clause-first
returns-in-Coll-clause-first c =
    let is = sym c.shape.ensures ∙ c.in-Coll.is in
    sym (ap (λ v. first_node (behind_some (tail_of v) c.args.f)) is ∙ items_first c.in-Coll.kind c.in-Coll.part.node c.in-Coll.low c.in-Coll.high c.args.f)

pub returns-in-Coll-clause-there : goal.returns-in-Coll-clause-there
returns-in-Coll-clause-there c =
    subst (λ y. y < length c.args.self.now.program.nodes) (sym (returns-in-Coll-clause-first c)) (first_there c.args.self.now c.requires.tables c.args.x c.args.f c.args.n c.requires.stands c.requires.left)

pub returns-in_default-clause-first : goal.returns-in_default-clause-first
returns-in_default-clause-first c = absurd (default_none c.shape.result.now _ c.args.self.now.last c.args.f c.args.n c.shape.ensures c.in_default.not-Product c.in_default.not-Coll c.requires.stands)
