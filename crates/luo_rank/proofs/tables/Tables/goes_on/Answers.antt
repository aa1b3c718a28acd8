use Rattle.std.proofs.Common.{sym, ◌∙◌, ap, subst, length}
use Rattle.luo_model.specs.declared.program.Shape.TheVariants as shape
use Rattle.luo_places.specs.Tails.{behind_some, tail_of, Ends}
use Rattle.luo_rank.specs.inner.Lookup.{IsLeft, Stands}
use Rattle.luo_rank.proofs.TailLemmas.{parts_left, parts_end, default_left, default_end, true_less, false_least}
use Rattle.luo_rank.proofs.tables.Tables.goes_on.Goals as goal

pub returns-in-Product-clause-left : goal.returns-in-Product-clause-left
returns-in-Product-clause-left c h =
    let is = sym c.shape.ensures ∙ c.in-Product.is ∙ ap shape.Product (sym c.as_slice.ensures) in
    subst (λ v. IsLeft (behind_some (tail_of v) c.args.f) c.args.n) (sym is) (parts_left c.as_slice.result.now c.args.f c.args.n (true_less c.args.f (length c.as_slice.result.now) h))

pub returns-in-Product-clause-ends : goal.returns-in-Product-clause-ends
returns-in-Product-clause-ends c h =
    let is = sym c.shape.ensures ∙ c.in-Product.is ∙ ap shape.Product (sym c.as_slice.ensures) in
    subst (λ v. Ends (behind_some (tail_of v) c.args.f) c.args.n) (sym is) (parts_end c.as_slice.result.now c.args.f c.args.n (subst (λ v. Stands v c.args.self.now.last c.args.f c.args.n) is c.requires.stands) (false_least c.args.f (length c.as_slice.result.now) h))

pub returns-in_default : goal.returns-in_default
returns-in_default c = record {
  left = λ h. default_left c.shape.result.now _ c.args.self.now.last c.args.f c.args.n c.shape.ensures c.in_default.not-Product c.requires.stands (true_less 0 c.args.n h);
  ends = λ h. default_end c.shape.result.now _ c.args.self.now.last c.args.f c.args.n c.shape.ensures c.in_default.not-Product c.requires.stands (false_least 0 c.args.n h);
}
