use Rattle.std.proofs.Common.{refl, sym, ◌∙◌}
use Rattle.luo_rank.proofs.MadeLemmas.{items_goes, items_none, default_goes, less_allows, free_allows, more_allows}
use Rattle.luo_rank.proofs.TailLemmas.{true_less, false_least}
use Rattle.luo_rank.proofs.rests.allows.Goals as goal

pub returns-in-Some-clause-on : goal.returns-in-Some-clause-on
returns-in-Some-clause-on c h = items_goes c.args.tables.now c.requires.tables c.args.x c.args.f c.args.n c.in-Coll.kind c.in-Coll.part c.in-Coll.low c.in-Coll.high (sym c.shape.ensures ∙ c.in-Coll.is) c.requires.left
    (less_allows c.in-Coll.high c.args.f c.in-Some.high c.in-Some.is (true_less c.args.f c.in-Some.high h))

pub returns-in-Some-clause-none : goal.returns-in-Some-clause-none
returns-in-Some-clause-none c h = items_none c.args.tables.now c.requires.tables c.args.x c.args.f c.args.n c.in-Coll.kind c.in-Coll.part c.in-Coll.low c.in-Coll.high (sym c.shape.ensures ∙ c.in-Coll.is) c.requires.left c.requires.size
    (more_allows c.in-Coll.high c.args.f c.in-Some.high c.in-Some.is (false_least c.args.f c.in-Some.high h))

pub returns-in-None : goal.returns-in-None
returns-in-None c = record {
  on = λ h. items_goes c.args.tables.now c.requires.tables c.args.x c.args.f c.args.n c.in-Coll.kind c.in-Coll.part c.in-Coll.low c.in-Coll.high (sym c.shape.ensures ∙ c.in-Coll.is) c.requires.left (free_allows c.in-Coll.high c.args.f c.in-None.is);
  none = λ h. absurd (h refl);
}

pub returns-in_default : goal.returns-in_default
returns-in_default c = record {
  on = λ h. default_goes c.args.tables.now c.requires.tables c.args.x c.args.f c.args.n c.shape.result.now c.shape.ensures (λ kind part low high e. c.in_default.not-Coll kind part low high e) c.requires.left;
  none = λ h. absurd (h refl);
}
