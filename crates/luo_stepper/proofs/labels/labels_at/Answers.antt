use Rattle.std.proofs.Common.{sym, ◌∙◌}
use Rattle.luo_model.specs.View.{plain_of}
use Rattle.luo_places.specs.Tails.{IsHead}
use Rattle.luo_rank.specs.inner.Lookup.{tail_at, ArePartLabels}
use Rattle.luo_rank.specs.declared.parting.Parted.{Parted}
use Rattle.luo_stepper.specs.inner.Stepping.{AreParts}
use Rattle.luo_stepper.proofs.SizeLemmas.{if_ok_into}
use Rattle.luo_stepper.proofs.PlaceLemmas.{parts_told}
use Rattle.luo_stepper.proofs.labels.labels_at.Goals as goal

pub returns-in-Labelled : goal.returns-in-Labelled
returns-in-Labelled c =
    if_ok_into c.part_labels.result (λ (p : Parted). ArePartLabels c.args.tables.now.program.universe (tail_at (plain_of c.args.tables.now.program) c.args.x c.args.f) c.args.labels.now c.args.n c.args.size c.args.place p.first p.rest)
    (λ (p : Parted). AreParts c.args.tables.now c.args.labels.now c.args.n c.args.size p.first p.rest × IsHead c.args.tables.now.program.universe (tail_at (plain_of c.args.tables.now.program) c.args.x c.args.f) c.args.labels.now c.args.size c.args.place p.first p.rest)
    (λ p h. parts_told c.args.tables.now (tail_at (plain_of c.args.tables.now.program) c.args.x c.args.f) c.args.labels.now c.args.n c.args.size c.args.place p.first p.rest (sym c.universe.ensures ∙ c.in-Labelled.is) c.requires.labels c.requires.size h) c.part_labels.ensures
