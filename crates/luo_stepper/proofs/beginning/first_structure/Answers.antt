use Rattle.luo_model.specs.Order.{IsBefore}
use Rattle.luo_places.specs.steps.Next.{IsFirst}
use Rattle.luo_places.proofs.steps.Next.{first_at}
use Rattle.luo_struct.specs.View.{tree_of}
use Rattle.luo_rank.specs.inner.Lookup.{StandsAt}
use Rattle.luo_stepper.specs.inner.Stepping.{Here}
use Rattle.luo_stepper.proofs.SizeLemmas.{if_ok_into}
use Rattle.luo_stepper.proofs.beginning.first_structure.Goals as goal

pub returns : goal.returns
returns c = if_ok_into c.structure_at.result (λ s. StandsAt c.args.tables.now c.args.node c.args.labels.now c.args.n 0 (tree_of s)) (λ s. IsFirst (Here c.args.tables.now c.args.node c.args.labels.now c.args.n) IsBefore (tree_of s))
    (λ s m. first_at (Here c.args.tables.now c.args.node c.args.labels.now c.args.n) IsBefore (tree_of s) m) c.structure_at.ensures
