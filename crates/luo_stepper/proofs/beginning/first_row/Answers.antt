use Rattle.std.proofs.Common.{◌+◌, ap}
use Rattle.luo_model.specs.View.{plain_of}
use Rattle.luo_struct.specs.View.{tree_list}
use Rattle.luo_rank.specs.inner.Lookup.{Tailed}
use Rattle.luo_stepper.specs.inner.Stepping.{Began}
use Rattle.luo_stepper.proofs.SizeLemmas.{began, begin_under, on_ok_into}
use Rattle.luo_stepper.proofs.beginning.first_row.Goals as goal

pub row_at-requires-clause-under : goal.row_at-requires-clause-under
row_at-requires-clause-under c = begin_under c.args.tables.now c.requires.tables.base c.args.x c.args.f c.args.labels.now c.args.n 0 (c.last-top.result + 1) (ap (λ v. v + 1) c.last-top.ensures) c.requires.size

pub returns : goal.returns
returns c = on_ok_into c.row_at.result (Tailed (plain_of c.args.tables.now.program) c.args.x c.args.f c.args.labels.now c.args.n 0 (tree_list c.args.out.now) (tree_list c.row_at.new.out))
    (Began c.args.tables.now c.args.x c.args.f c.args.labels.now c.args.n (tree_list c.args.out.now) (tree_list c.row_at.new.out))
    (λ m. began c.args.tables.now c.args.x c.args.f c.args.labels.now c.args.n (tree_list c.args.out.now) (tree_list c.row_at.new.out) m) c.row_at.ensures
