use Rattle.std.proofs.Common.{◌≡◌}
use Rattle.luo_model.specs.View.{plain_of}
use Rattle.luo_founded.proofs.OneAnswer.{always_of, first_of}
use Rattle.luo_founded.proofs.checking.found.Goals as goal

pub returns-clause-always : goal.returns-clause-always
returns-clause-always c = always_of (plain_of c.args.program.now) (λ ranks. ranks ≡ c.args.program.now) c.checked.result c.checked.ensures.ranks

pub returns-clause-first : goal.returns-clause-first
returns-clause-first c = first_of (plain_of c.args.program.now) (λ ranks. ranks ≡ c.args.program.now) c.checked.result c.checked.ensures.ranks c.checked.ensures.founded
