use Rattle.std.proofs.Common.{ap, ◌∙◌}
use Rattle.luo_equation.specs.Expr.{Coll}
use Rattle.luo_equation.specs.View.{expr_of}
use Rattle.luo_equation.proofs.ViewLemmas.{coll_view}
use Rattle.luo_compile.proofs.plain.collection.Goals as goal

pub returns : goal.returns
returns c = coll_view c.args.kind c.in_ok-new.field-0 c.args.low c.args.high ∙ ap (λ e. Coll c.args.kind (expr_of e) c.args.low c.args.high) c.in_ok-new.ensures
