use Rattle.std.proofs.Common.{subst, arith}
use Rattle.luo_model.specs.Charges.{Charges}
use Rattle.luo_model.specs.View.{Held, plain_of}
use Rattle.luo_model.proofs.ChargeLemmas.{charges_one}
use Rattle.luo_struct.specs.View.{tree_of}
use Rattle.luo_answer.proofs.commands.run.charge_of.Goals as goal

pub returns-in-Ok : goal.returns-in-Ok
returns-in-Ok c =
    let charged = subst (λ (h : Held). Charges (plain_of h) c.args.procedure (tree_of c.args.s.now) c.in-Ok.charge) c.program.ensures.same c.in-Ok.ensures.0 in
    record { answers = ((λ a r. absurd (omega (arith, r.2, c.in-Ok.ensures.1, charges_one (plain_of c.args.ranks.now) c.args.procedure (tree_of c.args.s.now) r.0 c.in-Ok.charge r.1 charged))), charged) }
