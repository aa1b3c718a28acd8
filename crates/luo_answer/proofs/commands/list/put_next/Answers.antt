use Rattle.std.proofs.Common.{subst}
use Rattle.luo_list.specs.Span.{Answers}
use Rattle.luo_list.proofs.WalkLemmas.{has_passed}
use Rattle.luo_answer.proofs.commands.list.put_next.Goals as goal

pub step_from-requires : goal.step_from-requires
step_from-requires c =
    has_passed c.args.cursor.now c.in-Some.s c.next.new.self (subst (λ f. Answers c.args.cursor.now f c.next.new.self) c.in-Some.is c.in_ok-s.ensures.answers)
