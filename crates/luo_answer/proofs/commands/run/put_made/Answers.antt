use Rattle.std.proofs.Common.{◌∙◌, ◌++◌, ap, subst, sym}
use Rattle.luo_model.specs.View.{Held, plain_of}
use Rattle.luo_interp.specs.Takes.{Takes}
use Rattle.luo_struct.specs.View.{tree_of}
use Rattle.luo_answer.specs.inner.Found.{AddsTail}
use Rattle.luo_answer.proofs.RunLemmas.{no_tail, takes_for_result, tail_put}
use Rattle.luo_answer.proofs.commands.run.put_made.Goals as goal

pub returns-then-not-has_result : goal.returns-then-not-has_result
returns-then-not-has_result c =
    let takes = subst (λ (h : Held). Takes (plain_of h) c.args.procedure (tree_of c.args.s.now)) (sym c.program-program.ensures.same) c.requires.takes in
    subst (λ (h : Held). AddsTail (plain_of h) c.args.procedure (tree_of c.args.s.now) c.args.text.now.items c.args.text.now.items) c.program-program.ensures.same
    (no_tail (plain_of c.program-program.result.now) c.args.procedure (tree_of c.args.s.now) takes (sym c.has_result.ensures ∙ c.if-not-has_result.true) c.args.text.now.items)

pub make-requires-clause-there : goal.make-requires-clause-there
make-requires-clause-there c =
    let takes = subst (λ (h : Held). Takes (plain_of h) c.args.procedure (tree_of c.args.s.now)) (sym c.program-program.ensures.same) c.requires.takes in
    takes_for_result (plain_of c.program-program.result.now) c.args.procedure (tree_of c.args.s.now) takes (sym c.has_result.ensures ∙ c.if-not-has_result.false)

pub returns : goal.returns
returns c =
    let p = plain_of c.program-program.result.now in
    let old = c.args.text.now.items in
    let takes = subst (λ (h : Held). Takes (plain_of h) c.args.procedure (tree_of c.args.s.now)) (sym c.program-program.ensures.same) c.requires.takes in
    let there = takes_for_result p c.args.procedure (tree_of c.args.s.now) takes (sym c.has_result.ensures ∙ c.if-not-has_result.false) in
    subst (λ (h : Held). AddsTail (plain_of h) c.args.procedure (tree_of c.args.s.now) old c.push.new.self.items) c.program-program.ensures.same
    (tail_put p c.args.procedure (tree_of c.args.s.now) (tree_of c.in_ok-made.made) there c.in_ok-made.ensures old c.extend_from_slice.new.self.items c.push.new.self.items
    (c.in_ok-extend_from_slice.ensures.items ∙ ap (λ z. old ++ z) (c.as_slice.ensures.value ∙ c.in_ok-written.ensures)) c.in_ok-push.ensures.items)
