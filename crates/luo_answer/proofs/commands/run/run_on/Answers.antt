use Rattle.std.proofs.Common.{◌≡◌, ◌<◌, ℕ, List, Result, length, subst, sym}
use Rattle.luo_model.specs.View.{Held, plain_of}
use Rattle.luo_struct.specs.View.{tree_of}
use Rattle.luo_struct.specs.declared.structure.Structure.{Structure}
use Rattle.luo_answer.specs.declared.refusal.Refusal.{Refusal}
use Rattle.luo_answer.specs.Commands.Run.{parameter_node, structure_of}
use Rattle.luo_answer.specs.inner.Passes.{Passes}
use Rattle.luo_answer.proofs.RunLemmas.{taken}
use Rattle.luo_answer.proofs.StepLemmas.{go, stop}
use Rattle.luo_answer.proofs.commands.run.run_on.Goals as goal

-- what is read over a program is read over the same one
read_over : (f : ℕ) (text : List ℕ) {a b : Held} {r : Result Structure Refusal} → a ≡ b → Passes tree_of (structure_of (plain_of a) (parameter_node (plain_of a) f) text) r → Passes tree_of (structure_of (plain_of b) (parameter_node (plain_of b) f) text) r
read_over f text {r = r} same h = subst (λ (z : Held). Passes tree_of (structure_of (plain_of z) (parameter_node (plain_of z) f) text) r) same h

pub structure_of-requires : goal.structure_of-requires
structure_of-requires c =
    record { within = subst (λ (h : Held). parameter_node (plain_of h) c.args.procedure < length h.nodes) (sym c.program.ensures.same) c.requires.within }

pub charge_of-requires : goal.charge_of-requires
charge_of-requires c =
    let read = read_over c.args.procedure c.args.structure.now c.program.ensures.same c.in_ok-s.ensures in
    record { takes = taken (plain_of c.args.ranks.now) c.args.procedure c.requires.there c.args.structure.now (tree_of c.in_ok-s.s) read.answers.1 }

pub run_text-requires : goal.run_text-requires
run_text-requires c =
    let read = read_over c.args.procedure c.args.structure.now c.program.ensures.same c.in_ok-s.ensures in
    record { takes = taken (plain_of c.args.ranks.now) c.args.procedure c.requires.there c.args.structure.now (tree_of c.in_ok-s.s) read.answers.1 }

pub returns-in_err-s : goal.returns-in_err-s
returns-in_err-s c =
    let read = read_over c.args.procedure c.args.structure.now c.program.ensures.same c.in_err-s.ensures in
    stop _ read c.from_residual.ensures.1

pub returns-in_err-charge : goal.returns-in_err-charge
returns-in_err-charge c =
    let read = read_over c.args.procedure c.args.structure.now c.program.ensures.same c.in_ok-s.ensures in
    go _ read (stop _ c.in_err-charge.ensures c.from_residual-in_err-charge.ensures.1)

pub returns : goal.returns
returns c =
    let read = read_over c.args.procedure c.args.structure.now c.program.ensures.same c.in_ok-s.ensures in
    go _ read (go _ c.in_ok-charge.ensures c.run_text.ensures)
