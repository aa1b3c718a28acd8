use Rattle.std.proofs.Common.{◌<◌, length, sym, subst}
use Rattle.luo_model.specs.View.{plain_of}
use Rattle.luo_answer.specs.Commands.Run.{parameter_node}
use Rattle.luo_answer.proofs.RunLemmas.{read_passes, read_stops}
use Rattle.luo_answer.proofs.steps.structure.structure_of.Goals as goal

pub read_structure-requires : goal.read_structure-requires
read_structure-requires c = record { there = subst (λ x. x < length c.args.program.now.nodes) (sym c.parameter_node-node.ensures) c.requires.within }

pub returns-in-Ok : goal.returns-in-Ok
returns-in-Ok c =
    let h = c.args.program.now in
    read_passes (plain_of h) c.parameter_node-node.result (parameter_node (plain_of h) c.args.procedure) c.as_bytes.result.now c.args.text.now c.parameter_node-node.ensures c.as_bytes.ensures.value c.in-Ok.s c.in-Ok.ensures.ok c.in-Ok.ensures.first

pub returns-in-Err : goal.returns-in-Err
returns-in-Err c =
    let h = c.args.program.now in
    read_stops (plain_of h) c.parameter_node-node.result (parameter_node (plain_of h) c.args.procedure) c.as_bytes.result.now c.args.text.now c.parameter_node-node.ensures c.as_bytes.ensures.value c.structure_refusal.result
    (c.structure_refusal.ensures (plain_of h) c.parameter_node-node.result c.as_bytes.result.now c.in-Err.ensures.err)
