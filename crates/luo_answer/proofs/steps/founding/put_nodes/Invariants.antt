use Rattle.std.proofs.Common.{◌≡◌, ◌++◌, take}
use Rattle.luo_model.specs.View.{plain_of}
use Rattle.luo_answer.specs.Names.{node_name}
use Rattle.luo_answer.specs.FoundedRefusals.{chain_text}
use Rattle.luo_answer.proofs.steps.founding.put_nodes.Given as goal

abbrev pub invariant-loop-node : goal.invariant-loop-node
invariant-loop-node l = l.text.items ≡ l.initial.text.items ++ chain_text (node_name (plain_of l.program)) (take l.node-index l.chain)
