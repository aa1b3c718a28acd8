use Rattle.std.proofs.Common.{◌+◌, ◌*◌, ◌^◌, ◌∷◌, [], length}
use Rattle.luo_model.specs.declared.body.Item.{Item}
use Rattle.luo_model.specs.Tree.{to_list}
use Rattle.luo_model.specs.Charges.{BodyCharges, EachCharges, ItemsCharge, Charges}
use Rattle.luo_model.specs.View.{plain_of, item_list, body_of}
use Rattle.luo_founded.proofs.Charged.{parts_in}
use Rattle.luo_struct.specs.declared.structure.Structure.{Structure}
use Rattle.luo_struct.specs.View.{tree_of, tree_list}
use Rattle.luo_interp.proofs.ChargeSteps.{SumSoFar, reach, beneath}
use Rattle.luo_interp.proofs.charges.+charges.Given as goal

abbrev pub decreases-procedure_charge : goal.decreases-procedure_charge
decreases-procedure_charge l = parts_in (tree_of l.s.now) * 2 ^ 68 + 8 * l.left

abbrev pub decreases-body_charge : goal.decreases-body_charge
decreases-body_charge l = reach (to_list (tree_list l.vars.now)) * 2 ^ 68 + (8 * l.left + 3)

abbrev pub decreases-items_charge : goal.decreases-items_charge
decreases-items_charge l = reach (to_list (tree_list l.vars.now)) * 2 ^ 68 + (8 * l.left + 2)

abbrev pub decreases-item_charge : goal.decreases-item_charge
decreases-item_charge l = reach (to_list (tree_list l.vars.now)) * 2 ^ 68 + (8 * l.left + 1)

abbrev pub decreases-case_charge : goal.decreases-case_charge
decreases-case_charge l = beneath (tree_of l.s.now) * 2 ^ 68 + (8 * (length l.program.now.procs + 1) + 6)

abbrev pub decreases-arm_charge : goal.decreases-arm_charge
decreases-arm_charge l = reach (to_list (tree_list l.vars.now)) * 2 ^ 68 + (8 * (length l.program.now.procs + 1) + 4)

abbrev pub decreases-walk_charge : goal.decreases-walk_charge
decreases-walk_charge l = beneath (tree_of l.s.now) * 2 ^ 68 + (8 * (length l.program.now.procs + 1) + 5)

abbrev pub invariant-items_charge-loop-item : goal.invariant-items_charge-loop-item
invariant-items_charge-loop-item l =
    SumSoFar Item (λ items q. ItemsCharge (Charges (plain_of l.program)) (item_list items) (to_list (tree_list l.vars)) q) l.items l.item-index l.sum

abbrev pub invariant-walk_charge-loop-part : goal.invariant-walk_charge-loop-part
invariant-walk_charge-loop-part l =
    SumSoFar Structure (λ parts q. EachCharges (λ t. BodyCharges (Charges (plain_of l.program)) (body_of l.body) (t ∷ [])) (tree_list parts) q) l.parts l.part-index l.sum
