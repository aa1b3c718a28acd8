use Rattle.std.proofs.Common.{◌≡◌, ◌++◌, codes, take, flat_map}
use Rattle.luo_source.specs.View.{source_value_of}
use Rattle.luo_print.specs.CanonicalValues.{value_text}
use Rattle.luo_print.proofs.ValueTexts.{value_arm_line}
use Rattle.luo_print.proofs.values.+values.Given as goal

abbrev pub invariant-put_parts-loop-part : goal.invariant-put_parts-loop-part
invariant-put_parts-loop-part l = l.text.items ≡ l.initial.text.items ++ flat_map (λ v. codes ", " ++ value_text l.indent (source_value_of v)) (take l.part-index l.rest)

abbrev pub invariant-put_value_arms-loop-arm : goal.invariant-put_value_arms-loop-arm
invariant-put_value_arms-loop-arm l = l.text.items ≡ l.initial.text.items ++ flat_map (λ a. codes ";" ++ value_arm_line l.indent a) (take l.arm-index l.rest)
