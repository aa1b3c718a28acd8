-- What the check of a value, and of parts and arms of one, answers.
use Rattle.std.specs.Prelude.{ℕ, List, [], ◌∷◌, Some, map, Result}
use Rattle.luo_source.specs.declared.names.Name.{Name}
use Rattle.luo_source.specs.declared.values.SourceValue.{SourceValue}
use Rattle.luo_source.specs.declared.values.SourceValueArm.{SourceValueArm}
use Rattle.luo_source.specs.View.{source_value_of}
use Rattle.luo_model.specs.declared.body.Arm.{Arm}
use Rattle.luo_model.specs.declared.program.Part.{Part}
use Rattle.luo_model.specs.declared.value.Value.{Value}
use Rattle.luo_model.specs.declared.value.ValueArm.{ValueArm}
use Rattle.luo_model.specs.Scopes.Stands.{Stand, stands}
use Rattle.luo_rules.specs.declared.rule.Stop.{Stop}
use Rattle.luo_rules.specs.declared.setting.Setting.{Setting}
use Rattle.luo_rules.specs.declared.setting.Variable.{Variable}
use Rattle.luo_rules.specs.Settings.{shape_at}
use Rattle.luo_rules.specs.ValueBreaches.{value_breaches}
use Rattle.luo_rules.specs.ValueCore.{value_core}
use Rattle.luo_rules.specs.inner.ValueLists.{AreMade, ArmsAreMade, ArmIsMade}
use Rattle.luo_rules.specs.inner.ValueMade.{IsMade}
use Rattle.luo_value_types.specs.Checks.{Checks}
use Rattle.luo_value_types.specs.inner.Lists.{parts_breaches, parts_core, arms_breaches, arms_core}
use Rattle.luo_value_types.specs.inner.Room.{HasRoom}
use Rattle.luo_value_types.specs.declared.context.Maker.{Maker}

-- a maker has room for so many statements
abbrev pub HasRoomFor : ℕ → Maker → Type 0
HasRoomFor statements m = HasRoom statements m.body.own m.next

-- the check of a value, of which this node is expected: it is made after what the maker had
abbrev pub ChecksValue : Setting → List Variable → ℕ → SourceValue
    → Result Value Stop → Maker → Maker → Type 0
ChecksValue s scope e v result old new =
    let breaches = value_breaches s scope (Some e) (source_value_of v) in
    let core = value_core s scope (Some e) (source_value_of v) in
    Checks breaches result (λ m. IsMade breaches core m old.body new.body old.next new.next)

-- the check of parts, of which the nodes of these are expected
abbrev pub ChecksParts : Setting → List Variable → List Part → List SourceValue
    → Result (List Value) Stop → Maker → Maker → Type 0
ChecksParts s scope factors parts result old new =
    let breaches = parts_breaches s scope (map (λ p. p.node) factors) parts in
    let core = parts_core s scope (map (λ p. p.node) factors) parts in
    Checks breaches result (λ vs. AreMade breaches core vs old.body new.body old.next new.next)

-- the check of the arms of a case on a variable of this part: those of the value, and of the body
abbrev pub ChecksArms : Setting → Part → ℕ → Name → List SourceValueArm
    → Result (List ValueArm × List Arm) Stop → ℕ → ℕ → Type 0
ChecksArms s on e var arms result first next =
    let all = stands on (shape_at s on.node) in
    let breaches = arms_breaches s all (Some e) var arms in
    let core = arms_core s all (Some e) arms in
    Checks breaches result (λ made. ArmsAreMade breaches core made.0 made.1 first next)

-- the check of an arm that stands for this
abbrev pub ChecksArm : Setting → Stand → ℕ → Name → SourceValueArm
    → Result (ValueArm × Arm) Stop → ℕ → ℕ → Type 0
ChecksArm s stand e var arm result first next =
    let breaches = arms_breaches s (stand ∷ []) (Some e) var (arm ∷ []) in
    let core = arms_core s (stand ∷ []) (Some e) (arm ∷ []) in
    Checks breaches result (λ made. ArmIsMade breaches core made.0 made.1 first next)
