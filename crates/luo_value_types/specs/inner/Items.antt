-- Items after those of a body.
use Rattle.std.specs.Prelude.{◌≡◌}
use Rattle.luo_model.specs.declared.body.Body.{Body}
use Rattle.luo_model.specs.Program as plain
use Rattle.luo_model.specs.View.{body_of}
use Rattle.luo_rules.specs.inner.ValueMade.{extended}

-- a body with this item after what it has
abbrev pub HasItem : plain.Item → Body → Body → Type 0
HasItem i old new =
    body_of new ≡ extended (body_of old) (plain.Does 0 (plain.item i plain.no_items))
