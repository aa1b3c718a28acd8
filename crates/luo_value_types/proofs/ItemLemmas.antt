-- Items behind those of a body, in its list.
use Rattle.std.proofs.Common.{◌≡◌, ℕ, List, [], ◌∷◌, ◌++◌, sym, ◌∙◌, ap, add-zero}
use Rattle.luo_model.specs.declared.body.Item.{Item}
use Rattle.luo_model.specs.Program as plain
use Rattle.luo_model.specs.Scopes.ValueBodies.{join_items}
use Rattle.luo_model.specs.View.{item_of, item_list}
use Rattle.luo_rules.proofs.Joins.{item_list_append}
use Rattle.luo_value_types.specs.inner.Items.{HasItem}

pub has_item : (own : ℕ) (old items : List Item) (item : Item) → items ≡ old ++ item ∷ [] → HasItem (item_of item) (record { own = own; items = old }) (record { own = own; items = items })
has_item own old items item e =
    ap (λ is. plain.Does own (item_list is)) e
    ∙ ap (plain.Does own) (item_list_append old (item ∷ []))
    ∙ ap (λ n. plain.Does n (join_items (item_list old) (plain.item (item_of item) plain.no_items))) (sym (add-zero own))
