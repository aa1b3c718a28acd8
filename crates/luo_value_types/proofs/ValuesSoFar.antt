-- Parts and arms that are made one by one.
use Rattle.std.proofs.Common.{◌≡◌, ℕ, ◌+◌, ◌<◌, ◌≤◌, List, [], ◌∷◌, ◌++◌, Option, Some, map, drop, length, get_or, refl, ap, sym, subst, ◌∙◌, arith, add-zero}
use Rattle.luo_source.specs.declared.values.SourceValue.{SourceValue}
use Rattle.luo_model.specs.declared.body.Body.{Body}
use Rattle.luo_model.specs.declared.program.Part.{Part}
use Rattle.luo_model.specs.declared.value.Value.{Value}
use Rattle.luo_model.specs.Program as plain
use Rattle.luo_model.specs.Scopes.ValueBodies.{join_items, value_own, values_own, value_sites, values_sites, value_items, values_items, value_body}
use Rattle.luo_model.specs.View.{body_of}
use Rattle.luo_model.specs.Lists.{value_list}
use Rattle.luo_source.specs.View.{source_value_of}
use Rattle.luo_rules.specs.declared.rule.Stop.{Stop}
use Rattle.luo_rules.specs.declared.setting.Setting.{Setting}
use Rattle.luo_rules.specs.declared.setting.Variable.{Variable}
use Rattle.luo_rules.specs.Breaches.{StopsAt}
use Rattle.luo_value_types.specs.inner.Room.{HasMeasuresWithin, HasRoom}
use Rattle.luo_rules.specs.Statements.{value_statements}
use Rattle.luo_rules.specs.ValueBreaches.{value_breaches}
use Rattle.luo_rules.specs.ValueCore.{value_core}
use Rattle.luo_rules.specs.inner.ValueLists.{AreMade}
use Rattle.luo_value_types.specs.inner.Lists.{parts_breaches, parts_core, parts_statements}
use Rattle.luo_rules.specs.inner.ValueMade.{extended, IsMade}
use Rattle.luo_rules.proofs.Joins.{items_none, extended_none, extended_assoc, join_values, values_none, values_assoc, values_own_join, values_sites_join, values_items_join, value_list_append}
use Rattle.std.proofs.lemmas.List.{drop_all, drop_more}
use Rattle.luo_value_types.proofs.StopLemmas.{StopsAt-left}
use Rattle.luo_value_types.proofs.ValueRoom.{sites_within, own_within}

-- what is left of a list at an element
pub drop_at : {X : Type 0} (xs : List X) (i : ℕ) (x : X) → i < length xs → x ≡ get_or xs i x → drop i xs ≡ x ∷ drop (i + 1) xs
drop_at xs i x low is = drop_more xs i x low ∙ ap (λ y. y ∷ drop (i + 1) xs) (sym is)

-- the first so many parts are made, and break nothing
pub record PartsSoFar (s : Setting) (scope : List Variable) (factors : List Part) (parts : List SourceValue) (i : ℕ) (made : List Value) (old new : Body) (first next : ℕ) : Type 0 where
  pub unbroken : parts_breaches s scope (map (λ p. p.node) factors) parts ≡ parts_breaches s scope (map (λ p. p.node) (drop i factors)) (drop i parts)
  pub formed : join_values (value_list made) (parts_core s scope (map (λ p. p.node) (drop i factors)) (drop i parts)) ≡ parts_core s scope (map (λ p. p.node) factors) parts
  pub behind : body_of new ≡ extended (body_of old) (plain.Does (values_own (value_list made)) (values_items first (value_list made)))
  pub numbered : next ≡ first + values_sites (value_list made)
  pub room : HasRoom (parts_statements (drop i parts)) new.own next

-- room for what is left behind a value
room_behind : (s : Setting) (scope : List Variable) (e : Option ℕ) (v : SourceValue) (rest own next own' next' : ℕ) → HasMeasuresWithin s → HasRoom (value_statements (source_value_of v) + rest) own next → own' ≡ own + value_own (value_core s scope e (source_value_of v)) → next' ≡ next + value_sites (value_core s scope e (source_value_of v)) → HasRoom rest own' next'
room_behind s scope e v rest own next own' next' within room eo en = record {
  charges = omega (arith, room.charges, own_within s scope e (source_value_of v) within, eo);
  sites = omega (arith, room.sites, sites_within s scope e (source_value_of v), en);
}

own_is : (a b : Body) (own : ℕ) (items : plain.Items) → body_of b ≡ extended (body_of a) (plain.Does own items) → b.own ≡ a.own + own
own_is a b own items e = cc

-- a value behind some
whole_more : (first : ℕ) (vs : plain.Values) (v : plain.Value) → extended (plain.Does (values_own vs) (values_items first vs)) (value_body (first + values_sites vs) v) ≡ plain.Does (values_own (join_values vs (plain.value v plain.no_values))) (values_items first (join_values vs (plain.value v plain.no_values)))
whole_more first vs v =
    let more = plain.value v plain.no_values in
    let own : values_own vs + value_own v ≡ values_own (join_values vs more) = omega (arith, values_own_join vs more) in
    ap (λ z. plain.Does z (join_items (values_items first vs) (value_items (first + values_sites vs) v))) own
    ∙ ap (plain.Does (values_own (join_values vs more))) (ap (join_items (values_items first vs)) (sym (items_none (value_items (first + values_sites vs) v))) ∙ sym (values_items_join first vs more))

pub parts_start : (s : Setting) (scope : List Variable) (factors : List Part) (parts : List SourceValue) (made : List Value) (b : Body) (next : ℕ) → made ≡ [] → HasRoom (parts_statements parts) b.own next → PartsSoFar s scope factors parts 0 made b b next next
parts_start s scope factors parts made b next e room = record {
  unbroken = refl;
  formed = ap (λ z. join_values (value_list z) (parts_core s scope (map (λ p. p.node) factors) parts)) e;
  behind = sym (extended_none (body_of b)) ∙ ap (λ z. extended (body_of b) (plain.Does (values_own (value_list z)) (values_items next (value_list z)))) (sym e);
  numbered = sym (add-zero next) ∙ ap (λ z. next + values_sites (value_list z)) (sym e);
  room = room;
}

-- what is broken from a part on
parts_breaches_at : (s : Setting) (scope : List Variable) (factors : List Part) (parts : List SourceValue) (i : ℕ) (f : Part) (p : SourceValue) → drop i factors ≡ f ∷ drop (i + 1) factors → drop i parts ≡ p ∷ drop (i + 1) parts → parts_breaches s scope (map (λ p. p.node) (drop i factors)) (drop i parts) ≡ value_breaches s scope (Some f.node) (source_value_of p) ++ parts_breaches s scope (map (λ p. p.node) (drop (i + 1) factors)) (drop (i + 1) parts)
parts_breaches_at s scope factors parts i f p ef ep = ap (λ z. parts_breaches s scope (map (λ p. p.node) z) (drop i parts)) ef ∙ ap (parts_breaches s scope (f.node ∷ map (λ p. p.node) (drop (i + 1) factors))) ep

parts_core_at : (s : Setting) (scope : List Variable) (factors : List Part) (parts : List SourceValue) (i : ℕ) (f : Part) (p : SourceValue) → drop i factors ≡ f ∷ drop (i + 1) factors → drop i parts ≡ p ∷ drop (i + 1) parts → parts_core s scope (map (λ p. p.node) (drop i factors)) (drop i parts) ≡ plain.value (value_core s scope (Some f.node) (source_value_of p)) (parts_core s scope (map (λ p. p.node) (drop (i + 1) factors)) (drop (i + 1) parts))
parts_core_at s scope factors parts i f p ef ep = ap (λ z. parts_core s scope (map (λ p. p.node) z) (drop i parts)) ef ∙ ap (parts_core s scope (f.node ∷ map (λ p. p.node) (drop (i + 1) factors))) ep

pub parts_stop : (s : Setting) (scope : List Variable) (factors : List Part) (parts : List SourceValue) (i : ℕ) (made : List Value) (old new : Body) (first next : ℕ) (f : Part) (p : SourceValue) (stop : Stop) → PartsSoFar s scope factors parts i made old new first next → drop i factors ≡ f ∷ drop (i + 1) factors → drop i parts ≡ p ∷ drop (i + 1) parts → StopsAt (value_breaches s scope (Some f.node) (source_value_of p)) stop → StopsAt (parts_breaches s scope (map (λ p. p.node) factors) parts) stop
parts_stop s scope factors parts i made old new first next f p stop so ef ep h =
    subst (λ z. StopsAt z stop) (sym (so.unbroken ∙ parts_breaches_at s scope factors parts i f p ef ep)) (StopsAt-left _ _ stop h)

pub parts_more : (s : Setting) (scope : List Variable) (factors : List Part) (parts : List SourceValue) (i : ℕ) (made made' : List Value) (old mid new : Body) (first next next' : ℕ) (f : Part) (p : SourceValue) (v : Value) → HasMeasuresWithin s → PartsSoFar s scope factors parts i made old mid first next → drop i factors ≡ f ∷ drop (i + 1) factors → drop i parts ≡ p ∷ drop (i + 1) parts → IsMade (value_breaches s scope (Some f.node) (source_value_of p)) (value_core s scope (Some f.node) (source_value_of p)) v mid new next next' → made' ≡ made ++ v ∷ [] → PartsSoFar s scope factors parts (i + 1) made' old new first next'
parts_more s scope factors parts i made made' old mid new first next next' f p v within so ef ep m e =
    let core = value_core s scope (Some f.node) (source_value_of p) in
    let rest = parts_core s scope (map (λ p. p.node) (drop (i + 1) factors)) (drop (i + 1) parts) in
    let listed : value_list made' ≡ join_values (value_list made) (plain.value core plain.no_values) = ap value_list e ∙ value_list_append made (v ∷ []) ∙ ap (λ z. join_values (value_list made) (plain.value z plain.no_values)) m.formed in
    record {
      unbroken = so.unbroken ∙ parts_breaches_at s scope factors parts i f p ef ep ∙ ap (λ z. z ++ parts_breaches s scope (map (λ p. p.node) (drop (i + 1) factors)) (drop (i + 1) parts)) m.unbroken;
      formed = ap (λ z. join_values z rest) listed ∙ values_assoc (value_list made) (plain.value core plain.no_values) rest ∙ ap (join_values (value_list made)) (sym (parts_core_at s scope factors parts i f p ef ep)) ∙ so.formed;
      behind = m.behind ∙ ap (λ z. extended z (value_body next core)) so.behind ∙ extended_assoc (body_of old) (plain.Does (values_own (value_list made)) (values_items first (value_list made))) (value_body next core) ∙ ap (λ z. extended (body_of old) (extended (plain.Does (values_own (value_list made)) (values_items first (value_list made))) (value_body z core))) so.numbered ∙ ap (extended (body_of old)) (whole_more first (value_list made) core ∙ ap (λ z. plain.Does (values_own z) (values_items first z)) (sym listed));
      numbered = omega (arith, m.numbered, so.numbered, ap values_sites listed, values_sites_join (value_list made) (plain.value core plain.no_values));
      room = room_behind s scope (Some f.node) p _ mid.own next new.own next' within (subst (λ z. HasRoom z mid.own next) (ap parts_statements ep) so.room) (own_is mid new _ _ m.behind) m.numbered;
    }

pub parts_end : (s : Setting) (scope : List Variable) (factors : List Part) (parts : List SourceValue) (i : ℕ) (made : List Value) (old new : Body) (first next : ℕ) → length parts ≤ i → PartsSoFar s scope factors parts i made old new first next → AreMade (parts_breaches s scope (map (λ p. p.node) factors) parts) (parts_core s scope (map (λ p. p.node) factors) parts) made old new first next
parts_end s scope factors parts i made old new first next past so =
    let rest = map (λ p. p.node) (drop i factors) in
    let none : drop i parts ≡ [] = drop_all i parts past in
    let listed : value_list made ≡ parts_core s scope (map (λ p. p.node) factors) parts = sym (values_none (value_list made)) ∙ ap (λ z. join_values (value_list made) (parts_core s scope rest z)) (sym none) ∙ so.formed in
    record {
      unbroken = so.unbroken ∙ ap (parts_breaches s scope rest) none;
      formed = listed;
      behind = so.behind ∙ ap (λ z. extended (body_of old) (plain.Does (values_own z) (values_items first z))) listed;
      numbered = so.numbered ∙ ap (λ z. first + values_sites z) listed;
    }
