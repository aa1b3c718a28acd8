-- Arms that are made one by one.
use Rattle.std.proofs.Common.{◌≡◌, ℕ, ◌+◌, ◌≤◌, List, [], ◌∷◌, ◌++◌, Option, drop, length, ap, sym, subst, ◌∙◌, arith}
use Rattle.std.proofs.lemmas.List.{append-nil}
use Rattle.std.proofs.lemmas.List.{drop_all}
use Rattle.luo_source.specs.declared.names.Name.{Name}
use Rattle.luo_source.specs.declared.values.SourceValueArm.{SourceValueArm}
use Rattle.luo_model.specs.declared.body.Arm.{Arm}
use Rattle.luo_model.specs.declared.value.ValueArm.{ValueArm}
use Rattle.luo_model.specs.Scopes.Stands.{Stand}
use Rattle.luo_model.specs.Scopes.ValueBodies.{value_arms_sites, value_arm_bodies}
use Rattle.luo_source.specs.View.{source_value_of}
use Rattle.luo_rules.specs.declared.rule.Stop.{Stop}
use Rattle.luo_rules.specs.declared.setting.Setting.{Setting}
use Rattle.luo_rules.specs.Breaches.{StopsAt}
use Rattle.luo_rules.specs.Patterns.{bound, arm_breaches, pattern_breaches}
use Rattle.luo_value_types.specs.inner.Room.{HasRoom}
use Rattle.luo_rules.specs.ValueBreaches.{value_breaches}
use Rattle.luo_model.specs.Lists.{arm_list, value_arm_list}
use Rattle.luo_rules.specs.inner.ValueLists.{ArmsAreMade, ArmIsMade}
use Rattle.luo_value_types.specs.inner.Lists.{arms_breaches, arms_core, arms_statements}
use Rattle.luo_rules.proofs.Joins.{join_value_arms, join_arms, value_arms_none, value_arms_assoc, value_arms_sites_join, arm_bodies_join, value_arm_list_append, arm_list_append}
use Rattle.luo_value_types.proofs.StopLemmas.{StopsAt-left, StopsAt-pattern}
use Rattle.luo_value_types.proofs.ValueRoom.{sites_within}

-- the first so many arms are made, and break nothing
pub record ArmsSoFar (s : Setting) (stands : List Stand) (e : Option ℕ) (var : Name) (arms : List SourceValueArm) (i : ℕ) (values : List ValueArm) (bodies : List Arm) (first next : ℕ) : Type 0 where
  pub unbroken : arms_breaches s stands e var arms ≡ arms_breaches s (drop i stands) e var (drop i arms)
  pub formed : join_value_arms (value_arm_list values) (arms_core s (drop i stands) e (drop i arms)) ≡ arms_core s stands e arms
  pub bodied : arm_list bodies ≡ value_arm_bodies first (value_arm_list values)
  pub numbered : next ≡ first + value_arms_sites (value_arm_list values)
  pub room : HasRoom (arms_statements (drop i arms)) 0 next

arms_breaches_at : (s : Setting) (stands : List Stand) (e : Option ℕ) (var : Name) (arms : List SourceValueArm) (i : ℕ) (stand : Stand) (a : SourceValueArm) → drop i stands ≡ stand ∷ drop (i + 1) stands → drop i arms ≡ a ∷ drop (i + 1) arms → arms_breaches s (drop i stands) e var (drop i arms) ≡ arm_breaches s stand var a.pattern (value_breaches s (bound s stand a.pattern) e (source_value_of a.body)) ++ arms_breaches s (drop (i + 1) stands) e var (drop (i + 1) arms)
arms_breaches_at s stands e var arms i stand a es ea = ap (λ z. arms_breaches s z e var (drop i arms)) es ∙ ap (arms_breaches s (stand ∷ drop (i + 1) stands) e var) ea

arms_core_at : (s : Setting) (stands : List Stand) (e : Option ℕ) (arms : List SourceValueArm) (i : ℕ) (stand : Stand) (a : SourceValueArm) → drop i stands ≡ stand ∷ drop (i + 1) stands → drop i arms ≡ a ∷ drop (i + 1) arms → arms_core s (drop i stands) e (drop i arms) ≡ join_value_arms (arms_core s (stand ∷ []) e (a ∷ [])) (arms_core s (drop (i + 1) stands) e (drop (i + 1) arms))
arms_core_at s stands e arms i stand a es ea = ap (λ z. arms_core s z e (drop i arms)) es ∙ ap (arms_core s (stand ∷ drop (i + 1) stands) e) ea

pub arms_stop : (s : Setting) (stands : List Stand) (e : Option ℕ) (var : Name) (arms : List SourceValueArm) (i : ℕ) (values : List ValueArm) (bodies : List Arm) (first next : ℕ) (stand : Stand) (a : SourceValueArm) (stop : Stop) → ArmsSoFar s stands e var arms i values bodies first next → drop i stands ≡ stand ∷ drop (i + 1) stands → drop i arms ≡ a ∷ drop (i + 1) arms → StopsAt (arms_breaches s (stand ∷ []) e var (a ∷ [])) stop → StopsAt (arms_breaches s stands e var arms) stop
arms_stop s stands e var arms i values bodies first next stand a stop so es ea h =
    let one : StopsAt (arm_breaches s stand var a.pattern (value_breaches s (bound s stand a.pattern) e (source_value_of a.body))) stop = subst (λ z. StopsAt z stop) (append-nil _) h in
    subst (λ z. StopsAt z stop) (sym (so.unbroken ∙ arms_breaches_at s stands e var arms i stand a es ea)) (StopsAt-left _ _ stop one)

pub arms_more : (s : Setting) (stands : List Stand) (e : Option ℕ) (var : Name) (arms : List SourceValueArm) (i : ℕ) (values values' : List ValueArm) (bodies bodies' : List Arm) (first next next' : ℕ) (stand : Stand) (a : SourceValueArm) (value : ValueArm) (body : Arm) → ArmsSoFar s stands e var arms i values bodies first next → drop i stands ≡ stand ∷ drop (i + 1) stands → drop i arms ≡ a ∷ drop (i + 1) arms → ArmIsMade (arms_breaches s (stand ∷ []) e var (a ∷ [])) (arms_core s (stand ∷ []) e (a ∷ [])) value body next next' → values' ≡ values ++ value ∷ [] → bodies' ≡ bodies ++ body ∷ [] → ArmsSoFar s stands e var arms (i + 1) values' bodies' first next'
arms_more s stands e var arms i values values' bodies bodies' first next next' stand a value body so es ea m ev eb =
    let core = arms_core s (stand ∷ []) e (a ∷ []) in
    let rest = arms_core s (drop (i + 1) stands) e (drop (i + 1) arms) in
    let listed : value_arm_list values' ≡ join_value_arms (value_arm_list values) core = ap value_arm_list ev ∙ value_arm_list_append values (value ∷ []) ∙ ap (join_value_arms (value_arm_list values)) m.formed in
    let counted : value_arms_sites (value_arm_list values') ≡ value_arms_sites (value_arm_list values) + value_arms_sites core = ap value_arms_sites listed ∙ value_arms_sites_join (value_arm_list values) core in
    record {
      unbroken = so.unbroken ∙ arms_breaches_at s stands e var arms i stand a es ea ∙ ap (λ z. z ++ arms_breaches s (drop (i + 1) stands) e var (drop (i + 1) arms)) (sym (append-nil _) ∙ m.unbroken);
      formed = ap (λ z. join_value_arms z rest) listed ∙ value_arms_assoc (value_arm_list values) core rest ∙ ap (join_value_arms (value_arm_list values)) (sym (arms_core_at s stands e arms i stand a es ea)) ∙ so.formed;
      bodied = ap arm_list eb ∙ arm_list_append bodies (body ∷ []) ∙ ap (λ z. join_arms z (arm_list (body ∷ []))) so.bodied ∙ ap (join_arms (value_arm_bodies first (value_arm_list values))) (m.bodied ∙ ap (λ z. value_arm_bodies z core) so.numbered) ∙ sym (arm_bodies_join first (value_arm_list values) core) ∙ ap (value_arm_bodies first) (sym listed);
      numbered = omega (arith, m.numbered, so.numbered, counted);
      room = record {
        charges = omega (arith, so.room.charges, ap arms_statements ea);
        sites = omega (arith, so.room.sites, ap arms_statements ea, m.numbered, sites_within s (bound s stand a.pattern) e (source_value_of a.body));
      };
    }

pub arms_end : (s : Setting) (stands : List Stand) (e : Option ℕ) (var : Name) (arms : List SourceValueArm) (i : ℕ) (values : List ValueArm) (bodies : List Arm) (first next : ℕ) → length arms ≤ i → ArmsSoFar s stands e var arms i values bodies first next → ArmsAreMade (arms_breaches s stands e var arms) (arms_core s stands e arms) values bodies first next
arms_end s stands e var arms i values bodies first next past so =
    let none : drop i arms ≡ [] = drop_all i arms past in
    let listed : value_arm_list values ≡ arms_core s stands e arms = sym (value_arms_none (value_arm_list values)) ∙ ap (λ z. join_value_arms (value_arm_list values) (arms_core s (drop i stands) e z)) (sym none) ∙ so.formed in
    record {
      unbroken = so.unbroken ∙ ap (arms_breaches s (drop i stands) e var) none;
      formed = listed;
      bodied = so.bodied ∙ ap (value_arm_bodies first) listed;
      numbered = so.numbered ∙ ap (λ z. first + value_arms_sites z) listed;
    }

pub arm_stops_pattern : (s : Setting) (stand : Stand) (e : Option ℕ) (var : Name) (a : SourceValueArm) (stop : Stop) → StopsAt (pattern_breaches s stand var a.pattern) stop → StopsAt (arms_breaches s (stand ∷ []) e var (a ∷ [])) stop
arm_stops_pattern s stand e var a stop h = StopsAt-left _ _ stop (StopsAt-pattern s stand var a.pattern _ stop h)
