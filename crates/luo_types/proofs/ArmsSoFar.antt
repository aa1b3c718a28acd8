-- Arms that are checked one behind the other.
use Rattle.std.proofs.Common.{◌≡◌, ℕ, zero, suc, ◌+◌, ◌<◌, ◌≤◌, List, [], ◌∷◌, ◌++◌, Some, length, drop, slice_get, get_or, refl, sym, ◌∙◌, ap, subst, add-zero, arith}
use Rattle.std.proofs.lemmas.List.{drop_all, drop_more}
use Rattle.luo_model.specs.declared.body.Arm.{Arm}
use Rattle.luo_model.specs.Program as plain
use Rattle.luo_model.specs.Scopes.Stands.{Stand}
use Rattle.luo_model.specs.View.{body_of}
use Rattle.luo_source.specs.declared.names.Name.{Name}
use Rattle.luo_source.specs.declared.statements.SourceArm.{SourceArm}
use Rattle.luo_source.specs.View.{stmt_of, source_arm_list}
use Rattle.luo_rules.specs.StatementCore.{arms_sites, arms_core}
use Rattle.luo_rules.specs.StatementBreaches.{arms_breaches}
use Rattle.luo_rules.specs.Counted.{arms_statements}
use Rattle.luo_rules.specs.declared.rule.Stop.{Stop}
use Rattle.luo_rules.specs.declared.setting.Setting.{Setting}
use Rattle.luo_rules.specs.Breaches.{StopsAt}
use Rattle.luo_rules.specs.Patterns.{bound, bind_of}
use Rattle.luo_value_types.specs.inner.Room.{HasRoom}
use Rattle.luo_model.specs.Lists.{arm_list}
use Rattle.luo_rules.proofs.Joins.{join_arms, arm_list_append}
use Rattle.luo_value_types.proofs.StopLemmas.{StopsAt-left}
use Rattle.luo_rules.specs.inner.StatementLists.{stmt_does, one_arm_breaches, arm_statements}
use Rattle.luo_types.specs.inner.StatementsMade.{IsArmMade, AreArmsMade}
use Rattle.luo_types.proofs.StatementRoom.{sites-within, room-first}

-- what is left of a list at an element
pub drop-get : {A : Type 0} (xs : List A) (i : ℕ) (x : A) → slice_get xs i ≡ Some x → drop i xs ≡ x ∷ drop (i + 1) xs
drop-get [] i x e = cc
drop-get (y ∷ ys) zero x e = cc
drop-get (y ∷ ys) (suc i) x e =
    let same : suc (i + 1) ≡ suc i + 1 = omega arith in
    drop-get ys i x e ∙ ap (λ n. x ∷ drop n (y ∷ ys)) same

pub at-element : {A : Type 0} (xs : List A) (i : ℕ) (x : A) → i < length xs → x ≡ get_or xs i x → drop i xs ≡ x ∷ drop (i + 1) xs
at-element xs i x h e = drop_more xs i x h ∙ ap (λ y. y ∷ drop (i + 1) xs) (sym e)

-- what is left of arms is to be checked as all were from the start
pub record ArmsSoFar (s : Setting) (stands stands_left : List Stand) (var : Name) (arms left : List SourceArm) (made : List Arm) (first next : ℕ) : Type 0 where
  pub unbroken : arms_breaches s stands var (source_arm_list arms) ≡ arms_breaches s stands_left var (source_arm_list left)
  pub formed : join_arms (arm_list made) (arms_core s stands_left next (source_arm_list left)) ≡ arms_core s stands first (source_arm_list arms)
  pub numbered : next + arms_sites (source_arm_list left) ≡ first + arms_sites (source_arm_list arms)
  pub room : HasRoom (arms_statements (source_arm_list left)) 0 next

arms_none : (arms : plain.Arms) → join_arms arms plain.no_arms ≡ arms
arms_none plain.no_arms = refl
arms_none (plain.arm bind body arms) = ap (plain.arm bind body) (arms_none arms)

arms_assoc : (a b c : plain.Arms) → join_arms (join_arms a b) c ≡ join_arms a (join_arms b c)
arms_assoc plain.no_arms b c = refl
arms_assoc (plain.arm bind body a) b c = ap (plain.arm bind body) (arms_assoc a b c)

module _ (s : Setting) (stands : List Stand) (var : Name) (arms : List SourceArm) (first : ℕ) where
  pub arms-none : HasRoom (arms_statements (source_arm_list arms)) 0 first → ArmsSoFar s stands stands var arms arms [] first first
  arms-none room = record { unbroken = refl; formed = refl; numbered = refl; room = room }

  pub arms-room : (stands_left : List Stand) (arm : SourceArm) (rest : List SourceArm) (made : List Arm) (next : ℕ) → ArmsSoFar s stands stands_left var arms (arm ∷ rest) made first next → HasRoom (arm_statements arm) 0 next
  arms-room stands_left arm rest made next so = room-first _ (arms_statements (source_arm_list rest)) _ _ so.room

  -- what is left at an arm
  pub at-arm : (i : ℕ) (stand : Stand) (arm : SourceArm) (made : List Arm) (next : ℕ) → ArmsSoFar s stands (drop i stands) var arms (drop i arms) made first next → slice_get stands i ≡ Some stand → i < length arms → arm ≡ get_or arms i arm
      → ArmsSoFar s stands (stand ∷ drop (i + 1) stands) var arms (arm ∷ drop (i + 1) arms) made first next
  at-arm i stand arm made next so e h is =
      subst (λ l. ArmsSoFar s stands (stand ∷ drop (i + 1) stands) var arms l made first next) (at-element arms i arm h is)
      (subst (λ l. ArmsSoFar s stands l var arms (drop i arms) made first next) (drop-get stands i stand e) so)

  pub arms-stop : (stand : Stand) (stands_left : List Stand) (arm : SourceArm) (rest : List SourceArm) (made : List Arm) (next : ℕ) (e : Stop)
      → ArmsSoFar s stands (stand ∷ stands_left) var arms (arm ∷ rest) made first next → StopsAt (one_arm_breaches s stand var arm) e → StopsAt (arms_breaches s stands var (source_arm_list arms)) e
  arms-stop stand stands_left arm rest made next e so at = subst (λ bs. StopsAt bs e) (sym so.unbroken) (StopsAt-left _ (arms_breaches s stands_left var (source_arm_list rest)) e at)

  pub arms-more : (stand : Stand) (stands_left : List Stand) (arm : SourceArm) (rest : List SourceArm) (made new : List Arm) (one : Arm) (next after : ℕ)
      → ArmsSoFar s stands (stand ∷ stands_left) var arms (arm ∷ rest) made first next → IsArmMade s stand var arm one next after → new ≡ made ++ one ∷ [] → ArmsSoFar s stands stands_left var arms rest new first after
  arms-more stand stands_left arm rest made new one next after so is e =
      let one_core = stmt_does s (bound s stand arm.pattern) next (stmt_of arm.body) in
      record {
        unbroken = so.unbroken ∙ ap (λ bs. bs ++ arms_breaches s stands_left var (source_arm_list rest)) is.unbroken;
        formed =
            ap (λ l. join_arms (arm_list l) (arms_core s stands_left after (source_arm_list rest))) e
            ∙ ap (λ l. join_arms l (arms_core s stands_left after (source_arm_list rest))) (arm_list_append made (one ∷ []))
            ∙ arms_assoc (arm_list made) (arm_list (one ∷ [])) (arms_core s stands_left after (source_arm_list rest))
            ∙ ap (λ b. join_arms (arm_list made) (plain.arm b (body_of one.body) (arms_core s stands_left after (source_arm_list rest)))) is.binds
            ∙ ap (λ b. join_arms (arm_list made) (plain.arm (bind_of arm.pattern) b (arms_core s stands_left after (source_arm_list rest)))) is.does
            ∙ ap (λ n. join_arms (arm_list made) (plain.arm (bind_of arm.pattern) one_core (arms_core s stands_left n (source_arm_list rest)))) is.numbered
            ∙ so.formed;
        numbered = omega (arith, so.numbered, is.numbered);
        room = record {
          charges = omega (arith, so.room.charges);
          sites = omega (arith, so.room.sites, is.numbered, sites-within (stmt_of arm.body));
        };
      }

  pub arms-all : (i : ℕ) (made : List Arm) (next : ℕ) → ArmsSoFar s stands (drop i stands) var arms (drop i arms) made first next → length arms ≤ i → AreArmsMade s stands var arms made first next
  arms-all i made next left h =
      let so = subst (λ l. ArmsSoFar s stands (drop i stands) var arms l made first next) (drop_all i arms h) left in
      record {
        unbroken = so.unbroken;
        formed = sym (arms_none (arm_list made)) ∙ so.formed;
        numbered = sym (add-zero next) ∙ so.numbered;
      }
