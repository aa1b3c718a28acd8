-- How single statements are checked and added.
use Rattle.std.proofs.Common.{◌≡◌, ℕ, ◌+◌, ◌<◌, List, [], ◌∷◌, Some, true, length, nat_eq, refl, sym, ◌∙◌, ap, subst, add-zero, arith}
use Rattle.luo_model.specs.declared.body.Arm.{Arm}
use Rattle.luo_model.specs.declared.body.Body.{Body}
use Rattle.luo_model.specs.declared.body.Item.{Item}
use Rattle.luo_model.specs.declared.body.Item as done
use Rattle.luo_model.specs.Program as plain
use Rattle.luo_model.specs.Scopes.Stands.{stands}
use Rattle.luo_model.specs.View.{body_of, item_of, item_list}
use Rattle.luo_source.specs.declared.names.Name.{Name}
use Rattle.luo_source.specs.declared.statements.SourceArm.{SourceArm}
use Rattle.luo_source.specs.declared.statements.Stmt.{Stmt, Skip, Charge, Call, Block, Case, Forall}
use Rattle.luo_source.specs.View.{stmt_of, stmt_list, source_arm_list}
use Rattle.luo_model.specs.declared.program.Part.{Part}
use Rattle.luo_rules.specs.declared.names.Meaning.TheVariants.{Procedure}
use Rattle.luo_rules.specs.declared.rule.Breach.{Breach}
use Rattle.luo_rules.specs.declared.rule.Stop.{Stop}
use Rattle.luo_rules.specs.declared.setting.Setting.{Setting}
use Rattle.luo_rules.specs.declared.setting.Variable.{Variable}
use Rattle.luo_rules.specs.Breaches.{StopsAt}
use Rattle.luo_rules.specs.Meanings.{measure_use, procedure_use, value_of, procedure_of}
use Rattle.luo_rules.specs.Patterns.{case_breaches}
use Rattle.luo_rules.specs.Settings.{meant, signature_meant, shape_at, found, place_of, argument_breaches, case_stands}
use Rattle.luo_value_types.specs.inner.Items.{HasItem}
use Rattle.luo_value_types.specs.inner.Room.{HasRoom}
use Rattle.luo_rules.specs.inner.ValueMade.{extended}
use Rattle.luo_model.proofs.ViewLemmas.{case_item, walk_item}
use Rattle.luo_rules.proofs.Joins.{items_none, extended_none, extended_empty}
use Rattle.luo_value_types.proofs.StopLemmas.{none-append, case-arms}
use Rattle.luo_rules.specs.Counted.{stmt_statements, stmts_statements, arms_statements}
use Rattle.luo_rules.specs.StatementBreaches.{walk_breaches, stmt_breaches, stmts_breaches, arms_breaches}
use Rattle.luo_rules.specs.StatementCore.{stmt_sites, arms_sites, arms_core}
use Rattle.luo_rules.specs.inner.StatementLists.{stmt_does}
use Rattle.luo_types.specs.inner.StatementsMade.{IsStmtAdded, AreStmtsAdded, AreArmsMade, IsWalked}
use Rattle.luo_types.proofs.StatementRoom.{sites-within, arm_sites-within, room-inside}
use Rattle.luo_rules.proofs.StatementForms.{block-breaches, block-does, block-sites, block-statements, case-breaches, case-does, case-sites, case-statements, walk_scope, walk-breaches, walk-does, walk-sites, walk-statements}

module _ (s : Setting) (scope : List Variable) (old new : Body) (first : ℕ) where
  pub skip-added : IsStmtAdded s scope Skip old old first first
  skip-added = record { unbroken = refl; behind = sym (extended_none (body_of old)); numbered = sym (add-zero first) }

  pub charge-added : (measure : Name) → measure_use (meant s measure) measure ≡ [] → new ≡ record { own = old.own + value_of (meant s measure); items = old.items } → IsStmtAdded s scope (Charge measure) old new first first
  charge-added measure e same = record {
    unbroken = e;
    behind = ap body_of same ∙ ap (plain.Does (old.own + value_of (meant s measure))) (sym (items_none (item_list old.items)));
    numbered = sym (add-zero first);
  }

  pub call-added : (callee arg : Name) (f place : ℕ) → procedure_use (meant s callee) callee ≡ [] → meant s callee ≡ Some (Procedure f)
      → argument_breaches (found scope arg) (signature_meant s (meant s callee)).on arg callee ≡ [] → place ≡ place_of (found scope arg)
      → HasItem (plain.Call place f first) old new → IsStmtAdded s scope (Call callee arg) old new first (first + 1)
  call-added callee arg f place u m a p has = record {
    unbroken = none-append _ _ u a;
    behind = has ∙ ap (λ n. extended (body_of old) (plain.Does 0 (plain.item (plain.Call n f first) plain.no_items))) p
        ∙ ap (λ n. extended (body_of old) (plain.Does 0 (plain.item (plain.Call (place_of (found scope arg)) n first) plain.no_items))) (sym (ap procedure_of m));
    numbered = refl;
  }

  inner_breaches : (var : Name) (arms : List SourceArm) (v : ℕ × Part) → found scope var ≡ Some v → nat_eq (length arms) (length (case_stands s (found scope var))) ≡ true
      → stmt_breaches s scope (stmt_of (Case var arms)) ≡ arms_breaches s (stands v.1 (shape_at s v.1.node)) var (source_arm_list arms)
  inner_breaches var arms v e f =
      case-breaches s scope var arms ∙ case-arms s (found scope var) v var (length arms) _ e f ∙ ap (λ o. arms_breaches s (case_stands s o) var (source_arm_list arms)) e

  pub case-added : (var : Name) (arms : List SourceArm) (v : ℕ × Part) (made : List Arm) (mid : ℕ) → found scope var ≡ Some v → nat_eq (length arms) (length (case_stands s (found scope var))) ≡ true
      → AreArmsMade s (stands v.1 (shape_at s v.1.node)) var arms made first mid → (site next : ℕ) → site ≡ mid → next ≡ mid + 1 → HasItem (item_of (done.Case v.0 made site)) old new → IsStmtAdded s scope (Case var arms) old new first next
  case-added var arms v made mid e f are site next here left has =
      let core = arms_core s (stands v.1 (shape_at s v.1.node)) first (source_arm_list arms) in
      record {
        unbroken = inner_breaches var arms v e f ∙ are.unbroken;
        behind =
            has
            ∙ ap (λ n. extended (body_of old) (plain.Does 0 (plain.item (item_of (done.Case v.0 made n)) plain.no_items))) here
            ∙ ap (λ i. extended (body_of old) (plain.Does 0 (plain.item i plain.no_items)))
            (case_item v.0 made mid ∙ ap (λ l. plain.Case v.0 l mid) are.formed ∙ ap (plain.Case v.0 core) are.numbered
            ∙ ap (λ o. plain.Case (place_of o) (arms_core s (case_stands s o) first (source_arm_list arms)) (first + arms_sites (source_arm_list arms))) (sym e))
            ∙ ap (extended (body_of old)) (sym (case-does s scope first var arms));
        numbered = omega (arith, left, are.numbered, case-sites var arms);
      }

  pub case-stops : (var : Name) (arms : List SourceArm) (v : ℕ × Part) (at : Stop) → found scope var ≡ Some v → nat_eq (length arms) (length (case_stands s (found scope var))) ≡ true
      → StopsAt (arms_breaches s (stands v.1 (shape_at s v.1.node)) var (source_arm_list arms)) at → StopsAt (stmt_breaches s scope (stmt_of (Case var arms))) at
  case-stops var arms v at e f h = subst (λ bs. StopsAt bs at) (sym (inner_breaches var arms v e f)) h

  pub walk-added : (var source : Name) (inner : Stmt) (w : ℕ × Part) (empty body : Body) (mid : ℕ) → IsWalked s (found scope source) source w → body_of empty ≡ plain.Does 0 plain.no_items
      → IsStmtAdded s (record { name = var.text; part = w.1 } ∷ []) inner empty body first mid
      → (body_site site next : ℕ) → body_site ≡ mid → site ≡ mid + 1 → next ≡ mid + 2 → HasItem (item_of (done.Forall w.0 body body_site site)) old new → IsStmtAdded s scope (Forall var source inner) old new first next
  walk-added var source inner w empty body mid is none added body_site site next here there left has =
      let inside = walk_scope s scope var source in
      let same : record { name = var.text; part = w.1 } ∷ [] ≡ inside = ap (λ z. record { name = var.text; part = z } ∷ []) is.part in
      let added' = subst (λ sc. IsStmtAdded s sc inner empty body first mid) same added in
      let does : body_of body ≡ stmt_does s inside first (stmt_of inner) = added'.behind ∙ ap (λ b. extended b (stmt_does s inside first (stmt_of inner))) none ∙ extended_empty _ in
      record {
        unbroken = walk-breaches s scope var source inner ∙ is.into _ ∙ added'.unbroken;
        behind =
            has
            ∙ ap (λ n. extended (body_of old) (plain.Does 0 (plain.item (item_of (done.Forall w.0 body n site)) plain.no_items))) here
            ∙ ap (λ n. extended (body_of old) (plain.Does 0 (plain.item (item_of (done.Forall w.0 body mid n)) plain.no_items))) there
            ∙ ap (λ i. extended (body_of old) (plain.Does 0 (plain.item i plain.no_items)))
            (walk_item w.0 body mid (mid + 1) ∙ ap (λ b. plain.Forall w.0 b mid (mid + 1)) does ∙ ap (λ n. plain.Forall w.0 (stmt_does s inside first (stmt_of inner)) n (n + 1)) added'.numbered
            ∙ ap (λ n. plain.Forall n (stmt_does s inside first (stmt_of inner)) (first + stmt_sites (stmt_of inner)) (first + stmt_sites (stmt_of inner) + 1)) is.place)
            ∙ ap (extended (body_of old)) (sym (walk-does s scope first var source inner));
        numbered = omega (arith, left, added'.numbered, walk-sites var source inner);
      }

  pub walk-stops : (var source : Name) (inner : Stmt) (w : ℕ × Part) (at : Stop) → IsWalked s (found scope source) source w → StopsAt (stmt_breaches s (record { name = var.text; part = w.1 } ∷ []) (stmt_of inner)) at
      → StopsAt (stmt_breaches s scope (stmt_of (Forall var source inner))) at
  walk-stops var source inner w at is h =
      let inside = walk_scope s scope var source in
      let same : record { name = var.text; part = w.1 } ∷ [] ≡ inside = ap (λ z. record { name = var.text; part = z } ∷ []) is.part in
      subst (λ bs. StopsAt bs at) (sym (walk-breaches s scope var source inner ∙ is.into _)) (subst (λ sc. StopsAt (stmt_breaches s sc (stmt_of inner)) at) same h)

  pub block-added : (stmts : List Stmt) (next : ℕ) → AreStmtsAdded s scope stmts old new first next → IsStmtAdded s scope (Block stmts) old new first next
  block-added stmts next are = record {
    unbroken = block-breaches s scope stmts ∙ are.unbroken;
    behind = are.behind ∙ ap (extended (body_of old)) (sym (block-does s scope first stmts));
    numbered = are.numbered ∙ ap (λ n. first + n) (sym (block-sites stmts));
  }

pub block-stops : (s : Setting) (scope : List Variable) (stmts : List Stmt) (at : Stop) → StopsAt (stmts_breaches s scope (stmt_list stmts)) at → StopsAt (stmt_breaches s scope (stmt_of (Block stmts))) at
block-stops s scope stmts at h = subst (λ bs. StopsAt bs at) (sym (block-breaches s scope stmts)) h

pub block-room : (stmts items : List Stmt) (stmt : Stmt) (own next : ℕ) → stmt ≡ Block stmts → items ≡ stmts → HasRoom (stmt_statements (stmt_of stmt)) own next → HasRoom (stmts_statements (stmt_list items)) own next
block-room stmts items stmt own next e f room = subst (λ n. HasRoom n own next) (ap (λ z. stmt_statements (stmt_of z)) e ∙ block-statements stmts ∙ ap (λ z. stmts_statements (stmt_list z)) (sym f)) room

pub case-room : (var : Name) (arms : List SourceArm) (own next : ℕ) → HasRoom (stmt_statements (stmt_of (Case var arms))) own next → HasRoom (arms_statements (source_arm_list arms)) 0 next
case-room var arms own next room = room-inside _ own next (subst (λ n. HasRoom n own next) (case-statements var arms) room)

pub walk-room : (var source : Name) (inner : Stmt) (own next : ℕ) → HasRoom (stmt_statements (stmt_of (Forall var source inner))) own next → HasRoom (stmt_statements (stmt_of inner)) 0 next
walk-room var source inner own next room = room-inside _ own next (subst (λ n. HasRoom n own next) (walk-statements var source inner) room)

-- sites are within their limit behind the arms of a case and the body of a walk
pub case-site : (var : Name) (arms : List SourceArm) (own next after : ℕ) → HasRoom (stmt_statements (stmt_of (Case var arms))) own next → after ≡ next + arms_sites (source_arm_list arms) → after < 8589934592
case-site var arms own next after room e = omega (arith, room.sites, case-statements var arms, arm_sites-within (source_arm_list arms), e)

pub walk-site : (var source : Name) (inner : Stmt) (own next after : ℕ) → HasRoom (stmt_statements (stmt_of (Forall var source inner))) own next → after ≡ next + stmt_sites (stmt_of inner) → after + 1 < 8589934592
walk-site var source inner own next after room e = omega (arith, room.sites, walk-statements var source inner, sites-within (stmt_of inner), e)

-- the statement at hand is this one
pub stmt-is : (s : Setting) (scope : List Variable) (stmt one : Stmt) (old new body : Body) (first next after : ℕ) → stmt ≡ one → body ≡ new → after ≡ next → IsStmtAdded s scope one old new first next → IsStmtAdded s scope stmt old body first after
stmt-is s scope stmt one old new body first next after e f g added =
    subst (λ z. IsStmtAdded s scope z old body first after) (sym e) (subst (λ z. IsStmtAdded s scope one old z first after) (sym f) (subst (λ z. IsStmtAdded s scope one old new first z) (sym g) added))

-- an answer about a statement that is added
pub added-ok : (s : Setting) (scope : List Variable) (stmt : Stmt) (old new : Body) (first next : ℕ) → IsStmtAdded s scope stmt old new first next → (stmt_breaches s scope (stmt_of stmt) ≡ []) × (IsStmtAdded s scope stmt old new first next × Unit {0})
added-ok s scope stmt old new first next added = (added.unbroken, (added, tt))

-- a case stops at its variable
pub case-variable_stops : (s : Setting) (scope : List Variable) (var : Name) (arms : List SourceArm) (count : ℕ) (at : Stop) → count ≡ length arms → ((inner : List Breach) → StopsAt (case_breaches s (found scope var) var count inner) at)
    → StopsAt (stmt_breaches s scope (stmt_of (Case var arms))) at
case-variable_stops s scope var arms count at e h = subst (λ bs. StopsAt bs at) (ap (λ n. case_breaches s (found scope var) var n (arms_breaches s (case_stands s (found scope var)) var (source_arm_list arms))) e ∙ sym (case-breaches s scope var arms)) (h (arms_breaches s (case_stands s (found scope var)) var (source_arm_list arms)))

-- a walk stops at its variable
pub walk-variable_stops : (s : Setting) (scope : List Variable) (var source : Name) (inner : Stmt) (at : Stop) → ((inside : List Breach) → StopsAt (walk_breaches s (found scope source) source inside) at) → StopsAt (stmt_breaches s scope (stmt_of (Forall var source inner))) at
walk-variable_stops s scope var source inner at h = subst (λ bs. StopsAt bs at) (sym (walk-breaches s scope var source inner)) (h _)
