-- Statements that are checked one behind the other.
use Rattle.std.proofs.Common.{◌≡◌, ℕ, ◌+◌, ◌<◌, ◌≤◌, List, ◌∷◌, ◌++◌, length, drop, get_or, refl, sym, ◌∙◌, ap, subst, add-zero, arith}
use Rattle.std.proofs.lemmas.List.{drop_all}
use Rattle.luo_model.specs.declared.body.Body.{Body}
use Rattle.luo_model.specs.Program as plain
use Rattle.luo_model.specs.View.{body_of}
use Rattle.luo_source.specs.declared.statements.Stmt.{Stmt}
use Rattle.luo_source.specs.View.{stmt_of, stmt_list}
use Rattle.luo_rules.specs.declared.rule.Stop.{Stop}
use Rattle.luo_rules.specs.declared.setting.Setting.{Setting}
use Rattle.luo_rules.specs.declared.setting.Variable.{Variable}
use Rattle.luo_rules.specs.Breaches.{StopsAt}
use Rattle.luo_value_types.specs.inner.Room.{HasMeasuresWithin, HasRoom}
use Rattle.luo_rules.specs.inner.ValueMade.{extended}
use Rattle.luo_rules.proofs.Joins.{extended_none, extended_assoc}
use Rattle.luo_value_types.proofs.StopLemmas.{StopsAt-left}
use Rattle.luo_rules.specs.Counted.{stmt_statements, stmts_statements}
use Rattle.luo_rules.specs.StatementBreaches.{stmt_breaches, stmts_breaches}
use Rattle.luo_rules.specs.StatementCore.{stmt_own, stmt_sites, stmts_sites}
use Rattle.luo_rules.specs.inner.StatementLists.{stmt_does, stmts_does}
use Rattle.luo_types.specs.inner.StatementsMade.{IsStmtAdded, AreStmtsAdded}
use Rattle.luo_types.proofs.ArmsSoFar.{at-element}
use Rattle.luo_types.proofs.StatementRoom.{own-within, sites-within, room-first, room-rest}

-- what is left of statements is to be checked as all were from the start
pub record StmtsSoFar (s : Setting) (scope : List Variable) (stmts left : List Stmt) (old body : Body) (first next : ℕ) : Type 0 where
  pub unbroken : stmts_breaches s scope (stmt_list stmts) ≡ stmts_breaches s scope (stmt_list left)
  pub behind : extended (body_of body) (stmts_does s scope next (stmt_list left)) ≡ extended (body_of old) (stmts_does s scope first (stmt_list stmts))
  pub numbered : next + stmts_sites (stmt_list left) ≡ first + stmts_sites (stmt_list stmts)
  pub room : HasRoom (stmts_statements (stmt_list left)) body.own next

abbrev pub own_of : plain.Body → ℕ
own_of (plain.Does own items) = own

module _ (s : Setting) (scope : List Variable) (stmts : List Stmt) (old : Body) (first : ℕ) where
  pub so_far-none : HasRoom (stmts_statements (stmt_list stmts)) old.own first → StmtsSoFar s scope stmts stmts old old first first
  so_far-none room = record { unbroken = refl; behind = refl; numbered = refl; room = room }

  pub so_far-room : (stmt : Stmt) (rest : List Stmt) (body : Body) (next : ℕ) → StmtsSoFar s scope stmts (stmt ∷ rest) old body first next → HasRoom (stmt_statements (stmt_of stmt)) body.own next
  so_far-room stmt rest body next so = room-first _ (stmts_statements (stmt_list rest)) _ _ so.room

  pub so_far-stop : (stmt : Stmt) (rest : List Stmt) (body : Body) (next : ℕ) (e : Stop) → StmtsSoFar s scope stmts (stmt ∷ rest) old body first next → StopsAt (stmt_breaches s scope (stmt_of stmt)) e → StopsAt (stmts_breaches s scope (stmt_list stmts)) e
  so_far-stop stmt rest body next e so at = subst (λ bs. StopsAt bs e) (sym so.unbroken) (StopsAt-left _ (stmts_breaches s scope (stmt_list rest)) e at)

  pub so_far-more : (stmt : Stmt) (rest : List Stmt) (body new : Body) (next after : ℕ) → HasMeasuresWithin s → StmtsSoFar s scope stmts (stmt ∷ rest) old body first next
      → IsStmtAdded s scope stmt body new next after → StmtsSoFar s scope stmts rest old new first after
  so_far-more stmt rest body new next after within so added =
      let room = room-rest _ (stmts_statements (stmt_list rest)) _ _ (stmt_own s (stmt_of stmt)) (stmt_sites (stmt_of stmt)) so.room (own-within s (stmt_of stmt) within) (sites-within (stmt_of stmt)) in
      record {
        unbroken = so.unbroken ∙ ap (λ bs. bs ++ stmts_breaches s scope (stmt_list rest)) added.unbroken;
        behind =
            ap (λ b. extended b (stmts_does s scope after (stmt_list rest))) added.behind
            ∙ extended_assoc (body_of body) (stmt_does s scope next (stmt_of stmt)) (stmts_does s scope after (stmt_list rest))
            ∙ ap (λ n. extended (body_of body) (extended (stmt_does s scope next (stmt_of stmt)) (stmts_does s scope n (stmt_list rest)))) added.numbered
            ∙ so.behind;
        numbered = omega (arith, so.numbered, added.numbered);
        room = subst (λ n. HasRoom (stmts_statements (stmt_list rest)) n after) (sym (ap own_of added.behind)) (subst (HasRoom (stmts_statements (stmt_list rest)) (body.own + stmt_own s (stmt_of stmt))) (sym added.numbered) room);
      }

  -- what is left at a statement
  pub at-stmt : (i : ℕ) (stmt : Stmt) (body : Body) (next : ℕ) → StmtsSoFar s scope stmts (drop i stmts) old body first next → i < length stmts → stmt ≡ get_or stmts i stmt → StmtsSoFar s scope stmts (stmt ∷ drop (i + 1) stmts) old body first next
  at-stmt i stmt body next so h is = subst (λ l. StmtsSoFar s scope stmts l old body first next) (at-element stmts i stmt h is) so

  pub so_far-all : (i : ℕ) (body : Body) (next : ℕ) → StmtsSoFar s scope stmts (drop i stmts) old body first next → length stmts ≤ i → AreStmtsAdded s scope stmts old body first next
  so_far-all i body next left h =
      let so = subst (λ l. StmtsSoFar s scope stmts l old body first next) (drop_all i stmts h) left in
      record {
        unbroken = so.unbroken;
        behind = sym (extended_none (body_of body)) ∙ so.behind;
        numbered = sym (add-zero next) ∙ so.numbered;
      }
