-- Statements in the lists and boxes of statements.
use Rattle.std.proofs.Common.{◌≡◌, suc, ◌+◌, List, [], ◌∷◌, refl, ap, ◌∙◌, sym, sum_by}
use Rattle.std.proofs.lemmas.List.Sums.{sum_by-cons}
use Rattle.luo_source.specs.declared.names.Name.{Name}
use Rattle.luo_source.specs.declared.statements.SourceArm.{SourceArm}
use Rattle.luo_source.specs.declared.statements.Stmt.{Stmt, Block, Case, Forall}
use Rattle.luo_source.specs.View.{stmt_list, source_arm_list}
use Rattle.luo_rules.specs.Counted.{stmts_statements, arms_statements}
use Rattle.luo_rules.proofs.StatementForms.{block-statements, case-statements, walk-statements}
use Rattle.luo_types.specs.inner.Held.{statements_in}

pub stmts_counted : (stmts : List Stmt) → stmts_statements (stmt_list stmts) ≡ sum_by statements_in stmts
stmts_counted [] = refl
stmts_counted (s ∷ stmts) = ap (λ n. statements_in s + n) (stmts_counted stmts) ∙ sym (sum_by-cons statements_in s stmts)

arms_counted : (arms : List SourceArm) → arms_statements (source_arm_list arms) ≡ sum_by (λ a. statements_in a.body) arms
arms_counted [] = refl
arms_counted (a ∷ arms) = ap (λ n. statements_in a.body + n) (arms_counted arms) ∙ sym (sum_by-cons (λ (a : SourceArm). statements_in a.body) a arms)

pub block_statements : (s : Stmt) (stmts items : List Stmt) → s ≡ Block stmts → items ≡ stmts → statements_in s ≡ sum_by statements_in items
block_statements s stmts items is same = ap statements_in is ∙ block-statements stmts ∙ stmts_counted stmts ∙ ap (sum_by statements_in) (sym same)

pub case_statements : (s : Stmt) (var : Name) (arms items : List SourceArm) → s ≡ Case var arms → items ≡ arms → statements_in s ≡ suc (sum_by (λ a. statements_in a.body) items)
case_statements s var arms items is same = ap statements_in is ∙ case-statements var arms ∙ ap suc (arms_counted arms ∙ ap (sum_by (λ (a : SourceArm). statements_in a.body)) (sym same))

pub forall_statements : (s : Stmt) (var source : Name) (body held : Stmt) → s ≡ Forall var source body → held ≡ body → statements_in s ≡ suc (statements_in held)
forall_statements s var source body held is same = ap statements_in is ∙ walk-statements var source body ∙ ap (λ b. suc (statements_in b)) (sym same)
