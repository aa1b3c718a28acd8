-- The texts of statements and arms in a list and in a box.
use Rattle.std.proofs.Common.{◌≡◌, ℕ, ◌+◌, List, [], ◌∷◌, ◌++◌, refl, ap, ◌∙◌, sym, map, codes}
use Rattle.std.specs.List.{join_by}
use Rattle.luo_source.specs.declared.names.Name.{Name}
use Rattle.luo_source.specs.declared.statements.SourceArm.{SourceArm}
use Rattle.luo_source.specs.declared.statements.Stmt.{Stmt, Block, Case, Forall}
use Rattle.luo_source.specs.View.{stmt_of, stmt_list, source_arm_list}
use Rattle.luo_source.proofs.ViewLemmas.{block_stmt, case_stmt, walk_stmt}
use Rattle.luo_print.specs.Layout.{new_line, lines}
use Rattle.luo_print.specs.CanonicalStatements.{pattern_text, block_of, case_of, stmt_text, stmt_texts, arm_texts}
use Rattle.luo_print.proofs.Joins.{lines_map}

-- an arm in a line of this indentation
abbrev pub arm_text : ℕ → SourceArm → List ℕ
arm_text n arm = pattern_text arm.pattern ++ codes " : " ++ stmt_text n (stmt_of arm.body)

-- a statement on a new line of this indentation
abbrev pub stmt_line : ℕ → Stmt → List ℕ
stmt_line n s = new_line n ++ stmt_text n (stmt_of s)

-- an arm on a new line of this indentation
abbrev pub arm_line : ℕ → SourceArm → List ℕ
arm_line n arm = new_line n ++ arm_text n arm

list_texts : (n : ℕ) (ss : List Stmt) → stmt_texts n (stmt_list ss) ≡ map (λ s. stmt_text n (stmt_of s)) ss
list_texts n [] = refl
list_texts n (s ∷ ss) = ap (λ t. stmt_text n (stmt_of s) ∷ t) (list_texts n ss)

arm_list_texts : (n : ℕ) (arms : List SourceArm) → arm_texts n (source_arm_list arms) ≡ map (arm_text n) arms
arm_list_texts n [] = refl
arm_list_texts n (a ∷ arms) = ap (λ t. arm_text n a ∷ t) (arm_list_texts n arms)

-- statements of a list as lines
pub stmts_joined : (n : ℕ) (ss : List Stmt) → lines n (stmt_texts n (stmt_list ss)) ≡ join_by (stmt_line n) (codes ";") ss
stmts_joined n ss = ap (lines n) (list_texts n ss) ∙ lines_map (λ s. stmt_text n (stmt_of s)) n ss

-- arms of a list as lines
pub arms_joined : (n : ℕ) (arms : List SourceArm) → lines n (arm_texts n (source_arm_list arms)) ≡ join_by (arm_line n) (codes ";") arms
arms_joined n arms = ap (lines n) (arm_list_texts n arms) ∙ lines_map (arm_text n) n arms

pub block_text : (n : ℕ) (stmts : List Stmt) → stmt_text n (stmt_of (Block stmts)) ≡ block_of n (stmt_texts (n + 2) (stmt_list stmts))
block_text n stmts = ap (stmt_text n) (block_stmt stmts)

pub case_text : (n : ℕ) (var : Name) (arms : List SourceArm) → stmt_text n (stmt_of (Case var arms)) ≡ case_of n var (arm_texts (n + 2) (source_arm_list arms))
case_text n var arms = ap (stmt_text n) (case_stmt var arms)

pub forall_text : (n : ℕ) (var source : Name) (body : Stmt) → stmt_text n (stmt_of (Forall var source body)) ≡ codes "forall " ++ var.text ++ codes " in " ++ source.text ++ codes " do " ++ stmt_text n (stmt_of body)
forall_text n var source body = ap (stmt_text n) (walk_stmt var source body)

pub put_block : (n : ℕ) (s : Stmt) (stmts items : List Stmt) → s ≡ Block stmts → items ≡ stmts → block_of n (stmt_texts (n + 2) (stmt_list items)) ≡ stmt_text n (stmt_of s)
put_block n s stmts items is same = ap (λ l. block_of n (stmt_texts (n + 2) (stmt_list l))) same ∙ sym (block_text n stmts) ∙ ap (λ z. stmt_text n (stmt_of z)) (sym is)

pub put_case : (n : ℕ) (s : Stmt) (var : Name) (arms items : List SourceArm) → s ≡ Case var arms → items ≡ arms → case_of n var (arm_texts (n + 2) (source_arm_list items)) ≡ stmt_text n (stmt_of s)
put_case n s var arms items is same = ap (λ l. case_of n var (arm_texts (n + 2) (source_arm_list l))) same ∙ sym (case_text n var arms) ∙ ap (λ z. stmt_text n (stmt_of z)) (sym is)

pub put_forall : (n : ℕ) (s : Stmt) (var source : Name) (body held : Stmt) → s ≡ Forall var source body → held ≡ body
    → codes "forall " ++ var.text ++ codes " in " ++ source.text ++ codes " do " ++ stmt_text n (stmt_of held) ≡ stmt_text n (stmt_of s)
put_forall n s var source body held is same =
    ap (λ b. codes "forall " ++ var.text ++ codes " in " ++ source.text ++ codes " do " ++ stmt_text n (stmt_of b)) same ∙ sym (forall_text n var source body) ∙ ap (λ z. stmt_text n (stmt_of z)) (sym is)
