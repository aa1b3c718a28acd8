-- A sample walks over at most 20 multisets and powersets.
use Rattle.std.proofs.Common.{◌≡◌, ◌≤◌, ◌+◌, ℕ, zero, suc, List, [], ◌∷◌, refl, arith, sum_by}
use Rattle.std.proofs.lemmas.List.Sums.{sum_by-cons}
use Rattle.luo_model.specs.declared.program.Universe.{Universe}
use Rattle.luo_model.specs.declared.program.Kind.TheVariants.{Sequence, Set, Cycle, Multiset, Powerset}
use Rattle.luo_model.specs.declared.program.Part.{Part}
use Rattle.luo_model.specs.declared.program.Shape.{Shape}
use Rattle.luo_model.specs.declared.program.Shape.TheVariants as shape
use Rattle.luo_model.specs.Program as plain
use Rattle.luo_model.specs.Program.{Program, Procedure}
use Rattle.luo_model.specs.Scopes.Stands.{Stand}
use Rattle.luo_model.specs.Scopes.ValueBodies.{join_items}
use Rattle.luo_model.specs.Scopes.Walks.{multiset_of, body_walks, items_walks, arms_walks}
use Rattle.luo_source.specs.Plain.Statements.{Stmt, Skip, Charge, Call, Block, Case, Forall, Stmts, no_stmts, a_stmt, SourceArms, no_source_arms, a_source_arm}
use Rattle.luo_source.specs.Plain.Source.{ProcBody, Statements, Value, ProcDef, Source}
use Rattle.luo_rules.specs.declared.setting.Setting.{Setting}
use Rattle.luo_rules.specs.declared.setting.Variable.{Variable}
use Rattle.luo_rules.specs.StatementCore.{stmt_sites, stmt_items, stmts_items, arms_core}
use Rattle.luo_rules.specs.Nodes.{setting_of}
use Rattle.luo_rules.specs.Whole.{parameter, core, sites_of, proc_core, procs_core, walk_count}
use Rattle.luo_sample.specs.declared.choice.Choice.{Choice}
use Rattle.luo_sample.proofs.Form.{IsSource, AreProcs, proc_of, proc_form}

abbrev mutual
  -- the walks that are written in a statement
  foralls : Stmt → ℕ
  foralls (Block stmts) = all_foralls stmts
  foralls (Case var arms) = arms_foralls arms
  foralls (Forall var source body) = suc (foralls body)
  foralls _ = 0

  all_foralls : Stmts → ℕ
  all_foralls no_stmts = 0
  all_foralls (a_stmt stmt rest) = foralls stmt + all_foralls rest

  arms_foralls : SourceArms → ℕ
  arms_foralls no_source_arms = 0
  arms_foralls (a_source_arm pattern body rest) = foralls body + arms_foralls rest

abbrev stmts_in : ProcBody → Stmts
stmts_in (Statements stmts) = stmts
stmts_in (Value colon result value) = no_stmts

at_most_one : (s : Shape) → multiset_of s ≤ 1
at_most_one (shape.Atom w) = omega arith
at_most_one (shape.Union parts) = omega arith
at_most_one (shape.Product parts) = omega arith
at_most_one (shape.Coll Sequence part low high) = omega arith
at_most_one (shape.Coll Set part low high) = omega arith
at_most_one (shape.Coll Cycle part low high) = omega arith
at_most_one (shape.Coll Multiset part low high) = omega arith
at_most_one (shape.Coll Powerset part low high) = omega arith

add_none : {a b : ℕ} → a ≤ b → a + 0 ≤ b
add_none l = omega (arith, l)

one_more : {a b c : ℕ} → a ≤ 1 → b ≤ c → a + b ≤ suc c
one_more l m = omega (arith, l, m)

added : {a b c d : ℕ} → a ≤ c → b ≤ d → a + b ≤ c + d
added l m = omega (arith, l, m)

joined : (p : Program) (vars : List Part) (is js : plain.Items) → items_walks p vars (join_items is js) ≡ items_walks p vars is + items_walks p vars js
joined p vars plain.no_items js = omega arith
joined p vars (plain.item i is) js = omega (arith, joined p vars is js)

module _ (p : Program) (s : Setting) where
  mutual
    walks_of : (stmt : Stmt) (vars : List Part) (scope : List Variable) (first : ℕ) → items_walks p vars (stmt_items s scope first stmt) ≤ foralls stmt
    walks_of Skip vars scope first = omega arith
    walks_of (Charge measure) vars scope first = omega arith
    walks_of (Call callee arg) vars scope first = omega arith
    walks_of (Block stmts) vars scope first = all_walks_of stmts vars scope first
    walks_of (Case var arms) vars scope first = add_none (arms_walks_of arms _ _ first)
    walks_of (Forall var source body) vars scope first = add_none (one_more (at_most_one _) (walks_of body _ _ first))

    all_walks_of : (row : Stmts) (vars : List Part) (scope : List Variable) (first : ℕ) → items_walks p vars (stmts_items s scope first row) ≤ all_foralls row
    all_walks_of no_stmts vars scope first = omega arith
    all_walks_of (a_stmt stmt rest) vars scope first = omega (arith, joined p vars (stmt_items s scope first stmt) (stmts_items s scope (first + stmt_sites stmt) rest), walks_of stmt vars scope first, all_walks_of rest vars scope (first + stmt_sites stmt))

    arms_walks_of : (row : SourceArms) (over : List Stand) (from : List Stand) (first : ℕ) → arms_walks p over (arms_core s from first row) ≤ arms_foralls row
    arms_walks_of no_source_arms [] from first = omega arith
    arms_walks_of no_source_arms (other ∷ over) from first = omega arith
    arms_walks_of (a_source_arm pattern body rest) [] [] first = omega arith
    arms_walks_of (a_source_arm pattern body rest) (other ∷ over) [] first = omega arith
    arms_walks_of (a_source_arm pattern body rest) [] (stand ∷ from) first = omega arith
    arms_walks_of (a_source_arm pattern body rest) (other ∷ over) (stand ∷ from) first = added (walks_of body _ _ first) (arms_walks_of rest over from _)

  one_forall : (i : ℕ) (c : Choice) (ks : List ℕ) → all_foralls (stmts_in (proc_form i c ks).body) ≡ 1
  one_forall i c ks = refl

  procs_walks : (choices : ℕ → Choice) (i n : ℕ) (ps : List ProcDef) → AreProcs choices i n ps → (first : ℕ) → sum_by (λ (P : Procedure). body_walks p (P.on ∷ []) P.body) (procs_core s first ps) ≤ n
  procs_walks choices i zero [] e first = omega arith
  procs_walks choices i zero (x ∷ ps) e first = absurd e
  procs_walks choices i (suc n) [] e first = absurd e
  procs_walks choices i (suc n) (_ ∷ ps) (proc_of ks, e) first =
      let P : Procedure = proc_core s first (proc_form i (choices i) ks) in
      let rest : List Procedure = procs_core s (first + sites_of s (proc_form i (choices i) ks) (proc_form i (choices i) ks).body + 1) ps in
      let few : body_walks p (P.on ∷ []) P.body ≤ all_foralls (stmts_in (proc_form i (choices i) ks).body) = all_walks_of (stmts_in (proc_form i (choices i) ks).body) (P.on ∷ []) (parameter s (proc_form i (choices i) ks)) first in
      omega (arith, sum_by-cons (λ (P : Procedure). body_walks p (P.on ∷ []) P.body) P rest, few, one_forall i (choices i) ks, procs_walks choices (suc i) n ps e (first + sites_of s (proc_form i (choices i) ks) (proc_form i (choices i) ks).body + 1))

-- the walks are within their limit
pub few_walks : (u : Universe) (choices : ℕ → Choice) (s : Source) → IsSource u choices s → walk_count (core s) ≤ 32
few_walks u choices s q = omega (arith, procs_walks (core s) (setting_of s) choices 0 20 s.procs q.procs 0)
