-- The lines of a sample are read: each as its definition or procedure, with few brackets open.
use Rattle.std.proofs.Common.{◌≤◌, ◌<◌, ◌^◌, ℕ, List, [], ◌∷◌, refl, inr, arith, codes}
use denote.Hole.Carrier.{hidden}
use Rattle.luo_scan.specs.declared.token.Word.{Word}
use Rattle.luo_scan.specs.declared.token.Word.TheVariants.{KwType, KwProduct, KwSequence, KwSet, KwCycle, KwMultiset, KwPowerset, KwIn, KwProcedure, KwBegin, KwEnd, KwCase, KwOf, KwForall, KwDo, KwSkip}
use Rattle.luo_scan.specs.declared.token.Mark.TheVariants.{Semicolon, Comma, Equals, Bar, LeftRound, RightRound, Colon}
use Rattle.luo_scan.specs.declared.token.TokenKind.TheVariants as kind
use Rattle.luo_scan.specs.Lexemes.{Lexeme}
use Rattle.luo_model.specs.declared.program.Universe.{Universe}
use Rattle.luo_model.specs.declared.program.Kind.{Kind}
use Rattle.luo_model.specs.declared.program.Kind.TheVariants.{Sequence, Set, Cycle, Multiset, Powerset}
use Rattle.luo_source.specs.declared.types.TypeDef.{TypeDef}
use Rattle.luo_source.specs.declared.source.ProcDef.{ProcDef}
use Rattle.luo_source.specs.View.{type_def_of, proc_def_of}
use Rattle.luo_source.specs.GrammarTypes.{last_name, more_names, IsCollection, sequence, set, cycle, multiset, powerset, unbounded, one_term, union, last_term, more_terms, named, product, collection, last_factor, more_factors, IsTypeDef, type_def}
use Rattle.luo_source.specs.GrammarStatements.{pattern_named, pattern_parts, full_block, last_stmt, more_stmts, simple_stmt, case_stmt, forall_stmt, block_stmt, skip_stmt, charge_stmt, call_stmt, last_arm, more_arms, one_arm}
use Rattle.luo_source.specs.Grammar.{statements_body, IsProc, proc}
use Rattle.luo_print.specs.CanonicalTypes.{kind_text}
use Rattle.luo_print.proofs.Cuts.{Quiet, Any, Reads, Then, Takes, takes, seq, next, read_as, word_reads, name_reads, spaced, lined, line_before, quiet_space, quiet_line}
use Rattle.luo_print.proofs.TypesBack.{quiet_close, quiet_comma, quiet_semicolon}
use Rattle.luo_print.proofs.Literals as lit
use Rattle.luo_print.proofs.Literals.{TakesWord, TakesMark}
use Rattle.luo_sample.specs.declared.choice.Choice.{Choice}
use Rattle.luo_sample.specs.Text.{kind_chosen, type_name, proc_name, type_line, proc_lines}
use Rattle.luo_sample.proofs.Form.{IsTypeOf, type_of, IsProcOf, proc_of}
use Rattle.luo_sample.proofs.Calm.{Calm}
use Rattle.luo_sample.proofs.Names.{numbered_fit, letter_fit, unit_fit}

-- a small letter
abbrev IsSmall : ℕ → Type 0
IsSmall b = (97 ≤ b) × (b ≤ 122)

pub letter_at : (b : ℕ) → IsSmall b → Reads Quiet (b ∷ []) (Takes kind.Name (b ∷ []))
letter_at b s = name_reads (b ∷ []) 0 (letter_fit b 0 (inr s))

pub unit_reads : Reads Quiet (codes "unit") (Takes kind.Name (codes "unit"))
unit_reads = name_reads (codes "unit") 0 (unit_fit 0)

pub type_reads : (i : ℕ) → i < 2 ^ 64 → Reads Quiet (type_name i) (Takes kind.Name (type_name i))
type_reads i l = name_reads (type_name i) 0 (numbered_fit 116 i 0 (inr (omega arith, omega arith)) l)

pub proc_reads : (i : ℕ) → i < 2 ^ 64 → Reads Quiet (proc_name i) (Takes kind.Name (proc_name i))
proc_reads i l = name_reads (proc_name i) 0 (numbered_fit 112 i 0 (inr (omega arith, omega arith)) l)

-- the word of a collection comes next, and opens nothing
abbrev CollectionAs : Kind → List Lexeme → List Lexeme → Type 0
CollectionAs of from to = (word : Word) × IsCollection word of × TakesWord word from to × (Calm 1 to → Calm 1 from)

sequence_as : (from to : List Lexeme) → TakesWord KwSequence from to → CollectionAs Sequence from to
sequence_as from to takes = (KwSequence, sequence, takes, λ c. c)

set_as : (from to : List Lexeme) → TakesWord KwSet from to → CollectionAs Set from to
set_as from to takes = (KwSet, set, takes, λ c. c)

cycle_as : (from to : List Lexeme) → TakesWord KwCycle from to → CollectionAs Cycle from to
cycle_as from to takes = (KwCycle, cycle, takes, λ c. c)

multiset_as : (from to : List Lexeme) → TakesWord KwMultiset from to → CollectionAs Multiset from to
multiset_as from to takes = (KwMultiset, multiset, takes, λ c. c)

powerset_as : (from to : List Lexeme) → TakesWord KwPowerset from to → CollectionAs Powerset from to
powerset_as from to takes = (KwPowerset, powerset, takes, λ c. c)

kind_reads : (of : Kind) → Reads Quiet (kind_text of) (CollectionAs of)
kind_reads Sequence = read_as (word_reads KwSequence 115 (codes "equence") refl) sequence_as
kind_reads Set = read_as (word_reads KwSet 115 (codes "et") refl) set_as
kind_reads Cycle = read_as (word_reads KwCycle 99 (codes "ycle") refl) cycle_as
kind_reads Multiset = read_as (word_reads KwMultiset 109 (codes "ultiset") refl) multiset_as
kind_reads Powerset = read_as (word_reads KwPowerset 112 (codes "owerset") refl) powerset_as

-- numbers of 64 bits
pub record IsSmallChoice (c : Choice) : Type 0 where
  pub first : c.first < 20
  pub second : c.second < 20
  pub inner : c.inner < 20

-- the line is a definition
abbrev pub TypeAs : Universe → ℕ → Choice → List Lexeme → List Lexeme → Type 0
TypeAs u i c from to = (d : TypeDef) × IsTypeDef from to d × IsTypeOf u i c (type_def_of d) × (Calm 0 to → Calm 0 from)

type_step : (u : Universe) (i : ℕ) (c : Choice) (from to : List Lexeme) → (Then (Then (Then (Then (Then (Then (Then (Then (Then (Then (TakesWord KwType) (Takes kind.Name (type_name (i)))) (Then (TakesMark Equals) (Then (Takes kind.Name (codes "z")) (Then (TakesMark Bar) (Then (Then (TakesWord KwProduct) (TakesMark LeftRound)) (Then (Takes kind.Name (codes "z")) (TakesMark Comma))))))) (Takes kind.Name (type_name (c.first)))) (TakesMark Comma)) (Takes kind.Name (type_name (c.second)))) (Then (TakesMark RightRound) (Then (TakesMark Bar) (Then (Then (TakesWord KwProduct) (TakesMark LeftRound)) (Then (Takes kind.Name (codes "z")) (TakesMark Comma)))))) (CollectionAs (kind_chosen u c.kind))) (TakesMark LeftRound)) (Takes kind.Name (type_name (c.inner)))) (Then (TakesMark RightRound) (Then (TakesMark RightRound) (TakesMark Semicolon)))) from to → TypeAs u i c from to
unfolding Rattle.luo_source.specs.declared.types.TypeExpr.TheBlock.hidden-the_row-TypeExpr-0 Rattle.luo_source.specs.declared.types.TypeExpr.TheBlock.hidden-the_row-TypeExpr-1 hidden
type_step u i c from to (m23, (m22, (m21, (m20, (m19, (m18, (m17, (m16, (m15, (m14, takes, takes {at = k0}), (m6, takes, (m5, takes {at = k1}, (m4, takes, (m3, (m1, takes {at = k5}, takes), (m2, takes {at = k2}, takes)))))), takes {at = k3}), takes), takes {at = k4}), (m11, takes, (m10, takes, (m9, (m7, takes {at = k9}, takes), (m8, takes {at = k6}, takes))))), (w, col, takes {at = k8}, q)), takes), takes {at = k7}), (m13, takes, (m12, takes, takes))) = (
  _,
  type_def last_name (union named (more_terms (product (one_term named) (more_factors (one_term named) (last_factor (one_term named)))) (last_term (product (one_term named) (last_factor (one_term (collection col (one_term named) unbounded))))))),
  type_of (k0 ∷ k1 ∷ k2 ∷ k3 ∷ k4 ∷ k5 ∷ k6 ∷ k7 ∷ k8 ∷ k9 ∷ []),
  λ calm. q calm,
)

pub type_back : (u : Universe) (i : ℕ) (c : Choice) → i < 20 → IsSmallChoice c → Reads Any (type_line u i c) (TypeAs u i c)
type_back u i c l s =
    let li : i < 2 ^ 64 = omega (arith, l) in
    let lf : c.first < 2 ^ 64 = omega (arith, s.first) in
    let ls : c.second < 2 ^ 64 = omega (arith, s.second) in
    let ln : c.inner < 2 ^ 64 = omega (arith, s.inner) in
    read_as (seq (next (seq (next (seq (next (seq (next (seq (next lit.type_word (type_reads i li)) (next lit.equals (seq (letter_at 122 (omega arith, omega arith)) (next lit.bar (next lit.product_round (seq (letter_at 122 (omega arith, omega arith)) lit.comma (λ rest d. quiet_comma [])))) (λ rest d. quiet_space []))) (λ rest d. quiet_space [])) (type_reads c.first lf)) lit.comma (λ rest d. quiet_comma [])) (type_reads c.second ls)) (next lit.closing_round (next lit.bar (next lit.product_round (seq (letter_at 122 (omega arith, omega arith)) lit.comma (λ rest d. quiet_comma []))))) (λ rest d. quiet_close [])) (kind_reads (kind_chosen u c.kind))) lit.opening_round (λ rest d. lit.quiet_round [])) (type_reads c.inner ln)) (next lit.closing_round (next lit.closing_round lit.semicolon_line)) (λ rest d. quiet_close [])) (type_step u i c)

-- the lines are a procedure
abbrev pub ProcAs : ℕ → Choice → List Lexeme → List Lexeme → Type 0
ProcAs i c from to = (p : ProcDef) × IsProc from to p × IsProcOf i c (proc_def_of p) × (Calm 0 to → Calm 0 from)

proc_step : (i : ℕ) (c : Choice) (from to : List Lexeme) → (Then (Then (Then (Then (Then (Then (Then (Then (Then (Then (TakesWord KwProcedure) (Takes kind.Name (proc_name (i)))) (Then (TakesMark LeftRound) (Then (Takes kind.Name (codes "x")) (TakesMark Colon)))) (Takes kind.Name (type_name (i)))) (Then (TakesMark RightRound) (Then (TakesMark Semicolon) (Then (TakesWord KwBegin) (Then (Takes kind.Name (codes "unit")) (Then (TakesMark Semicolon) (Then (TakesWord KwCase) (Then (Takes kind.Name (codes "x")) (Then (TakesWord KwOf) (Then (Takes kind.Name (codes "z")) (Then (TakesMark Colon) (Then (TakesWord KwSkip) (Then (TakesMark Semicolon) (Then (TakesMark LeftRound) (Then (Takes kind.Name (codes "a")) (Then (TakesMark Comma) (Then (Takes kind.Name (codes "b")) (Then (TakesMark Comma) (Then (Takes kind.Name (codes "c")) (Then (TakesMark RightRound) (Then (TakesMark Colon) (TakesWord KwBegin)))))))))))))))))))))) (Takes kind.Name (proc_name (c.first)))) (Then (TakesMark LeftRound) (Then (Takes kind.Name (codes "b")) (Then (TakesMark RightRound) (TakesMark Semicolon))))) (Takes kind.Name (proc_name (c.second)))) (Then (TakesMark LeftRound) (Then (Takes kind.Name (codes "c")) (Then (TakesMark RightRound) (Then (TakesWord KwEnd) (Then (TakesMark Semicolon) (Then (TakesMark LeftRound) (Then (Takes kind.Name (codes "a")) (Then (TakesMark Comma) (Then (Takes kind.Name (codes "b")) (Then (TakesMark RightRound) (Then (TakesMark Colon) (Then (TakesWord KwBegin) (Then (TakesWord KwForall) (Then (Takes kind.Name (codes "u")) (Then (TakesWord KwIn) (Then (Takes kind.Name (codes "b")) (TakesWord KwDo)))))))))))))))))) (Takes kind.Name (proc_name (c.inner)))) (Then (TakesMark LeftRound) (Then (Takes kind.Name (codes "u")) (Then (TakesMark RightRound) (Then (TakesWord KwEnd) (Then (TakesWord KwEnd) (Then (TakesWord KwEnd) (TakesMark Semicolon)))))))) from to → ProcAs i c from to
unfolding Rattle.luo_source.specs.declared.statements.Stmt.TheBlock.hidden-the_row-Stmt-0 Rattle.luo_source.specs.declared.statements.Stmt.TheBlock.hidden-the_row-SourceArm-1 Rattle.luo_source.specs.declared.statements.Stmt.TheBlock.hidden-the_row-Stmt-2 hidden
proc_step i c from to (m80, (m79, (m78, (m77, (m76, (m75, (m74, (m73, (m72, (m71, takes, takes {at = k0}), (m25, takes, (m24, takes {at = k1}, takes))), takes {at = k2}), (m45, takes, (m44, takes, (m43, takes, (m42, takes {at = k3}, (m41, takes, (m40, takes, (m39, takes {at = k4}, (m38, takes, (m37, takes {at = k5}, (m36, takes, (m35, takes, (m34, takes, (m33, takes {at = k9}, (m32, takes {at = k6}, (m31, takes, (m30, takes {at = k7}, (m29, takes, (m28, takes {at = k8}, (m27, takes, (m26, takes, takes))))))))))))))))))))), takes {at = k10}), (m48, takes, (m47, takes {at = k11}, (m46, takes, takes)))), takes {at = k12}), (m64, takes, (m63, takes {at = k13}, (m62, takes, (m61, takes, (m60, takes, (m59, takes {at = k16}, (m58, takes {at = k14}, (m57, takes, (m56, takes {at = k15}, (m55, takes, (m54, takes, (m53, takes, (m52, takes, (m51, takes {at = k17}, (m50, takes, (m49, takes {at = k18}, takes))))))))))))))))), takes {at = k19}), (m70, takes, (m69, takes {at = k20}, (m68, takes, (m67, takes, (m66, takes, (m65, takes, takes))))))) = (
  _,
  proc (statements_body (full_block (more_stmts (simple_stmt charge_stmt) (last_stmt (case_stmt (more_arms (one_arm pattern_named skip_stmt) (more_arms (one_arm (pattern_parts (more_names (more_names last_name))) (block_stmt (full_block (more_stmts (simple_stmt call_stmt) (last_stmt (simple_stmt call_stmt)))))) (last_arm (one_arm (pattern_parts (more_names last_name)) (block_stmt (full_block (last_stmt (forall_stmt call_stmt))))))))))))),
  proc_of (k0 ∷ k1 ∷ k2 ∷ k3 ∷ k4 ∷ k5 ∷ k6 ∷ k7 ∷ k8 ∷ k9 ∷ k10 ∷ k11 ∷ k12 ∷ k13 ∷ k14 ∷ k15 ∷ k16 ∷ k17 ∷ k18 ∷ k19 ∷ k20 ∷ []),
  λ calm. calm,
)

pub proc_back : (i : ℕ) (c : Choice) → i < 20 → IsSmallChoice c → Reads Any (proc_lines i c) (ProcAs i c)
proc_back i c l s =
    let li : i < 2 ^ 64 = omega (arith, l) in
    let lf : c.first < 2 ^ 64 = omega (arith, s.first) in
    let ls : c.second < 2 ^ 64 = omega (arith, s.second) in
    let ln : c.inner < 2 ^ 64 = omega (arith, s.inner) in
    read_as (seq (next (seq (next (seq (next (seq (next (seq (next lit.procedure_word (proc_reads i li)) (next lit.opening_round (seq (letter_at 120 (omega arith, omega arith)) lit.colon (λ rest d. quiet_space []))) (λ rest d. lit.quiet_round [])) (type_reads i li)) (next lit.closing_round (next lit.semicolon (seq (line_before 0 lit.begin_word) (seq (line_before 2 unit_reads) (next lit.semicolon (next (line_before 2 lit.case_word) (seq (letter_at 120 (omega arith, omega arith)) (seq lit.of_word (seq (line_before 4 (letter_at 122 (omega arith, omega arith))) (next lit.colon (seq lit.skip_word (next lit.semicolon (next (line_before 4 lit.opening_round) (seq (letter_at 97 (omega arith, omega arith)) (next lit.comma (seq (letter_at 98 (omega arith, omega arith)) (next lit.comma (seq (letter_at 99 (omega arith, omega arith)) (next lit.closing_round (next lit.colon (spaced (λ rest. tt) (spaced (λ rest. tt) (spaced (λ rest. tt) (spaced (λ rest. tt) (spaced (λ rest. tt) (spaced (λ rest. tt) (lined quiet_line lit.begin_word))))))))) (λ rest d. quiet_close []))) (λ rest d. quiet_comma []))) (λ rest d. quiet_comma [])))) (λ rest d. quiet_semicolon []))) (λ rest d. quiet_space [])) (λ rest d. quiet_line [])) (λ rest d. quiet_space [])))) (λ rest d. quiet_semicolon [])) (λ rest d. quiet_line [])))) (λ rest d. quiet_close [])) (proc_reads c.first lf)) (next lit.opening_round (seq (letter_at 98 (omega arith, omega arith)) (next lit.closing_round (spaced (λ rest. tt) (spaced (λ rest. tt) (spaced (λ rest. tt) (spaced (λ rest. tt) (spaced (λ rest. tt) (spaced (λ rest. tt) (lined (λ rest. tt) lit.semicolon)))))))) (λ rest d. quiet_close []))) (λ rest d. lit.quiet_round [])) (proc_reads c.second ls)) (next lit.opening_round (seq (letter_at 99 (omega arith, omega arith)) (next lit.closing_round (seq (line_before 4 lit.end_word) (next lit.semicolon (next (line_before 4 lit.opening_round) (seq (letter_at 97 (omega arith, omega arith)) (next lit.comma (seq (letter_at 98 (omega arith, omega arith)) (next lit.closing_round (next lit.colon (next (spaced (λ rest. tt) (spaced (λ rest. tt) (spaced (λ rest. tt) (spaced (λ rest. tt) (spaced (λ rest. tt) (spaced (λ rest. tt) (lined quiet_line lit.begin_word))))))) (next lit.forall_word (seq (letter_at 117 (omega arith, omega arith)) (next lit.in_between (seq (letter_at 98 (omega arith, omega arith)) lit.do_word (λ rest d. quiet_space []))) (λ rest d. quiet_space [])))))) (λ rest d. quiet_close []))) (λ rest d. quiet_comma [])))) (λ rest d. quiet_semicolon []))) (λ rest d. quiet_close []))) (λ rest d. lit.quiet_round [])) (proc_reads c.inner ln)) (next lit.opening_round (seq (letter_at 117 (omega arith, omega arith)) (next lit.closing_round (seq (line_before 4 lit.end_word) (seq (line_before 2 lit.end_word) (seq (line_before 0 lit.end_word) lit.semicolon_line (λ rest d. quiet_semicolon [])) (λ rest d. quiet_line [])) (λ rest d. quiet_line []))) (λ rest d. quiet_close []))) (λ rest d. lit.quiet_round [])) (proc_step i c)
