-- The texts of patterns and statements read back.
use Rattle.std.proofs.Common.{◌≡◌, ℕ, ◌+◌, List, [], ◌∷◌, ◌++◌, refl, ap, sym, ◌∙◌, append_assoc, flat_map, codes}
use Rattle.std.proofs.lemmas.List.{append-nil}
use Rattle.luo_scan.specs.declared.token.Word.TheVariants.{KwBegin, KwEnd, KwCase, KwOf, KwForall, KwIn, KwDo, KwSkip, KwAs}
use Rattle.luo_scan.specs.declared.token.Mark.TheVariants.{Semicolon, LeftRound, RightRound, Colon, Underscore}
use Rattle.luo_scan.specs.declared.token.TokenKind.TheVariants as kind
use Rattle.luo_scan.specs.Laws.{IsFit}
use Rattle.luo_scan.specs.Lexemes.{Lexeme, lexeme}
use Rattle.luo_source.specs.declared.names.Name.{Name}
use Rattle.luo_source.specs.declared.statements.Pattern.{Pattern}
use Rattle.luo_source.specs.declared.statements.Pattern.TheVariants as pattern
use Rattle.luo_source.specs.declared.statements.SourceArm.{SourceArm}
use Rattle.luo_source.specs.declared.statements.Stmt.{Stmt}
use Rattle.luo_source.specs.declared.statements.Stmt.TheVariants.{Skip, Charge, Call, Block, Case, Forall}
use Rattle.luo_source.specs.View.{stmt_of, stmt_list, source_arm_list}
use Rattle.luo_source.specs.GrammarStatements.{IsPattern, pattern_named, pattern_whole, pattern_named_parts, pattern_parts, pattern_any, pattern_any_whole, IsBlock, empty_block, full_block, AreStmts, last_stmt, more_stmts, IsStmt, simple_stmt, case_stmt, forall_stmt, IsSimple, block_stmt, skip_stmt, charge_stmt, call_stmt, AreArms, last_arm, more_arms, IsArm, one_arm}
use Rattle.luo_print.specs.Layout.{lines, name_list, new_line}
use Rattle.luo_print.specs.CanonicalStatements.{pattern_text, call_text, block_of, stmt_text, stmt_texts, arm_texts}
use Rattle.luo_print.specs.Same.{SameNames, SamePattern, SameStmt, SameStmts, SameArms, same_skip, same_charge, same_call, no_stmts, no_arms}
use Rattle.luo_print.specs.Same as same
use Rattle.luo_print.proofs.Cuts.{Quiet, Reads, Then, Takes, takes, seq, next, read_as, read_text, quietly, name_reads, line_before, quiet_space, quiet_line}
use Rattle.luo_print.proofs.Literals as lit
use Rattle.luo_print.proofs.Literals.{TakesWord, TakesMark}
use Rattle.luo_print.proofs.StatementTexts.{stmt_line, arm_line, block_text, case_text, forall_text}
use Rattle.luo_print.proofs.SameViews.{blocks, cases, walks}
use Rattle.luo_print.proofs.TypesBack.{AllFit, NamesAs, names_back, quiet_close, quiet_semicolon}

abbrev pub PatternAs : Pattern → List Lexeme → List Lexeme → Type 0
PatternAs p from to = (q : Pattern) × IsPattern from to q × SamePattern p q

named_step : (text : List ℕ) (at : ℕ) (from to : List Lexeme) → Takes kind.Name text from to → PatternAs (pattern.Named (record { text = text; at = at })) from to
named_step text at from to (takes {at = k}) = (pattern.Named (record { text = text; at = k }), pattern_named, refl)

whole_step : (text inner : List ℕ) (at k : ℕ) (from to : List Lexeme) → Then (Then (Takes kind.Name text) (TakesWord KwAs)) (Takes kind.Name inner) from to → PatternAs (pattern.NamedWhole (record { text = text; at = at }) (record { text = inner; at = k })) from to
whole_step text inner at k from to (two, (one, takes {at = i}, takes), takes {at = j}) = (pattern.NamedWhole (record { text = text; at = i }) (record { text = inner; at = j }), pattern_whole, (refl, refl))

named_parts_step : (text : List ℕ) (at : ℕ) (ns : List Name) (from to : List Lexeme) → Then (Then (Takes kind.Name text) (TakesMark LeftRound)) (NamesAs RightRound ns) from to → PatternAs (pattern.NamedParts (record { text = text; at = at }) ns) from to
named_parts_step text at ns from to (two, (one, takes {at = i}, takes), (ms, d, s)) = (pattern.NamedParts (record { text = text; at = i }) ms, pattern_named_parts d, (refl, s))

parts_step : (at : ℕ) (ns : List Name) (from to : List Lexeme) → Then (TakesMark LeftRound) (NamesAs RightRound ns) from to → PatternAs (pattern.Parts ns at) from to
parts_step at ns from to (one, takes {at = i}, (ms, d, s)) = (pattern.Parts ms i, pattern_parts d, s)

any_step : (at : ℕ) (from to : List Lexeme) → TakesMark Underscore from to → PatternAs (pattern.Any at) from to
any_step at from to (takes {at = i}) = (pattern.Any i, pattern_any, tt)

any_whole_step : (text : List ℕ) (name_at at : ℕ) (from to : List Lexeme) → Then (Then (TakesMark Underscore) (TakesWord KwAs)) (Takes kind.Name text) from to → PatternAs (pattern.AnyWhole (record { text = text; at = name_at }) at) from to
any_whole_step text name_at at from to (two, (one, takes {at = i}, takes), takes {at = j}) = (pattern.AnyWhole (record { text = text; at = j }) i, pattern_any_whole, refl)

pub pattern_back : {from to : List Lexeme} {p : Pattern} → IsPattern from to p → AllFit from → AllFit to × Reads Quiet (pattern_text p) (PatternAs p)
pattern_back (pattern_named {text = text} {at = at}) f = (f.1, read_as (name_reads text at f.0) (named_step text at))
pattern_back (pattern_whole {text = text} {inner = inner} {at = at} {inner_at = k}) f =
    (f.1.1.1, read_as (next (seq (name_reads text at f.0) lit.as_word (λ rest d. quiet_space [])) (name_reads inner k f.1.1.0)) (whole_step text inner at k))
pattern_back (pattern_named_parts {text = text} {at = at} {names = ns} d) f =
    let r = names_back d (codes ")") _ lit.closing_round (λ rest. quiet_close []) f.1.1 in
    (r.0, quietly (read_text (sym (append_assoc (text ++ codes "(") (name_list ns) (codes ")"))) (read_as (next (seq (name_reads text at f.0) lit.opening_round (λ rest d. lit.quiet_round [])) r.1) (named_parts_step text at ns))))
pattern_back (pattern_parts {at = at} {names = ns} d) f =
    let r = names_back d (codes ")") _ lit.closing_round (λ rest. quiet_close []) f.1 in
    (r.0, quietly (read_as (next lit.opening_round r.1) (parts_step at ns)))
pattern_back (pattern_any {at = at}) f = (f.1, quietly (read_as lit.underscore (any_step at)))
pattern_back (pattern_any_whole {text = text} {at = at} {name_at = k}) f = (f.1.1.1, read_as (next lit.underscore_as (name_reads text k f.1.1.0)) (any_whole_step text k at))

-- a call, on a variable
pub call_reads : (callee arg : List ℕ) (at k : ℕ) → IsFit (lexeme kind.Name callee at) → IsFit (lexeme kind.Name arg k)
    → Reads Quiet (call_text (record { text = callee; at = at }) (record { text = arg; at = k })) (Then (Then (Then (Takes kind.Name callee) (TakesMark LeftRound)) (Takes kind.Name arg)) (TakesMark RightRound))
call_reads callee arg at k f g = quietly (seq (next (seq (name_reads callee at f) lit.opening_round (λ rest d. lit.quiet_round [])) (name_reads arg k g)) lit.closing_round (λ rest d. quiet_close []))

-- `end` on a new line
pub end_reads : (n : ℕ) → Reads Quiet (new_line n ++ codes "end") (TakesWord KwEnd)
end_reads n = line_before n lit.end_word

-- the head of a case
pub case_head : (var : List ℕ) (at : ℕ) → IsFit (lexeme kind.Name var at) → Reads Quiet (codes "case " ++ var ++ codes " of") (Then (Then (TakesWord KwCase) (Takes kind.Name var)) (TakesWord KwOf))
case_head var at f = seq (next lit.case_word (name_reads var at f)) lit.of_word (λ rest d. quiet_space [])

abbrev StmtAs : Stmt → List Lexeme → List Lexeme → Type 0
StmtAs s from to = (t : Stmt) × IsStmt from to t × SameStmt (stmt_of s) (stmt_of t)

abbrev SimpleAs : Stmt → List Lexeme → List Lexeme → Type 0
SimpleAs s from to = (t : Stmt) × IsSimple from to t × SameStmt (stmt_of s) (stmt_of t)

abbrev pub BlockAs : List Stmt → List Lexeme → List Lexeme → Type 0
BlockAs ss from to = (ts : List Stmt) × IsBlock from to ts × SameStmts (stmt_list ss) (stmt_list ts)

abbrev StmtsAs : List Stmt → List Lexeme → List Lexeme → Type 0
StmtsAs ss from to = (ts : List Stmt) × AreStmts from to ts × SameStmts (stmt_list ss) (stmt_list ts)

abbrev ArmsAs : List SourceArm → List Lexeme → List Lexeme → Type 0
ArmsAs arms from to = (others : List SourceArm) × AreArms from to others × SameArms (source_arm_list arms) (source_arm_list others)

abbrev ArmAs : SourceArm → List Lexeme → List Lexeme → Type 0
ArmAs arm from to = (other : SourceArm) × IsArm from to other × SamePattern arm.pattern other.pattern × SameStmt (stmt_of arm.body) (stmt_of other.body)

empty_step : (from to : List Lexeme) → Then (TakesWord KwBegin) (TakesWord KwEnd) from to → BlockAs [] from to
empty_step from to (one, takes, takes) = ([], empty_block, no_stmts)

full_step : (ss : List Stmt) (from to : List Lexeme) → Then (TakesWord KwBegin) (StmtsAs ss) from to → BlockAs ss from to
full_step ss from to (one, takes, (ts, d, s)) = (ts, full_block d, s)

last_step : (s : Stmt) (from to : List Lexeme) → Then (StmtAs s) (TakesWord KwEnd) from to → StmtsAs (s ∷ []) from to
last_step s from to (one, (t, p, e), takes) = (t ∷ [], last_stmt p, same.more_stmts e no_stmts)

more_step : (s : Stmt) (ss : List Stmt) (from to : List Lexeme) → Then (StmtAs s) (Then (TakesMark Semicolon) (StmtsAs ss)) from to → StmtsAs (s ∷ ss) from to
more_step s ss from to (one, (t, p, e), (two, takes, (ts, ps, es))) = (t ∷ ts, more_stmts p ps, same.more_stmts e es)

simple_step : (s : Stmt) (from to : List Lexeme) → SimpleAs s from to → StmtAs s from to
simple_step s from to (t, p, e) = (t, simple_stmt p, e)

case_step : (var : List ℕ) (at : ℕ) (arms : List SourceArm) (from to : List Lexeme) → Then (Then (Then (TakesWord KwCase) (Takes kind.Name var)) (TakesWord KwOf)) (ArmsAs arms) from to → StmtAs (Case (record { text = var; at = at }) arms) from to
case_step var at arms from to (three, (two, (one, takes, takes {at = k}), takes), (others, d, s)) = (Case (record { text = var; at = k }) others, case_stmt d, cases (record { text = var; at = at }) (record { text = var; at = k }) arms others refl s)

forall_step : (var source : List ℕ) (at k : ℕ) (s : Stmt) (from to : List Lexeme) → Then (Then (Then (Then (Then (TakesWord KwForall) (Takes kind.Name var)) (TakesWord KwIn)) (Takes kind.Name source)) (TakesWord KwDo)) (SimpleAs s) from to
    → StmtAs (Forall (record { text = var; at = at }) (record { text = source; at = k }) s) from to
forall_step var source at k s from to (five, (four, (three, (two, (one, takes, takes {at = i}), takes), takes {at = j}), takes), (t, p, e)) =
    (Forall (record { text = var; at = i }) (record { text = source; at = j }) t, forall_stmt p, walks (record { text = var; at = at }) (record { text = var; at = i }) (record { text = source; at = k }) (record { text = source; at = j }) s t refl refl e)

block_step : (ss : List Stmt) (from to : List Lexeme) → BlockAs ss from to → SimpleAs (Block ss) from to
block_step ss from to (ts, d, s) = (Block ts, block_stmt d, blocks ss ts s)

skip_step : (from to : List Lexeme) → TakesWord KwSkip from to → SimpleAs Skip from to
skip_step from to takes = (Skip, skip_stmt, same_skip)

charge_step : (text : List ℕ) (at : ℕ) (from to : List Lexeme) → Takes kind.Name text from to → SimpleAs (Charge (record { text = text; at = at })) from to
charge_step text at from to (takes {at = k}) = (Charge (record { text = text; at = k }), charge_stmt, same_charge refl)

call_step : (callee arg : List ℕ) (at k : ℕ) (from to : List Lexeme) → Then (Then (Then (Takes kind.Name callee) (TakesMark LeftRound)) (Takes kind.Name arg)) (TakesMark RightRound) from to → SimpleAs (Call (record { text = callee; at = at }) (record { text = arg; at = k })) from to
call_step callee arg at k from to (three, (two, (one, takes {at = i}, takes), takes {at = j}), takes) = (Call (record { text = callee; at = i }) (record { text = arg; at = j }), call_stmt, same_call refl refl)

last_arm_step : (a : SourceArm) (from to : List Lexeme) → Then (ArmAs a) (TakesWord KwEnd) from to → ArmsAs (a ∷ []) from to
last_arm_step a from to (one, (b, p, e, g), takes) = (b ∷ [], last_arm p, same.more_arms e g no_arms)

more_arms_step : (a : SourceArm) (arms : List SourceArm) (from to : List Lexeme) → Then (ArmAs a) (Then (TakesMark Semicolon) (ArmsAs arms)) from to → ArmsAs (a ∷ arms) from to
more_arms_step a arms from to (one, (b, p, e, g), (two, takes, (others, ps, es))) = (b ∷ others, more_arms p ps, same.more_arms e g es)

arm_step : (p : Pattern) (s : Stmt) (from to : List Lexeme) → Then (Then (PatternAs p) (TakesMark Colon)) (SimpleAs s) from to → ArmAs (record { pattern = p; body = s }) from to
arm_step p s from to (two, (one, (q, d, e), takes), (t, i, g)) = (record { pattern = q; body = t }, one_arm d i, e, g)

stmts_tail : (m : ℕ) {from to : List Lexeme} {ss : List Stmt} → AreStmts from to ss → flat_map (λ t. codes ";" ++ (new_line m ++ t)) (stmt_texts m (stmt_list ss)) ≡ codes ";" ++ lines m (stmt_texts m (stmt_list ss))
stmts_tail m (last_stmt p) = refl
stmts_tail m (more_stmts p ps) = refl

arms_tail : (m : ℕ) {from to : List Lexeme} {arms : List SourceArm} → AreArms from to arms → flat_map (λ t. codes ";" ++ (new_line m ++ t)) (arm_texts m (source_arm_list arms)) ≡ codes ";" ++ lines m (arm_texts m (source_arm_list arms))
arms_tail m (last_arm p) = refl
arms_tail m (more_arms p ps) = refl

quiet_stmts : (m : ℕ) {from to : List Lexeme} {ss : List Stmt} → AreStmts from to ss → (end rest : List ℕ) → Quiet ((lines m (stmt_texts m (stmt_list ss)) ++ end) ++ rest)
quiet_stmts m (last_stmt p) end rest = quiet_line []
quiet_stmts m (more_stmts p ps) end rest = quiet_line []

quiet_arms : (m : ℕ) {from to : List Lexeme} {arms : List SourceArm} → AreArms from to arms → (end rest : List ℕ) → Quiet ((lines m (arm_texts m (source_arm_list arms)) ++ end) ++ rest)
quiet_arms m (last_arm p) end rest = quiet_line []
quiet_arms m (more_arms p ps) end rest = quiet_line []

mutual
  pub block_back : (n : ℕ) {from to : List Lexeme} {ss : List Stmt} → IsBlock from to ss → AllFit from
      → AllFit to × Reads Quiet (block_of n (stmt_texts (n + 2) (stmt_list ss))) (BlockAs ss)
  block_back n empty_block f = (f.1.1, read_as (seq lit.begin_word (end_reads n) (λ rest d. quiet_line [])) empty_step)
  block_back n (full_block {stmts = ss} d) f =
      let r = stmts_back (n + 2) n d f.1 in (
        r.0,
        read_text (ap (λ z. codes "begin" ++ z) (sym (append_assoc (lines (n + 2) (stmt_texts (n + 2) (stmt_list ss))) (new_line n) (codes "end"))))
            (read_as (seq lit.begin_word r.1 (λ rest e. quiet_stmts (n + 2) d (new_line n ++ codes "end") rest)) (full_step ss)),
      )

  stmts_back : (m n : ℕ) {from to : List Lexeme} {ss : List Stmt} → AreStmts from to ss → AllFit from → AllFit to × Reads Quiet (lines m (stmt_texts m (stmt_list ss)) ++ (new_line n ++ codes "end")) (StmtsAs ss)
  stmts_back m n (last_stmt {stmt = s} p) f =
      let r = stmt_back m p f in
      (r.0.1, read_text (ap (λ z. z ++ (new_line n ++ codes "end")) (sym (append-nil (stmt_line m s)))) (read_as (seq (line_before m r.1) (end_reads n) (λ rest d. quiet_line [])) (last_step s)))
  stmts_back m n (more_stmts {stmt = s} {stmts = ss} p ps) f =
      let r = stmt_back m p f in
      let t = stmts_back m n ps r.0.1 in (
        t.0,
        read_text (sym (append_assoc (stmt_line m s) (flat_map (λ t. codes ";" ++ (new_line m ++ t)) (stmt_texts m (stmt_list ss))) (new_line n ++ codes "end") ∙ ap (λ z. stmt_line m s ++ (z ++ (new_line n ++ codes "end"))) (stmts_tail m ps)))
            (read_as (seq (line_before m r.1) (next lit.semicolon t.1) (λ rest d. quiet_semicolon [])) (more_step s ss)),
      )

  stmt_back : (n : ℕ) {from to : List Lexeme} {s : Stmt} → IsStmt from to s → AllFit from → AllFit to × Reads Quiet (stmt_text n (stmt_of s)) (StmtAs s)
  stmt_back n (simple_stmt {stmt = s} p) f = let r = simple_back n p f in (r.0, read_as r.1 (simple_step s))
  stmt_back n (case_stmt {text = var} {at = at} {arms = arms} d) f =
      let r = arms_back (n + 2) n d f.1.1.1 in
      let head = codes "case " ++ var ++ codes " of" in (
        r.0,
        read_text (sym (case_text n (record { text = var; at = at }) arms ∙ append_assoc (head ++ lines (n + 2) (arm_texts (n + 2) (source_arm_list arms))) (new_line n) (codes "end") ∙ append_assoc head (lines (n + 2) (arm_texts (n + 2) (source_arm_list arms))) (new_line n ++ codes "end")))
            (read_as (seq (case_head var at f.1.0) r.1 (λ rest e. quiet_arms (n + 2) d (new_line n ++ codes "end") rest)) (case_step var at arms)),
      )
  stmt_back n (forall_stmt {text = var} {source = source} {at = at} {source_at = k} {body = s} p) f =
      let r = simple_back n p f.1.1.1.1.1 in (
        r.0,
        read_text (sym (forall_text n (record { text = var; at = at }) (record { text = source; at = k }) s))
            (read_as (next (seq (next (seq (next lit.forall_word (name_reads var at f.1.0)) lit.in_between (λ rest d. quiet_space [])) (name_reads source k f.1.1.1.0)) lit.do_word (λ rest d. quiet_space [])) r.1) (forall_step var source at k s)),
      )

  simple_back : (n : ℕ) {from to : List Lexeme} {s : Stmt} → IsSimple from to s → AllFit from → AllFit to × Reads Quiet (stmt_text n (stmt_of s)) (SimpleAs s)
  simple_back n (block_stmt {stmts = ss} d) f = let r = block_back n d f in (r.0, read_text (sym (block_text n ss)) (read_as r.1 (block_step ss)))
  simple_back n skip_stmt f = (f.1, read_as lit.skip_word skip_step)
  simple_back n (charge_stmt {text = text} {at = at}) f = (f.1, read_as (name_reads text at f.0) (charge_step text at))
  simple_back n (call_stmt {text = callee} {arg = arg} {at = at} {arg_at = k}) f = (f.1.1.1.1, read_as (call_reads callee arg at k f.0 f.1.1.0) (call_step callee arg at k))

  arms_back : (m n : ℕ) {from to : List Lexeme} {arms : List SourceArm} → AreArms from to arms → AllFit from → AllFit to × Reads Quiet (lines m (arm_texts m (source_arm_list arms)) ++ (new_line n ++ codes "end")) (ArmsAs arms)
  arms_back m n (last_arm {arm = a} p) f =
      let r = arm_back m p f in
      (r.0.1, read_text (ap (λ z. z ++ (new_line n ++ codes "end")) (sym (append-nil (arm_line m a)))) (read_as (seq r.1 (end_reads n) (λ rest d. quiet_line [])) (last_arm_step a)))
  arms_back m n (more_arms {arm = a} {arms = arms} p ps) f =
      let r = arm_back m p f in
      let t = arms_back m n ps r.0.1 in (
        t.0,
        read_text (sym (append_assoc (arm_line m a) (flat_map (λ t. codes ";" ++ (new_line m ++ t)) (arm_texts m (source_arm_list arms))) (new_line n ++ codes "end") ∙ ap (λ z. arm_line m a ++ (z ++ (new_line n ++ codes "end"))) (arms_tail m ps)))
            (read_as (seq r.1 (next lit.semicolon t.1) (λ rest d. quiet_semicolon [])) (more_arms_step a arms)),
      )

  arm_back : (m : ℕ) {from to : List Lexeme} {a : SourceArm} → IsArm from to a → AllFit from → AllFit to × Reads Quiet (arm_line m a) (ArmAs a)
  arm_back m (one_arm {p = p} {body = s} d i) f =
      let q = pattern_back d f in
      let r = simple_back m i q.0.1 in
      (r.0, line_before m (read_as (next (seq q.1 lit.colon (λ rest d. quiet_space [])) r.1) (arm_step p s)))
