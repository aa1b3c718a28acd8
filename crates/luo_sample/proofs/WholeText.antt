-- The text of a sample has tokens, and these derive its source and open little.
use Rattle.std.proofs.Common.{◌≡◌, ◌≤◌, ◌<◌, ◌+◌, ◌-◌, ℕ, zero, suc, List, [], ◌∷◌, ◌++◌, length, take, refl, sym, ◌∙◌, subst, arith, codes, append_assoc}
use Rattle.std.specs.Prelude.{Bool, true, false, map, nat_le}
use Rattle.std.proofs.lemmas.List.{append-nil}
use Rattle.std.proofs.lemmas.Fmt.{decimal_digit}
use Rattle.luo_scan.specs.declared.token.Token.{Token}
use Rattle.luo_scan.specs.declared.token.Word.TheVariants.{KwLabelled, KwUnlabelled, KwType, KwAtom, KwMeasure, KwAnalyze}
use Rattle.luo_scan.specs.declared.token.Mark.TheVariants.{Semicolon, Equals, LeftRound, RightRound, Colon}
use Rattle.luo_scan.specs.declared.token.TokenKind.TheVariants as kind
use Rattle.luo_scan.specs.Lexemes.{Lexeme, lexemes, lexemes_from}
use Rattle.luo_scan.specs.Tokens.{Tokens}
use Rattle.luo_model.specs.declared.program.Universe.{Universe}
use Rattle.luo_model.specs.declared.program.Universe.TheVariants.{Unlabelled, Labelled}
use Rattle.luo_source.specs.declared.names.Name.{Name}
use Rattle.luo_source.specs.declared.types.TypeDef.{TypeDef}
use Rattle.luo_source.specs.declared.types.MeasureDef.{MeasureDef}
use Rattle.luo_source.specs.declared.source.ProcDef.{ProcDef}
use Rattle.luo_source.specs.declared.source.Source.{Source}
use Rattle.luo_source.specs.View.{type_def_of, proc_def_of, plain_source}
use Rattle.luo_source.specs.GrammarTypes.{last_name, one_term, atom, IsTypeDef, type_def, IsMeasure, measure_def}
use Rattle.luo_source.specs.Grammar.{IsAnalyze, analyze, AreAnalyses, last_analysis, more_analyses, FromProcs, no_procs, more_procs, no_measures, more_measures, FromTypes, no_types, more_types, IsProgram, labelled, unlabelled, Derives}
use Rattle.luo_syntax.specs.Viable.{opens, closes, opened, closed, IsShallow}
use Rattle.luo_print.specs.Canonical.{universe_line}
use Rattle.luo_print.proofs.Cuts.{Quiet, Any, Cut, cut_end, Reads, Then, Takes, takes, seq, next, read_as, read_text, quiet_space}
use Rattle.luo_print.proofs.Numerals.{number_reads}
use Rattle.luo_print.proofs.TypesBack.{quiet_close, quiet_semicolon}
use Rattle.luo_print.proofs.Literals as lit
use Rattle.luo_print.proofs.Literals.{TakesWord, TakesMark}
use Rattle.luo_sample.specs.declared.choice.Choice.{Choice}
use Rattle.luo_sample.specs.Text.{proc_name, type_line, proc_lines, analyze_line, numbered, sample_text}
use Rattle.luo_sample.proofs.Form.{IsAtomDef, atom_def, IsUnit, unit_def, AreTypes, AreProcs, AreAnalyzed, IsSource}
use Rattle.luo_sample.proofs.Calm.{Where, Calm}
use Rattle.luo_sample.proofs.Lines.{IsSmallChoice, TypeAs, type_back, ProcAs, proc_back, unit_reads, letter_at, proc_reads}

-- few are open

where_cases : (d : ℕ) (A : Type 0) → Where (nat_le d 32) A → (d ≤ 32) × A
where_cases d A w = by (nat_le d 32) refl w
  where
    by : (b : Bool) → nat_le d 32 ≡ b → Where b A → (d ≤ 32) × A
    by true e a = (grind arith, a)
    by false e a = absurd a

calm_prefix : (d : ℕ) (ls : List Lexeme) (j : ℕ) → Calm d ls → j ≤ length ls → closed (take j ls) + 32 < d + opened (take j ls) → ⊥
calm_prefix d [] zero c l deep = omega (arith, (where_cases d (Unit {0}) c).0)
calm_prefix d [] (suc j) c l deep = omega arith
calm_prefix d (x ∷ ls) zero c l deep = omega (arith, (where_cases d (Calm (d + opens x - closes x) ls) c).0)
calm_prefix d (x ∷ ls) (suc j) c l deep = calm_prefix (d + opens x - closes x) ls j (where_cases d (Calm (d + opens x - closes x) ls) c).1 (omega (arith, l)) (omega (arith, deep))

pub calm_shallow : (ls : List Lexeme) → Calm 0 ls → IsShallow ls
calm_shallow ls c j l deep = calm_prefix 0 ls j c l (omega (arith, deep))

-- single lines

one_reads : Reads Quiet (codes "1") (Takes (kind.Number 1) (codes "1"))
one_reads = subst (λ t. Reads Quiet t (Takes (kind.Number 1) t)) (decimal_digit 1 (omega arith)) (number_reads 1 (omega arith))

abbrev AtomAs : List Lexeme → List Lexeme → Type 0
AtomAs from to = (d : TypeDef) × IsTypeDef from to d × IsAtomDef (type_def_of d) × (Calm 0 to → Calm 0 from)

abbrev UnitAs : List Lexeme → List Lexeme → Type 0
UnitAs from to = (m : MeasureDef) × IsMeasure from to m × IsUnit m × (Calm 0 to → Calm 0 from)

abbrev AnalyzeAs : ℕ → List Lexeme → List Lexeme → Type 0
AnalyzeAs i from to = (name : Name) × IsAnalyze from to name × (name.text ≡ proc_name i) × (Calm 0 to → Calm 0 from)

atom_step : (from to : List Lexeme) → Then (TakesWord KwType) (Then (Takes kind.Name (codes "z")) (Then (TakesMark Equals) (Then (Then (TakesWord KwAtom) (TakesMark LeftRound)) (Then (Takes (kind.Number 1) (codes "1")) (Then (TakesMark RightRound) (TakesMark Semicolon)))))) from to → AtomAs from to
atom_step from to (m1, takes, (m2, takes, (m3, takes, (m4, (m5, takes, takes), (m6, takes, (m7, takes, takes)))))) = (_, type_def last_name (one_term atom), atom_def, λ calm. calm)

atom_back : Reads Any (codes "type z = atom(1);\n") AtomAs
atom_back = read_as (next lit.type_word (seq (letter_at 122 (omega arith, omega arith)) (next lit.equals (next lit.atom_round (seq (one_reads) (next lit.closing_round lit.semicolon_line) (λ rest d. quiet_close [])))) (λ rest d. quiet_space []))) atom_step

unit_step : (from to : List Lexeme) → Then (TakesWord KwMeasure) (Then (Takes kind.Name (codes "unit")) (Then (TakesMark Colon) (Then (Takes (kind.Number 1) (codes "1")) (TakesMark Semicolon)))) from to → UnitAs from to
unit_step from to (m1, takes, (m2, takes, (m3, takes, (m4, takes, takes)))) = (_, measure_def last_name, unit_def, λ calm. calm)

unit_back : Reads Any (codes "measure unit : 1;\n") UnitAs
unit_back = read_as (next lit.measure_word (seq unit_reads (next lit.colon (seq (one_reads) lit.semicolon_line (λ rest d. quiet_semicolon []))) (λ rest d. quiet_space []))) unit_step

analyze_step : (i : ℕ) (from to : List Lexeme) → Then (Then (TakesWord KwAnalyze) (Takes kind.Name (proc_name i))) (TakesMark Semicolon) from to → AnalyzeAs i from to
analyze_step i from to (m1, (m2, takes, takes), takes) = (_, analyze, refl, λ calm. calm)

analyze_back : (i : ℕ) → i < 20 → Reads Any (analyze_line i) (AnalyzeAs i)
analyze_back i l = read_as (seq (next lit.analyze_word (proc_reads i (omega (arith, l)))) lit.semicolon_line (λ rest d. quiet_semicolon [])) (analyze_step i)

-- lists of lines

abbrev AnalysesAs : ℕ → ℕ → List Lexeme → List Lexeme → Type 0
AnalysesAs i n from to = (names : List Name) × AreAnalyses from to names × AreAnalyzed i n names × (Calm 0 to → Calm 0 from)

last_step : (i : ℕ) (from to : List Lexeme) → AnalyzeAs i from to → AnalysesAs i 1 from to
last_step i from to (name, d, e, c) = (name ∷ [], last_analysis d, (e, tt), c)

more_step : (i n : ℕ) (from to : List Lexeme) → Then (AnalyzeAs i) (AnalysesAs (suc i) n) from to → AnalysesAs i (suc n) from to
more_step i n from to (mid, (name, d, e, c), (names, ds, es, cs)) = (name ∷ names, more_analyses d ds, (e, es), λ calm. c (cs calm))

analyses_back : (i n : ℕ) → i + suc n ≤ 20 → Reads Any (numbered analyze_line i (suc n)) (AnalysesAs i (suc n))
unfolding numbered
analyses_back i zero l = read_text (sym (append-nil (analyze_line i))) (read_as (analyze_back i (omega (arith, l))) (last_step i))
analyses_back i (suc n) l = read_as (next (analyze_back i (omega (arith, l))) (analyses_back (suc i) n (omega (arith, l)))) (more_step i (suc n))

module _ (u : Universe) (choice : ℕ → Choice) (small : (i : ℕ) → IsSmallChoice (choice i)) where
  abbrev ProcsAs : ℕ → ℕ → List Lexeme → List Lexeme → Type 0
  ProcsAs i n from to =
      (ps : List ProcDef) × (names : List Name) × FromProcs from to ps names × AreProcs choice i n (map proc_def_of ps)
      × AreAnalyzed 0 8 names × (Calm 0 to → Calm 0 from)

  no_procs_step : (i : ℕ) (from to : List Lexeme) → AnalysesAs 0 8 from to → ProcsAs i 0 from to
  no_procs_step i from to (names, d, e, c) = ([], names, no_procs d, tt, e, c)

  more_procs_step : (i n : ℕ) (from to : List Lexeme) → Then (ProcAs i (choice i)) (ProcsAs (suc i) n) from to → ProcsAs i (suc n) from to
  more_procs_step i n from to (mid, (p, d, e, c), (ps, names, ds, es, h, cs)) = (p ∷ ps, names, more_procs d ds, (e, es), h, λ calm. c (cs calm))

  abbrev procs_text : ℕ → ℕ → List ℕ
  procs_text i n = numbered (λ i. proc_lines i (choice i)) i n

  procs_back : (i n : ℕ) → i + n ≤ 20 → Reads Any (procs_text i n ++ numbered analyze_line 0 8) (ProcsAs i n)
  unfolding numbered
  procs_back i zero l = read_as (analyses_back 0 7 (omega arith)) (no_procs_step i)
  procs_back i (suc n) l =
      read_text (sym (append_assoc (proc_lines i (choice i)) (procs_text (suc i) n) (numbered analyze_line 0 8)))
      (read_as (next (proc_back i (choice i) (omega (arith, l)) (small i)) (procs_back (suc i) n (omega (arith, l)))) (more_procs_step i n))

  abbrev TypesAs : ℕ → ℕ → List Lexeme → List Lexeme → Type 0
  TypesAs i n from to =
      (ts : List TypeDef) × (m : MeasureDef) × (ps : List ProcDef) × (names : List Name) × FromTypes from to ts (m ∷ []) ps names
      × AreTypes u choice i n (map type_def_of ts) × IsUnit m × AreProcs choice 0 20 (map proc_def_of ps)
      × AreAnalyzed 0 8 names × (Calm 0 to → Calm 0 from)

  no_types_step : (i : ℕ) (from to : List Lexeme) → Then UnitAs (ProcsAs 0 20) from to → TypesAs i 0 from to
  no_types_step i from to (mid, (m, d, e, c), (ps, names, ds, es, h, cs)) = ([], m, ps, names, no_types (more_measures d (no_measures ds)), tt, e, es, h, λ calm. c (cs calm))

  more_types_step : (i n : ℕ) (from to : List Lexeme) → Then (TypeAs u i (choice i)) (TypesAs (suc i) n) from to → TypesAs i (suc n) from to
  more_types_step i n from to (mid, (t, d, e, c), (ts, m, ps, names, ds, es, f, g, h, cs)) = (t ∷ ts, m, ps, names, more_types d ds, (e, es), f, g, h, λ calm. c (cs calm))

  abbrev types_text : ℕ → ℕ → List ℕ
  types_text i n = numbered (λ i. type_line u i (choice i)) i n

  abbrev rest_text : List ℕ
  rest_text = codes "measure unit : 1;\n" ++ (procs_text 0 20 ++ numbered analyze_line 0 8)

  types_back : (i n : ℕ) → i + n ≤ 20 → Reads Any (types_text i n ++ rest_text) (TypesAs i n)
  unfolding numbered
  types_back i zero l = read_as (next unit_back (procs_back 0 20 (omega arith))) (no_types_step i)
  types_back i (suc n) l =
      read_text (sym (append_assoc (type_line u i (choice i)) (types_text (suc i) n) rest_text))
      (read_as (next (type_back u i (choice i) (omega (arith, l)) (small i)) (types_back (suc i) n (omega (arith, l)))) (more_types_step i n))

  abbrev ProgramAs : List Lexeme → List Lexeme → Type 0
  ProgramAs from to = (s : Source) × IsProgram from to s × IsSource u choice (plain_source s) × (Calm 0 to → Calm 0 from)

labelled_step : (choice : ℕ → Choice) (small : (i : ℕ) → IsSmallChoice (choice i)) (from to : List Lexeme) → Then (Then (TakesWord KwLabelled) (TakesMark Semicolon)) (Then AtomAs (TypesAs Labelled choice small 0 20)) from to → ProgramAs Labelled choice small from to
labelled_step choice small from to (m1, (m2, takes, takes), (m3, (a, da, ea, ca), (ts, m, ps, names, d, e, f, g, h, c))) = (
  record { universe = Labelled; types = a ∷ ts; measures = m ∷ []; procs = ps; analyses = names },
  labelled (more_types da d),
  record { universe_is = refl; types = (ea, e); measures = f; procs = g; analyses = h },
  λ calm. ca (c calm),
)

unlabelled_step : (choice : ℕ → Choice) (small : (i : ℕ) → IsSmallChoice (choice i)) (from to : List Lexeme) → Then (Then (TakesWord KwUnlabelled) (TakesMark Semicolon)) (Then AtomAs (TypesAs Unlabelled choice small 0 20)) from to → ProgramAs Unlabelled choice small from to
unlabelled_step choice small from to (m1, (m2, takes, takes), (m3, (a, da, ea, ca), (ts, m, ps, names, d, e, f, g, h, c))) = (
  record { universe = Unlabelled; types = a ∷ ts; measures = m ∷ []; procs = ps; analyses = names },
  unlabelled (more_types da d),
  record { universe_is = refl; types = (ea, e); measures = f; procs = g; analyses = h },
  λ calm. ca (c calm),
)

nested : (a b c d e f : List ℕ) → a ++ (b ++ (c ++ (d ++ (e ++ f)))) ≡ a ++ b ++ c ++ d ++ e ++ f
nested a b c d e f = sym (append_assoc (a ++ b ++ c ++ d) e f ∙ (append_assoc (a ++ b ++ c) d (e ++ f) ∙ (append_assoc (a ++ b) c (d ++ (e ++ f)) ∙ append_assoc a b (c ++ (d ++ (e ++ f))))))

in_order : (u : Universe) (choice : ℕ → Choice) (small : (i : ℕ) → IsSmallChoice (choice i)) → universe_line u ++ (codes "type z = atom(1);\n" ++ (types_text u choice small 0 20 ++ rest_text u choice small)) ≡ sample_text u choice
in_order u choice small = nested (universe_line u) (codes "type z = atom(1);\n") (types_text u choice small 0 20) (codes "measure unit : 1;\n") (procs_text u choice small 0 20) (numbered analyze_line 0 8)

program_back : (u : Universe) (choice : ℕ → Choice) (small : (i : ℕ) → IsSmallChoice (choice i)) → Reads Any (sample_text u choice) (ProgramAs u choice small)
program_back Labelled choice small = read_text (in_order Labelled choice small) (read_as (next lit.labelled_line (next atom_back (types_back Labelled choice small 0 20 (omega arith)))) (labelled_step choice small))
program_back Unlabelled choice small = read_text (in_order Unlabelled choice small) (read_as (next lit.unlabelled_line (next atom_back (types_back Unlabelled choice small 0 20 (omega arith)))) (unlabelled_step choice small))

-- the text of any choices below 20 has tokens, and these derive a source of these choices and open little
pub sample_reads : (u : Universe) (choice : ℕ → Choice) → ((i : ℕ) → IsSmallChoice (choice i))
    → (tokens : List Token) × (s : Source) × Tokens (sample_text u choice) tokens × Derives (sample_text u choice) tokens s × IsSource u choice (plain_source s) × IsShallow (lexemes (sample_text u choice) tokens)
sample_reads u choice small =
    let text : List ℕ = sample_text u choice in
    let r = program_back u choice small in
    let x = r.read [] (λ k. []) tt cut_end in
    let c : Cut text x.0 = subst (λ t. Cut t x.0) (append-nil text) x.1 in
    let y = c.cut 0 in
    let e : lexemes_from 0 text y.0 ≡ x.0 0 = y.2 text 0 refl in
    let p = x.2 0 in
    (y.0, p.1.0, y.1, subst (λ ls. IsProgram ls [] p.1.0) (sym e) p.1.1, p.1.2, calm_shallow (lexemes text y.0) (subst (λ ls. Calm 0 ls) (sym e) (p.1.3 tt)))
