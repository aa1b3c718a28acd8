-- The texts of values read back.
use Rattle.std.proofs.Common.{◌≡◌, ℕ, ◌+◌, List, [], ◌∷◌, ◌++◌, refl, ap, sym, ◌∙◌, append_assoc, flat_map, None, Some, codes, decimal}
use Rattle.std.proofs.lemmas.List.{append-nil}
use Rattle.luo_scan.specs.declared.token.Word.TheVariants.{KwAtom, KwProduct, KwCase, KwOf, KwEnd}
use Rattle.luo_scan.specs.declared.token.Mark.TheVariants.{Semicolon, Comma, LeftRound, RightRound, Colon}
use Rattle.luo_scan.specs.declared.token.TokenKind.TheVariants as kind
use Rattle.luo_scan.specs.Lexemes.{Lexeme}
use Rattle.luo_source.specs.declared.statements.Pattern.{Pattern}
use Rattle.luo_source.specs.declared.values.SourceValue.{SourceValue}
use Rattle.luo_source.specs.declared.values.SourceValue.TheVariants.{Given, Made, Atom, Tuple, Branch, Case}
use Rattle.luo_source.specs.declared.values.SourceValueArm.{SourceValueArm}
use Rattle.luo_source.specs.View.{source_value_of, source_value_list, source_value_arm_list}
use Rattle.luo_source.specs.GrammarValues.{IsValue, branch_value, inner_value, IsBranch, branch, IsInner, given, made, free_atom, charged_atom, bracketed, tuple, case_value, AreParts, last_part, more_parts, AreValueArms, last_value_arm, more_value_arms, IsValueArm, one_value_arm}
use Rattle.luo_print.specs.Layout.{joined, lines, new_line}
use Rattle.luo_print.specs.CanonicalValues.{opening, closing, value_text, value_texts, value_arm_texts}
use Rattle.luo_print.specs.Same.{SamePattern, SameValue, SameValues, SameValueArms, same_given, same_made, same_atom_value, no_values, more_values, no_value_arms}
use Rattle.luo_print.specs.Same as same
use Rattle.luo_print.proofs.Cuts.{Quiet, Any, Reads, Then, Takes, takes, seq, next, read_as, read_text, quietly, name_reads, line_before, spaced, quiet_space, quiet_line}
use Rattle.luo_print.proofs.Numerals.{number_reads}
use Rattle.luo_print.proofs.Literals as lit
use Rattle.luo_print.proofs.Literals.{TakesWord, TakesMark}
use Rattle.luo_print.proofs.ValueTexts.{value_arm_line, inner_text, tuple_text, branch_text, case_text, branch_opening, branch_closing, tuple_opening, tuple_closing, case_opening, case_closing}
use Rattle.luo_print.proofs.SameViews.{tuples, branches, chosen}
use Rattle.luo_print.proofs.TypesBack.{AllFit, quiet_close, quiet_comma, quiet_semicolon}
use Rattle.luo_print.proofs.StatementsBack.{PatternAs, pattern_back, call_reads, end_reads, case_head}

abbrev pub ValueAs : SourceValue → List Lexeme → List Lexeme → Type 0
ValueAs v from to = (w : SourceValue) × IsValue from to w × SameValue (source_value_of v) (source_value_of w)

abbrev BranchAs : SourceValue → List Lexeme → List Lexeme → Type 0
BranchAs v from to = (w : SourceValue) × IsBranch from to w × SameValue (source_value_of v) (source_value_of w)

abbrev InnerAs : SourceValue → List Lexeme → List Lexeme → Type 0
InnerAs v from to = (w : SourceValue) × IsInner from to w × SameValue (source_value_of v) (source_value_of w)

abbrev PartsAs : List SourceValue → List Lexeme → List Lexeme → Type 0
PartsAs vs from to = (ws : List SourceValue) × AreParts from to ws × SameValues (source_value_list vs) (source_value_list ws)

abbrev ArmsAs : List SourceValueArm → List Lexeme → List Lexeme → Type 0
ArmsAs arms from to = (others : List SourceValueArm) × AreValueArms from to others × SameValueArms (source_value_arm_list arms) (source_value_arm_list others)

abbrev ArmAs : SourceValueArm → List Lexeme → List Lexeme → Type 0
ArmAs arm from to = (other : SourceValueArm) × IsValueArm from to other × SamePattern arm.pattern other.pattern × SameValue (source_value_of arm.body) (source_value_of other.body)

branch_step : (v : SourceValue) (from to : List Lexeme) → BranchAs v from to → ValueAs v from to
branch_step v from to (w, p, s) = (w, branch_value p, s)

inner_step : (v : SourceValue) (from to : List Lexeme) → InnerAs v from to → ValueAs v from to
inner_step v from to (w, p, s) = (w, inner_value p, s)

bracketed_step : (v : SourceValue) (from to : List Lexeme) → Then (Then (TakesMark LeftRound) (BranchAs v)) (TakesMark RightRound) from to → InnerAs v from to
bracketed_step v from to (two, (one, takes, (w, p, s)), takes) = (w, bracketed p, s)

number_step : (number at : ℕ) (v : SourceValue) (from to : List Lexeme) → Then (Then (Takes (kind.Number number) (decimal number)) (TakesMark Colon)) (InnerAs v) from to → BranchAs (Branch number at v) from to
number_step number at v from to (two, (one, takes {at = k}, takes), (w, p, s)) = (Branch number k w, branch p, branches number at k v w s)

given_step : (text : List ℕ) (at : ℕ) (from to : List Lexeme) → Takes kind.Name text from to → InnerAs (Given (record { text = text; at = at })) from to
given_step text at from to (takes {at = k}) = (Given (record { text = text; at = k }), given, same_given refl)

made_step : (callee arg : List ℕ) (at k : ℕ) (from to : List Lexeme) → Then (Then (Then (Takes kind.Name callee) (TakesMark LeftRound)) (Takes kind.Name arg)) (TakesMark RightRound) from to → InnerAs (Made (record { text = callee; at = at }) (record { text = arg; at = k })) from to
made_step callee arg at k from to (three, (two, (one, takes {at = i}, takes), takes {at = j}), takes) = (Made (record { text = callee; at = i }) (record { text = arg; at = j }), made, same_made refl refl)

free_step : (at : ℕ) (from to : List Lexeme) → TakesWord KwAtom from to → InnerAs (Atom None at) from to
free_step at from to (takes {at = k}) = (Atom None k, free_atom, same_atom_value tt)

charged_step : (text : List ℕ) (name_at at : ℕ) (from to : List Lexeme) → Then (Takes kind.Name text) (TakesWord KwAtom) from to → InnerAs (Atom (Some (record { text = text; at = name_at })) at) from to
charged_step text name_at at from to (one, takes {at = i}, takes {at = k}) = (Atom (Some (record { text = text; at = i })) k, charged_atom, same_atom_value refl)

tuple_step : (v : SourceValue) (vs : List SourceValue) (at : ℕ) (from to : List Lexeme) → Then (Then (TakesWord KwProduct) (TakesMark LeftRound)) (Then (ValueAs v) (Then (TakesMark Comma) (PartsAs vs))) from to → InnerAs (Tuple (v ∷ vs) at) from to
tuple_step v vs at from to (two, (one, takes {at = k}, takes), (three, (w, p, s), (four, takes, (ws, ps, ss)))) = (Tuple (w ∷ ws) k, tuple p ps, tuples (v ∷ vs) (w ∷ ws) at k (more_values s ss))

case_step : (var : List ℕ) (at : ℕ) (arms : List SourceValueArm) (from to : List Lexeme) → Then (Then (Then (TakesWord KwCase) (Takes kind.Name var)) (TakesWord KwOf)) (ArmsAs arms) from to → InnerAs (Case (record { text = var; at = at }) arms) from to
case_step var at arms from to (three, (two, (one, takes, takes {at = k}), takes), (others, d, s)) = (Case (record { text = var; at = k }) others, case_value d, chosen (record { text = var; at = at }) (record { text = var; at = k }) arms others refl s)

last_part_step : (v : SourceValue) (from to : List Lexeme) → Then (ValueAs v) (TakesMark RightRound) from to → PartsAs (v ∷ []) from to
last_part_step v from to (one, (w, p, s), takes) = (w ∷ [], last_part p, more_values s no_values)

more_parts_step : (v : SourceValue) (vs : List SourceValue) (from to : List Lexeme) → Then (ValueAs v) (Then (TakesMark Comma) (PartsAs vs)) from to → PartsAs (v ∷ vs) from to
more_parts_step v vs from to (one, (w, p, s), (two, takes, (ws, ps, ss))) = (w ∷ ws, more_parts p ps, more_values s ss)

last_arm_step : (a : SourceValueArm) (from to : List Lexeme) → Then (ArmAs a) (TakesWord KwEnd) from to → ArmsAs (a ∷ []) from to
last_arm_step a from to (one, (b, p, e, g), takes) = (b ∷ [], last_value_arm p, same.more_value_arms e g no_value_arms)

more_arms_step : (a : SourceValueArm) (arms : List SourceValueArm) (from to : List Lexeme) → Then (ArmAs a) (Then (TakesMark Semicolon) (ArmsAs arms)) from to → ArmsAs (a ∷ arms) from to
more_arms_step a arms from to (one, (b, p, e, g), (two, takes, (others, ps, es))) = (b ∷ others, more_value_arms p ps, same.more_value_arms e g es)

arm_step : (p : Pattern) (v : SourceValue) (from to : List Lexeme) → Then (Then (PatternAs p) (TakesMark Colon)) (ValueAs v) from to → ArmAs (record { pattern = p; body = v }) from to
arm_step p v from to (two, (one, (q, d, e), takes), (w, i, g)) = (record { pattern = q; body = w }, one_value_arm d i, e, g)

parts_tail : (n : ℕ) {from to : List Lexeme} {vs : List SourceValue} → AreParts from to vs → flat_map (λ t. codes ", " ++ t) (value_texts n (source_value_list vs)) ≡ codes ", " ++ joined (codes ", ") (value_texts n (source_value_list vs))
parts_tail n (last_part p) = refl
parts_tail n (more_parts p ps) = refl

arms_tail : (m : ℕ) {from to : List Lexeme} {arms : List SourceValueArm} → AreValueArms from to arms → flat_map (λ t. codes ";" ++ (new_line m ++ t)) (value_arm_texts m (source_value_arm_list arms)) ≡ codes ";" ++ lines m (value_arm_texts m (source_value_arm_list arms))
arms_tail m (last_value_arm p) = refl
arms_tail m (more_value_arms p ps) = refl

quiet_arms : (m : ℕ) {from to : List Lexeme} {arms : List SourceValueArm} → AreValueArms from to arms → (end rest : List ℕ) → Quiet ((lines m (value_arm_texts m (source_value_arm_list arms)) ++ end) ++ rest)
quiet_arms m (last_value_arm p) end rest = quiet_line []
quiet_arms m (more_value_arms p ps) end rest = quiet_line []

-- a branch stands in brackets
opening_branch : {from to : List Lexeme} {v : SourceValue} → IsBranch from to v → opening (source_value_of v) ≡ codes "("
opening_branch (branch {number = number} {at = at} {v = v} i) = branch_opening number at v

closing_branch : {from to : List Lexeme} {v : SourceValue} → IsBranch from to v → closing (source_value_of v) ≡ codes ")"
closing_branch (branch {number = number} {at = at} {v = v} i) = branch_closing number at v

-- what reads as a value, and as what stands inside a branch
abbrev ReadsBoth : ℕ → SourceValue → Type 0
ReadsBoth n v = Reads Quiet (value_text n (source_value_of v)) (ValueAs v) × Reads Quiet (inner_text n v) (InnerAs v)

both : (n : ℕ) (v : SourceValue) → opening (source_value_of v) ≡ [] → closing (source_value_of v) ≡ [] → Reads Quiet (value_text n (source_value_of v)) (InnerAs v) → ReadsBoth n v
both n v e g r = (read_as r (inner_step v), read_text (sym (ap (λ o. o ++ value_text n (source_value_of v) ++ closing (source_value_of v)) e ∙ ap (λ c. value_text n (source_value_of v) ++ c) g ∙ append-nil (value_text n (source_value_of v)))) r)

mutual
  pub value_back : (n : ℕ) {from to : List Lexeme} {v : SourceValue} → IsValue from to v → AllFit from → AllFit to × Reads Quiet (value_text n (source_value_of v)) (ValueAs v)
  value_back n (branch_value {v = v} p) f = let r = branch_back n p f in (r.0, read_as r.1 (branch_step v))
  value_back n (inner_value p) f = let r = inner_back n p f in (r.0, r.1.0)

  branch_back : (n : ℕ) {from to : List Lexeme} {v : SourceValue} → IsBranch from to v → AllFit from → AllFit to × Reads Quiet (value_text n (source_value_of v)) (BranchAs v)
  branch_back n (branch {number = number} {at = at} {v = v} i) f =
      let r = inner_back n i f.1.1 in
      (r.0, read_text (sym (branch_text n number at v)) (read_as (next (seq (number_reads number f.0.1) lit.colon (λ rest d. quiet_space [])) r.1.1) (number_step number at v)))

  inner_back : (n : ℕ) {from to : List Lexeme} {v : SourceValue} → IsInner from to v → AllFit from → AllFit to × ReadsBoth n v
  inner_back n (given {text = text} {at = at}) f = (f.1, both n (Given (record { text = text; at = at })) refl refl (read_as (name_reads text at f.0) (given_step text at)))
  inner_back n (made {text = callee} {arg = arg} {at = at} {arg_at = k}) f = (f.1.1.1.1, both n (Made (record { text = callee; at = at }) (record { text = arg; at = k })) refl refl (read_as (call_reads callee arg at k f.0 f.1.1.0) (made_step callee arg at k)))
  inner_back n (free_atom {at = at}) f = (f.1, both n (Atom None at) refl refl (read_as lit.atom_word (free_step at)))
  inner_back n (charged_atom {text = text} {name_at = k} {at = at}) f = (f.1.1, both n (Atom (Some (record { text = text; at = k })) at) refl refl (read_as (next (spaced quiet_space (name_reads text k f.0)) lit.atom_word) (charged_step text k at)))
  inner_back n (bracketed {v = v} p) f =
      let r = branch_back n p f.1 in (
        r.0.1,
        (
          read_as r.1 (branch_step v),
          read_text (sym (ap (λ o. o ++ value_text n (source_value_of v) ++ closing (source_value_of v)) (opening_branch p) ∙ ap (λ c. codes "(" ++ value_text n (source_value_of v) ++ c) (closing_branch p)))
              (quietly (read_as (seq (next lit.opening_round r.1) lit.closing_round (λ rest d. quiet_close [])) (bracketed_step v))),
        ),
      )
  inner_back n (tuple {at = at} {v = v} {vs = vs} p ps) f =
      let r = value_back n p f.1.1 in
      let s = parts_back n ps r.0.1 in (
        s.0,
        both n (Tuple (v ∷ vs) at) (tuple_opening (v ∷ vs) at) (tuple_closing (v ∷ vs) at) (quietly (read_text
            (sym (tuple_text n (v ∷ vs) at ∙ ap (λ z. codes "product(" ++ z) (append_assoc (value_text n (source_value_of v)) (flat_map (λ t. codes ", " ++ t) (value_texts n (source_value_list vs))) (codes ")") ∙ ap (λ z. value_text n (source_value_of v) ++ (z ++ codes ")")) (parts_tail n ps))))
            (read_as (next lit.product_round (seq r.1 (next lit.comma s.1) (λ rest d. quiet_comma []))) (tuple_step v vs at)))),
      )
  inner_back n (case_value {text = var} {at = at} {arms = arms} d) f =
      let r = arms_back (n + 2) n d f.1.1.1 in
      let head = codes "case " ++ var ++ codes " of" in (
        r.0,
        both n (Case (record { text = var; at = at }) arms) (case_opening (record { text = var; at = at }) arms) (case_closing (record { text = var; at = at }) arms) (read_text (sym (case_text n (record { text = var; at = at }) arms ∙ append_assoc (head ++ lines (n + 2) (value_arm_texts (n + 2) (source_value_arm_list arms))) (new_line n) (codes "end") ∙ append_assoc head (lines (n + 2) (value_arm_texts (n + 2) (source_value_arm_list arms))) (new_line n ++ codes "end")))
            (read_as (seq (case_head var at f.1.0) r.1 (λ rest e. quiet_arms (n + 2) d (new_line n ++ codes "end") rest)) (case_step var at arms))),
      )

  parts_back : (n : ℕ) {from to : List Lexeme} {vs : List SourceValue} → AreParts from to vs → AllFit from → AllFit to × Reads Any (joined (codes ", ") (value_texts n (source_value_list vs)) ++ codes ")") (PartsAs vs)
  parts_back n (last_part {v = v} p) f =
      let r = value_back n p f in
      (r.0.1, read_text (ap (λ z. z ++ codes ")") (sym (append-nil (value_text n (source_value_of v))))) (read_as (seq r.1 lit.closing_round (λ rest d. quiet_close [])) (last_part_step v)))
  parts_back n (more_parts {v = v} {vs = vs} p ps) f =
      let r = value_back n p f in
      let s = parts_back n ps r.0.1 in (
        s.0,
        read_text (sym (append_assoc (value_text n (source_value_of v)) (flat_map (λ t. codes ", " ++ t) (value_texts n (source_value_list vs))) (codes ")") ∙ ap (λ z. value_text n (source_value_of v) ++ (z ++ codes ")")) (parts_tail n ps)))
            (read_as (seq r.1 (next lit.comma s.1) (λ rest d. quiet_comma [])) (more_parts_step v vs)),
      )

  arms_back : (m n : ℕ) {from to : List Lexeme} {arms : List SourceValueArm} → AreValueArms from to arms → AllFit from → AllFit to × Reads Quiet (lines m (value_arm_texts m (source_value_arm_list arms)) ++ (new_line n ++ codes "end")) (ArmsAs arms)
  arms_back m n (last_value_arm {arm = a} p) f =
      let r = arm_back m p f in
      (r.0.1, read_text (ap (λ z. z ++ (new_line n ++ codes "end")) (sym (append-nil (value_arm_line m a)))) (read_as (seq r.1 (end_reads n) (λ rest d. quiet_line [])) (last_arm_step a)))
  arms_back m n (more_value_arms {arm = a} {arms = arms} p ps) f =
      let r = arm_back m p f in
      let t = arms_back m n ps r.0.1 in (
        t.0,
        read_text (sym (append_assoc (value_arm_line m a) (flat_map (λ t. codes ";" ++ (new_line m ++ t)) (value_arm_texts m (source_value_arm_list arms))) (new_line n ++ codes "end") ∙ ap (λ z. value_arm_line m a ++ (z ++ (new_line n ++ codes "end"))) (arms_tail m ps)))
            (read_as (seq r.1 (next lit.semicolon t.1) (λ rest d. quiet_semicolon [])) (more_arms_step a arms)),
      )

  arm_back : (m : ℕ) {from to : List Lexeme} {a : SourceValueArm} → IsValueArm from to a → AllFit from → AllFit to × Reads Quiet (value_arm_line m a) (ArmAs a)
  arm_back m (one_value_arm {p = p} {v = v} d i) f =
      let q = pattern_back d f in
      let r = value_back m i q.0.1 in
      (r.0, line_before m (read_as (next (seq q.1 lit.colon (λ rest d. quiet_space [])) r.1) (arm_step p v)))
