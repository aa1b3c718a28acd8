-- Procedures and analyze lines that are checked one behind the other.
use Rattle.std.proofs.Common.{◌≡◌, ℕ, suc, ◌+◌, ◌*◌, ◌<◌, ◌≤◌, List, [], ◌∷◌, ◌++◌, Some, map, flat_map, length, drop, get_or, sum_by, refl, sym, ◌∙◌, ap, subst, append_assoc, add-one, arith}
use Rattle.std.proofs.lemmas.List.{map-append, append-nil, drop_all}
use Rattle.std.proofs.lemmas.List.Sums.{sum_by-cons}
use Rattle.luo_num.specs.declared.limits.TheConstants.{PROCEDURE_LIMIT, STATEMENT_LIMIT}
use Rattle.luo_model.specs.declared.program.Proc.{Proc}
use Rattle.luo_model.specs.View.{procedure_of}
use Rattle.luo_source.specs.declared.names.Name.{Name}
use Rattle.luo_source.specs.declared.source.ProcDef as held
use Rattle.luo_source.specs.Plain.Source.{ProcBody, Statements, Value, ProcDef}
use Rattle.luo_source.specs.Plain.Values.{SourceValue}
use Rattle.luo_source.specs.View.{proc_body_of, proc_def_of}
use Rattle.luo_types.specs.inner.Held.{body_statements_in}
use Rattle.luo_rules.specs.declared.names.Meaning.TheVariants.{Procedure}
use Rattle.luo_rules.specs.declared.rule.Breach.{Breach}
use Rattle.luo_rules.specs.declared.rule.Stop.{Stop}
use Rattle.luo_rules.specs.declared.setting.Setting.{Setting}
use Rattle.luo_rules.specs.Breaches.{StopsAt}
use Rattle.luo_rules.specs.Meanings as meanings
use Rattle.luo_rules.specs.Meanings.{type_use, procedure_use}
use Rattle.luo_rules.specs.Settings.{meant, type_node}
use Rattle.luo_value_types.specs.inner.Room.{HasRoom}
use Rattle.luo_rules.specs.ValueBreaches.{value_breaches}
use Rattle.luo_value_types.proofs.StopLemmas.{StopsAt-left, StopsAt-right}
use Rattle.luo_value_types.proofs.ValueRoom.{sites_within}
use Rattle.luo_rules.specs.Counted.{body_statements}
use Rattle.luo_types.specs.inner.ProceduresMade.{IsProcMade, AreProcsMade}
use Rattle.luo_rules.specs.Whole.{result_breaches, parameter, body_breaches, sites_of, proc_breaches, procs_breaches, proc_core, procs_core}
use Rattle.luo_types.proofs.ArmsSoFar.{at-element}
use Rattle.luo_types.proofs.StatementRoom.{list_sites-within}

abbrev pub proc_statements : held.ProcDef → ℕ
proc_statements p = body_statements_in p.body

body_sites-within : (s : Setting) (p : ProcDef) (body : ProcBody) → sites_of s p body ≤ 2 * body_statements body
body_sites-within s p (Statements stmts) = list_sites-within stmts
body_sites-within s p (Value colon result value) = omega (arith, sites_within s (parameter s p) (type_node s result) value)

-- the site of a procedure's whole is within the limit
pub whole-site : (s : Setting) (p : ProcDef) (next after : ℕ) → HasRoom (body_statements p.body) 0 next → after ≡ next + sites_of s p p.body → after < 8589934592
whole-site s p next after room e = omega (arith, room.sites, e, body_sites-within s p p.body)

-- a procedure with a result stops at its universe, and at the type of its result
module _ (s : Setting) (p : ProcDef) (node colon : ℕ) (result : Name) (value : SourceValue) where
  abbrev front : List Breach
  front = result_breaches s.universe colon p.name ++ type_use (meant s result) result

  abbrev rest : List Breach
  rest = value_breaches s (parameter s p) (type_node s result) value

  pub universe-stops : (at : Stop) → p.body ≡ Value colon result value → StopsAt (result_breaches s.universe colon p.name) at → StopsAt (body_breaches s p (Some node) p.body) at
  universe-stops at e h = subst (λ b. StopsAt (body_breaches s p (Some node) b) at) (sym e) (StopsAt-left front rest at (StopsAt-left _ _ at h))

  pub result-stops : (at : Stop) → p.body ≡ Value colon result value → result_breaches s.universe colon p.name ≡ [] → StopsAt (type_use (meant s result) result) at → StopsAt (body_breaches s p (Some node) p.body) at
  result-stops at e none h = subst (λ b. StopsAt (body_breaches s p (Some node) b) at) (sym e) (StopsAt-left front rest at (StopsAt-right (result_breaches s.universe colon p.name) _ at none h))

-- what is left of procedures is to be checked as all were from the start
pub record ProcsSoFar (s : Setting) (procs left : List held.ProcDef) (number : ℕ) (made : List Proc) (next : ℕ) : Type 0 where
  pub unbroken : procs_breaches s 0 (map proc_def_of procs) ≡ procs_breaches s number (map proc_def_of left)
  pub formed : map procedure_of made ++ procs_core s next (map proc_def_of left) ≡ procs_core s 0 (map proc_def_of procs)
  pub statements : sum_by proc_statements left ≤ STATEMENT_LIMIT
  pub sites : next + 2 * sum_by proc_statements left + length left ≤ 2112

module _ (s : Setting) (procs : List held.ProcDef) where
  pub so_far-none : sum_by proc_statements procs ≤ STATEMENT_LIMIT → length procs ≤ PROCEDURE_LIMIT → ProcsSoFar s procs procs 0 [] 0
  so_far-none h few = record { unbroken = refl; formed = refl; statements = h; sites = omega (arith, h, few) }

  pub at-proc : (i : ℕ) (p : held.ProcDef) (made : List Proc) (next : ℕ) → ProcsSoFar s procs (drop i procs) i made next → i < length procs → p ≡ get_or procs i p → ProcsSoFar s procs (p ∷ drop (i + 1) procs) i made next
  at-proc i p made next so h e = subst (λ l. ProcsSoFar s procs l i made next) (at-element procs i p h e) so

  pub proc-room : (p : held.ProcDef) (rest : List held.ProcDef) (number : ℕ) (made : List Proc) (next : ℕ) → ProcsSoFar s procs (p ∷ rest) number made next → HasRoom (proc_statements p) 0 next
  proc-room p rest number made next so = record {
    charges = omega (arith, so.statements, sum_by-cons proc_statements p rest);
    sites = omega (arith, so.sites, sum_by-cons proc_statements p rest);
  }

  pub so_far-stop : (p : held.ProcDef) (rest : List held.ProcDef) (number : ℕ) (made : List Proc) (next : ℕ) (at : Stop) → ProcsSoFar s procs (p ∷ rest) number made next → StopsAt (proc_breaches s number (proc_def_of p)) at → StopsAt (procs_breaches s 0 (map proc_def_of procs)) at
  so_far-stop p rest number made next at so h = subst (λ bs. StopsAt bs at) (sym so.unbroken) (StopsAt-left _ (procs_breaches s (suc number) (map proc_def_of rest)) at h)

  pub so_far-more : (p : held.ProcDef) (rest : List held.ProcDef) (number : ℕ) (made new : List Proc) (one : Proc) (next after : ℕ) → ProcsSoFar s procs (p ∷ rest) number made next → IsProcMade s number (proc_def_of p) one next after → new ≡ made ++ one ∷ []
      → ProcsSoFar s procs rest (number + 1) new after
  so_far-more p rest number made new one next after so is e = record {
    unbroken = so.unbroken ∙ ap (λ bs. bs ++ procs_breaches s (suc number) (map proc_def_of rest)) is.unbroken ∙ ap (λ n. procs_breaches s n (map proc_def_of rest)) (sym (add-one number));
    formed =
        ap (λ l. map procedure_of l ++ procs_core s after (map proc_def_of rest)) e
        ∙ ap (λ l. l ++ procs_core s after (map proc_def_of rest)) (map-append procedure_of made (one ∷ []))
        ∙ append_assoc (map procedure_of made) (procedure_of one ∷ []) (procs_core s after (map proc_def_of rest))
        ∙ ap (λ P. map procedure_of made ++ P ∷ procs_core s after (map proc_def_of rest)) is.formed
        ∙ ap (λ n. map procedure_of made ++ proc_core s next (proc_def_of p) ∷ procs_core s n (map proc_def_of rest)) is.numbered
        ∙ so.formed;
    statements = omega (arith, so.statements, sum_by-cons proc_statements p rest);
    sites = omega (arith, so.sites, sum_by-cons proc_statements p rest, is.numbered, body_sites-within s (proc_def_of p) (proc_body_of p.body));
  }

  pub so_far-all : (i : ℕ) (made : List Proc) (next : ℕ) → ProcsSoFar s procs (drop i procs) i made next → length procs ≤ i → AreProcsMade s (map proc_def_of procs) made
  so_far-all i made next left h =
      let so = subst (λ l. ProcsSoFar s procs l i made next) (drop_all i procs h) left in
      record { unbroken = so.unbroken; formed = sym (append-nil (map procedure_of made)) ∙ so.formed }

-- the breaches of analyze lines
abbrev pub uses : Setting → List Name → List Breach
uses s names = flat_map (λ name. procedure_use (meant s name) name) names

abbrev pub used : Setting → List Name → List ℕ
used s names = map (λ name. meanings.procedure_of (meant s name)) names

-- what is left of analyze lines is to be checked as all were from the start
pub record NamesSoFar (s : Setting) (names left : List Name) (made : List ℕ) : Type 0 where
  pub unbroken : uses s names ≡ uses s left
  pub formed : made ++ used s left ≡ used s names

module _ (s : Setting) (names : List Name) where
  pub at-name : (i : ℕ) (name : Name) (made : List ℕ) → NamesSoFar s names (drop i names) made → i < length names → name ≡ get_or names i name → NamesSoFar s names (name ∷ drop (i + 1) names) made
  at-name i name made so h e = subst (λ l. NamesSoFar s names l made) (at-element names i name h e) so

  pub names-stop : (name : Name) (rest : List Name) (made : List ℕ) (at : Stop) → NamesSoFar s names (name ∷ rest) made → StopsAt (procedure_use (meant s name) name) at → StopsAt (uses s names) at
  names-stop name rest made at so h = subst (λ bs. StopsAt bs at) (sym so.unbroken) (StopsAt-left _ (uses s rest) at h)

  pub names-more : (name : Name) (rest : List Name) (made new : List ℕ) (f : ℕ) → NamesSoFar s names (name ∷ rest) made → procedure_use (meant s name) name ≡ [] → meant s name ≡ Some (Procedure f) → new ≡ made ++ f ∷ [] → NamesSoFar s names rest new
  names-more name rest made new f so none m e = record {
    unbroken = so.unbroken ∙ ap (λ bs. bs ++ uses s rest) none;
    formed =
        ap (λ l. l ++ used s rest) e ∙ append_assoc made (f ∷ []) (used s rest)
        ∙ ap (λ n. made ++ n ∷ used s rest) (sym (ap meanings.procedure_of m)) ∙ so.formed;
  }

  pub names-all : (i : ℕ) (made : List ℕ) → NamesSoFar s names (drop i names) made → length names ≤ i → (uses s names ≡ []) × (made ≡ used s names)
  names-all i made left h =
      let so = subst (λ l. NamesSoFar s names l made) (drop_all i names h) left in
      (so.unbroken, sym (append-nil made) ∙ so.formed)
