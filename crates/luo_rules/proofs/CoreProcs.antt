-- The procedures of the core form of a source without breach: their bodies, results and sites.
use Rattle.std.proofs.Common.{◌≡◌, ℕ, zero, suc, ◌+◌, ◌≤◌, List, [], ◌∷◌, ◌++◌, length, sum_by, Option, Some, slice_get, refl, sym, ap, subst, arith, length-append}
use Rattle.std.specs.Prelude.{IfSome}
use Rattle.std.proofs.lemmas.List.Sums.{sum_by-cons}
use Rattle.luo_num.specs.declared.limits.TheConstants.{NUMBER_LIMIT, STATEMENT_LIMIT}
use Rattle.luo_model.specs.declared.program.Universe.{Universe}
use Rattle.luo_model.specs.declared.program.Universe.TheVariants.{Unlabelled, Labelled}
use Rattle.luo_model.specs.declared.program.Site.{Site}
use Rattle.luo_model.specs.declared.program.Part.{Part}
use Rattle.luo_model.specs.Program as plain
use Rattle.luo_model.specs.Program.{Program, Procedure, Result}
use Rattle.luo_model.specs.Scopes.Fits.{FitsBody, FitsValue}
use Rattle.luo_model.specs.Scopes.ValueBodies.{value_body, value_sites}
use Rattle.luo_model.specs.Scopes.Sites.{body_sites}
use Rattle.luo_model.specs.Scopes.Walks.{body_items}
use Rattle.luo_model.specs.Invariant.{IsNamed, IsProcedure, placed, sites_from}
use Rattle.luo_source.specs.declared.names.Name.{Name}
use Rattle.luo_source.specs.Plain.Source.{ProcBody, Statements, Value, ProcDef, Source}
use Rattle.luo_rules.specs.declared.names.Meaning.{Meaning}
use Rattle.luo_rules.specs.declared.names.Meaning.TheVariants as mean
use Rattle.luo_rules.specs.declared.setting.Setting.{Setting}
use Rattle.luo_rules.specs.Settings.{meant, def_node, node_meant, type_node, part_meant}
use Rattle.luo_rules.specs.ValueBreaches.{value_breaches}
use Rattle.luo_rules.specs.ValueCore.{value_core}
use Rattle.luo_rules.specs.Counted.{stmts_statements, body_statements}
use Rattle.luo_rules.specs.StatementCore.{stmts_own}
use Rattle.luo_rules.specs.Nodes.{setting_of}
use Rattle.luo_rules.specs.Whole.{result_breaches, parameter, body_breaches, body_core, sites_of, result_core, proc_core, procs_core}
use Rattle.luo_rules.proofs.Lists.{none_some, some_same}
use Rattle.luo_rules.proofs.PatternFacts.{program_over}
use Rattle.luo_rules.proofs.ProperSource.{ProperBody, ProperProc}
use Rattle.luo_rules.proofs.ValueFits.{value_fits}
use Rattle.luo_rules.proofs.GoodItems.{NumbersFrom, own_within, numbers_append}
use Rattle.luo_rules.proofs.ValueItems.{value_size, value_good, value_within, items_few, core_small}
use Rattle.luo_rules.proofs.StatementFits.{owns_bound, stmts_good, stmts_few}
use Rattle.luo_rules.proofs.CleanSource.{Clean, clean_proc, clean_result, type_named, sound_setting}
use Rattle.luo_rules.proofs.CoreSites.{SitesFrom, sites_append, placed_from, placed_length}

-- a body that fits, with so many sites from this number on
pub record GoodBody (p : Program) (vars : List Part) (first count : ℕ) (body : plain.Body) : Type 0 where
  pub fits : FitsBody p vars body
  pub many : length (body_sites p vars body) ≡ count
  pub numbers : NumbersFrom first (body_sites p vars body)

pub sum_get : {A : Type 0} (f : A → ℕ) (xs : List A) (i : ℕ) (x : A) → slice_get xs i ≡ Some x → f x ≤ sum_by f xs
sum_get f [] i x e = absurd (none_some x e)
sum_get f (y ∷ xs) zero x e = omega (arith, sum_by-cons f y xs, ap f (some_same y x e))
sum_get f (y ∷ xs) (suc i) x e = omega (arith, sum_by-cons f y xs, sum_get f xs i x e)

unlabelled : (universe : Universe) (colon : ℕ) (name : Name) → result_breaches universe colon name ≡ [] → universe ≡ Unlabelled
unlabelled Unlabelled colon name e = refl
unlabelled Labelled colon name e = absurd (cc)

-- the program of a source's core form, with any sites
abbrev pub program_for : Source → List Site → List ℕ → Program
program_for source sites analyses = program_over (setting_of source) (procs_core (setting_of source) 0 source.procs) sites analyses

module _ (source : Source) (c : Clean source) (sites : List Site) (analyses : List ℕ) where
  -- the scope of a procedure: its parameter's part
  abbrev scope_of : ProcDef → List Part
  scope_of p = part_meant (setting_of source) (meant (setting_of source) p.on) ∷ []

  value_fit : (p : ProcDef) (i : ℕ) (colon : ℕ) (result : Name) (value : _) → body_breaches (setting_of source) p (Some (def_node (setting_of source) i)) (Value colon result value) ≡ [] → ProperBody (Value colon result value)
      → (j : ℕ) → meant (setting_of source) result ≡ Some (mean.Definition j)
      → FitsValue (program_for source sites analyses) (scope_of p) (def_node (setting_of source) j) (value_core (setting_of source) (parameter (setting_of source) p) (Some (def_node (setting_of source) j)) value)
  value_fit p i colon result value none proper j e =
      let s = setting_of source in
      let procs = procs_core s 0 source.procs in
      let scope = parameter s p in
      let t = clean_result source c colon p.name result (value_breaches s scope (type_node s result) value) none in
      value_fits s procs sites analyses (sound_setting source c) scope (def_node s j) value proper (subst (λ m. value_breaches s scope (node_meant s m) value ≡ []) e t.value)

  -- the body of a procedure on definition i
  body_good : (p : ProcDef) (i at : ℕ) (body : ProcBody) → meant (setting_of source) p.on ≡ Some (mean.Definition i) → body_breaches (setting_of source) p (Some (def_node (setting_of source) i)) body ≡ [] → ProperBody body → body_statements body ≤ STATEMENT_LIMIT
      → GoodBody (program_for source sites analyses) (scope_of p) at (sites_of (setting_of source) p body) (body_core (setting_of source) p at body)
  body_good p i at (Statements stmts) on none proper few =
      let s = setting_of source in
      let procs = procs_core s 0 source.procs in
      let g = stmts_good s procs sites analyses (sound_setting source c) (parameter s p) at stmts proper few none in
      let own = own_within (stmts_own s stmts) (stmts_statements stmts) NUMBER_LIMIT (owns_bound s procs sites analyses (sound_setting source c) stmts) few in
      record { fits = (own, g.fits); many = g.many; numbers = g.numbers }
  body_good p i at (Value colon result value) on none proper few =
      let s = setting_of source in
      let scope = parameter s p in
      let t = clean_result source c colon p.name result (value_breaches s scope (type_node s result) value) none in
      let v = value_core s scope (Some (def_node s t.i)) value in
      let fit = value_fit p i colon result value none proper t.i t.on in
      let small : value_size v ≤ STATEMENT_LIMIT = omega (arith, core_small s scope (Some (def_node s t.i)) value, few) in
      let g = value_good (program_for source sites analyses) (scope_of p) (def_node s t.i) at v fit small in
      let own = value_within (program_for source sites analyses) (scope_of p) (def_node s t.i) v fit small in
      let P : Option Meaning → Type 0 = λ r.
      GoodBody (program_for source sites analyses) (scope_of p) at (value_sites (value_core s scope (node_meant s r) value)) (value_body at (value_core s scope (node_meant s r) value)) in
      let good : P (Some (mean.Definition t.i)) = record { fits = (own, g.fits); many = g.many; numbers = g.numbers } in
      subst P (sym t.on) good

  -- the result of a procedure on definition i
  result_good : (p : ProcDef) (i at : ℕ) (body : ProcBody) → meant (setting_of source) p.on ≡ Some (mean.Definition i) → body_breaches (setting_of source) p (Some (def_node (setting_of source) i)) body ≡ [] → ProperBody body
      → IfSome (result_core (setting_of source) p body) (λ (r : Result). IsNamed (program_for source sites analyses) r.on × (source.universe ≡ Unlabelled)
      × FitsValue (program_for source sites analyses) (scope_of p) r.on.node r.value × ((first : ℕ) × (body_core (setting_of source) p at body ≡ value_body first r.value)))
  result_good p i at (Statements stmts) on none proper = tt
  result_good p i at (Value colon result value) on none proper =
      let s = setting_of source in
      let procs = procs_core s 0 source.procs in
      let scope = parameter s p in
      let t = clean_result source c colon p.name result (value_breaches s scope (type_node s result) value) none in
      let P : Option Meaning → Type 0 = λ r. FitsValue (program_for source sites analyses) (scope_of p) (part_meant s r).node (value_core s scope (node_meant s r) value) in
      let fit : P (Some (mean.Definition t.i)) = value_fit p i colon result value none proper t.i t.on in
      let fit' : P (meant s result) = subst P (sym t.on) fit in
      let named : IsNamed (program_for source sites analyses) (part_meant s (meant s result)) =
      subst (λ m. IsNamed (program_for source sites analyses) (part_meant s m)) (sym t.on) (type_named source c procs sites analyses t.i t.below) in
      (named, unlabelled source.universe colon p.name t.universe, fit', (at, refl))

  pub proc_good : (f : ℕ) (p : ProcDef) → slice_get source.procs f ≡ Some p → ProperProc p → body_statements p.body ≤ STATEMENT_LIMIT → (at : ℕ)
      → GoodBody (program_for source sites analyses) (scope_of p) at (sites_of (setting_of source) p p.body) (body_core (setting_of source) p at p.body)
  proc_good f p e proper few at = let q = clean_proc source c f p e in body_good p q.i at p.body q.on q.body proper few

  pub is_procedure : (f : ℕ) (p : ProcDef) → slice_get source.procs f ≡ Some p → ProperProc p → body_statements p.body ≤ STATEMENT_LIMIT → (at : ℕ) → IsProcedure (program_for source sites analyses) (proc_core (setting_of source) at p)
  is_procedure f p e proper few at =
      let s = setting_of source in
      let q = clean_proc source c f p e in
      let named : IsNamed (program_for source sites analyses) (part_meant s (meant s p.on)) =
      subst (λ m. IsNamed (program_for source sites analyses) (part_meant s m)) (sym q.on) (type_named source c (procs_core s 0 source.procs) sites analyses q.i q.below) in
      (named, (proc_good f p e proper few at).fits, result_good p q.i at p.body q.on q.body proper)

  -- the sites of procedures, from the one of this number on
  pub sites_good : (f first : ℕ) (ps : List ProcDef)
      → ((k : ℕ) (p : ProcDef) → slice_get ps k ≡ Some p → (at : ℕ) → GoodBody (program_for source sites analyses) (scope_of p) at (sites_of (setting_of source) p p.body) (body_core (setting_of source) p at p.body))
      → SitesFrom first (sites_from (program_for source sites analyses) f (procs_core (setting_of source) first ps))
  sites_good f first [] h = tt
  sites_good f first (p ∷ ps) h =
      let s = setting_of source in
      let g = h zero p refl first in
      let n = (part_meant s (meant s p.on)).node in
      let inner : List (ℕ × ℕ) = body_sites (program_for source sites analyses) (scope_of p) (body_core s p first p.body) in
      let own : List (ℕ × ℕ) = (first + sites_of s p p.body, n) ∷ [] in
      let last : NumbersFrom (first + sites_of s p p.body) own = (refl, tt) in
      let numbers : NumbersFrom first (inner ++ own) = numbers_append first (first + sites_of s p p.body) inner own (omega (arith, g.many)) g.numbers last in
      sites_append first (first + sites_of s p p.body + 1) (placed f 0 (inner ++ own)) (sites_from (program_for source sites analyses) (f + 1) (procs_core s (first + sites_of s p p.body + 1) ps))
      (omega (arith, g.many, placed_length f 0 (inner ++ own), length-append inner own)) (placed_from first f 0 (inner ++ own) numbers)
      (sites_good (f + 1) (first + sites_of s p p.body + 1) ps (λ k q e at. h (suc k) q e at))

module _ (s : Setting) where
  body_few : (p : ProcDef) (at : ℕ) (body : ProcBody) → body_items (body_core s p at body) ≤ body_statements body
  body_few p at (Statements stmts) = stmts_few s (parameter s p) at stmts
  body_few p at (Value colon result value) =
      let scope = parameter s p in
      omega (arith, items_few at (value_core s scope (type_node s result) value), core_small s scope (type_node s result) value)

  pub procs_few : (first : ℕ) (ps : List ProcDef) → sum_by (λ P. body_items P.body) (procs_core s first ps) ≤ sum_by (λ p. body_statements p.body) ps
  procs_few first [] = omega arith
  procs_few first (p ∷ ps) =
      let next = first + sites_of s p p.body + 1 in
      omega (arith, body_few p first p.body, procs_few next ps, sum_by-cons (λ (P : Procedure). body_items P.body) (proc_core s first p) (procs_core s next ps), sum_by-cons (λ (q : ProcDef). body_statements q.body) p ps)
