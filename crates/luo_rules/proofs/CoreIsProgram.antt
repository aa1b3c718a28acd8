-- The core form of a source without breach and within the limits has the invariant of programs.
use Rattle.std.proofs.Common.{◌≡◌, ℕ, ◌+◌, ◌≤◌, ◌<◌, ◌⊎◌, List, [], ◌++◌, map, length, Some, slice_get, sym, ap, ◌∙◌, subst, inl, inr, arith}
use Rattle.std.proofs.lemmas.List.{length-map}
use Rattle.luo_num.specs.declared.limits.TheConstants.{STATEMENT_LIMIT, WALK_LIMIT}
use Rattle.luo_finite.specs.Listing.{In, NoDouble}
use Rattle.luo_finite.proofs.Membership.{In-map_back}
use Rattle.luo_model.specs.declared.program.Def.{Def}
use Rattle.luo_model.specs.declared.program.Site.{Site}
use Rattle.luo_model.specs.Program.{Procedure}
use Rattle.luo_model.specs.Invariant.{IsProgram, IsProcedure, sites_from, numbered_from}
use Rattle.luo_source.specs.declared.names.Name.{Name}
use Rattle.luo_source.specs.Plain.Source.{ProcDef, Source}
use Rattle.luo_rules.specs.declared.names.Meaning.TheVariants as mean
use Rattle.luo_rules.specs.Meanings.{meaning, procedure_use, procedure_of}
use Rattle.luo_rules.specs.Settings.{types_of, meant}
use Rattle.luo_rules.specs.Counted.{body_statements}
use Rattle.luo_rules.specs.Definitions.{definitions, names_of}
use Rattle.luo_rules.specs.Nodes.{defs_from, setting_of}
use Rattle.luo_rules.specs.Whole.{breaches, core, walk_count, procs_core}
use Rattle.luo_rules.specs.Checks.{IsSource, IsWithinLimits}
use Rattle.luo_rules.proofs.Lists.{get_cases, map_get, place_in, places_apart, flat_nil}
use Rattle.luo_rules.proofs.NodeLists.{def_back, defs_length, nodes_from_length, copies_nodes, copies_length}
use Rattle.luo_rules.proofs.CoreNodes.{wholes_there, parts_there, owners_there, first_place, in_order, wholes_first, naming_ends}
use Rattle.luo_rules.proofs.CoreHolders.{held, bare_held}
use Rattle.luo_rules.proofs.HeldPlaces.{one_place}
use Rattle.luo_rules.proofs.CoreAllowed.{allowed, from_multisets, copies_multisets}
use Rattle.luo_rules.proofs.ProperSource.{ProperProc, source_proper}
use Rattle.luo_rules.proofs.ValueFits.{procedure_meant}
use Rattle.luo_rules.proofs.SourceFacts.{all_get, within_limits, copies_limited}
use Rattle.luo_rules.proofs.CleanSource.{Clean, clean, clean_proc, proc_back, procs_length}
use Rattle.luo_rules.proofs.CoreSites.{sites_same, numbered}
use Rattle.luo_rules.proofs.CoreProcs.{program_for, proc_good, is_procedure, sites_good, procs_few, sum_get}

module _ (source : Source) (c : Clean source) where
  defs_mean : (i : ℕ) (x : List ℕ) → slice_get (map (λ (d : Def). d.name) (defs_from (names_of source) (definitions source) 0 (definitions source))) i ≡ Some x → meaning (names_of source) x ≡ Some (mean.Definition i)
  defs_mean i x e =
      let v = map_get (λ (d : Def). d.name) (defs_from (names_of source) (definitions source) 0 (definitions source)) i x e in
      let d = def_back (names_of source) (definitions source) 0 (definitions source) i v.0 v.1 in
      ap (meaning (names_of source)) (v.2 ∙ ap (λ (z : Def). z.name) d.2) ∙ (c.all.each i d.0 d.1).own_name

  procs_mean : (f : ℕ) (x : List ℕ) → slice_get (map (λ (P : Procedure). P.name) (procs_core (setting_of source) 0 source.procs)) f ≡ Some x → meaning (names_of source) x ≡ Some (mean.Procedure f)
  procs_mean f x e =
      let P = map_get (λ (P : Procedure). P.name) (procs_core (setting_of source) 0 source.procs) f x e in
      let p = proc_back (setting_of source) 0 source.procs f P.0 P.1 in
      ap (meaning (names_of source)) (P.2 ∙ ap (λ (z : Procedure). z.name) p.3) ∙ (clean_proc source c f p.0 p.2).own_name

  -- the names of definitions and procedures differ
  distinct : NoDouble (map (λ (d : Def). d.name) (defs_from (names_of source) (definitions source) 0 (definitions source)) ++ map (λ (P : Procedure). P.name) (procs_core (setting_of source) 0 source.procs))
  distinct = places_apart _ (λ i j x p q. by x i j (get_cases defs procs i x p) (get_cases defs procs j x q))
    where
      defs : List (List ℕ)
      defs = map (λ (d : Def). d.name) (defs_from (names_of source) (definitions source) 0 (definitions source))

      procs : List (List ℕ)
      procs = map (λ (P : Procedure). P.name) (procs_core (setting_of source) 0 source.procs)

      by : (x : List ℕ) (i j : ℕ) → (slice_get defs i ≡ Some x) ⊎ ((k : ℕ) × (i ≡ length defs + k) × (slice_get procs k ≡ Some x)) → (slice_get defs j ≡ Some x) ⊎ ((k : ℕ) × (j ≡ length defs + k) × (slice_get procs k ≡ Some x)) → i ≡ j
      by x i j (inl p) (inl q) = let e = defs_mean i x p in let f = defs_mean j x q in cc
      by x i j (inl p) (inr q) = let e = defs_mean i x p in let f = procs_mean q.0 x q.2 in absurd (cc)
      by x i j (inr p) (inl q) = let e = procs_mean p.0 x p.2 in let f = defs_mean j x q in absurd (cc)
      by x i j (inr p) (inr q) = let e = procs_mean p.0 x p.2 in let f = procs_mean q.0 x q.2 in let same : p.0 ≡ q.0 = cc in omega (arith, p.1, q.1, same)

  -- an analyze line names a procedure
  analysed : (f : ℕ) → In f (map (λ name. procedure_of (meant (setting_of source) name)) source.analyses) → f < length (procs_core (setting_of source) 0 source.procs)
  analysed f m =
      let s = setting_of source in
      let n = In-map_back (λ (name : Name). procedure_of (meant s name)) f source.analyses m in
      let place = place_in n.0 source.analyses n.1 in
      let none = flat_nil (λ (name : Name). procedure_use (meant s name) name) source.analyses place.0 n.0 c.analyses place.1 in
      let g = procedure_meant (meant s n.0) n.0 none in
      let small : g.0 < length source.procs = c.within n.0.text (mean.Procedure g.0) g.1 in
      let same : f ≡ g.0 = n.2 ∙ ap procedure_of g.1 in
      omega (arith, small, same, procs_length s 0 source.procs)

-- the core form of a source without breach and within the limits is a program
pub core_is_program : (source : Source) → IsSource source → IsWithinLimits source → breaches source ≡ [] → walk_count (core source) ≤ WALK_LIMIT → IsProgram (core source)
core_is_program source is limits none walks =
    let s = setting_of source in
    let names = names_of source in
    let defs = definitions source in
    let proper = source_proper source is in
    let c = clean source proper none in
    let l = within_limits source limits in
    let procs = procs_core s 0 source.procs in
    let sites = map (λ (site : ℕ × Site). site.1) (sites_from (types_of s) 0 procs) in
    let lines = map (λ (name : Name). procedure_of (meant s name)) source.analyses in
    let small : (f : ℕ) (p : ProcDef) → slice_get source.procs f ≡ Some p → body_statements p.body ≤ STATEMENT_LIMIT = λ f p e. omega (arith, sum_get (λ (q : ProcDef). body_statements q.body) source.procs f p e, l.statements) in
    let whole : (f : ℕ) (p : ProcDef) → slice_get source.procs f ≡ Some p → ProperProc p = λ f p e. all_get ProperProc source.procs f p proper.bodies e in
    let same = sites_same s procs [] sites [] lines [] 0 procs in
    let order = numbered 0 (sites_from (program_for source sites lines) 0 procs) (sites_good source c sites lines 0 0 source.procs (λ k p e at. proc_good source c sites lines k p e (whole k p e) (small k p e) at)) in
    record {
      wholes_there = wholes_there source.universe names defs c.all procs sites lines;
      parts_there = parts_there source.universe names defs c.all procs sites lines;
      analyses_there = analysed source c;
      owners_there = λ x node e. omega (arith, owners_there source.universe names defs c.all procs sites lines x node e, defs_length names defs 0 defs);
      first_place = first_place source.universe names defs c.all procs sites lines;
      in_order = in_order source.universe names defs c.all procs sites lines;
      wholes_first = wholes_first source.universe names defs c.all procs sites lines;
      held = held source.universe names defs c.all procs sites lines;
      bare_held = bare_held source.universe names defs c.all procs sites lines;
      one_place = one_place source.universe names defs c.all;
      naming_ends = λ i h. naming_ends source.universe names defs c.all procs sites lines i (omega (arith, h, defs_length names defs 0 defs));
      distinct = distinct source c;
      allowed = allowed source.universe names defs c.all (copies_limited source l);
      few_definitions = omega (arith, defs_length names defs 0 defs, copies_length source.types, l.definitions);
      few_nodes = omega (arith, nodes_from_length names defs 0 0 defs, copies_nodes source.types, l.nodes);
      few_multisets = omega (arith, from_multisets names defs 0 0 defs, copies_multisets source.types, l.multisets);
      few_procedures = omega (arith, procs_length s 0 source.procs, l.procedures);
      few_items = omega (arith, procs_few s 0 source.procs, l.statements);
      few_analyses = omega (arith, length-map source.analyses (λ (name : Name). procedure_of (meant s name)), l.analyses);
      few_walks = walks;
      procedures = λ f P e. let b = proc_back s 0 source.procs f P e in subst (IsProcedure (program_for source sites lines)) (sym b.3) (is_procedure source c sites lines f b.0 b.2 (whole f b.0 b.2) (small f b.0 b.2) b.1);
      sites = order ∙ ap (λ all. numbered_from 0 (map (λ (site : ℕ × Site). site.1) all)) same;
    }
