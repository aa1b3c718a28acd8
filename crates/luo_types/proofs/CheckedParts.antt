-- The parts of a checked source make its core form.
use Rattle.std.proofs.Common.{◌≡◌, ℕ, ◌<◌, ◌≤◌, List, [], ◌++◌, Option, Some, None, map, flat_map, length, sum_by, slice_get, refl, sym, ◌∙◌, ap, subst, arith}
use Rattle.std.proofs.lemmas.Option.{get_or_from_slice_get}
use Rattle.luo_num.specs.declared.limits.TheConstants.{NUMBER_LIMIT, WALK_LIMIT}
use Rattle.luo_model.specs.declared.program.Node.{Node}
use Rattle.luo_model.specs.declared.program.Shape.{Shape}
use Rattle.luo_model.specs.declared.program.Shape.TheVariants as shape
use Rattle.luo_model.specs.declared.program.Site.{Site}
use Rattle.luo_model.specs.declared.program.Universe.{Universe}
use Rattle.luo_model.specs.Invariant.{IsProgram, IsAllowed, inner_parts}
use Rattle.luo_model.specs.Program as plain
use Rattle.luo_model.specs.Program.{no_node}
use Rattle.luo_model.specs.View.{plain_of, procedure_of}
use Rattle.luo_source.specs.Plain.Source.{Source}
use Rattle.luo_rules.specs.declared.names.Meaning.TheVariants.{Measure}
use Rattle.luo_rules.specs.declared.rule.Breach.{Breach}
use Rattle.luo_rules.specs.declared.rule.Stop.{Stop}
use Rattle.luo_rules.specs.declared.setting.Setting.{Setting}
use Rattle.luo_rules.specs.Breaches.{StopsAt}
use Rattle.luo_rules.specs.Meanings as meanings
use Rattle.luo_rules.specs.Meanings.{procedure_use}
use Rattle.luo_rules.specs.Settings.{meant, shape_at, types_of}
use Rattle.luo_value_types.specs.inner.Room.{HasMeasuresWithin, HasFewBranches}
use Rattle.luo_rules.proofs.ListFacts.{get_or-none}
use Rattle.luo_value_types.proofs.StopLemmas.{StopsAt-left, StopsAt-right, StopsAt-first, StopsAt-then, none-append, none-or_if_none}
use Rattle.luo_rules.specs.Checks.{IsSource, IsWithinLimits, IsChecked, WalksTooMuch}
use Rattle.luo_rules.specs.Definitions.{definitions, measures, names_of}
use Rattle.luo_rules.specs.Nodes.{setting_of}
use Rattle.luo_types.specs.inner.ProceduresMade.{AreProcsMade}
use Rattle.luo_types.specs.inner.SitesFound.{sites_in, procedure_walks, procedure_items}
use Rattle.luo_rules.specs.TypeBreaches.{types_breaches, measures_breaches}
use Rattle.luo_types.specs.inner.Typed.{IsTyped}
use Rattle.luo_rules.specs.Whole.{breaches, procs_breaches, procs_core, core, walk_count}
use Rattle.luo_types.specs.declared.checking.Typed.{Typed}
use Rattle.luo_rules.proofs.CleanSource.{sound_all}
use Rattle.luo_rules.proofs.CoreAllowed.{allowed}
use Rattle.luo_rules.proofs.CoreIsProgram.{core_is_program}
use Rattle.luo_rules.proofs.CoreProcs.{procs_few}
use Rattle.luo_rules.proofs.Lists.{nil_left}
use Rattle.luo_rules.proofs.NameFacts.{names_within, all_within}
use Rattle.luo_rules.proofs.ProperSource.{source_proper}
use Rattle.luo_rules.proofs.SourceFacts.{within_limits, copies_limited}
use Rattle.luo_types.proofs.WalksSame.{walks-same}

-- the measures of a source are within the greatest charge
pub measures-within : (source : Source) → IsSource source → HasMeasuresWithin (setting_of source)
measures-within source is text number value e = names_within source NUMBER_LIMIT (all_within NUMBER_LIMIT source.measures (source_proper source is).values) text (Measure number value) e

allowed-few : (universe : Universe) (s : Shape) → IsAllowed universe s → length (inner_parts s) < 4294967296
allowed-few universe (shape.Atom weight) h = omega arith
allowed-few universe (shape.Union parts) h = omega (arith, h.1)
allowed-few universe (shape.Product parts) h = omega (arith, h.1)
allowed-few universe (shape.Coll kind part low high) h = omega arith

-- the construct of a node, or of no node
few_at : (s : Setting) (x : ℕ) (o : Option Node) → slice_get s.nodes x ≡ o → ((node : Node) → slice_get s.nodes x ≡ Some node → IsAllowed s.universe node.shape) → length (inner_parts (shape_at s x)) < 4294967296
few_at s x None e h = omega (arith, ap (λ (n : Node). length (inner_parts n.shape)) (get_or-none s.nodes x no_node e))
few_at s x (Some node) e h = omega (arith, ap (λ (n : Node). length (inner_parts n.shape)) (get_or_from_slice_get s.nodes x node no_node e), allowed-few s.universe node.shape (h node e))

pub branches-few : (source : Source) → IsSource source → IsWithinLimits source → types_breaches source.universe (names_of source) (definitions source) 0 source.types ++ measures_breaches (names_of source) 0 (measures source) ≡ [] → HasFewBranches (setting_of source)
branches-few source is within e x =
    let s = setting_of source in
    let names = names_of source in
    let defs = definitions source in
    let types = nil_left (types_breaches source.universe names defs 0 source.types) (measures_breaches names 0 (measures source)) e in
    let all = sound_all source (source_proper source is) types in
    few_at s x (slice_get s.nodes x) refl (λ node h. allowed source.universe names defs all (λ i d f. copies_limited source (within_limits source within) i d f) x node h)

-- the breaches of procedures and analyze lines
abbrev later : Source → List Breach
later source = procs_breaches (setting_of source) 0 source.procs ++ flat_map (λ name. procedure_use (meant (setting_of source) name) name) source.analyses

module _ (source : Source) where
  pub procs-stop : (at : Stop) → types_breaches source.universe (names_of source) (definitions source) 0 source.types ++ measures_breaches (names_of source) 0 (measures source) ≡ [] → StopsAt (procs_breaches (setting_of source) 0 source.procs) at → StopsAt (breaches source) at
  procs-stop at e h = StopsAt-then _ (later source) at e (StopsAt-left _ _ at h)

  pub analyses-stop : (at : Stop) → types_breaches source.universe (names_of source) (definitions source) 0 source.types ++ measures_breaches (names_of source) 0 (measures source) ≡ [] → procs_breaches (setting_of source) 0 source.procs ≡ []
      → StopsAt (flat_map (λ name. procedure_use (meant (setting_of source) name) name) source.analyses) at → StopsAt (breaches source) at
  analyses-stop at e f h = StopsAt-then _ (later source) at e (StopsAt-right _ _ at f h)

  pub types-stop : (at : Stop) → StopsAt (types_breaches source.universe (names_of source) (definitions source) 0 source.types ++ measures_breaches (names_of source) 0 (measures source)) at → StopsAt (breaches source) at
  types-stop at h = StopsAt-first _ (later source) at h

  pub typed : (t : Typed) → types_breaches source.universe (names_of source) (definitions source) 0 source.types ++ measures_breaches (names_of source) 0 (measures source) ≡ [] → t.setting ≡ setting_of source → AreProcsMade t.setting source.procs t.procs
      → flat_map (λ name. procedure_use (meant t.setting name) name) source.analyses ≡ [] → t.analyses ≡ map (λ name. meanings.procedure_of (meant t.setting name)) source.analyses → IsTyped source t
  typed t e same are lines f =
      let made = subst (λ s. AreProcsMade s source.procs t.procs) same are in
      record {
        unbroken = none-or_if_none _ (later source) e (none-append (procs_breaches (setting_of source) 0 source.procs) _ made.unbroken (ap (λ s. flat_map (λ name. procedure_use (meant s name) name) source.analyses) (sym same) ∙ lines));
        setting = same;
        procs = made.formed;
        analyses = f ∙ ap (λ s. map (λ name. meanings.procedure_of (meant s name)) source.analyses) same;
      }

module _ (source : Source) (t : Typed) (is : IsTyped source t) where
  pub few-items : IsWithinLimits source → sum_by procedure_items (map procedure_of t.procs) ≤ 1073741824
  few-items within =
      omega (arith, ap (sum_by procedure_items) is.procs, procs_few (setting_of source) 0 source.procs, (within_limits source within).statements)

  pub walks-counted : (walks : ℕ) → walks ≡ sum_by (procedure_walks (types_of t.setting)) (map procedure_of t.procs) → walks ≡ walk_count (core source)
  walks-counted walks e =
      e ∙ ap (λ s. sum_by (procedure_walks (types_of s)) (map procedure_of t.procs)) is.setting ∙ ap (sum_by (procedure_walks (types_of (setting_of source)))) is.procs
      ∙ walks-same (setting_of source) (procs_core (setting_of source) 0 source.procs) (map (λ name. meanings.procedure_of (meant (setting_of source) name)) source.analyses) (procs_core (setting_of source) 0 source.procs)

  pub plain-core : (sites : List Site) → sites ≡ sites_in (types_of t.setting) 0 (map procedure_of t.procs)
      → plain_of (record { universe = t.setting.universe; defs = t.setting.defs; nodes = t.setting.nodes; procs = t.procs; sites = sites; analyses = t.analyses }) ≡ core source
  plain-core sites e =
      let s = setting_of source in
      let made = λ (u : Setting) (l : List Site) (ps : List plain.Procedure) (lines : List ℕ). let p : plain.Program = record { universe = u.universe; defs = u.defs; nodes = u.nodes; procs = ps; sites = l; analyses = lines } in p in
      ap (λ l. made t.setting l (map procedure_of t.procs) t.analyses) e
      ∙ ap (λ u. made u (sites_in (types_of u) 0 (map procedure_of t.procs)) (map procedure_of t.procs) t.analyses) is.setting
      ∙ ap (λ ps. made s (sites_in (types_of s) 0 ps) ps t.analyses) is.procs
      ∙ ap (made s (sites_in (types_of s) 0 (procs_core s 0 source.procs)) (procs_core s 0 source.procs)) is.analyses

  module _ (source_is : IsSource source) (within : IsWithinLimits source) (walks : ℕ) (counted : walks ≡ sum_by (procedure_walks (types_of t.setting)) (map procedure_of t.procs)) where
    pub too-many : WALK_LIMIT < walks → WalksTooMuch source
    too-many h = (is.unbroken, omega (arith, h, walks-counted walks counted))

    module _ (few : walks ≤ WALK_LIMIT) (sites : List Site) (e : sites ≡ sites_in (types_of t.setting) 0 (map procedure_of t.procs)) where
      abbrev whole : plain.Program
      whole = plain_of (record { universe = t.setting.universe; defs = t.setting.defs; nodes = t.setting.nodes; procs = t.procs; sites = sites; analyses = t.analyses })

      few_walks : walk_count (core source) ≤ WALK_LIMIT
      few_walks = omega (arith, few, walks-counted walks counted)

      pub is-program : IsProgram whole
      is-program = subst IsProgram (sym (plain-core sites e)) (core_is_program source source_is within is.unbroken few_walks)

      pub is-checked : IsChecked source whole
      is-checked = (within, (is.unbroken, plain-core sites e), subst (λ p. walk_count p ≤ WALK_LIMIT) (sym (plain-core sites e)) few_walks)
