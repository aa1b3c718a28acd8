-- A source without breach: its types, its names and its procedures.
use Rattle.std.proofs.Common.{◌≡◌, ℕ, zero, suc, ◌+◌, ◌<◌, List, [], ◌∷◌, ◌++◌, map, length, Option, Some, slice_get, refl, sym, ap, ◌∙◌, subst, arith}
use Rattle.std.specs.Prelude.{flat_map, slice_index_or}
use Rattle.std.specs.Option.{option_map}
use Rattle.luo_num.specs.declared.limits.TheConstants.{NUMBER_LIMIT}
use Rattle.luo_model.specs.declared.program.Site.{Site}
use Rattle.luo_model.specs.Program.{Procedure, Result}
use Rattle.luo_model.specs.Invariant.{IsNamed}
use Rattle.luo_source.specs.declared.names.Name.{Name}
use Rattle.luo_source.specs.Plain.Source.{ProcBody, Statements, Value, ProcDef, Source}
use Rattle.luo_rules.specs.declared.names.Meaning.TheVariants as mean
use Rattle.luo_rules.specs.declared.rule.Breach.{Breach}
use Rattle.luo_rules.specs.declared.setting.Setting.{Setting}
use Rattle.luo_rules.specs.declared.setting.Signature.{Signature}
use Rattle.luo_rules.specs.Meanings.{meaning, type_use, procedure_use}
use Rattle.luo_rules.specs.Settings.{meant, def_node, node_meant, type_node, part_meant, no_signature}
use Rattle.luo_rules.specs.ValueBreaches.{value_breaches}
use Rattle.luo_rules.specs.Definitions.{definitions, measures, names_of, first_node, definition_meant}
use Rattle.luo_rules.specs.inner.Naming.{node_of}
use Rattle.luo_rules.specs.TypeBreaches.{name_breaches, types_breaches, measures_breaches}
use Rattle.luo_rules.specs.Nodes.{defs_from, nodes_from, named_node, result_name, signature_of, setting_of}
use Rattle.luo_rules.specs.Whole.{result_breaches, parameter, body_breaches, proc_breaches, procs_breaches, breaches, proc_core, procs_core, sites_of, result_core}
use Rattle.luo_rules.proofs.Lists.{some_same, none_some, get_below, index_get, get_map, nil_left, nil_right, none_first, none_then}
use Rattle.luo_rules.proofs.NodeLists.{def_at, def_get}
use Rattle.luo_rules.proofs.NameFacts.{NamesWithin, names_within, all_within, means_procedure, Sound, sound}
use Rattle.luo_rules.proofs.DefinitionFacts.{SoundAll, type_meant, whole_node}
use Rattle.luo_rules.proofs.CoreNodes.{program_of, wholes_there}
use Rattle.luo_rules.proofs.ProperSource.{ProperSource, ProperDef}
use Rattle.luo_rules.proofs.SourceFacts.{all_get, copy_of}
use Rattle.luo_rules.proofs.ValueFits.{Callee, SoundSetting}

-- a source without breach
pub record Clean (source : Source) : Type 0 where
  pub all : SoundAll source.universe (names_of source) (definitions source)
  pub within : NamesWithin (length (definitions source)) NUMBER_LIMIT (length source.procs) (names_of source)
  pub procedures : procs_breaches (setting_of source) 0 source.procs ≡ []
  pub analyses : flat_map (λ name. procedure_use (meant (setting_of source) name) name) source.analyses ≡ []

from_zero : (i : ℕ) → 0 + i ≡ i
from_zero i = omega arith

-- definitions without breach are sound
pub sound_all : (source : Source) → ProperSource source.types source.measures source.procs → types_breaches source.universe (names_of source) (definitions source) 0 source.types ≡ [] → SoundAll source.universe (names_of source) (definitions source)
sound_all source p types =
    let names = names_of source in
    let defs = definitions source in
    let within : NamesWithin (length defs) NUMBER_LIMIT (length source.procs) names = names_within source NUMBER_LIMIT (all_within NUMBER_LIMIT source.measures p.values) in
    record {
      each = λ i d h. subst (λ n. Sound source.universe names defs n d) (from_zero i) (sound source.universe names defs 0 source.types i d types h);
      proper = λ i d h. let c = copy_of source.types i d h in subst (λ r. ProperDef (record { names = []; body = r })) (sym c.right) (all_get ProperDef source.types c.k c.t p.right_sides c.is);
      below = λ text i h. within text (mean.Definition i) h;
    }

pub clean : (source : Source) → ProperSource source.types source.measures source.procs → breaches source ≡ [] → Clean source
clean source p e =
    let names = names_of source in
    let defs = definitions source in
    let first = types_breaches source.universe names defs 0 source.types in
    let second = measures_breaches names 0 (measures source) in
    let third = procs_breaches (setting_of source) 0 source.procs in
    let fourth = flat_map (λ name. procedure_use (meant (setting_of source) name) name) source.analyses in
    let types = nil_left first second (none_first (first ++ second) (third ++ fourth) e) in
    let rest = none_then (first ++ second) (third ++ fourth) e in
    let within : NamesWithin (length defs) NUMBER_LIMIT (length source.procs) names = names_within source NUMBER_LIMIT (all_within NUMBER_LIMIT source.measures p.values) in
    record {
      all = sound_all source p types;
      within = within;
      procedures = nil_left third fourth rest;
      analyses = nil_right third fourth rest;
    }

procs_none : (s : Setting) (f : ℕ) (ps : List ProcDef) (k : ℕ) (p : ProcDef) → procs_breaches s f ps ≡ [] → slice_get ps k ≡ Some p → proc_breaches s (f + k) p ≡ []
procs_none s f [] k p e h = absurd (none_some p h)
procs_none s f (q ∷ ps) zero p e h =
    ap (λ n. proc_breaches s n p) (omega arith) ∙ (ap (proc_breaches s f) (sym (some_same q p h)) ∙ nil_left (proc_breaches s f q) (procs_breaches s (suc f) ps) e)
procs_none s f (q ∷ ps) (suc k) p e h = ap (λ n. proc_breaches s n p) (omega arith) ∙ procs_none s (suc f) ps k p (nil_right (proc_breaches s f q) (procs_breaches s (suc f) ps) e) h

-- a procedure without breach, on definition i
pub record CleanProc (source : Source) (f : ℕ) (p : ProcDef) : Type 0 where
  pub own_name : meaning (names_of source) p.name.text ≡ Some (mean.Procedure f)
  pub i : ℕ
  pub on : meant (setting_of source) p.on ≡ Some (mean.Definition i)
  pub below : i < length (definitions source)
  pub body : body_breaches (setting_of source) p (Some (def_node (setting_of source) i)) p.body ≡ []

-- a result without breach, of definition i
pub record CleanResult (source : Source) (colon : ℕ) (name result : Name) (rest : List Breach) : Type 0 where
  pub universe : result_breaches source.universe colon name ≡ []
  pub i : ℕ
  pub on : meant (setting_of source) result ≡ Some (mean.Definition i)
  pub below : i < length (definitions source)
  pub value : rest ≡ []

module _ (source : Source) (c : Clean source) where
  pub clean_proc : (f : ℕ) (p : ProcDef) → slice_get source.procs f ≡ Some p → CleanProc source f p
  clean_proc f p h =
      let s = setting_of source in
      let none : proc_breaches s f p ≡ [] = subst (λ n. proc_breaches s n p ≡ []) (from_zero f) (procs_none s 0 source.procs f p c.procedures h) in
      let name = name_breaches s.names p.name (mean.Procedure f) in
      let type = type_use (meant s p.on) p.on in
      let front = nil_left (name ++ type) (body_breaches s p (type_node s p.on) p.body) none in
      let t = type_meant (meant s p.on) p.on (nil_right name type front) in
      record {
        own_name = means_procedure (names_of source) p.name f (nil_left name type front);
        i = t.0;
        on = t.1;
        below = c.within p.on.text (mean.Definition t.0) t.1;
        body = subst (λ o. body_breaches s p (node_meant s o) p.body ≡ []) t.1 (nil_right (name ++ type) (body_breaches s p (type_node s p.on) p.body) none);
      }

  pub clean_result : (colon : ℕ) (name result : Name) (rest : List Breach) → result_breaches source.universe colon name ++ type_use (meant (setting_of source) result) result ++ rest ≡ [] → CleanResult source colon name result rest
  clean_result colon name result rest e =
      let first = result_breaches source.universe colon name in
      let type = type_use (meant (setting_of source) result) result in
      let front = nil_left (first ++ type) rest e in
      let t = type_meant (meant (setting_of source) result) result (nil_right first type front) in
      record { universe = nil_left first type front; i = t.0; on = t.1; below = c.within result.text (mean.Definition t.0) t.1; value = nil_right (first ++ type) rest e }

  -- the node of a definition
  pub def_node_is : (i : ℕ) → i < length (definitions source) → def_node (setting_of source) i ≡ node_of (names_of source) (definitions source) i
  def_node_is i l =
      let names = names_of source in
      let defs = definitions source in
      let d = get_below defs i l in
      let there = def_get names defs 0 defs i d.0 d.1 in
      ap (λ (v : _). v.whole.node) (index_get (defs_from names defs 0 defs) i (def_at names defs (0 + first_node defs i) d.0) _ there)
      ∙ whole_node source.universe names defs c.all i d.0 (0 + first_node defs i) d.1 (omega arith) l

  -- the part that stands for a type by its name
  pub type_named : (procs : List Procedure) (sites : List Site) (analyses : List ℕ) (i : ℕ) → i < length (definitions source)
      → IsNamed (program_of source.universe (names_of source) (definitions source) procs sites analyses) (record { node = def_node (setting_of source) i; name = Some i })
  type_named procs sites analyses i l =
      let names = names_of source in
      let defs = definitions source in
      let d = get_below defs i l in
      let v = def_at names defs (0 + first_node defs i) d.0 in
      let there = def_get names defs 0 defs i d.0 d.1 in
      let is : def_node (setting_of source) i ≡ v.whole.node = ap (λ (v : _). v.whole.node) (index_get (defs_from names defs 0 defs) i v _ there) in
      let room = wholes_there source.universe names defs c.all procs sites analyses i v there in
      ((subst (λ n. n < length (nodes_from names defs 0 0 defs)) (sym is) room.0, (v, there, is)), λ n. none_some i (sym n))

-- the procedures of the core form by their places
pub proc_get : (s : Setting) (first : ℕ) (ps : List ProcDef) (f : ℕ) (p : ProcDef) → slice_get ps f ≡ Some p → (at : ℕ) × (slice_get (procs_core s first ps) f ≡ Some (proc_core s at p))
proc_get s first [] f p e = absurd (none_some p e)
proc_get s first (q ∷ ps) zero p e = (first, ap (λ z. Some (proc_core s first z)) (some_same q p e))
proc_get s first (q ∷ ps) (suc f) p e = proc_get s (first + sites_of s q q.body + 1) ps f p e

pub proc_back : (s : Setting) (first : ℕ) (ps : List ProcDef) (f : ℕ) (P : Procedure) → slice_get (procs_core s first ps) f ≡ Some P → (p : ProcDef) × (at : ℕ) × (slice_get ps f ≡ Some p) × (P ≡ proc_core s at p)
proc_back s first [] f P e = absurd (none_some P e)
proc_back s first (q ∷ ps) zero P e = (q, first, refl, sym (some_same (proc_core s first q) P e))
proc_back s first (q ∷ ps) (suc f) P e = proc_back s (first + sites_of s q q.body + 1) ps f P e

pub procs_length : (s : Setting) (first : ℕ) (ps : List ProcDef) → length (procs_core s first ps) ≡ length ps
procs_length s first [] = refl
procs_length s first (p ∷ ps) = ap suc (procs_length s (first + sites_of s p p.body + 1) ps)

module _ (source : Source) (c : Clean source) where
  node_named : (name : Name) (i : ℕ) → meant (setting_of source) name ≡ Some (mean.Definition i) → i < length (definitions source)
      → named_node (names_of source) (definitions source) name ≡ Some (part_meant (setting_of source) (meant (setting_of source) name)).node
  node_named name i e l =
      ap (λ o. option_map (node_of (names_of source) (definitions source)) (definition_meant o)) e
      ∙ ap Some (sym (def_node_is source c i l) ∙ sym (ap (λ o. (part_meant (setting_of source) o).node) e))

  by_result : (p : ProcDef) (body : ProcBody) (node : ℕ) → body_breaches (setting_of source) p (Some node) body ≡ [] → (o : Option ℕ) → option_map (named_node (names_of source) (definitions source)) (result_name body) ≡ Some o
      → (r : Result) × (result_core (setting_of source) p body ≡ Some r) × (o ≡ Some r.on.node)
  by_result p (Statements stmts) node none o e = absurd (none_some o e)
  by_result p (Value colon result value) node none o e =
      let s = setting_of source in
      let t = clean_result source c colon p.name result (value_breaches s (parameter s p) (type_node s result) value) none in
      (_, refl, sym (some_same (named_node (names_of source) (definitions source) result) o e) ∙ node_named result t.i t.on t.below)

  -- the names of a source mean what its core form has
  pub sound_setting : SoundSetting (setting_of source) (procs_core (setting_of source) 0 source.procs)
  sound_setting = record {
    charges = λ text k v e. c.within text (mean.Measure k v) e;
    callees = λ text f e. callee f (c.within text (mean.Procedure f) e);
  }
    where
      callee : (f : ℕ) → f < length source.procs → Callee (setting_of source) (procs_core (setting_of source) 0 source.procs) f
      callee f l =
          let s = setting_of source in
          let p = get_below source.procs f l in
          let there = proc_get s 0 source.procs f p.0 p.1 in
          let q = clean_proc source c f p.0 p.1 in
          let sign = signature_of (names_of source) (definitions source) in
          let signed : slice_index_or s.signatures f no_signature ≡ sign p.0 = index_get (map sign source.procs) f (sign p.0) no_signature (get_map sign source.procs f p.0 p.1) in
          record {
            procedure = proc_core s there.0 p.0;
            is = there.1;
            on = ap (λ (z : Signature). z.on) signed ∙ node_named p.0.on q.i q.on q.below;
            result = λ o e. by_result p.0 p.0.body (def_node s q.i) q.body o (sym (ap (λ (z : Signature). z.result) signed) ∙ e);
          }
