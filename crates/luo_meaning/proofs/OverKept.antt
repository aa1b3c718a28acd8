-- Counts of nodes are counts of constructs, totals of sites are totals of sites, and so for those that are too large.
use Rattle.std.proofs.Common.{◌≡◌, ◌↔◌, ℕ, zero, suc, ◌+◌, ◌<◌, List, [], ◌∷◌, ◌++◌, length, Some, slice_get, refl, sym, ap, ◌∙◌, subst, inl, inr, arith}
use Rattle.luo_finite.specs.Listing.{Totals}
use Rattle.luo_model.specs.Tree.{Tree}
use Rattle.luo_model.specs.Levels as level_of
use Rattle.luo_model.specs.Levels.{WholeLevel, IsLevel}
use Rattle.luo_model.specs.Program.{Program, Procedure, site_node}
use Rattle.luo_model.specs.Invariant.{IsProgram}
use Rattle.luo_model.specs.Member.{Member}
use Rattle.luo_model.specs.Structures.{IsStructure}
use Rattle.luo_model.specs.Charges.{of_body, Charges, BodyCharges, SiteCharges}
use Rattle.luo_model.proofs.SiteLemmas.{procedures_charge_their_bodies}
use Rattle.luo_source.specs.Plain.Types.{TypeExpr, Named}
use Rattle.luo_source.specs.Plain.Source.{ProcBody, Statements, Value, ProcDef, Source}
use Rattle.luo_rules.specs.Meanings.{type_use}
use Rattle.luo_rules.specs.Settings.{meant, def_node, type_node, part_meant}
use Rattle.luo_rules.specs.ValueBreaches.{value_breaches}
use Rattle.luo_rules.specs.Definitions.{definitions, names_of, measures, definition_meant}
use Rattle.luo_rules.specs.TypeBreaches.{measures_breaches}
use Rattle.luo_rules.specs.Nodes.{Spot, named_part, setting_of}
use Rattle.luo_rules.specs.Whole.{breaches, core, parameter, result_breaches, body_breaches, body_core, sites_of, proc_core, procs_core}
use Rattle.luo_rules.specs.Checks.{IsSource}
use Rattle.luo_rules.proofs.Lists.{nil_right, get_below}
use Rattle.luo_rules.proofs.ProperSource.{ProperBody, ProperProc, source_proper}
use Rattle.luo_rules.proofs.SourceFacts.{all_get}
use Rattle.luo_rules.proofs.CleanSource.{Clean, clean_proc, def_node_is}
use Rattle.luo_meaning.specs.Structures.{IsOf}
use Rattle.luo_meaning.specs.Charges.{ProcCharges}
use Rattle.luo_meaning.specs.Rows.{IsStructureOf}
use Rattle.luo_meaning.specs.Levels.{BodyLevel, ProcLevel}
use Rattle.luo_meaning.specs.Sites.{sites_in, SomeBodySite, SomeProcSite, SomeSiteOf}
use Rattle.luo_meaning.specs.Constructs.{IsConstructOf}
use Rattle.luo_meaning.specs.Rows.{IsTotalOf}
use Rattle.luo_meaning.specs.Over.{HasCount, HasTotal, HasOver}
use Rattle.luo_model.specs.Tables.{IsCount, IsTotal}
use Rattle.luo_meaning.specs.Laws.{IsOver}
use Rattle.luo_meaning.proofs.ProceduresKept.{charges_kept}
use Rattle.luo_meaning.proofs.SiteWorks.{InBody, InProcs, some_site}
use Rattle.luo_meaning.proofs.Sits.{all_nodes}
use Rattle.luo_meaning.proofs.NodesKept.{node_kept, construct_kept}
use Rattle.luo_meaning.proofs.RowsKept.{clean_source, measures_none, counts_same, totals_same, named_sits}
use Rattle.luo_meaning.proofs.Typing.{Holds}
use Rattle.luo_meaning.proofs.Held.{held}
use Rattle.luo_meaning.proofs.TypedScopes.{typed_one}
use Rattle.luo_meaning.proofs.LevelsKept.{whole_kept}
use Rattle.luo_meaning.proofs.SitesKept.{InNode, InType, Related, At, stmts_some}
use Rattle.luo_meaning.proofs.ValueSites.{value_same}
use Rattle.luo_meaning.proofs.ValueSitesKept.{value_some}

module _ (source : Source) (c : Clean source) where
  -- the core form has as many sites of a body
  sites_same : (p : ProcDef) (body : ProcBody) (n : ℕ) → body_breaches (setting_of source) p (Some n) body ≡ [] → sites_of (setting_of source) p body ≡ sites_in body
  sites_same p (Statements stmts) n e = refl
  sites_same p (Value colon result value) n e =
      let s = setting_of source in
      value_same s value (parameter s p) (type_node s result)
      (nil_right (result_breaches s.universe colon p.name ++ type_use (meant s result) result) (value_breaches s (parameter s p) (type_node s result) value) e)

  pub many_sites : (f : ℕ) (p : ProcDef) → slice_get source.procs f ≡ Some p → sites_of (setting_of source) p p.body ≡ sites_in p.body
  many_sites f p there = let k = clean_proc source c f p there in sites_same p p.body (def_node (setting_of source) k.i) k.body

module _ (source : Source) (c : Clean source) (none : measures_breaches (names_of source) 0 (measures source) ≡ []) (Q : InNode) (P : InType) (related : Related source Q P) where
  body_some : (p : ProcDef) (body : ProcBody) (n at : ℕ) → Holds source (part_meant (setting_of source) (meant (setting_of source) p.on)).node (Named p.on) → ProperBody body → body_breaches (setting_of source) p (Some n) body ≡ []
      → InBody (core source) (At source c none Q P related) (part_meant (setting_of source) (meant (setting_of source) p.on) ∷ []) (body_core (setting_of source) p at body) ↔ SomeBodySite source P ((p.param.text, Named p.on) ∷ []) at body
  body_some p (Statements stmts) n at holds proper e =
      let s = setting_of source in
      let x = part_meant s (meant s p.on) in
      stmts_some source c none Q P related stmts (parameter s p) ((p.param.text, Named p.on) ∷ []) (x ∷ []) (typed_one source c p.param.text x x (Named p.on) refl holds) at proper e
  body_some p (Value colon result value) n at holds proper e =
      let s = setting_of source in
      let x = part_meant s (meant s p.on) in
      value_some source c none Q P related value (parameter s p) ((p.param.text, Named p.on) ∷ []) (x ∷ []) (typed_one source c p.param.text x x (Named p.on) refl holds) at (type_node s result) proper
      (nil_right (result_breaches s.universe colon p.name ++ type_use (meant s result) result) (value_breaches s (parameter s p) (type_node s result) value) e)

  -- the site of a procedure's whole, and those inside it
  abbrev Whole : ℕ → ProcDef → Type 0
  Whole at p = P (at + sites_in p.body) (Named p.on) (ProcCharges source p.name.text) (BodyLevel (ProcLevel source) p.body)

  abbrev Inside : ℕ → ProcDef → Type 0
  Inside at p = SomeBodySite source P ((p.param.text, Named p.on) ∷ []) at p.body

  abbrev WholeCore : ℕ → ProcDef → Type 0
  WholeCore at p = At source c none Q P related (proc_core (setting_of source) at p).site (proc_core (setting_of source) at p).on.node (of_body (proc_core (setting_of source) at p).body)

  abbrev InsideCore : ℕ → ProcDef → Type 0
  InsideCore at p = InBody (core source) (At source c none Q P related) ((proc_core (setting_of source) at p).on ∷ []) (proc_core (setting_of source) at p).body

  proc_some : (f : ℕ) (p : ProcDef) (at : ℕ) → ProperProc p → slice_get source.procs f ≡ Some p → slice_get (core source).procs f ≡ Some (proc_core (setting_of source) at p) → (WholeCore at p ↔ Whole at p) × (InsideCore at p ↔ Inside at p)
  proc_some f p at proper there core_there =
      let s = setting_of source in
      let names = names_of source in
      let k = clean_proc source c f p there in
      let x = (part_meant s (meant s p.on)).node in
      let node : x ≡ def_node s k.i = ap (λ o. (part_meant s o).node) k.on in
      let spot : Spot = record { node = 0; place = 0 } in
      let holds : Holds source x (Named p.on) = record {
        owner = 0;
        spot = spot;
        sits = named_sits source c p.on k.i k.on spot;
        at = ap (λ o. (named_part names (definitions source) (definition_meant o)).node) k.on ∙ (sym (def_node_is source c k.i k.below) ∙ sym node);
      } in
      let body = body_some p p.body (def_node s k.i) at holds proper k.body in
      let C : Tree → ℕ → Type 0 = λ t q. BodyCharges (Charges (core source)) (proc_core s at p).body (t ∷ []) q in
      let D : Tree → ℕ → Type 0 = λ t q. ProcCharges source p.name.text t q in
      let same : (t : Tree) (q : ℕ) → C t q ↔ D t q =
      λ t q. let own = procedures_charge_their_bodies (core source) f (proc_core s at p) t q core_there in let kept = charges_kept source c none p.name.text f k.own_name t q in (λ h. kept.0 (own.1 h), λ h. own.0 (kept.1 h)) in
      let L : ℕ → Type 0 = λ n. level_of.BodyLevel (WholeLevel (core source)) (proc_core s at p).body n in
      let M : ℕ → Type 0 = BodyLevel (ProcLevel source) p.body in
      let site = at + sites_in p.body in
      let number : (proc_core s at p).site ≡ site = ap (λ n. at + n) (many_sites source c f p there) in
      let whole = related site x (Named p.on) C D L M holds same (λ n. whole_kept source c f p there at n) in (
        (λ h. whole.0 (subst (λ n. Q n x C L) number h), λ h. subst (λ n. Q n x C L) (sym number) (whole.1 h)),
        body,
      )

  procs_some : (g first : ℕ) (ps : List ProcDef) → ((k : ℕ) (p : ProcDef) → slice_get ps k ≡ Some p → ProperProc p × (slice_get source.procs (g + k) ≡ Some p))
      → ((k : ℕ) (R : Procedure) → slice_get (procs_core (setting_of source) first ps) k ≡ Some R → slice_get (core source).procs (g + k) ≡ Some R)
      → InProcs (core source) (At source c none Q P related) (procs_core (setting_of source) first ps) ↔ SomeProcSite source P first ps
  procs_some g first [] there core_there = (λ h. h, λ h. h)
  procs_some g first (p ∷ ps) there core_there =
      let s = setting_of source in
      let one = proc_some (g + 0) p first (there zero p refl).0 (there zero p refl).1 (core_there zero (proc_core s first p) refl) in
      let next : first + sites_of s p p.body + 1 ≡ first + sites_in p.body + 1 = ap (λ n. first + n + 1) (many_sites source c (g + 0) p (there zero p refl).1) in
      let more_there : (k : ℕ) (R : Procedure) → slice_get (procs_core s (first + sites_in p.body + 1) ps) k ≡ Some R → slice_get (core source).procs (suc g + k) ≡ Some R =
      λ k R e. ap (slice_get (core source).procs) (omega arith) ∙ core_there (suc k) R (ap (λ n. slice_get (procs_core s n ps) k) next ∙ e) in
      let more = procs_some (suc g) (first + sites_in p.body + 1) ps (λ k q e. let h = there (suc k) q e in (h.0, ap (slice_get source.procs) (omega arith) ∙ h.1)) more_there in
      let Rest : ℕ → Type 0 = λ n. InProcs (core source) (At source c none Q P related) (procs_core s n ps) in (
        λ h. elim h [ inl h ↦ inl (one.0.0 h) | inr h ↦ elim h [ inl h ↦ inr (inl (one.1.0 h)) | inr h ↦ inr (inr (more.0 (subst Rest next h))) ] ],
        λ h. elim h [ inl h ↦ inl (one.0.1 h) | inr h ↦ elim h [ inl h ↦ inr (inl (one.1.1 h)) | inr h ↦ inr (inr (subst Rest (sym next) (more.1 h))) ] ],
      )

-- the site's total, by its node or its type and what is charged there
abbrev NodeTotal : Program → ℕ → ℕ → InNode
NodeTotal p n t i x charges level = Totals (IsStructure p x n) charges t

abbrev TotalOf : Source → ℕ → ℕ → InType
TotalOf source n t i e charges level = IsTotalOf source e charges n t

module _ (source : Source) (is : IsSource source) (unbroken : breaches source ≡ []) where
  c : Clean source
  c = clean_source source is unbroken

  none : measures_breaches (names_of source) 0 (measures source) ≡ []
  none = measures_none source unbroken

  structures : (x : ℕ) (e : TypeExpr) → ((t : Tree) → Member (core source) x t ↔ IsOf source e t) → (n : ℕ) (t : Tree) → IsStructure (core source) x n t ↔ IsStructureOf source e n t
  structures x e k n t = (λ h. ((k t).0 h.0, h.1, h.2), λ h. ((k t).1 h.0, h.1, h.2))

  pub constructs_kept : (x : ℕ) → x < length (core source).nodes → (e : TypeExpr) × IsConstructOf source e × ((t : Tree) → Member (core source) x t ↔ IsOf source e t)
  constructs_kept x l = let node = get_below (all_nodes source) x l in node_kept source c x node.0 node.1

  pub constructs_there : (e : TypeExpr) → IsConstructOf source e → (x : ℕ) × (x < length (core source).nodes) × ((t : Tree) → Member (core source) x t ↔ IsOf source e t)
  constructs_there e h = construct_kept source c e h

  pub counts_kept : (n v : ℕ) → ((x : ℕ) × (x < length (core source).nodes) × IsCount (core source) x n v) ↔ HasCount source n v
  counts_kept n v = (
    λ h. let k = constructs_kept h.0 h.1 in (k.0, k.1, counts_same (IsStructure (core source) h.0 n) (IsStructureOf source k.0 n) v (λ t. structures h.0 k.0 k.2 n t) h.2),
    λ h.
        let k = constructs_there h.0 h.1 in
        (k.0, k.1, counts_same (IsStructureOf source h.0 n) (IsStructure (core source) k.0 n) v (λ t. let b = structures k.0 h.0 k.2 n t in (b.1, b.0)) h.2),
  )

  pub related : (n v : ℕ) → Related source (NodeTotal (core source) n v) (TotalOf source n v)
  related n v i x e C D L M h same deep = (
    λ q. totals_same (IsStructure (core source) x n) (IsStructureOf source e n) C D v (λ t. structures x e (held source c x e h) n t) (λ t r. (same t r).0) q,
    λ q. totals_same (IsStructureOf source e n) (IsStructure (core source) x n) D C v (λ t. let b = structures x e (held source c x e h) n t in (b.1, b.0)) (λ t r. (same t r).1) q,
  )

  proper : (k : ℕ) (p : ProcDef) → slice_get source.procs k ≡ Some p → ProperProc p × (slice_get source.procs (0 + k) ≡ Some p)
  proper k p e = (all_get ProperProc source.procs k p (source_proper source is).bodies e, ap (slice_get source.procs) (omega arith) ∙ e)

  module _ (program : IsProgram (core source)) where
    -- what holds of some site by its number holds of some site as written
    pub site_kept : (Q : InNode) (P : InType) → Related source Q P
        → ((i x : ℕ) (C D : Tree → ℕ → Type 0) (L M : ℕ → Type 0) → ((t : Tree) (q : ℕ) → C t q ↔ D t q) → ((n : ℕ) → L n ↔ M n) → Q i x C L → Q i x D M)
        → ((i : ℕ) × (i < length (core source).sites) × Q i (site_node (core source) i) (SiteCharges (core source) i) (IsLevel (core source) i)) ↔ SomeSiteOf source P
    site_kept Q P related ext =
        let sites = some_site (core source) program Q ext in
        let written = procs_some source c none Q P related 0 0 source.procs proper (λ k R e. ap (slice_get (core source).procs) (omega arith) ∙ e) in
        (λ h. written.0 (sites.0 h), λ h. sites.1 (written.1 h))

    pub totals_kept : (n v : ℕ) → ((i : ℕ) × (i < length (core source).sites) × IsTotal (core source) i n v) ↔ HasTotal source n v
    totals_kept n v = site_kept (NodeTotal (core source) n v) (TotalOf source n v) (related n v)
        (λ i x C D L M same deep q. totals_same (IsStructure (core source) x n) (IsStructure (core source) x n) C D v (λ t. (λ h. h, λ h. h)) (λ t r. (same t r).0) q)

    pub over_kept : (most last : ℕ) → IsOver (core source) most last ↔ HasOver source most last
    over_kept most last = (
      λ h. (h.0, h.1, h.2, h.3, elim h.4 [ inl k ↦ inl ((counts_kept h.0 h.1).0 k) | inr k ↦ inr ((totals_kept h.0 h.1).0 k) ]),
      λ h. (h.0, h.1, h.2, h.3, elim h.4 [ inl k ↦ inl ((counts_kept h.0 h.1).1 k) | inr k ↦ inr ((totals_kept h.0 h.1).1 k) ]),
    )
