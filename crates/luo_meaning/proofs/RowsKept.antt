-- Structures of names, and the rows of procedures.
use Rattle.std.proofs.Common.{◌≡◌, ℕ, ◌+◌, ◌↔◌, List, [], ◌∷◌, ◌++◌, Some, slice_get, sym, ap, ◌∙◌, subst, arith}
use Rattle.std.specs.List.{AllZip}
use Rattle.luo_finite.specs.Listing.{Counts, Totals}
use Rattle.luo_finite.proofs.Listings.{Lists-iff}
use Rattle.luo_model.specs.declared.program.Def.{Def}
use Rattle.luo_model.specs.declared.table.Row.{Row}
use Rattle.luo_model.specs.Tree.{Tree}
use Rattle.luo_model.specs.Program.{Procedure, site_node}
use Rattle.luo_model.specs.Invariant.{IsProgram}
use Rattle.luo_model.specs.Member.{Member}
use Rattle.luo_model.specs.Charges.{Charges, SiteCharges}
use Rattle.luo_model.specs.Structures.{IsStructure}
use Rattle.luo_model.specs.Tables.{IsTotal, IsRow}
use Rattle.luo_model.proofs.SiteLemmas.{wholes_charge, wholes_charge_no_more}
use Rattle.luo_source.specs.declared.names.Name.{Name}
use Rattle.luo_source.specs.Plain.Types.{Named}
use Rattle.luo_source.specs.Plain.Source.{ProcDef, Source}
use Rattle.luo_rules.specs.declared.names.Meaning.TheVariants as mean
use Rattle.luo_rules.specs.Meanings.{meaning, type_use}
use Rattle.luo_rules.specs.Settings.{part_meant}
use Rattle.luo_rules.specs.Definitions.{definitions, names_of, measures, definition_meant, first_node}
use Rattle.luo_rules.specs.inner.Naming.{node_of}
use Rattle.luo_rules.specs.TypeBreaches.{types_breaches, measures_breaches}
use Rattle.luo_rules.specs.Nodes.{Spot, named_part, part_at, setting_of}
use Rattle.luo_rules.specs.Whole.{breaches, core, proc_core}
use Rattle.luo_rules.specs.Checks.{IsSource}
use Rattle.luo_rules.proofs.Lists.{some_same, none_some, below_get, nil_right, none_first}
use Rattle.luo_rules.proofs.NodeLists.{def_back}
use Rattle.luo_rules.proofs.DefinitionFacts.{whole_node}
use Rattle.luo_rules.proofs.ProperSource.{source_proper}
use Rattle.luo_rules.proofs.CleanSource.{Clean, clean, clean_proc, def_node_is, proc_get, proc_back}
use Rattle.luo_meaning.specs.Structures.{IsOf}
use Rattle.luo_meaning.specs.Charges.{ProcCharges}
use Rattle.luo_meaning.specs.Rows.{IsStructureOf, IsTotalOf, IsRowOf}
use Rattle.luo_meaning.proofs.Sits.{Sits}
use Rattle.luo_meaning.proofs.StructuresKept.{member_is_of, of_is_member}
use Rattle.luo_meaning.proofs.ProceduresKept.{charges_kept}
use Rattle.luo_model.proofs.WorkLemmas.{sites_are_apart}
use Rattle.luo_model.proofs.WholeSites.{whole_site}

-- a source without breach, and its measures
pub clean_source : (source : Source) → IsSource source → breaches source ≡ [] → Clean source
clean_source source is none = clean source (source_proper source is) none

pub measures_none : (source : Source) → breaches source ≡ [] → measures_breaches (names_of source) 0 (measures source) ≡ []
measures_none source none =
    let first = types_breaches source.universe (names_of source) (definitions source) 0 source.types in
    let second = measures_breaches (names_of source) 0 (measures source) in
    nil_right first second (none_first (first ++ second) _ none)

-- the same listings
pub counts_same : {A : Type 0} (P Q : A → Type 0) (c : ℕ) → ((x : A) → P x ↔ Q x) → Counts P c → Counts Q c
counts_same P Q c same h = record {
  exists = (h.exists.0, Lists-iff P Q h.exists.0 (λ x. (same x).0) (λ x. (same x).1) h.exists.1);
  each = λ l k. h.each l (Lists-iff Q P l (λ x. (same x).1) (λ x. (same x).0) k);
}

zip_same : {A : Type 0} (R S : A → ℕ → Type 0) (l : List A) (qs : List ℕ) → ((x : A) (q : ℕ) → R x q → S x q) → AllZip R l qs → AllZip S l qs
zip_same R S [] [] f h = tt
zip_same R S [] (q ∷ qs) f h = absurd h
zip_same R S (x ∷ l) [] f h = absurd h
zip_same R S (x ∷ l) (q ∷ qs) f h = (f x q h.0, zip_same R S l qs f h.1)

pub totals_same : {A : Type 0} (P Q : A → Type 0) (R S : A → ℕ → Type 0) (t : ℕ) → ((x : A) → P x ↔ Q x) → ((x : A) (q : ℕ) → R x q → S x q) → Totals P R t → Totals Q S t
totals_same P Q R S t same f h = record {
  exists = (h.exists.0, Lists-iff P Q h.exists.0 (λ x. (same x).0) (λ x. (same x).1) h.exists.1);
  each = λ l k. let r = h.each l (Lists-iff Q P l (λ x. (same x).1) (λ x. (same x).0) k) in (r.0, zip_same R S l r.0 f r.1, r.2);
}

back : {A B : Type 0} → A ↔ B → B ↔ A
back e = (e.1, e.0)

module _ (source : Source) (c : Clean source) where
  -- a name of a definition
  pub named_sits : (name : Name) (i : ℕ) → meaning (names_of source) name.text ≡ Some (mean.Definition i) → (at : Spot) → Sits source 0 at (Named name)
  named_sits name i e at = record { sound = ap (λ o. type_use o name) e; proper = tt; there = λ k node h. absurd (none_some node h) }

  -- the structures of a name
  pub type_kept : (name : Name) (i : ℕ) → meaning (names_of source) name.text ≡ Some (mean.Definition i) → (t : Tree) → Member (core source) (node_of (names_of source) (definitions source) i) t ↔ IsOf source (Named name) t
  type_kept name i e t =
      let at : Spot = record { node = 0; place = 0 } in
      let node : (part_at (names_of source) (definitions source) at (Named name)).node ≡ node_of (names_of source) (definitions source) i = ap (λ o. (named_part (names_of source) (definitions source) (definition_meant o)).node) e in (
        λ h. member_is_of source c t 0 at (Named name) (named_sits name i e at) (subst (λ x. Member (core source) x t) (sym node) h),
        λ h. subst (λ x. Member (core source) x t) node (of_is_member source c h 0 at (named_sits name i e at)),
      )

  pub definition_kept : (i : ℕ) (d : Def) (name : Name) → slice_get (core source).defs i ≡ Some d → d.name ≡ name.text → (t : Tree) → Member (core source) d.whole.node t ↔ IsOf source (Named name) t
  definition_kept i d name e same t =
      let names = names_of source in
      let defs = definitions source in
      let b = def_back names defs 0 defs i d e in
      let own = (c.all.each i b.0 b.1).own_name in
      let means : meaning names name.text ≡ Some (mean.Definition i) = ap (meaning names) (sym same ∙ ap (λ (z : Def). z.name) b.2) ∙ own in
      let node : d.whole.node ≡ node_of names defs i = ap (λ (z : Def). z.whole.node) b.2 ∙ whole_node source.universe names defs c.all i b.0 (0 + first_node defs i) b.1 (omega arith) (below_get defs i b.0 b.1) in
      let kept = type_kept name i means t in
      (λ h. kept.0 (subst (λ x. Member (core source) x t) node h), λ h. subst (λ x. Member (core source) x t) (sym node) (kept.1 h))

  module _ (none : measures_breaches (names_of source) 0 (measures source) ≡ []) where
    pub procedure_kept : (f : ℕ) (P : Procedure) → slice_get (core source).procs f ≡ Some P → (t : Tree) (q : ℕ) → Charges (core source) f t q ↔ ProcCharges source P.name t q
    procedure_kept f P e t q =
        let b = proc_back (setting_of source) 0 source.procs f P e in
        let means : meaning (names_of source) P.name ≡ Some (mean.Procedure f) = ap (λ (z : Procedure). meaning (names_of source) z.name) b.3 ∙ (clean_proc source c f b.0 b.2).own_name in
        charges_kept source c none P.name f means t q

    module _ (is : IsProgram (core source)) (f : ℕ) (d : ProcDef) (there : slice_get source.procs f ≡ Some d) where
      -- the structures of the node of procedure f's parameter, in the core form and as written
      pub structure_same : (P : Procedure) → slice_get (core source).procs f ≡ Some P → (n : ℕ) (t : Tree) → IsStructure (core source) P.on.node n t ↔ IsStructureOf source (Named d.on) n t
      structure_same P e n t =
          let s = setting_of source in
          let g = proc_get s 0 source.procs f d there in
          let k = clean_proc source c f d there in
          let same : P ≡ proc_core s g.0 d = some_same P (proc_core s g.0 d) (sym e ∙ g.1) in
          let node : P.on.node ≡ node_of (names_of source) (definitions source) k.i = ap (λ (z : Procedure). z.on.node) same ∙ (ap (λ o. (part_meant s o).node) k.on ∙ def_node_is source c k.i k.below) in
          let kept = type_kept d.on k.i k.on t in (
            λ h. (kept.0 (subst (λ x. Member (core source) x t) node h.0), h.1, h.2),
            λ h. (subst (λ x. Member (core source) x t) (sym node) (kept.1 h.0), h.1, h.2),
          )

      -- what the whole of procedure f charges
      site_same : (P : Procedure) → slice_get (core source).procs f ≡ Some P → (t : Tree) (q : ℕ) → SiteCharges (core source) P.site t q ↔ ProcCharges source d.name.text t q
      site_same P e t q =
          let k = clean_proc source c f d there in
          let kept = charges_kept source c none d.name.text f k.own_name t q in (
            λ h. kept.0 (wholes_charge_no_more (core source) (sites_are_apart (core source) is) f P t q e h),
            λ h. wholes_charge (core source) f P t q e (kept.1 h),
          )

      -- and on all structures of one size
      pub total_kept : (P : Procedure) → slice_get (core source).procs f ≡ Some P → (n total : ℕ) → IsTotal (core source) P.site n total → IsTotalOf source (Named d.on) (ProcCharges source d.name.text) n total
      total_kept P e n total h =
          let p = core source in
          totals_same (IsStructure p P.on.node n) (IsStructureOf source (Named d.on) n) (SiteCharges p P.site) (ProcCharges source d.name.text) total (structure_same P e n) (λ t q. (site_same P e t q).0)
          (subst (λ x. Totals (IsStructure p x n) (SiteCharges p P.site) total) (whole_site p is f P e) h)

      pub row_kept : (row : Row) → IsRow (core source) f row ↔ IsRowOf source d row
      row_kept row =
          let p = core source in
          let g = proc_get (setting_of source) 0 source.procs f d there in
          let same_node : (P : Procedure) → slice_get p.procs f ≡ Some P → site_node p P.site ≡ P.on.node = λ P e. whole_site p is f P e in (
            λ h. (
              counts_same (IsStructure p h.0.on.node row.n) (IsStructureOf source (Named d.on) row.n) row.count (structure_same h.0 h.1 row.n) h.2,
              totals_same (IsStructure p h.0.on.node row.n) (IsStructureOf source (Named d.on) row.n) (SiteCharges p h.0.site) (ProcCharges source d.name.text) row.total (structure_same h.0 h.1 row.n) (λ t q. (site_same h.0 h.1 t q).0)
                  (subst (λ x. Totals (IsStructure p x row.n) (SiteCharges p h.0.site) row.total) (same_node h.0 h.1) h.3),
            ),
            λ h.
                let P : Procedure = proc_core (setting_of source) g.0 d in (
                  P,
                  g.1,
                  counts_same (IsStructureOf source (Named d.on) row.n) (IsStructure p P.on.node row.n) row.count (λ t. back (structure_same P g.1 row.n t)) h.0,
                  subst (λ x. Totals (IsStructure p x row.n) (SiteCharges p P.site) row.total) (sym (same_node P g.1))
                      (totals_same (IsStructureOf source (Named d.on) row.n) (IsStructure p P.on.node row.n) (ProcCharges source d.name.text) (SiteCharges p P.site) row.total (λ t. back (structure_same P g.1 row.n t)) (λ t q. (site_same P g.1 t q).1) h.1),
                ),
          )
