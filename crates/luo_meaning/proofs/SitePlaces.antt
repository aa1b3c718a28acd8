-- The sites of a program have the places, and the procedures' names, of the sites as they stand in the source.
use Rattle.std.proofs.Common.{◌≡◌, ℕ, zero, suc, ◌+◌, ◌<◌, ◌≤◌, List, [], ◌∷◌, length, Some, slice_get, refl, sym, ap, ◌∙◌, subst, inl, inr, arith, length-append}
use Rattle.std.specs.Prelude.{flat_map}
use Rattle.luo_num.specs.declared.limits.TheConstants.{STATEMENT_LIMIT}
use Rattle.luo_model.specs.declared.program.Site.{Site}
use Rattle.luo_model.specs.Program.{Procedure}
use Rattle.luo_model.specs.Scopes.Sites.{body_sites}
use Rattle.luo_model.specs.Invariant.{IsProgram, procedure_sites, placed, sites_from, numbered_from}
use Rattle.luo_source.specs.Plain.Source.{ProcDef, Source}
use Rattle.luo_rules.specs.Checks.{IsSource, IsChecked}
use Rattle.luo_rules.specs.Nodes.{setting_of}
use Rattle.luo_rules.specs.Counted.{body_statements}
use Rattle.luo_rules.specs.Whole.{sites_of, proc_core, procs_core, core}
use Rattle.luo_rules.proofs.Lists.{some_same, none_some, get_left, get_right, get_cases, get_below}
use Rattle.luo_rules.proofs.ProperSource.{source_proper, ProperProc}
use Rattle.luo_rules.proofs.SourceFacts.{all_get, within_limits}
use Rattle.luo_rules.proofs.CleanSource.{Clean, proc_get}
use Rattle.luo_rules.proofs.CoreSites.{placed_length}
use Rattle.luo_rules.proofs.CoreProcs.{proc_good, sum_get}
use Rattle.luo_meaning.specs.Sites.{sites_in}
use Rattle.luo_meaning.specs.Entries.{places, places_of, site_places}
use Rattle.luo_meaning.proofs.CheckedSource.{checked_program}
use Rattle.luo_meaning.proofs.RowsKept.{clean_source}
use Rattle.luo_meaning.proofs.OverKept.{many_sites}

-- a place among places is its number behind the first, with the name
record PlaceIs (text : List ℕ) (place n i : ℕ) (v : List ℕ × ℕ) : Type 0 where
  pub name : v.0 ≡ text
  pub its_place : v.1 ≡ place + i
  pub below : i < n

places_get : (text : List ℕ) (place n i : ℕ) (v : List ℕ × ℕ) → slice_get (places text place n) i ≡ Some v → PlaceIs text place n i v
places_get text place zero i v h = absurd (none_some v h)
places_get text place (suc n) zero v h =
    let same = some_same _ v h in record { name = ap (λ (z : List ℕ × ℕ). z.0) (sym same); its_place = ap (λ (z : List ℕ × ℕ). z.1) (sym same) ∙ omega arith; below = omega arith }
places_get text place (suc n) (suc i) v h = let r = places_get text (suc place) n i v h in record { name = r.name; its_place = r.its_place ∙ omega arith; below = omega (arith, r.below) }

places_length : (text : List ℕ) (place n : ℕ) → length (places text place n) ≡ n
places_length text place zero = refl
places_length text place (suc n) = ap suc (places_length text (suc place) n)

-- a placed site
placed_get : (caller place : ℕ) (l : List (ℕ × ℕ)) (i : ℕ) (w : ℕ × Site) → slice_get (placed caller place l) i ≡ Some w → (w.1.caller ≡ caller) × (w.1.place ≡ place + i)
placed_get caller place [] i w h = absurd (none_some w h)
placed_get caller place (x ∷ l) zero w h =
    let same = some_same _ w h in (ap (λ (z : ℕ × Site). z.1.caller) (sym same), ap (λ (z : ℕ × Site). z.1.place) (sym same) ∙ omega arith)
placed_get caller place (x ∷ l) (suc i) w h = let r = placed_get caller (place + 1) l i w h in (r.0, r.1 ∙ omega arith)

numbered_place : (k : ℕ) (l : List Site) (i : ℕ) (w : ℕ × Site) → slice_get (numbered_from k l) i ≡ Some w → slice_get l i ≡ Some w.1
numbered_place k [] i w h = absurd (none_some w h)
numbered_place k (site ∷ l) zero w h = ap (λ (z : ℕ × Site). Some z.1) (some_same _ w h)
numbered_place k (site ∷ l) (suc i) w h = numbered_place (k + 1) l i w h

numbered_length : (k : ℕ) (l : List Site) → length (numbered_from k l) ≡ length l
numbered_length k [] = refl
numbered_length k (site ∷ l) = ap suc (numbered_length (k + 1) l)

-- site i is the one of this procedure's name and place
pub record SiteIs (source : Source) (i : ℕ) (v : List ℕ × ℕ) : Type 0 where
  pub site : Site
  pub P : Procedure
  pub there : slice_get (core source).sites i ≡ Some site
  pub place : site.place ≡ v.1
  pub caller : slice_get (core source).procs site.caller ≡ Some P
  pub name : P.name ≡ v.0

module _ (source : Source) (is : IsSource source) (checked : IsChecked source (core source)) where
  c : Clean source
  c = clean_source source is checked.1.0

  program : IsProgram (core source)
  program = checked_program source (core source) is checked

  -- a procedure has as many sites in its core form
  many : (f at : ℕ) (p : ProcDef) → slice_get source.procs f ≡ Some p → length (procedure_sites (core source) (proc_core (setting_of source) at p)) ≡ sites_in p.body + 1
  many f at p e =
      let s = setting_of source in
      let P = proc_core s at p in
      let proper : ProperProc p = all_get ProperProc source.procs f p (source_proper source is).bodies e in
      let small : body_statements p.body ≤ STATEMENT_LIMIT = omega (arith, sum_get (λ (q : ProcDef). body_statements q.body) source.procs f p e, (within_limits source checked.0).statements) in
      let good = proc_good source c (core source).sites (core source).analyses f p e proper small at in
      let inner : List (ℕ × ℕ) = body_sites (core source) (P.on ∷ []) P.body in
      let own : List (ℕ × ℕ) = (P.site, P.on.node) ∷ [] in
      let same : length inner ≡ sites_in p.body = good.many ∙ many_sites source c f p e in
      length-append inner own ∙ omega (arith, same)

  AllThere : ℕ → List ProcDef → Type 0
  AllThere f ps = (k : ℕ) (p : ProcDef) → slice_get ps k ≡ Some p → slice_get source.procs (f + k) ≡ Some p

  next_there : (f : ℕ) (p : ProcDef) (ps : List ProcDef) → AllThere f (p ∷ ps) → AllThere (f + 1) ps
  unfolding AllThere
  next_there f p ps h k q e = ap (slice_get source.procs) (omega arith) ∙ h (suc k) q e

  first_there : (f : ℕ) (p : ProcDef) (ps : List ProcDef) → AllThere f (p ∷ ps) → slice_get source.procs f ≡ Some p
  unfolding AllThere
  first_there f p ps h = ap (slice_get source.procs) (omega arith) ∙ h zero p refl

  record Numbered (f first : ℕ) (ps : List ProcDef) (i : ℕ) (v : List ℕ × ℕ) : Type 0 where
    pub w : ℕ × Site
    pub P : Procedure
    pub there : slice_get (sites_from (core source) f (procs_core (setting_of source) first ps)) i ≡ Some w
    pub place : w.1.place ≡ v.1
    pub caller : slice_get (core source).procs w.1.caller ≡ Some P
    pub name : P.name ≡ v.0

  numbered : (f first : ℕ) (ps : List ProcDef) → AllThere f ps → (i : ℕ) (v : List ℕ × ℕ) → slice_get (flat_map places_of ps) i ≡ Some v → Numbered f first ps i v
  numbered f first [] h i v e = absurd (none_some v e)
  numbered f first (p ∷ ps) h i v e =
      let s = setting_of source in
      let there = first_there f p ps h in
      let own : List (ℕ × Site) = placed f 0 (procedure_sites (core source) (proc_core s first p)) in
      let next = first + sites_of s p p.body + 1 in
      let rest : List (ℕ × Site) = sites_from (core source) (f + 1) (procs_core s next ps) in
      let long : length own ≡ sites_in p.body + 1 = placed_length f 0 (procedure_sites (core source) (proc_core s first p)) ∙ many f first p there in
      elim (get_cases (places_of p) (flat_map places_of ps) i v e) [
        | inl g ↦
            let q = places_get p.name.text 0 (sites_in p.body + 1) i v g in
            let w = get_below own i (omega (arith, q.below, long)) in
            let at = placed_get f 0 (procedure_sites (core source) (proc_core s first p)) i w.0 w.1 in
            let P = proc_get s 0 source.procs f p there in
            record {
              w = w.0;
              P = proc_core s P.0 p;
              there = get_left own rest i w.0 w.1;
              place = at.1 ∙ sym q.its_place;
              caller = ap (slice_get (core source).procs) at.0 ∙ P.1;
              name = sym q.name;
            }
        | inr g ↦
            let r = numbered (f + 1) next ps (next_there f p ps h) g.0 v g.2 in
            let at : i ≡ length own + g.0 = omega (arith, g.1, long, places_length p.name.text 0 (sites_in p.body + 1)) in
            record { w = r.w; P = r.P; there = get_right own rest g.0 i at ∙ r.there; place = r.place; caller = r.caller; name = r.name }
      ]

  all_there : AllThere 0 source.procs
  unfolding AllThere
  all_there k p e = ap (slice_get source.procs) (omega arith) ∙ e

  pub site_is : (i : ℕ) (v : List ℕ × ℕ) → slice_get (site_places source) i ≡ Some v → SiteIs source i v
  site_is i v e =
      let r = numbered 0 0 source.procs all_there i v e in
      record {
        site = r.w.1;
        P = r.P;
        there = numbered_place 0 (core source).sites i r.w (subst (λ (l : List (ℕ × Site)). slice_get l i ≡ Some r.w) program.sites r.there);
        place = r.place;
        caller = r.caller;
        name = r.name;
      }

  all_length : (f first : ℕ) (ps : List ProcDef) → AllThere f ps → length (flat_map places_of ps) ≡ length (sites_from (core source) f (procs_core (setting_of source) first ps))
  all_length f first [] h = refl
  all_length f first (p ∷ ps) h =
      let s = setting_of source in
      let own : List (ℕ × Site) = placed f 0 (procedure_sites (core source) (proc_core s first p)) in
      let next = first + sites_of s p p.body + 1 in
      let rest : List (ℕ × Site) = sites_from (core source) (f + 1) (procs_core s next ps) in
      let long : length own ≡ sites_in p.body + 1 = placed_length f 0 (procedure_sites (core source) (proc_core s first p)) ∙ many f first p (first_there f p ps h) in
      let more = all_length (f + 1) next ps (next_there f p ps h) in
      length-append (places_of p) (flat_map places_of ps) ∙ (omega (arith, more, long, places_length p.name.text 0 (sites_in p.body + 1)) ∙ sym (length-append own rest))

  -- there is one for each site
  pub site_there : (i : ℕ) → i < length (core source).sites → (v : List ℕ × ℕ) × (slice_get (site_places source) i ≡ Some v)
  site_there i l =
      let same : length (site_places source) ≡ length (core source).sites = all_length 0 0 source.procs all_there ∙ (ap (λ (z : List (ℕ × Site)). length z) program.sites ∙ numbered_length 0 (core source).sites) in
      get_below (site_places source) i (omega (arith, l, same))
