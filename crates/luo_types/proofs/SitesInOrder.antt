-- The sites of procedures one behind the other.
use Rattle.std.proofs.Common.{◌≡◌, ℕ, ◌+◌, ◌*◌, ◌<◌, ◌≤◌, List, [], ◌∷◌, ◌++◌, map, length, drop, get_or, sum_by, refl, sym, ◌∙◌, ap, subst, append_assoc, add-zero, arith, length-append}
use Rattle.std.proofs.lemmas.List.{map-append, append-nil, drop_all, length-map}
use Rattle.std.proofs.lemmas.List.Sums.{sum_by-cons}
use Rattle.luo_model.specs.declared.body.Item.{Item}
use Rattle.luo_model.specs.declared.program.Proc.{Proc}
use Rattle.luo_model.specs.declared.program.Site.{Site}
use Rattle.luo_model.specs.Invariant.{procedure_sites, placed, sites_from}
use Rattle.luo_model.specs.declared.program.Part.{Part}
use Rattle.luo_model.specs.Program as plain
use Rattle.luo_model.specs.Program.{Program, shape_of}
use Rattle.luo_model.specs.Scopes.Stands.{Stand, stands, component, bound_parts, part_at}
use Rattle.luo_model.specs.Scopes.Sites.{body_sites, items_sites, item_sites, arms_sites}
use Rattle.luo_model.specs.Scopes.Walks.{body_items, items_in, item_in, arms_in, items_walks}
use Rattle.luo_model.specs.View.{body_of, item_list, procedure_of}
use Rattle.luo_types.specs.inner.SitesFound.{nodes_of, IsFound, sites_at, sites_in, procedure_walks, procedure_items}
use Rattle.luo_types.specs.declared.sites.Found.{Found}
use Rattle.luo_types.proofs.ArmsSoFar.{at-element}
use Rattle.luo_types.proofs.SitesSoFar.{walks-within}

-- there are at most twice as many sites as items
module _ (p : Program) where
  mutual
    pub sites-twice : (vars : List Part) (b : plain.Body) → length (body_sites p vars b) ≤ 2 * body_items b
    sites-twice vars (plain.Does own items) = items_sites-twice vars items

    items_sites-twice : (vars : List Part) (is : plain.Items) → length (items_sites p vars is) ≤ 2 * items_in is
    items_sites-twice vars plain.no_items = omega arith
    items_sites-twice vars (plain.item i is) = omega (arith, length-append (item_sites p vars i) (items_sites p vars is), item_sites-twice vars i, items_sites-twice vars is)

    item_sites-twice : (vars : List Part) (i : plain.Item) → length (item_sites p vars i) ≤ 2 * item_in i
    item_sites-twice vars (plain.Call var callee site) = omega arith
    item_sites-twice vars (plain.Case var arms site) =
        let on = part_at vars var in
        let all = stands on (shape_of p on.node) in
        omega (arith, length-append (arms_sites p all arms) ((site, on.node) ∷ []), arms_sites-twice all arms)
    item_sites-twice vars (plain.Forall var body body_site site) =
        let on = part_at vars var in
        let inner = component (shape_of p on.node) in
        omega (arith, length-append (body_sites p (inner ∷ []) body) ((body_site, inner.node) ∷ (site, on.node) ∷ []), sites-twice (inner ∷ []) body)

    arms_sites-twice : (all : List Stand) (arms : plain.Arms) → length (arms_sites p all arms) ≤ 2 * arms_in arms
    arms_sites-twice [] plain.no_arms = omega arith
    arms_sites-twice [] (plain.arm bind body arms) = omega arith
    arms_sites-twice (stand ∷ rest) plain.no_arms = omega arith
    arms_sites-twice (stand ∷ rest) (plain.arm bind body arms) =
        omega (arith, length-append (body_sites p (bound_parts p stand bind) body) (arms_sites p rest arms), sites-twice (bound_parts p stand bind) body, arms_sites-twice rest arms)

placed-sites : (caller place : ℕ) (sites : List (ℕ × ℕ)) → map (λ site. site.1) (placed caller place sites) ≡ sites_at caller place (nodes_of sites)
placed-sites caller place [] = refl
placed-sites caller place (site ∷ rest) = ap (λ l. record { node = site.1; caller = caller; place = place } ∷ l) (placed-sites caller (place + 1) rest)

sites_in-cons : (p : Program) (f : ℕ) (P : plain.Procedure) (Ps : List plain.Procedure) → sites_in p f (P ∷ Ps) ≡ sites_at f 0 (nodes_of (procedure_sites p P)) ++ sites_in p (f + 1) Ps
sites_in-cons p f P Ps =
    map-append (λ site. site.1) (placed f 0 (procedure_sites p P)) (sites_from p (f + 1) Ps)
    ∙ ap (λ l. l ++ sites_in p (f + 1) Ps) (placed-sites f 0 (procedure_sites p P))

-- the sites of a procedure are put behind those before it node by node
pub sites_at-more : (caller i : ℕ) (nodes : List ℕ) (node : ℕ) (old sites new : List Site) → sites ++ sites_at caller i (drop i nodes) ≡ old ++ sites_at caller 0 nodes → i < length nodes → node ≡ get_or nodes i node
    → new ≡ sites ++ record { node = node; caller = caller; place = i } ∷ [] → new ++ sites_at caller (i + 1) (drop (i + 1) nodes) ≡ old ++ sites_at caller 0 nodes
sites_at-more caller i nodes node old sites new so h e f =
    ap (λ l. l ++ sites_at caller (i + 1) (drop (i + 1) nodes)) f
    ∙ append_assoc sites (record { node = node; caller = caller; place = i } ∷ []) (sites_at caller (i + 1) (drop (i + 1) nodes))
    ∙ ap (λ l. sites ++ sites_at caller i l) (sym (at-element nodes i node h e))
    ∙ so

pub sites_at-all : (caller i : ℕ) (nodes : List ℕ) (old sites : List Site) → sites ++ sites_at caller i (drop i nodes) ≡ old ++ sites_at caller 0 nodes → length nodes ≤ i → sites ≡ old ++ sites_at caller 0 nodes
sites_at-all caller i nodes old sites so h = sym (append-nil sites) ∙ ap (λ l. sites ++ sites_at caller i l) (sym (drop_all i nodes h)) ∙ so

pub whole-few : (p : Program) (P : Proc) (vars : List Part) (items : List Item) (empty found : Found) (nodes last : List ℕ) → body_items (body_of P.body) ≤ 1073741824 → vars ≡ P.on ∷ [] → items ≡ P.body.items → empty.nodes ≡ []
    → IsFound (nodes_of (items_sites p vars (item_list items))) (items_walks p vars (item_list items)) empty found → nodes ≡ found.nodes ++ P.on.node ∷ [] → last ≡ nodes → length last ≤ 4294967296
whole-few p P vars items empty found nodes last few v i none is e same =
    let here = body_sites p (P.on ∷ []) (body_of P.body) in
    let at : nodes_of (items_sites p vars (item_list items)) ≡ nodes_of here = ap (λ l. nodes_of (items_sites p l (item_list items))) v ∙ ap (λ l. nodes_of (items_sites p (P.on ∷ []) (item_list l))) i in
    let all : last ≡ nodes_of here ++ P.on.node ∷ [] = same ∙ e ∙ ap (λ l. l ++ P.on.node ∷ []) (is.nodes_are ∙ ap (λ l. l ++ nodes_of (items_sites p vars (item_list items))) none ∙ at) in
    omega (arith, few, ap length all, length-map here (λ site. site.1), length-append (nodes_of here) (P.on.node ∷ []), sites-twice p (P.on ∷ []) (body_of P.body))

-- what is left of procedures is to be found as all were from the start
pub record ProcsFound (p : Program) (procs left : List Proc) (caller : ℕ) (sites : List Site) (walks : ℕ) : Type 0 where
  pub sites_are : sites ++ sites_in p caller (map procedure_of left) ≡ sites_in p 0 (map procedure_of procs)
  pub walks_are : walks + sum_by (procedure_walks p) (map procedure_of left) ≡ sum_by (procedure_walks p) (map procedure_of procs)
  pub room : walks + sum_by procedure_items (map procedure_of left) ≤ 1073741824

module _ (p : Program) (procs : List Proc) where
  pub procs-at : (i : ℕ) (P : Proc) (sites : List Site) (walks : ℕ) → ProcsFound p procs (drop i procs) i sites walks → i < length procs → P ≡ get_or procs i P → ProcsFound p procs (P ∷ drop (i + 1) procs) i sites walks
  procs-at i P sites walks so h e = subst (λ l. ProcsFound p procs l i sites walks) (at-element procs i P h e) so

  pub procs-few : (P : Proc) (rest : List Proc) (caller : ℕ) (sites : List Site) (walks : ℕ) → ProcsFound p procs (P ∷ rest) caller sites walks → walks + body_items (body_of P.body) ≤ 1073741824
  procs-few P rest caller sites walks so = omega (arith, so.room, sum_by-cons procedure_items (procedure_of P) (map procedure_of rest))

  pub procs-more : (P : Proc) (rest : List Proc) (caller : ℕ) (sites new : List Site) (walks more : ℕ) → ProcsFound p procs (P ∷ rest) caller sites walks → new ≡ sites ++ sites_at caller 0 (nodes_of (procedure_sites p (procedure_of P)))
      → more ≡ procedure_walks p (procedure_of P) → ProcsFound p procs rest (caller + 1) new (walks + more)
  procs-more P rest caller sites new walks more so e f =
      let here = sites_at caller 0 (nodes_of (procedure_sites p (procedure_of P))) in
      record {
        sites_are =
            ap (λ l. l ++ sites_in p (caller + 1) (map procedure_of rest)) e
            ∙ append_assoc sites here (sites_in p (caller + 1) (map procedure_of rest))
            ∙ ap (λ l. sites ++ l) (sym (sites_in-cons p caller (procedure_of P) (map procedure_of rest)))
            ∙ so.sites_are;
        walks_are = omega (arith, so.walks_are, f, sum_by-cons (procedure_walks p) (procedure_of P) (map procedure_of rest));
        room = omega (arith, so.room, f, sum_by-cons procedure_items (procedure_of P) (map procedure_of rest), walks-within p (P.on ∷ []) (body_of P.body));
      }

  pub procs-all : (i : ℕ) (sites : List Site) (walks : ℕ) → ProcsFound p procs (drop i procs) i sites walks → length procs ≤ i → (sites ≡ sites_in p 0 (map procedure_of procs)) × (walks ≡ sum_by (procedure_walks p) (map procedure_of procs))
  procs-all i sites walks left h =
      let so = subst (λ l. ProcsFound p procs l i sites walks) (drop_all i procs h) left in
      (sym (append-nil sites) ∙ so.sites_are, sym (add-zero walks) ∙ so.walks_are)
