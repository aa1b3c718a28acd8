-- Some site by its number is some site by the place in a body where it stands.
use Rattle.std.proofs.Common.{◌≡◌, ◌⊎◌, ◌↔◌, ℕ, zero, suc, ◌+◌, ◌<◌, List, [], ◌∷◌, ◌++◌, map, length, Some, slice_get, refl, sym, ap, ◌∙◌, subst, inl, inr, arith}
use Rattle.std.specs.Prelude.{flat_map}
use Rattle.luo_finite.specs.Listing.{In, NoDouble}
use Rattle.luo_finite.proofs.Membership.{In-append_left, In-append_right, In-append_cases, In-map}
use Rattle.luo_model.specs.declared.program.Part.{Part}
use Rattle.luo_model.specs.declared.program.Site.{Site}
use Rattle.luo_model.specs.Tree.{Tree}
use Rattle.luo_model.specs.Program.{Program, Procedure, Body, Does, Items, no_items, item, Item, Call, Case, Forall, Arms, no_arms, arm, shape_of, site_node}
use Rattle.luo_model.specs.Charges.{Work, of_body, of_call, of_case, of_walk, works_of_body, works_of_items, works_of_item, works_of_arms, works_of_procedure, works_of, WorkCharges, SiteCharges}
use Rattle.luo_model.specs.Levels.{IsLevel, WorkLevel}
use Rattle.luo_model.specs.Scopes.Stands.{Stand, stands, component, no_part, bound_parts, part_at}
use Rattle.luo_model.specs.Scopes.Fits.{FitsBody, FitsItems, FitsItem, FitsArms}
use Rattle.luo_model.specs.Scopes.Sites.{body_sites, items_sites, item_sites, arms_sites}
use Rattle.luo_model.specs.Invariant.{IsProgram, procedure_sites, placed, sites_from}
use Rattle.luo_model.proofs.WorkLemmas.{sites_are_apart, works_length, work_at}
use Rattle.luo_model.proofs.WholeSites.{numbered_get}
use Rattle.luo_rules.proofs.Lists.{index_get, below_get, get_below, In_get}

-- Q holds of a site, the node of its variable and what is done there
module _ (p : Program) (Q : ℕ → ℕ → Work → Type 0) where
  abbrev mutual
    pub InBody : List Part → Body → Type 0
    InBody vars (Does own items) = InItems vars items

    pub InItems : List Part → Items → Type 0
    InItems vars no_items = ⊥
    InItems vars (item i is) = InItem vars i ⊎ InItems vars is

    pub InItem : List Part → Item → Type 0
    InItem vars (Call var callee site) = Q site (part_at vars var).node (of_call callee)
    InItem vars (Case var arms site) = Q site (part_at vars var).node (of_case arms) ⊎ InArms (stands (part_at vars var) (shape_of p (part_at vars var).node)) arms
    InItem vars (Forall var body body_site site) =
        Q site (part_at vars var).node (of_walk body)
        ⊎ Q body_site (component (shape_of p (part_at vars var).node)).node (of_body body)
        ⊎ InBody (component (shape_of p (part_at vars var).node) ∷ []) body

    pub InArms : List Stand → Arms → Type 0
    InArms (stand ∷ ss) (arm bind body arms) = InBody (bound_parts p stand bind) body ⊎ InArms ss arms
    InArms _ _ = ⊥

  abbrev pub InProcs : List Procedure → Type 0
  InProcs [] = ⊥
  InProcs (P ∷ Ps) = Q P.site P.on.node (of_body P.body) ⊎ InBody (P.on ∷ []) P.body ⊎ InProcs Ps

-- where Q holds of a site of these works and of these nodes
pub record Found (Q : ℕ → ℕ → Work → Type 0) (works : List (ℕ × Work)) (sites : List (ℕ × ℕ)) : Type 0 where
  pub i : ℕ
  pub x : ℕ
  pub w : Work
  pub work : In (i, w) works
  pub node : In (i, x) sites
  pub is : Q i x w

module _ (Q : ℕ → ℕ → Work → Type 0) where
  wider_left : (a b : List (ℕ × Work)) (c d : List (ℕ × ℕ)) → Found Q a c → Found Q (a ++ b) (c ++ d)
  wider_left a b c d f = record { i = f.i; x = f.x; w = f.w; work = In-append_left (f.i, f.w) a b f.work; node = In-append_left (f.i, f.x) c d f.node; is = f.is }

  wider_right : (a b : List (ℕ × Work)) (c d : List (ℕ × ℕ)) → Found Q b d → Found Q (a ++ b) (c ++ d)
  wider_right a b c d f = record { i = f.i; x = f.x; w = f.w; work = In-append_right (f.i, f.w) a b f.work; node = In-append_right (f.i, f.x) c d f.node; is = f.is }

  -- at the very site
  at_site : (i site x : ℕ) (w v : Work) → (let a : ℕ × Work = (i, w) in let b : ℕ × Work = (site, v) in a ≡ b) → (i ≡ site → Q i x w) → Q site x v
  at_site i site x w v e q = subst (λ (z : ℕ × Work). Q z.0 x z.1) e (q (ap (λ (z : ℕ × Work). z.0) e))

  module _ (p : Program) where
    -- from the place to the lists
    mutual
      body_found : (b : Body) (vars : List Part) → InBody p Q vars b → Found Q (works_of_body b) (body_sites p vars b)
      body_found (Does own items) vars h = items_found items vars h

      items_found : (is : Items) (vars : List Part) → InItems p Q vars is → Found Q (works_of_items is) (items_sites p vars is)
      items_found no_items vars h = absurd h
      items_found (item i is) vars (inl h) = wider_left (works_of_item i) (works_of_items is) (item_sites p vars i) (items_sites p vars is) (item_found i vars h)
      items_found (item i is) vars (inr h) = wider_right (works_of_item i) (works_of_items is) (item_sites p vars i) (items_sites p vars is) (items_found is vars h)

      item_found : (i : Item) (vars : List Part) → InItem p Q vars i → Found Q (works_of_item i) (item_sites p vars i)
      item_found (Call var callee site) vars h = record { i = site; x = (part_at vars var).node; w = of_call callee; work = inl refl; node = inl refl; is = h }
      item_found (Case var arms site) vars (inl h) =
          let x = part_at vars var in
          wider_right (works_of_arms arms) ((site, of_case arms) ∷ []) (arms_sites p (stands x (shape_of p x.node)) arms) ((site, x.node) ∷ []) (record { i = site; x = x.node; w = of_case arms; work = inl refl; node = inl refl; is = h })
      item_found (Case var arms site) vars (inr h) =
          let x = part_at vars var in
          wider_left (works_of_arms arms) ((site, of_case arms) ∷ []) (arms_sites p (stands x (shape_of p x.node)) arms) ((site, x.node) ∷ []) (arms_found arms (stands x (shape_of p x.node)) h)
      item_found (Forall var body body_site site) vars h =
          let x = part_at vars var in
          let y = component (shape_of p x.node) in
          let works : List (ℕ × Work) = (body_site, of_body body) ∷ ((site, of_walk body) ∷ []) in
          let nodes : List (ℕ × ℕ) = (body_site, y.node) ∷ (site, x.node) ∷ [] in
          elim h [
            | inl h ↦ wider_right (works_of_body body) works (body_sites p (y ∷ []) body) nodes (record { i = site; x = x.node; w = of_walk body; work = inr (inl refl); node = inr (inl refl); is = h })
            | inr h ↦ elim h [
              | inl h ↦ wider_right (works_of_body body) works (body_sites p (y ∷ []) body) nodes (record { i = body_site; x = y.node; w = of_body body; work = inl refl; node = inl refl; is = h })
              | inr h ↦ wider_left (works_of_body body) works (body_sites p (y ∷ []) body) nodes (body_found body (y ∷ []) h)
            ]
          ]

      arms_found : (arms : Arms) (ss : List Stand) → InArms p Q ss arms → Found Q (works_of_arms arms) (arms_sites p ss arms)
      arms_found no_arms [] h = absurd h
      arms_found no_arms (stand ∷ ss) h = absurd h
      arms_found (arm bind body arms) [] h = absurd h
      arms_found (arm bind body arms) (stand ∷ ss) (inl h) = wider_left (works_of_body body) (works_of_arms arms) (body_sites p (bound_parts p stand bind) body) (arms_sites p ss arms) (body_found body (bound_parts p stand bind) h)
      arms_found (arm bind body arms) (stand ∷ ss) (inr h) = wider_right (works_of_body body) (works_of_arms arms) (body_sites p (bound_parts p stand bind) body) (arms_sites p ss arms) (arms_found arms ss h)

    -- from a work of the list to its place, where Q holds of each site with this work, whatever its node
    mutual
      body_placed : (b : Body) (vars : List Part) → FitsBody p vars b → (i : ℕ) (w : Work) → In (i, w) (works_of_body b) → ((x : ℕ) → In (i, x) (body_sites p vars b) → Q i x w) → InBody p Q vars b
      body_placed (Does own items) vars f i w h q = items_placed items vars f.1 i w h q

      items_placed : (is : Items) (vars : List Part) → FitsItems p vars is → (i : ℕ) (w : Work) → In (i, w) (works_of_items is) → ((x : ℕ) → In (i, x) (items_sites p vars is) → Q i x w) → InItems p Q vars is
      items_placed no_items vars f i w h q = absurd h
      items_placed (item j is) vars f i w h q =
          elim (In-append_cases (i, w) (works_of_item j) (works_of_items is) h) [
            | inl k ↦ inl (item_placed j vars f.0 i w k (λ x m. q x (In-append_left (i, x) (item_sites p vars j) (items_sites p vars is) m)))
            | inr k ↦ inr (items_placed is vars f.1 i w k (λ x m. q x (In-append_right (i, x) (item_sites p vars j) (items_sites p vars is) m)))
          ]

      item_placed : (j : Item) (vars : List Part) → FitsItem p vars j → (i : ℕ) (w : Work) → In (i, w) (works_of_item j) → ((x : ℕ) → In (i, x) (item_sites p vars j) → Q i x w) → InItem p Q vars j
      item_placed (Call var callee site) vars f i w h q =
          elim h [ inl e ↦ at_site i site (part_at vars var).node w (of_call callee) e (λ same. q (part_at vars var).node (inl (ap (λ (n : ℕ). (n, (part_at vars var).node)) same))) | inr e ↦ absurd e ]
      item_placed (Case var arms site) vars f i w h q =
          let x = part_at vars var in
          let same : f.0 ≡ x = sym (index_get vars var f.0 no_part f.1) in
          elim (In-append_cases (i, w) (works_of_arms arms) ((site, of_case arms) ∷ []) h) [
            | inl k ↦ inr (arms_placed arms (stands x (shape_of p x.node)) (subst (λ (y : Part). FitsArms p (stands y (shape_of p y.node)) arms) same f.3) i w k (λ y m. q y (In-append_left (i, y) (arms_sites p (stands x (shape_of p x.node)) arms) ((site, x.node) ∷ []) m)))
            | inr k ↦ elim k [
              | inl e ↦ inl (at_site i site x.node w (of_case arms) e (λ s. q x.node (In-append_right (i, x.node) (arms_sites p (stands x (shape_of p x.node)) arms) ((site, x.node) ∷ []) (inl (ap (λ (n : ℕ). (n, x.node)) s)))))
              | inr e ↦ absurd e
            ]
          ]
      item_placed (Forall var body body_site site) vars f i w h q =
          let x = part_at vars var in
          let y = component (shape_of p x.node) in
          let same : f.0 ≡ x = sym (index_get vars var f.0 no_part f.1) in
          let works : List (ℕ × Work) = (body_site, of_body body) ∷ ((site, of_walk body) ∷ []) in
          let nodes : List (ℕ × ℕ) = (body_site, y.node) ∷ (site, x.node) ∷ [] in
          elim (In-append_cases (i, w) (works_of_body body) works h) [
            | inl k ↦ inr (inr (body_placed body (y ∷ []) (subst (λ (z : Part). FitsBody p (component (shape_of p z.node) ∷ []) body) same f.3) i w k (λ z m. q z (In-append_left (i, z) (body_sites p (y ∷ []) body) nodes m))))
            | inr k ↦ elim k [
              | inl e ↦ inr (inl (at_site i body_site y.node w (of_body body) e (λ s. q y.node (In-append_right (i, y.node) (body_sites p (y ∷ []) body) nodes (inl (ap (λ (n : ℕ). (n, y.node)) s))))))
              | inr k ↦ elim k [
                | inl e ↦ inl (at_site i site x.node w (of_walk body) e (λ s. q x.node (In-append_right (i, x.node) (body_sites p (y ∷ []) body) nodes (inr (inl (ap (λ (n : ℕ). (n, x.node)) s))))))
                | inr e ↦ absurd e
              ]
            ]
          ]

      arms_placed : (arms : Arms) (ss : List Stand) → FitsArms p ss arms → (i : ℕ) (w : Work) → In (i, w) (works_of_arms arms) → ((x : ℕ) → In (i, x) (arms_sites p ss arms) → Q i x w) → InArms p Q ss arms
      arms_placed no_arms ss f i w h q = absurd h
      arms_placed (arm bind body arms) [] f i w h q = absurd f
      arms_placed (arm bind body arms) (stand ∷ ss) f i w h q =
          elim (In-append_cases (i, w) (works_of_body body) (works_of_arms arms) h) [
            | inl k ↦ inl (body_placed body (bound_parts p stand bind) f.1 i w k (λ x m. q x (In-append_left (i, x) (body_sites p (bound_parts p stand bind) body) (arms_sites p ss arms) m)))
            | inr k ↦ inr (arms_placed arms ss f.2 i w k (λ x m. q x (In-append_right (i, x) (body_sites p (bound_parts p stand bind) body) (arms_sites p ss arms) m)))
          ]

-- a place among sites is a place among those of the procedure
placed_in : (caller place : ℕ) (l : List (ℕ × ℕ)) (i x : ℕ) → In (i, x) l → (v : Site) × In (i, v) (placed caller place l) × (v.node ≡ x)
placed_in caller place [] i x h = absurd h
placed_in caller place (y ∷ l) i x (inl e) =
    let v : Site = record { node = y.1; caller = caller; place = place } in
    (v, inl (ap (λ (z : ℕ × ℕ). let r : ℕ × Site = (z.0, v) in r) e), sym (ap (λ (z : ℕ × ℕ). z.1) e))
placed_in caller place (y ∷ l) i x (inr h) = let r = placed_in caller (place + 1) l i x h in (r.0, inr r.1, r.2)

second_one : {B : Type 0} (l : List (ℕ × B)) → NoDouble (map (λ w. w.0) l) → (i : ℕ) (v w : B) → In (i, v) l → In (i, w) l → v ≡ w
second_one [] d i v w h k = absurd h
second_one (x ∷ l) d i v w (inl e) (inl g) = ap (λ z. z.1) (e ∙ sym g)
second_one (x ∷ l) d i v w (inl e) (inr k) = absurd (d.0 (subst (λ z. In z (map (λ w. w.0) l)) (ap (λ z. z.0) e) (In-map (λ w. w.0) (i, w) l k)))
second_one (x ∷ l) d i v w (inr h) (inl g) = absurd (d.0 (subst (λ z. In z (map (λ w. w.0) l)) (ap (λ z. z.0) g) (In-map (λ w. w.0) (i, v) l h)))
second_one (x ∷ l) d i v w (inr h) (inr k) = second_one l d.1 i v w h k

module _ (p : Program) (Q : ℕ → ℕ → Work → Type 0) where
  -- a work of procedures, with the site that is numbered so
  record FoundSite (works : List (ℕ × Work)) (sites : List (ℕ × Site)) : Type 0 where
    pub i : ℕ
    pub v : Site
    pub w : Work
    pub work : In (i, w) works
    pub there : In (i, v) sites
    pub is : Q i v.node w

  procs_found : (g : ℕ) (Ps : List Procedure) → InProcs p Q Ps → FoundSite (flat_map works_of_procedure Ps) (sites_from p g Ps)
  procs_found g [] h = absurd h
  procs_found g (P ∷ Ps) h =
      let here : Found Q (works_of_procedure P) (procedure_sites p P) → FoundSite (flat_map works_of_procedure (P ∷ Ps)) (sites_from p g (P ∷ Ps)) =
      λ f. let v = placed_in g 0 (procedure_sites p P) f.i f.x f.node in
      record {
        i = f.i;
        v = v.0;
        w = f.w;
        work = In-append_left (f.i, f.w) (works_of_procedure P) (flat_map works_of_procedure Ps) f.work;
        there = In-append_left (f.i, v.0) (placed g 0 (procedure_sites p P)) (sites_from p (g + 1) Ps) v.1;
        is = subst (λ n. Q f.i n f.w) (sym v.2) f.is;
      } in
      let whole : List (ℕ × Work) = (P.site, of_body P.body) ∷ [] in
      elim h [
        | inl h ↦ here (wider_right Q (works_of_body P.body) whole (body_sites p (P.on ∷ []) P.body) ((P.site, P.on.node) ∷ []) (record { i = P.site; x = P.on.node; w = of_body P.body; work = inl refl; node = inl refl; is = h }))
        | inr h ↦ elim h [
          | inl h ↦ here (wider_left Q (works_of_body P.body) whole (body_sites p (P.on ∷ []) P.body) ((P.site, P.on.node) ∷ []) (body_found Q p P.body (P.on ∷ []) h))
          | inr h ↦
              let r = procs_found (g + 1) Ps h in
              record {
                i = r.i;
                v = r.v;
                w = r.w;
                work = In-append_right (r.i, r.w) (works_of_procedure P) (flat_map works_of_procedure Ps) r.work;
                there = In-append_right (r.i, r.v) (placed g 0 (procedure_sites p P)) (sites_from p (g + 1) Ps) r.there;
                is = r.is;
              }
        ]
      ]

  procs_placed : (g : ℕ) (Ps : List Procedure) → ((k : ℕ) (P : Procedure) → slice_get Ps k ≡ Some P → FitsBody p (P.on ∷ []) P.body) → (i : ℕ) (w : Work) → In (i, w) (flat_map works_of_procedure Ps)
      → ((v : Site) → In (i, v) (sites_from p g Ps) → Q i v.node w) → InProcs p Q Ps
  procs_placed g [] fits i w h q = absurd h
  procs_placed g (P ∷ Ps) fits i w h q =
      let whole : List (ℕ × Work) = (P.site, of_body P.body) ∷ [] in
      let own : List (ℕ × ℕ) = (P.site, P.on.node) ∷ [] in
      let inner : List (ℕ × ℕ) = body_sites p (P.on ∷ []) P.body in
      let here : (x : ℕ) → In (i, x) (procedure_sites p P) → Q i x w =
      λ x m. let v = placed_in g 0 (procedure_sites p P) i x m in subst (λ n. Q i n w) v.2 (q v.0 (In-append_left (i, v.0) (placed g 0 (procedure_sites p P)) (sites_from p (g + 1) Ps) v.1)) in
      elim (In-append_cases (i, w) (works_of_procedure P) (flat_map works_of_procedure Ps) h) [
        | inl k ↦ elim (In-append_cases (i, w) (works_of_body P.body) whole k) [
          | inl k ↦ inr (inl (body_placed Q p P.body (P.on ∷ []) (fits zero P refl) i w k (λ x m. here x (In-append_left (i, x) inner own m))))
          | inr k ↦ elim k [
            | inl e ↦ inl (at_site Q i P.site P.on.node w (of_body P.body) e (λ s. here P.on.node (In-append_right (i, P.on.node) inner own (inl (ap (λ (n : ℕ). let r : ℕ × ℕ = (n, P.on.node) in r) s)))))
            | inr e ↦ absurd e
          ]
        ]
        | inr k ↦ inr (inr (procs_placed (g + 1) Ps (λ j P e. fits (suc j) P e) i w k (λ v m. q v (In-append_right (i, v) (placed g 0 (procedure_sites p P)) (sites_from p (g + 1) Ps) m))))
      ]

-- a site by its number, and by the place where it stands
pub some_site : (p : Program) → IsProgram p → (Q : ℕ → ℕ → (Tree → ℕ → Type 0) → (ℕ → Type 0) → Type 0)
    → ((i x : ℕ) (C D : Tree → ℕ → Type 0) (L M : ℕ → Type 0) → ((t : Tree) (q : ℕ) → C t q ↔ D t q) → ((n : ℕ) → L n ↔ M n) → Q i x C L → Q i x D M)
    → ((i : ℕ) × (i < length p.sites) × Q i (site_node p i) (SiteCharges p i) (IsLevel p i)) ↔ InProcs p (λ i x w. Q i x (WorkCharges p w) (WorkLevel p w)) p.procs
some_site p is Q ext = (
  λ h.
      let v = get_below p.sites h.0 h.1 in
      let n = work_there h.0 h.1 in
      let node : (u : Site) → In (h.0, u) (sites_from p 0 p.procs) → u.node ≡ site_node p h.0 = λ u m. node_of h.0 u m in
      procs_placed p (λ i x w. Q i x (WorkCharges p w) (WorkLevel p w)) 0 p.procs (λ k P e. (is.procedures k P e).1) h.0 n.0 n.1
      (λ u m. subst (λ y. Q h.0 y (WorkCharges p n.0) (WorkLevel p n.0)) (sym (node u m))
      (ext h.0 (site_node p h.0) (SiteCharges p h.0) (WorkCharges p n.0) (IsLevel p h.0) (WorkLevel p n.0) (charges h.0 n.0 n.1) (levels h.0 n.0 n.1) h.2)),
  λ h.
      let f = procs_found p (λ i x w. Q i x (WorkCharges p w) (WorkLevel p w)) 0 p.procs h in (
        f.i,
        below f.i f.v f.there,
        ext f.i (site_node p f.i) (WorkCharges p f.w) (SiteCharges p f.i) (WorkLevel p f.w) (IsLevel p f.i) (λ t q. let b = charges f.i f.w f.work t q in (b.1, b.0)) (λ n. let b = levels f.i f.w f.work n in (b.1, b.0))
            (subst (λ y. Q f.i y (WorkCharges p f.w) (WorkLevel p f.w)) (node_of f.i f.v f.there) f.is),
      ),
)
  where
    number : (i : ℕ) (v : Site) → In (i, v) (sites_from p 0 p.procs) → slice_get p.sites i ≡ Some v
    number i v m = let r = numbered_get 0 p.sites i v (subst (In (i, v)) is.sites m) in ap (slice_get p.sites) (r.1 ∙ omega arith) ∙ r.2

    below : (i : ℕ) (v : Site) → In (i, v) (sites_from p 0 p.procs) → i < length p.sites
    below i v m = below_get p.sites i v (number i v m)

    node_of : (i : ℕ) (v : Site) → In (i, v) (sites_from p 0 p.procs) → v.node ≡ site_node p i
    node_of i v m = sym (ap (λ (z : Site). z.node) (index_get p.sites i v (record { node = 0; caller = 0; place = 0 }) (number i v m)))

    work_there : (i : ℕ) → i < length p.sites → (w : Work) × In (i, w) (works_of p)
    work_there i l =
        let g = get_below (works_of p) i (omega (arith, l, works_length p is)) in
        let r = work_at p is i g.0 g.1 in
        (g.0.1, subst (λ (n : ℕ). In (let z : ℕ × Work = (n, g.0.1) in z) (works_of p)) r.2 (In_get (works_of p) i g.0 g.1))

    charges : (i : ℕ) (w : Work) → In (i, w) (works_of p) → (t : Tree) (q : ℕ) → SiteCharges p i t q ↔ WorkCharges p w t q
    charges i w m t q = (
      λ h. subst (λ v. WorkCharges p v t q) (second_one (works_of p) (sites_are_apart p is) i h.0 w h.1 m) h.2,
      λ h. (w, m, h),
    )

    levels : (i : ℕ) (w : Work) → In (i, w) (works_of p) → (n : ℕ) → IsLevel p i n ↔ WorkLevel p w n
    levels i w m n = (
      λ h. subst (λ v. WorkLevel p v n) (second_one (works_of p) (sites_are_apart p is) i h.0 w h.1 m) h.2,
      λ h. (w, m, h),
    )
