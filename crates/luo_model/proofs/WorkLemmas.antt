-- What is done at the sites of a program, in the order of their numbers.
use Rattle.std.proofs.Common.{◌≡◌, ℕ, zero, suc, ◌+◌, ◌≤◌, List, [], ◌∷◌, ◌++◌, inl, inr, length, map, flat_map, refl, sym, ◌∙◌, ap, subst, arith, Some, slice_get}
use Rattle.std.proofs.lemmas.Option.{get_or_from_slice_get}
use Rattle.std.proofs.lemmas.List.{map-append}
use Rattle.luo_finite.specs.Listing.{In, NoDouble}
use Rattle.luo_finite.proofs.Places.{some_same, none_some, place_in, get_map_back}
use Rattle.luo_model.specs.declared.program.Site.{Site}
use Rattle.luo_model.specs.Program.{Program, Procedure, Body, Does, Items, no_items, item, Item, Call, Case, Forall, Arms, no_arms, arm, shape_of}
use Rattle.luo_model.specs.Charges.{Work, of_body, of_call, of_case, of_walk, works_of_body, works_of_items, works_of_item, works_of_arms, works_of_procedure, works_of}
use Rattle.luo_model.specs.declared.program.Part.{Part}
use Rattle.luo_model.specs.Scopes.Stands.{Stand, stands, component, IsCollection, no_part, bound_parts}
use Rattle.luo_model.specs.Scopes.Fits.{FitsBody, FitsItems, FitsItem, FitsArms}
use Rattle.luo_model.specs.Scopes.Sites.{body_sites, items_sites, item_sites, arms_sites}
use Rattle.luo_model.specs.Invariant.{IsProgram, procedure_sites, placed, sites_from, numbered_from}
use Rattle.luo_model.specs.Laws.{SitesAreApart}

-- the work is done on structures of this part
abbrev pub WorkOn : Program → Part → Work → Type 0
WorkOn p x (of_body body) = FitsBody p (x ∷ []) body
WorkOn p x (of_call callee) = (P : Procedure) × (slice_get p.procs callee ≡ Some P) × (P.on.node ≡ x.node)
WorkOn p x (of_case arms) = (1 ≤ length (stands x (shape_of p x.node))) × FitsArms p (stands x (shape_of p x.node)) arms
WorkOn p x (of_walk body) = IsCollection (shape_of p x.node) × FitsBody p (component (shape_of p x.node) ∷ []) body

-- and of a part of this node
abbrev pub WorkAt : Program → ℕ → Work → Type 0
WorkAt p node work = (on : Part) × (on.node ≡ node) × WorkOn p on work

-- the works are those of sites of these numbers and nodes, one of each
abbrev pub AreDone : Program → List (ℕ × Work) → List (ℕ × ℕ) → Type 0
AreDone p [] [] = Unit {0}
AreDone p (w ∷ works) (s ∷ sites) = (w.0 ≡ s.0) × WorkAt p s.1 w.1 × AreDone p works sites
AreDone p _ _ = ⊥

module _ (p : Program) where
  done_both : (xs : List (ℕ × Work)) (ys : List (ℕ × ℕ)) (vs : List (ℕ × Work)) (ws : List (ℕ × ℕ)) → AreDone p xs ys
      → AreDone p vs ws → AreDone p (xs ++ vs) (ys ++ ws)
  done_both [] [] vs ws d e = e
  done_both [] (y ∷ ys) vs ws d e = absurd d
  done_both (x ∷ xs) [] vs ws d e = absurd d
  done_both (x ∷ xs) (y ∷ ys) vs ws d e = (d.0, d.1, done_both xs ys vs ws d.2 e)

  mutual
    body_done : (body : Body) (vars : List Part) → FitsBody p vars body
        → AreDone p (works_of_body body) (body_sites p vars body)
    body_done (Does own items) vars f = items_done items vars f.1

    items_done : (items : Items) (vars : List Part) → FitsItems p vars items
        → AreDone p (works_of_items items) (items_sites p vars items)
    items_done no_items vars f = tt
    items_done (item i is) vars f =
        done_both (works_of_item i) (item_sites p vars i) (works_of_items is) (items_sites p vars is)
        (item_done i vars f.0) (items_done is vars f.1)

    item_done : (i : Item) (vars : List Part) → FitsItem p vars i
        → AreDone p (works_of_item i) (item_sites p vars i)
    item_done (Call var callee site) vars f =
        (refl, (f.1, sym (ap (λ (x : Part). x.node) (get_or_from_slice_get vars var f.1 no_part f.3)), (f.0, f.2, sym f.4)), tt)
    item_done (Case var arms site) vars f =
        subst
        (λ (x : Part). AreDone p (works_of_arms arms ++ (site, of_case arms) ∷ [])
        (arms_sites p (stands x (shape_of p x.node)) arms ++ (site, x.node) ∷ []))
        (sym (get_or_from_slice_get vars var f.0 no_part f.1))
        (done_both (works_of_arms arms) (arms_sites p (stands f.0 (shape_of p f.0.node)) arms)
        ((site, of_case arms) ∷ []) ((site, f.0.node) ∷ [])
        (arms_done arms (stands f.0 (shape_of p f.0.node)) f.3) (refl, (f.0, refl, (f.2, f.3)), tt))
    item_done (Forall var body body_site site) vars f =
        let c : Part = component (shape_of p f.0.node) in
        subst
        (λ (x : Part). AreDone p (works_of_body body ++ (body_site, of_body body) ∷ ((site, of_walk body) ∷ []))
        (body_sites p (component (shape_of p x.node) ∷ []) body
        ++ (body_site, (component (shape_of p x.node)).node) ∷ ((site, x.node) ∷ [])))
        (sym (get_or_from_slice_get vars var f.0 no_part f.1))
        (done_both (works_of_body body) (body_sites p (c ∷ []) body)
        ((body_site, of_body body) ∷ ((site, of_walk body) ∷ [])) ((body_site, c.node) ∷ ((site, f.0.node) ∷ []))
        (body_done body (c ∷ []) f.3) (refl, (c, refl, f.3), (refl, (f.0, refl, (f.2, f.3)), tt)))

    arms_done : (arms : Arms) (all : List Stand) → FitsArms p all arms → AreDone p (works_of_arms arms) (arms_sites p all arms)
    arms_done no_arms [] f = tt
    arms_done no_arms (stand ∷ rest) f = absurd f
    arms_done (arm bind body arms) [] f = absurd f
    arms_done (arm bind body arms) (stand ∷ rest) f =
        done_both (works_of_body body) (body_sites p (bound_parts p stand bind) body) (works_of_arms arms)
        (arms_sites p rest arms) (body_done body (bound_parts p stand bind) f.1) (arms_done arms rest f.2)

  procedure_done : (P : Procedure) → FitsBody p (P.on ∷ []) P.body → AreDone p (works_of_procedure P) (procedure_sites p P)
  procedure_done P f =
      done_both (works_of_body P.body) (body_sites p (P.on ∷ []) P.body) ((P.site, of_body P.body) ∷ [])
      ((P.site, P.on.node) ∷ []) (body_done P.body (P.on ∷ []) f) (refl, (P.on, refl, f), tt)

-- sites by their nodes
abbrev node_of : ℕ × Site → ℕ × ℕ
node_of s = (s.0, s.1.node)

placed_nodes : (f place : ℕ) (sites : List (ℕ × ℕ)) → map node_of (placed f place sites) ≡ sites
placed_nodes f place [] = refl
placed_nodes f place (site ∷ rest) = ap (λ l. site ∷ l) (placed_nodes f (place + 1) rest)

module _ (p : Program) where
  all_done : (f : ℕ) (Ps : List Procedure) → ((P : Procedure) → In P Ps → FitsBody p (P.on ∷ []) P.body) → AreDone p (flat_map works_of_procedure Ps) (map node_of (sites_from p f Ps))
  all_done f [] h = tt
  all_done f (P ∷ Ps) h =
      subst (AreDone p (works_of_procedure P ++ flat_map works_of_procedure Ps)) (sym (map-append node_of (placed f 0 (procedure_sites p P)) (sites_from p (f + 1) Ps)))
      (done_both p (works_of_procedure P) (map node_of (placed f 0 (procedure_sites p P))) (flat_map works_of_procedure Ps) (map node_of (sites_from p (f + 1) Ps))
      (subst (AreDone p (works_of_procedure P)) (sym (placed_nodes f 0 (procedure_sites p P))) (procedure_done p P (h P (inl refl)))) (all_done (f + 1) Ps (λ Q i. h Q (inr i))))

  pub length_done : (works : List (ℕ × Work)) (sites : List (ℕ × ℕ)) → AreDone p works sites → length works ≡ length sites
  length_done [] [] d = refl
  length_done [] (s ∷ sites) d = absurd d
  length_done (w ∷ works) [] d = absurd d
  length_done (w ∷ works) (s ∷ sites) d = omega (arith, length_done works sites d.2)

  done_at : (works : List (ℕ × Work)) (sites : List (ℕ × ℕ)) (i : ℕ) (w : ℕ × Work) → AreDone p works sites → slice_get works i ≡ Some w → (s : ℕ × ℕ) × (slice_get sites i ≡ Some s) × (w.0 ≡ s.0) × WorkAt p s.1 w.1
  done_at [] sites i w d e = absurd (none_some w e)
  done_at (v ∷ works) [] i w d e = absurd d
  done_at (v ∷ works) (s ∷ sites) zero w d e =
      let same : v ≡ w = some_same v w e in
      (s, refl, sym (ap (λ (u : ℕ × Work). u.0) same) ∙ d.0, subst (λ (u : ℕ × Work). WorkAt p s.1 u.1) same d.1)
  done_at (v ∷ works) (s ∷ sites) (suc i) w d e = done_at works sites i w d.2 e

numbered_at : (k : ℕ) (sites : List Site) (i : ℕ) (s : ℕ × ℕ) → slice_get (map node_of (numbered_from k sites)) i ≡ Some s → (site : Site) × (slice_get sites i ≡ Some site) × (s.0 ≡ k + i) × (s.1 ≡ site.node)
numbered_at k [] i s e = absurd (none_some s e)
numbered_at k (site ∷ rest) zero s e = let same : (k, site.node) ≡ s = some_same (k, site.node) s e in (site, refl, omega (arith, ap (λ (z : ℕ × ℕ). z.0) same), sym (ap (λ (z : ℕ × ℕ). z.1) same))
numbered_at k (site ∷ rest) (suc i) s e = let r = numbered_at (k + 1) rest i s e in (r.0, r.1, omega (arith, r.2), r.3)

numbered_length : (k : ℕ) (sites : List Site) → length (map node_of (numbered_from k sites)) ≡ length sites
numbered_length k [] = refl
numbered_length k (site ∷ rest) = omega (arith, numbered_length (k + 1) rest)

-- elements that know their places stand apart
places_apart : {B : Type 0} (k : ℕ) (l : List (ℕ × B)) → ((i : ℕ) (w : ℕ × B) → slice_get l i ≡ Some w → w.0 ≡ k + i) → NoDouble (map (λ w. w.0) l)
places_apart k [] h = tt
places_apart {B} k (w ∷ l) h = (
  λ i.
      let r = place_in w.0 (map (λ (v : ℕ × B). v.0) l) i in
      let b = get_map_back (λ (v : ℕ × B). v.0) l r.0 w.0 r.1 in
      omega (arith, h 0 w refl, h (suc r.0) b.0 b.1, b.2),
  places_apart (suc k) l (λ i v e. omega (arith, h (suc i) v e)),
)

module _ (p : Program) (q : IsProgram p) where
  works_done : AreDone p (works_of p) (map node_of (numbered_from 0 p.sites))
  works_done = subst (λ l. AreDone p (works_of p) (map node_of l)) q.sites (all_done p 0 p.procs (λ P i. let r = place_in P p.procs i in (q.procedures r.0 P r.1).1))

  -- there is one work for each site, and the one at place i is that of site i, on its node
  pub works_length : length (works_of p) ≡ length p.sites
  works_length = length_done p (works_of p) (map node_of (numbered_from 0 p.sites)) works_done ∙ numbered_length 0 p.sites

  pub work_at : (i : ℕ) (w : ℕ × Work) → slice_get (works_of p) i ≡ Some w → (site : Site) × (slice_get p.sites i ≡ Some site) × (w.0 ≡ i) × WorkAt p site.node w.1
  work_at i w e =
      let r = done_at p (works_of p) (map node_of (numbered_from 0 p.sites)) i w works_done e in
      let s = numbered_at 0 p.sites i r.0 r.1 in
      (s.0, s.1, omega (arith, r.2, s.2), subst (λ x. WorkAt p x w.1) s.3 r.3)

  -- no two sites have one number
  pub sites_are_apart : SitesAreApart p
  sites_are_apart = places_apart 0 (works_of p) (λ i w e. omega (arith, (work_at i w e).2))
