-- The sites of a program stand apart, and those of wholes have their nodes.
use Rattle.std.proofs.Common.{◌≡◌, ℕ, zero, suc, ◌+◌, ◌≤◌, refl, sym, ◌∙◌, ap, arith, subst, Some, inl, inr, List, [], ◌∷◌, ◌++◌, map, slice_get, flat_map}
use Rattle.std.proofs.lemmas.Option.{get_or_from_slice_get}
use Rattle.std.proofs.lemmas.List.Concat.{flat_map-cons}
use Rattle.luo_finite.specs.Listing.{In, NoDouble}
use Rattle.luo_finite.proofs.Membership.{In-append_left, In-append_right}
use Rattle.luo_model.specs.declared.program.Part.{Part}
use Rattle.luo_model.specs.declared.program.Site.{Site}
use Rattle.luo_model.specs.Program.{Program, Procedure, Body, Does, Items, no_items, item, Item, Call, Case, Forall, Arms, no_arms, arm, shape_of, site_node}
use Rattle.luo_model.specs.Charges.{of_body, of_case, of_walk, works_of_body, works_of_items, works_of_item, works_of_arms, works_of_procedure}
use Rattle.luo_model.specs.Scopes.Stands.{Stand, stands, component, bound_parts, part_at, no_part}
use Rattle.luo_model.specs.Scopes.Fits.{FitsBody, FitsItems, FitsItem, FitsArms}
use Rattle.luo_model.specs.Scopes.Sites.{body_sites, items_sites, item_sites, arms_sites}
use Rattle.luo_model.specs.Invariant.{IsProgram, procedure_sites, placed, sites_from, numbered_from}
use Rattle.luo_model.specs.Laws.{SitesAreApart}
use Rattle.luo_finite.proofs.Places.{some_same, none_some}

abbrev firsts : {B : Type 0} → List (ℕ × B) → List ℕ
firsts l = map (λ w. w.0) l

firsts-append : {B : Type 0} (xs ys : List (ℕ × B)) → firsts (xs ++ ys) ≡ firsts xs ++ firsts ys
firsts-append [] ys = refl
firsts-append (x ∷ xs) ys = ap (λ l. x.0 ∷ l) (firsts-append xs ys)

part_at_get : (vars : List Part) (var : ℕ) (x : Part) → slice_get vars var ≡ Some x → part_at vars var ≡ x
part_at_get vars var x e = get_or_from_slice_get vars var x no_part e

module _ (p : Program) where
  mutual
    body_firsts : (body : Body) (vars : List Part) → FitsBody p vars body → firsts (works_of_body body) ≡ firsts (body_sites p vars body)
    body_firsts (Does own is) vars w = items_firsts is vars w.1

    items_firsts : (is : Items) (vars : List Part) → FitsItems p vars is → firsts (works_of_items is) ≡ firsts (items_sites p vars is)
    items_firsts no_items vars w = refl
    items_firsts (item i is) vars w =
        firsts-append (works_of_item i) (works_of_items is)
        ∙ ap (λ l. l ++ firsts (works_of_items is)) (item_firsts i vars w.0) ∙ ap (λ l. firsts (item_sites p vars i) ++ l) (items_firsts is vars w.1)
        ∙ sym (firsts-append (item_sites p vars i) (items_sites p vars is))

    item_firsts : (i : Item) (vars : List Part) → FitsItem p vars i → firsts (works_of_item i) ≡ firsts (item_sites p vars i)
    item_firsts (Call var callee site) vars w = refl
    item_firsts (Case var arms site) vars w =
        let x : Part = part_at vars var in
        let fit : FitsArms p (stands x (shape_of p x.node)) arms = subst (λ (y : Part). FitsArms p (stands y (shape_of p y.node)) arms) (sym (part_at_get vars var w.0 w.1)) w.3 in
        firsts-append (works_of_arms arms) ((site, of_case arms) ∷ [])
        ∙ ap (λ l. l ++ site ∷ []) (arms_firsts arms (stands x (shape_of p x.node)) fit)
        ∙ sym (firsts-append (arms_sites p (stands x (shape_of p x.node)) arms) ((site, x.node) ∷ []))
    item_firsts (Forall var body body_site site) vars w =
        let x : Part = part_at vars var in
        let c : Part = component (shape_of p x.node) in
        let fit : FitsBody p (c ∷ []) body = subst (λ (y : Part). FitsBody p (component (shape_of p y.node) ∷ []) body) (sym (part_at_get vars var w.0 w.1)) w.3 in
        firsts-append (works_of_body body) ((body_site, of_body body) ∷ ((site, of_walk body) ∷ []))
        ∙ ap (λ l. l ++ body_site ∷ (site ∷ [])) (body_firsts body (c ∷ []) fit)
        ∙ sym (firsts-append (body_sites p (c ∷ []) body) ((body_site, c.node) ∷ ((site, x.node) ∷ [])))

    arms_firsts : (arms : Arms) (ss : List Stand) → FitsArms p ss arms → firsts (works_of_arms arms) ≡ firsts (arms_sites p ss arms)
    arms_firsts no_arms [] w = refl
    arms_firsts no_arms (s ∷ ss) w = refl
    arms_firsts (arm bind body arms) [] w = absurd w
    arms_firsts (arm bind body arms) (s ∷ ss) w =
        firsts-append (works_of_body body) (works_of_arms arms)
        ∙ ap (λ l. l ++ firsts (works_of_arms arms)) (body_firsts body (bound_parts p s bind) w.1) ∙ ap (λ l. firsts (body_sites p (bound_parts p s bind) body) ++ l) (arms_firsts arms ss w.2)
        ∙ sym (firsts-append (body_sites p (bound_parts p s bind) body) (arms_sites p ss arms))

  procedure_firsts : (P : Procedure) → FitsBody p (P.on ∷ []) P.body → firsts (works_of_procedure P) ≡ firsts (procedure_sites p P)
  procedure_firsts P w =
      firsts-append (works_of_body P.body) ((P.site, of_body P.body) ∷ [])
      ∙ ap (λ l. l ++ P.site ∷ []) (body_firsts P.body (P.on ∷ []) w)
      ∙ sym (firsts-append (body_sites p (P.on ∷ []) P.body) ((P.site, P.on.node) ∷ []))

  placed_firsts : (caller place : ℕ) (l : List (ℕ × ℕ)) → firsts (placed caller place l) ≡ firsts l
  placed_firsts caller place [] = refl
  placed_firsts caller place (x ∷ l) = ap (λ m. x.0 ∷ m) (placed_firsts caller (place + 1) l)

  all_firsts : (Ps : List Procedure) (k : ℕ) → ((j : ℕ) (P : Procedure) → slice_get Ps j ≡ Some P → FitsBody p (P.on ∷ []) P.body) → firsts (flat_map works_of_procedure Ps) ≡ firsts
      (sites_from p k Ps)
  all_firsts [] k h = refl
  all_firsts (P ∷ Ps) k h =
      ap firsts (flat_map-cons works_of_procedure P Ps) ∙ firsts-append (works_of_procedure P) (flat_map works_of_procedure Ps)
      ∙ ap (λ l. l ++ firsts (flat_map works_of_procedure Ps)) (procedure_firsts P (h 0 P refl) ∙ sym (placed_firsts k 0 (procedure_sites p P)))
      ∙ ap (λ l. firsts (placed k 0 (procedure_sites p P)) ++ l) (all_firsts Ps (k + 1) (λ j Q e. h (suc j) Q e))
      ∙ sym (firsts-append (placed k 0 (procedure_sites p P)) (sites_from p (k + 1) Ps))

numbered_above : (k : ℕ) (l : List Site) (x : ℕ) → In x (firsts (numbered_from k l)) → k ≤ x
numbered_above k [] x i = absurd i
numbered_above k (s ∷ l) x (inl e) = omega (arith, e)
numbered_above k (s ∷ l) x (inr i) = let h : k + 1 ≤ x = numbered_above (k + 1) l x i in omega (arith, h)

numbered_apart : (k : ℕ) (l : List Site) → NoDouble (firsts (numbered_from k l))
numbered_apart k [] = tt
numbered_apart k (s ∷ l) = ((λ i. let h : k + 1 ≤ k = numbered_above (k + 1) l k i in omega (arith, h)), numbered_apart (k + 1) l)

-- THE LAWS
pub sites_apart : (p : Program) → IsProgram p → SitesAreApart p
sites_apart p q = subst NoDouble (sym (all_firsts p p.procs 0 (λ g P e. (q.procedures g P e).1) ∙ ap firsts q.sites)) (numbered_apart 0 p.sites)
