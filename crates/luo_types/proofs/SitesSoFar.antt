-- What is found in items and arms that stand one behind the other.
use Rattle.std.proofs.Common.{◌≡◌, ℕ, suc, ◌+◌, ◌<◌, ◌≤◌, zero, List, [], ◌∷◌, ◌++◌, Some, None, length, drop, get_or, slice_get, refl, sym, ◌∙◌, ap, subst, append_assoc, add-zero, arith}
use Rattle.std.proofs.lemmas.List.{map-append, append-nil, drop_all}
use Rattle.luo_model.specs.declared.body.Arm.{Arm}
use Rattle.luo_model.specs.declared.body.Item.{Item}
use Rattle.luo_model.specs.declared.program.Kind.TheVariants.{Sequence, Set, Cycle, Multiset, Powerset}
use Rattle.luo_model.specs.declared.program.Shape.{Shape}
use Rattle.luo_model.specs.declared.program.Shape.TheVariants as shape
use Rattle.luo_model.specs.declared.program.Part.{Part}
use Rattle.luo_model.specs.Program as plain
use Rattle.luo_model.specs.Program.{Program, shape_of}
use Rattle.luo_model.specs.Scopes.Stands.{Stand, stands, component, bound_parts, part_at}
use Rattle.luo_model.specs.Scopes.Sites.{body_sites, items_sites, item_sites, arms_sites}
use Rattle.luo_model.specs.Scopes.Walks.{body_items, items_in, item_in, arms_in, multiset_of, body_walks, items_walks, item_walks, arms_walks}
use Rattle.luo_model.specs.View.{body_of, item_of, item_list}
use Rattle.luo_model.specs.Lists.{arm_list}
use Rattle.luo_types.specs.inner.SitesFound.{nodes_of, IsFound}
use Rattle.luo_types.specs.declared.sites.Found.{Found}
use Rattle.luo_types.proofs.ArmsSoFar.{at-element, drop-get}

walk_one : (s : Shape) → multiset_of s ≤ 1
walk_one (shape.Atom weight) = omega arith
walk_one (shape.Union parts) = omega arith
walk_one (shape.Product parts) = omega arith
walk_one (shape.Coll Sequence part low high) = omega arith
walk_one (shape.Coll Set part low high) = omega arith
walk_one (shape.Coll Cycle part low high) = omega arith
walk_one (shape.Coll Multiset part low high) = omega arith
walk_one (shape.Coll Powerset part low high) = omega arith

-- there are no more walks than items
module _ (p : Program) where
  mutual
    pub walks-within : (vars : List Part) (b : plain.Body) → body_walks p vars b ≤ body_items b
    walks-within vars (plain.Does own items) = items_walks-within vars items

    pub items_walks-within : (vars : List Part) (is : plain.Items) → items_walks p vars is ≤ items_in is
    items_walks-within vars plain.no_items = omega arith
    items_walks-within vars (plain.item i is) = omega (arith, item_walks-within vars i, items_walks-within vars is)

    pub item_walks-within : (vars : List Part) (i : plain.Item) → item_walks p vars i ≤ item_in i
    item_walks-within vars (plain.Call var callee site) = omega arith
    item_walks-within vars (plain.Case var arms site) = omega (arith, arms_walks-within (stands (part_at vars var) (shape_of p (part_at vars var).node)) arms)
    item_walks-within vars (plain.Forall var body body_site site) =
        omega (arith, walk_one (shape_of p (part_at vars var).node), walks-within (component (shape_of p (part_at vars var).node) ∷ []) body)

    pub arms_walks-within : (all : List Stand) (arms : plain.Arms) → arms_walks p all arms ≤ arms_in arms
    arms_walks-within [] plain.no_arms = omega arith
    arms_walks-within [] (plain.arm bind body arms) = omega arith
    arms_walks-within (stand ∷ rest) plain.no_arms = omega arith
    arms_walks-within (stand ∷ rest) (plain.arm bind body arms) = omega (arith, walks-within (bound_parts p stand bind) body, arms_walks-within rest arms)

-- what is left of items is to be found as all were from the start
pub record ItemsSoFar (p : Program) (vars : List Part) (items left : List Item) (old now : Found) : Type 0 where
  pub nodes_are : now.nodes ++ nodes_of (items_sites p vars (item_list left)) ≡ old.nodes ++ nodes_of (items_sites p vars (item_list items))
  pub walks_are : now.walks + items_walks p vars (item_list left) ≡ old.walks + items_walks p vars (item_list items)
  pub room : now.walks + items_in (item_list left) ≤ 4294967296

module _ (p : Program) (vars : List Part) (items : List Item) (old : Found) where
  pub items-at : (i : ℕ) (item : Item) (now : Found) → ItemsSoFar p vars items (drop i items) old now → i < length items → item ≡ get_or items i item → ItemsSoFar p vars items (item ∷ drop (i + 1) items) old now
  items-at i item now so h e = subst (λ l. ItemsSoFar p vars items l old now) (at-element items i item h e) so

  pub items-more : (item : Item) (rest : List Item) (now new : Found) → ItemsSoFar p vars items (item ∷ rest) old now → IsFound (nodes_of (item_sites p vars (item_of item))) (item_walks p vars (item_of item)) now new → ItemsSoFar p vars items rest old new
  items-more item rest now new so is = record {
    nodes_are =
        ap (λ l. l ++ nodes_of (items_sites p vars (item_list rest))) is.nodes_are
        ∙ append_assoc now.nodes (nodes_of (item_sites p vars (item_of item))) (nodes_of (items_sites p vars (item_list rest)))
        ∙ ap (λ l. now.nodes ++ l) (sym (map-append (λ site. site.1) (item_sites p vars (item_of item)) (items_sites p vars (item_list rest))))
        ∙ so.nodes_are;
    walks_are = omega (arith, is.walks_are, so.walks_are);
    room = omega (arith, so.room, is.walks_are, item_walks-within p vars (item_of item));
  }

  pub items-all : (i : ℕ) (now : Found) → ItemsSoFar p vars items (drop i items) old now → length items ≤ i → IsFound (nodes_of (items_sites p vars (item_list items))) (items_walks p vars (item_list items)) old now
  items-all i now left h =
      let so = subst (λ l. ItemsSoFar p vars items l old now) (drop_all i items h) left in
      record { nodes_are = sym (append-nil now.nodes) ∙ so.nodes_are; walks_are = sym (add-zero now.walks) ∙ so.walks_are }

-- the same of arms that stand for these
pub record FoundSoFar (p : Program) (all stands_left : List Stand) (arms left : List Arm) (old now : Found) : Type 0 where
  pub nodes_are : now.nodes ++ nodes_of (arms_sites p stands_left (arm_list left)) ≡ old.nodes ++ nodes_of (arms_sites p all (arm_list arms))
  pub walks_are : now.walks + arms_walks p stands_left (arm_list left) ≡ old.walks + arms_walks p all (arm_list arms)
  pub room : now.walks + arms_in (arm_list left) ≤ 4294967296

no_sites : (p : Program) (all : List Stand) → arms_sites p all plain.no_arms ≡ []
no_sites p [] = refl
no_sites p (stand ∷ rest) = refl

no_walks : (p : Program) (all : List Stand) → arms_walks p all plain.no_arms ≡ 0
no_walks p [] = refl
no_walks p (stand ∷ rest) = refl

no_stands : (p : Program) (arms : plain.Arms) → arms_sites p [] arms ≡ []
no_stands p plain.no_arms = refl
no_stands p (plain.arm bind body arms) = refl

no_stand_walks : (p : Program) (arms : plain.Arms) → arms_walks p [] arms ≡ 0
no_stand_walks p plain.no_arms = refl
no_stand_walks p (plain.arm bind body arms) = refl

get-end : {A : Type 0} (xs : List A) (i : ℕ) → slice_get xs i ≡ None → drop i xs ≡ []
get-end [] i e = drop_all i [] (omega arith)
get-end (x ∷ xs) zero e = cc
get-end (x ∷ xs) (suc i) e = get-end xs i e

module _ (p : Program) (all : List Stand) (arms : List Arm) (old : Found) where
  pub found-at : (i : ℕ) (stand : Stand) (arm : Arm) (now : Found) → FoundSoFar p all (drop i all) arms (drop i arms) old now → slice_get all i ≡ Some stand → i < length arms → arm ≡ get_or arms i arm
      → FoundSoFar p all (stand ∷ drop (i + 1) all) arms (arm ∷ drop (i + 1) arms) old now
  found-at i stand arm now so e h is =
      subst (λ l. FoundSoFar p all (stand ∷ drop (i + 1) all) arms l old now) (at-element arms i arm h is)
      (subst (λ l. FoundSoFar p all l arms (drop i arms) old now) (drop-get all i stand e) so)

  pub found-more : (stand : Stand) (stands_left : List Stand) (arm : Arm) (rest : List Arm) (now new : Found) → FoundSoFar p all (stand ∷ stands_left) arms (arm ∷ rest) old now
      → IsFound (nodes_of (body_sites p (bound_parts p stand arm.bind) (body_of arm.body))) (body_walks p (bound_parts p stand arm.bind) (body_of arm.body)) now new → FoundSoFar p all stands_left arms rest old new
  found-more stand stands_left arm rest now new so is =
      let here = body_sites p (bound_parts p stand arm.bind) (body_of arm.body) in
      let behind = arms_sites p stands_left (arm_list rest) in
      record {
        nodes_are =
            ap (λ l. l ++ nodes_of behind) is.nodes_are
            ∙ append_assoc now.nodes (nodes_of here) (nodes_of behind)
            ∙ ap (λ l. now.nodes ++ l) (sym (map-append (λ site. site.1) here behind))
            ∙ so.nodes_are;
        walks_are = omega (arith, is.walks_are, so.walks_are);
        room = omega (arith, so.room, is.walks_are, walks-within p (bound_parts p stand arm.bind) (body_of arm.body));
      }

  found_none : (stands_left : List Stand) (left : List Arm) (now : Found) → arms_sites p stands_left (arm_list left) ≡ [] → arms_walks p stands_left (arm_list left) ≡ 0 → FoundSoFar p all stands_left arms left old now
      → IsFound (nodes_of (arms_sites p all (arm_list arms))) (arms_walks p all (arm_list arms)) old now
  found_none stands_left left now e f so = record {
    nodes_are = sym (append-nil now.nodes) ∙ ap (λ l. now.nodes ++ nodes_of l) (sym e) ∙ so.nodes_are;
    walks_are = omega (arith, so.walks_are, f);
  }

  pub found-all : (i : ℕ) (now : Found) → FoundSoFar p all (drop i all) arms (drop i arms) old now → length arms ≤ i → IsFound (nodes_of (arms_sites p all (arm_list arms))) (arms_walks p all (arm_list arms)) old now
  found-all i now left h =
      found_none (drop i all) [] now (no_sites p (drop i all)) (no_walks p (drop i all)) (subst (λ l. FoundSoFar p all (drop i all) arms l old now) (drop_all i arms h) left)

  pub found-end : (i : ℕ) (now : Found) → FoundSoFar p all (drop i all) arms (drop i arms) old now → slice_get all i ≡ None → IsFound (nodes_of (arms_sites p all (arm_list arms))) (arms_walks p all (arm_list arms)) old now
  found-end i now left e =
      found_none [] (drop i arms) now (no_stands p (arm_list (drop i arms))) (no_stand_walks p (arm_list (drop i arms))) (subst (λ l. FoundSoFar p all l arms (drop i arms) old now) (get-end all i e) left)
