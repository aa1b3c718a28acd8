-- What is found in a case, in a walk, and in the whole of a procedure.
use Rattle.std.proofs.Common.{◌≡◌, ℕ, ◌+◌, ◌≤◌, List, [], ◌∷◌, ◌++◌, Option, Some, None, slice_get, refl, sym, ◌∙◌, ap, append_assoc, arith}
use Rattle.std.specs.Option.{option_map}
use Rattle.std.proofs.lemmas.List.{map-append}
use Rattle.luo_model.specs.declared.body.Arm.{Arm}
use Rattle.luo_model.specs.declared.body.Body.{Body}
use Rattle.luo_model.specs.declared.body.Item.{Item, Case, Forall}
use Rattle.luo_model.specs.declared.program.Part.{Part}
use Rattle.luo_model.specs.Program.{Program, shape_of}
use Rattle.luo_model.specs.Scopes.Stands.{stands, component, part_at}
use Rattle.luo_model.specs.Scopes.Sites.{body_sites, item_sites, arms_sites}
use Rattle.luo_model.specs.Scopes.Walks.{body_items, item_in, arms_in, multiset_of, body_walks, item_walks, arms_walks}
use Rattle.luo_model.specs.View.{body_of, item_of}
use Rattle.luo_model.specs.Lists.{arm_list}
use Rattle.luo_model.proofs.ViewLemmas.{case_item}
use Rattle.luo_types.specs.inner.SitesFound.{nodes_of, IsFound}
use Rattle.luo_types.specs.declared.sites.Found.{Found}
use Rattle.luo_model.proofs.ViewLemmas.{walk_item}

pub none-there : {A B : Type 0} (f : A → B) (o : Option A) (xs : List B) (i : ℕ) → ((x : A) → o ≡ Some x → ⊥) → option_map f o ≡ slice_get xs i → slice_get xs i ≡ None
none-there f None xs i never e = sym e
none-there f (Some x) xs i never e = absurd (never x refl)

pub case-room : (var : ℕ) (arms items : List Arm) (site walks : ℕ) (item : Item) → item ≡ Case var arms site → items ≡ arms → walks + item_in (item_of item) ≤ 4294967296 → walks + arms_in (arm_list items) ≤ 4294967296
case-room var arms items site walks item e f h =
    omega (arith, h, ap (λ i. item_in (item_of i)) e, ap item_in (case_item var arms site), ap (λ l. arms_in (arm_list l)) f)

pub walk-room : (var : ℕ) (body : Body) (body_site site walks : ℕ) (item : Item) → item ≡ Forall var body body_site site → walks + item_in (item_of item) ≤ 4294967296 → walks + (1 + body_items (body_of body)) ≤ 4294967296
walk-room var body body_site site walks item e h =
    omega (arith, h, ap (λ i. item_in (item_of i)) e, ap item_in (walk_item var body body_site site))

module _ (p : Program) (vars : List Part) (item : Item) (old : Found) where
  pub case-found : (var : ℕ) (arms items : List Arm) (site : ℕ) (on : Part) (mid : Found) (nodes : List ℕ) → item ≡ Case var arms site → items ≡ arms → on ≡ part_at vars var
      → IsFound (nodes_of (arms_sites p (stands on (shape_of p on.node)) (arm_list items))) (arms_walks p (stands on (shape_of p on.node)) (arm_list items)) old mid → nodes ≡ mid.nodes ++ on.node ∷ []
      → IsFound (nodes_of (item_sites p vars (item_of item))) (item_walks p vars (item_of item)) old (record { nodes = nodes; walks = mid.walks })
  case-found var arms items site on mid nodes e f g is h =
      let here = arms_sites p (stands on (shape_of p on.node)) (arm_list items) in
      let form = ap item_of e ∙ case_item var arms site in
      let at = ap (λ l. arms_sites p (stands on (shape_of p on.node)) (arm_list l)) f ∙ ap (λ (z : Part). arms_sites p (stands z (shape_of p z.node)) (arm_list arms)) g in
      let sites = ap (λ z. nodes_of (z ++ (site, on.node) ∷ [])) at ∙ ap (λ (z : Part). nodes_of (arms_sites p (stands (part_at vars var) (shape_of p (part_at vars var).node)) (arm_list arms) ++ (site, z.node) ∷ [])) g ∙ sym (ap (λ i. nodes_of (item_sites p vars i)) form) in
      let walks = ap (λ l. arms_walks p (stands on (shape_of p on.node)) (arm_list l)) f ∙ ap (λ (z : Part). arms_walks p (stands z (shape_of p z.node)) (arm_list arms)) g ∙ sym (ap (item_walks p vars) form) in
      record {
        nodes_are =
            h ∙ ap (λ l. l ++ on.node ∷ []) is.nodes_are ∙ append_assoc old.nodes (nodes_of here) (on.node ∷ []) ∙ ap (λ l. old.nodes ++ l) (sym (map-append (λ z. z.1) here ((site, on.node) ∷ [])) ∙ sites);
        walks_are = is.walks_are ∙ ap (λ n. old.walks + n) walks;
      }

  pub walk-found : (var : ℕ) (body : Body) (body_site site : ℕ) (on : Part) (new : Found) → item ≡ Forall var body body_site site → on ≡ part_at vars var
      → IsFound (nodes_of (body_sites p (component (shape_of p on.node) ∷ []) (body_of body)) ++ (component (shape_of p on.node)).node ∷ on.node ∷ []) (multiset_of (shape_of p on.node) + body_walks p (component (shape_of p on.node) ∷ []) (body_of body)) old new
      → IsFound (nodes_of (item_sites p vars (item_of item))) (item_walks p vars (item_of item)) old new
  walk-found var body body_site site on new e g is =
      let form = ap item_of e ∙ walk_item var body body_site site in
      let here = body_sites p (component (shape_of p on.node) ∷ []) (body_of body) in
      let sites = sym (map-append (λ z. z.1) here ((body_site, (component (shape_of p on.node)).node) ∷ (site, on.node) ∷ []))
      ∙ ap (λ (z : Part). nodes_of (body_sites p (component (shape_of p z.node) ∷ []) (body_of body) ++ (body_site, (component (shape_of p z.node)).node) ∷ (site, z.node) ∷ [])) g ∙ sym (ap (λ i. nodes_of (item_sites p vars i)) form) in
      let walks = ap (λ (z : Part). multiset_of (shape_of p z.node) + body_walks p (component (shape_of p z.node) ∷ []) (body_of body)) g ∙ sym (ap (item_walks p vars) form) in
      record { nodes_are = is.nodes_are ∙ ap (λ l. old.nodes ++ l) sites; walks_are = is.walks_are ∙ ap (λ n. old.walks + n) walks }
