-- Loops over items, arms and procedures of the code, whose sites come one behind another.
use Rattle.std.proofs.Common.{◌≡◌, ℕ, ◌+◌, ◌<◌, ◌≤◌, List, [], ◌∷◌, ◌++◌, map, flat_map, length, drop, get_or, refl, sym, ◌∙◌, ap}
use Rattle.std.proofs.lemmas.List.{drop_all, drop_more}
use Rattle.luo_model.specs.declared.body.Arm.{Arm}
use Rattle.luo_model.specs.declared.body.Body.{Body}
use Rattle.luo_model.specs.declared.body.Item.{Item, Case, Forall}
use Rattle.luo_model.specs.declared.program.Proc.{Proc}
use Rattle.luo_model.specs.Program.{Program, site_node}
use Rattle.luo_model.specs.Program as plain
use Rattle.luo_model.specs.Lists.{arm_list}
use Rattle.luo_model.specs.View.{procedure_of, item_of, item_list, body_of}
use Rattle.luo_model.proofs.ViewLemmas.{case_item, walk_item}
use Rattle.luo_engine.specs.declared.sites.Laid.{Laid}
use Rattle.luo_recipes.specs.Tasks.{does, chooses, walks, Recipe, recipe_of}
use Rattle.luo_engine.specs.inner.Laying.{lay, lay_all, recipes_of_body, recipes_of_items, recipes_of_item, recipes_of_arms, recipes_of_procedure}

at_element : {A : Type 0} (xs : List A) (i : ℕ) (x : A) → i < length xs → x ≡ get_or xs i x → drop i xs ≡ x ∷ drop (i + 1) xs
at_element xs i x h e = drop_more xs i x h ∙ ap (λ y. y ∷ drop (i + 1) xs) (sym e)

pub lay_both : (starts : List ℕ) (l : Laid) (rs qs : List Recipe) → lay_all starts l (rs ++ qs) ≡ lay_all starts (lay_all starts l rs) qs
lay_both starts l [] qs = refl
lay_both starts l (r ∷ rs) qs = lay_both starts (lay starts l r) rs qs

-- what was there, with what is left to be put behind it, is all behind what was there at first
abbrev pub LaidSoFar : {A : Type 0} → List ℕ → (A → List Recipe) → List A → ℕ → Laid → Laid → Type 0
LaidSoFar starts f xs i old now = lay_all starts now (flat_map f (drop i xs)) ≡ lay_all starts old (flat_map f xs)

module _ {A : Type 0} (starts : List ℕ) (f : A → List Recipe) (xs : List A) (old : Laid) where
  laid_next : (i : ℕ) (x : A) (now new : Laid) → i < length xs → x ≡ get_or xs i x → new ≡ lay_all starts now (f x) → LaidSoFar starts f xs i old now → LaidSoFar starts f xs (i + 1) old new
  laid_next i x now new l at is h =
      ap (λ (z : Laid). lay_all starts z (flat_map f (drop (i + 1) xs))) is ∙ sym (lay_both starts now (f x) (flat_map f (drop (i + 1) xs))) ∙ sym (ap (λ ys. lay_all starts now (flat_map f ys)) (at_element xs i x l at)) ∙ h

  laid_end : (i : ℕ) (now : Laid) → length xs ≤ i → LaidSoFar starts f xs i old now → now ≡ lay_all starts old (flat_map f xs)
  laid_end i now l h = sym (ap (λ ys. lay_all starts now (flat_map f ys)) (drop_all i xs l)) ∙ h

module _ (p : Program) (starts : List ℕ) where
  abbrev pub of_item : Item → List Recipe
  of_item item = recipes_of_item p (item_of item)

  abbrev pub of_arm : Arm → List Recipe
  of_arm arm = recipes_of_body p (body_of arm.body)

  abbrev pub of_procedure : Proc → List Recipe
  of_procedure P = recipes_of_procedure p (procedure_of P)

  items_are : (items : List Item) → flat_map of_item items ≡ recipes_of_items p (item_list items)
  items_are [] = refl
  items_are (i ∷ items) = ap (λ l. of_item i ++ l) (items_are items)

  arms_are : (arms : List Arm) → flat_map of_arm arms ≡ recipes_of_arms p (arm_list arms)
  arms_are [] = refl
  arms_are (a ∷ arms) = ap (λ l. of_arm a ++ l) (arms_are arms)

  procs_are : (procs : List Proc) → flat_map of_procedure procs ≡ flat_map (recipes_of_procedure p) (map procedure_of procs)
  procs_are [] = refl
  procs_are (P ∷ procs) = ap (λ l. of_procedure P ++ l) (procs_are procs)

  pub items_next : (items : List Item) (old : Laid) (i : ℕ) (item : Item) (now new : Laid) → i < length items → item ≡ get_or items i item → new ≡ lay_all starts now (of_item item) → LaidSoFar starts of_item items i old now → LaidSoFar starts of_item items (i + 1) old new
  items_next items old = laid_next starts of_item items old

  pub items_end : (items : List Item) (old : Laid) (i : ℕ) (now : Laid) → length items ≤ i → LaidSoFar starts of_item items i old now → now ≡ lay_all starts old (recipes_of_items p (item_list items))
  items_end items old i now l h = laid_end starts of_item items old i now l h ∙ ap (lay_all starts old) (items_are items)

  pub arms_next : (arms : List Arm) (old : Laid) (i : ℕ) (arm : Arm) (items : List Item) (now new : Laid) → i < length arms → arm ≡ get_or arms i arm → items ≡ arm.body.items → new ≡ lay_all starts now (recipes_of_items p (item_list items))
      → LaidSoFar starts of_arm arms i old now → LaidSoFar starts of_arm arms (i + 1) old new
  arms_next arms old i arm items now new l at e is h = laid_next starts of_arm arms old i arm now new l at (is ∙ ap (λ (xs : List Item). lay_all starts now (recipes_of_items p (item_list xs))) e) h

  pub arms_end : (arms : List Arm) (old : Laid) (i : ℕ) (now : Laid) → length arms ≤ i → LaidSoFar starts of_arm arms i old now → now ≡ lay_all starts old (recipes_of_arms p (arm_list arms))
  arms_end arms old i now l h = laid_end starts of_arm arms old i now l h ∙ ap (lay_all starts old) (arms_are arms)

  pub procs_next : (procs : List Proc) (old : Laid) (i : ℕ) (P : Proc) (items : List Item) (now mid new : Laid) → i < length procs → P ≡ get_or procs i P → items ≡ P.body.items → mid ≡ lay_all starts now (recipes_of_items p (item_list items))
      → new ≡ lay starts mid (recipe_of p (site_node p P.site) (does (body_of P.body))) → LaidSoFar starts of_procedure procs i old now → LaidSoFar starts of_procedure procs (i + 1) old new
  procs_next procs old i P items now mid new l at e m is h =
      laid_next starts of_procedure procs old i P now new l at
      (is ∙ ap (λ (z : Laid). lay starts z (recipe_of p (site_node p P.site) (does (body_of P.body)))) (m ∙ ap (λ (xs : List Item). lay_all starts now (recipes_of_items p (item_list xs))) e)
      ∙ sym (lay_both starts now (recipes_of_items p (item_list P.body.items)) (recipe_of p (site_node p P.site) (does (body_of P.body)) ∷ []))) h

  pub procs_end : (procs : List Proc) (old : Laid) (i : ℕ) (now : Laid) → length procs ≤ i → LaidSoFar starts of_procedure procs i old now → now ≡ lay_all starts old (flat_map (recipes_of_procedure p) (map procedure_of procs))
  procs_end procs old i now l h = laid_end starts of_procedure procs old i now l h ∙ ap (lay_all starts old) (procs_are procs)

  pub case_laid : (item : Item) (var : ℕ) (arms slice other : List Arm) (site : ℕ) (old mid new : Laid) → item ≡ Case var arms site → slice ≡ arms → other ≡ arms → mid ≡ lay_all starts old (recipes_of_arms p (arm_list slice)) → new ≡ lay starts mid (recipe_of p (site_node p site) (chooses (arm_list other)))
      → new ≡ lay_all starts old (recipes_of_item p (item_of item))
  case_laid item var arms slice other site old mid new e s o m n =
      n ∙ ap (λ (l : List Arm). lay starts mid (recipe_of p (site_node p site) (chooses (arm_list l)))) o
      ∙ ap (λ (z : Laid). lay starts z (recipe_of p (site_node p site) (chooses (arm_list arms)))) (m ∙ ap (λ (l : List Arm). lay_all starts old (recipes_of_arms p (arm_list l))) s)
      ∙ sym (lay_both starts old (recipes_of_arms p (arm_list arms)) (recipe_of p (site_node p site) (chooses (arm_list arms)) ∷ []))
      ∙ sym (ap (λ (i : plain.Item). lay_all starts old (recipes_of_item p i)) (ap item_of e ∙ case_item var arms site))

  pub walk_laid : (item : Item) (var : ℕ) (body : Body) (body_site site : ℕ) (items : List Item) (old mid third new : Laid) → item ≡ Forall var body body_site site → items ≡ body.items → mid ≡ lay_all starts old (recipes_of_items p (item_list items))
      → third ≡ lay starts mid (recipe_of p (site_node p body_site) (does (body_of body))) → new ≡ lay starts third (recipe_of p (site_node p site) (walks (body_of body) body_site)) → new ≡ lay_all starts old (recipes_of_item p (item_of item))
  walk_laid item var body body_site site items old mid third new e i m t n =
      let own : Recipe = recipe_of p (site_node p body_site) (does (body_of body)) in
      let walk : Recipe = recipe_of p (site_node p site) (walks (body_of body) body_site) in
      n ∙ ap (λ (z : Laid). lay starts z walk) (t ∙ ap (λ (z : Laid). lay starts z own) (m ∙ ap (λ (xs : List Item). lay_all starts old (recipes_of_items p (item_list xs))) i))
      ∙ sym (lay_both starts old (recipes_of_items p (item_list body.items)) (own ∷ (walk ∷ [])))
      ∙ sym (ap (λ (z : plain.Item). lay_all starts old (recipes_of_item p z)) (ap item_of e ∙ walk_item var body body_site site))
