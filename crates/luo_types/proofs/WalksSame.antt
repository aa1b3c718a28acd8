-- The walks of bodies are those over the types of the setting alone.
use Rattle.std.proofs.Common.{◌≡◌, ℕ, ◌+◌, List, [], ◌∷◌, sum_by, refl, sym, ◌∙◌, ap}
use Rattle.std.proofs.lemmas.List.Sums.{sum_by-cons}
use Rattle.luo_model.specs.declared.program.Part.{Part}
use Rattle.luo_model.specs.Program.{Procedure, Body, Does, Items, no_items, item, Item, Call, Case, Forall, Arms, no_arms, arm, shape_of}
use Rattle.luo_model.specs.Scopes.Stands.{Stand, stands, component, part_at, bound_parts}
use Rattle.luo_model.specs.Scopes.Walks.{multiset_of, body_walks, items_walks, item_walks, arms_walks}
use Rattle.luo_rules.specs.declared.setting.Setting.{Setting}
use Rattle.luo_rules.specs.Settings.{types_of}
use Rattle.luo_types.specs.inner.SitesFound.{procedure_walks}
use Rattle.luo_rules.specs.Whole.{with_sites}

module _ (s : Setting) (procs : List Procedure) (analyses : List ℕ) where
  mutual
    body_same : (vars : List Part) (b : Body) → body_walks (types_of s) vars b ≡ body_walks (with_sites s procs analyses) vars b
    body_same vars (Does own items) = items_same vars items

    items_same : (vars : List Part) (is : Items) → items_walks (types_of s) vars is ≡ items_walks (with_sites s procs analyses) vars is
    items_same vars no_items = refl
    items_same vars (item i is) = ap (λ n. n + items_walks (types_of s) vars is) (item_same vars i) ∙ ap (λ n. item_walks (with_sites s procs analyses) vars i + n) (items_same vars is)

    item_same : (vars : List Part) (i : Item) → item_walks (types_of s) vars i ≡ item_walks (with_sites s procs analyses) vars i
    item_same vars (Call var callee site) = refl
    item_same vars (Case var arms site) = arms_same (stands (part_at vars var) (shape_of (types_of s) (part_at vars var).node)) arms
    item_same vars (Forall var body body_site site) =
        ap (λ n. multiset_of (shape_of (types_of s) (part_at vars var).node) + n) (body_same (component (shape_of (types_of s) (part_at vars var).node) ∷ []) body)

    arms_same : (all : List Stand) (arms : Arms) → arms_walks (types_of s) all arms ≡ arms_walks (with_sites s procs analyses) all arms
    arms_same [] no_arms = refl
    arms_same [] (arm bind body arms) = refl
    arms_same (stand ∷ all) no_arms = refl
    arms_same (stand ∷ all) (arm bind body arms) =
        ap (λ n. n + arms_walks (types_of s) all arms) (body_same (bound_parts (types_of s) stand bind) body)
        ∙ ap (λ n. body_walks (with_sites s procs analyses) (bound_parts (types_of s) stand bind) body + n) (arms_same all arms)

  pub walks-same : (Ps : List Procedure) → sum_by (procedure_walks (types_of s)) Ps ≡ sum_by (procedure_walks (with_sites s procs analyses)) Ps
  walks-same [] = refl
  walks-same (P ∷ Ps) =
      sum_by-cons (procedure_walks (types_of s)) P Ps
      ∙ ap (λ n. n + sum_by (procedure_walks (types_of s)) Ps) (body_same (P.on ∷ []) P.body)
      ∙ ap (λ n. procedure_walks (with_sites s procs analyses) P + n) (walks-same Ps)
      ∙ sym (sum_by-cons (procedure_walks (with_sites s procs analyses)) P Ps)
