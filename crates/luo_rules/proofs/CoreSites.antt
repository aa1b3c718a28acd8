-- The sites of a core form depend on its types alone, and are numbered in order.
use Rattle.std.proofs.Common.{◌≡◌, ℕ, suc, ◌+◌, List, [], ◌∷◌, ◌++◌, map, length, refl, sym, ap, ◌∙◌, subst, arith}
use Rattle.luo_model.specs.declared.program.Site.{Site}
use Rattle.luo_model.specs.declared.program.Part.{Part}
use Rattle.luo_model.specs.Program.{Procedure, Body, Does, Items, no_items, item, Item, Call, Case, Forall, Arms, no_arms, arm, shape_of}
use Rattle.luo_model.specs.Scopes.Stands.{Stand, stands, component, bound_parts, part_at}
use Rattle.luo_model.specs.Scopes.Sites.{body_sites, items_sites, item_sites, arms_sites}
use Rattle.luo_model.specs.Invariant.{procedure_sites, placed, sites_from, numbered_from}
use Rattle.luo_rules.specs.declared.setting.Setting.{Setting}
use Rattle.luo_rules.proofs.PatternFacts.{program_over}
use Rattle.luo_rules.proofs.GoodItems.{NumbersFrom}

module _ (s : Setting) (procs others : List Procedure) (sites more : List Site) (analyses lines : List ℕ) where
  mutual
    body_same : (vars : List Part) (b : Body) → body_sites (program_over s procs sites analyses) vars b ≡ body_sites (program_over s others more lines) vars b
    body_same vars (Does own items) = items_same vars items

    items_same : (vars : List Part) (is : Items) → items_sites (program_over s procs sites analyses) vars is ≡ items_sites (program_over s others more lines) vars is
    items_same vars no_items = refl
    items_same vars (item i is) = ap (λ l. l ++ items_sites (program_over s procs sites analyses) vars is) (item_same vars i) ∙ ap (λ l. item_sites (program_over s others more lines) vars i ++ l) (items_same vars is)

    item_same : (vars : List Part) (i : Item) → item_sites (program_over s procs sites analyses) vars i ≡ item_sites (program_over s others more lines) vars i
    item_same vars (Call var callee site) = refl
    item_same vars (Case var arms site) =
        let x = part_at vars var in
        ap (λ l. l ++ (site, x.node) ∷ []) (arms_same (stands x (shape_of (program_over s others more lines) x.node)) arms)
    item_same vars (Forall var body body_site site) =
        let x = part_at vars var in
        let y = component (shape_of (program_over s others more lines) x.node) in
        ap (λ l. l ++ (body_site, y.node) ∷ (site, x.node) ∷ []) (body_same (y ∷ []) body)

    arms_same : (ss : List Stand) (arms : Arms) → arms_sites (program_over s procs sites analyses) ss arms ≡ arms_sites (program_over s others more lines) ss arms
    arms_same [] no_arms = refl
    arms_same (stand ∷ ss) no_arms = refl
    arms_same [] (arm bind body arms) = refl
    arms_same (stand ∷ ss) (arm bind body arms) =
        ap (λ l. l ++ arms_sites (program_over s procs sites analyses) ss arms) (body_same (bound_parts (program_over s others more lines) stand bind) body)
        ∙ ap (λ l. body_sites (program_over s others more lines) (bound_parts (program_over s others more lines) stand bind) body ++ l) (arms_same ss arms)

  pub sites_same : (f : ℕ) (Ps : List Procedure) → sites_from (program_over s procs sites analyses) f Ps ≡ sites_from (program_over s others more lines) f Ps
  sites_same f [] = refl
  sites_same f (P ∷ Ps) =
      ap (λ l. placed f 0 (l ++ (P.site, P.on.node) ∷ []) ++ sites_from (program_over s procs sites analyses) (f + 1) Ps) (body_same (P.on ∷ []) P.body)
      ∙ ap (λ l. placed f 0 (procedure_sites (program_over s others more lines) P) ++ l) (sites_same (f + 1) Ps)

-- sites with numbers from this one on
abbrev pub SitesFrom : ℕ → List (ℕ × Site) → Type 0
SitesFrom k [] = Unit {0}
SitesFrom k (x ∷ xs) = (x.0 ≡ k) × SitesFrom (suc k) xs

pub sites_append : (k j : ℕ) (xs ys : List (ℕ × Site)) → j ≡ k + length xs → SitesFrom k xs → SitesFrom j ys → SitesFrom k (xs ++ ys)
sites_append k j [] ys e h g = subst (λ n. SitesFrom n ys) (e ∙ omega arith) g
sites_append k j (x ∷ xs) ys e h g = (h.0, sites_append (suc k) j xs ys (omega arith) h.1 g)

pub placed_from : (k caller place : ℕ) (xs : List (ℕ × ℕ)) → NumbersFrom k xs → SitesFrom k (placed caller place xs)
placed_from k caller place [] h = tt
placed_from k caller place (x ∷ xs) h = (h.0, placed_from (suc k) caller (place + 1) xs h.1)

pub placed_length : (caller place : ℕ) (xs : List (ℕ × ℕ)) → length (placed caller place xs) ≡ length xs
placed_length caller place [] = refl
placed_length caller place (x ∷ xs) = ap suc (placed_length caller (place + 1) xs)

pub numbered : (k : ℕ) (l : List (ℕ × Site)) → SitesFrom k l → l ≡ numbered_from k (map (λ site. site.1) l)
numbered k [] h = refl
numbered k (x ∷ xs) h =
    let next : k + 1 ≡ suc k = omega arith in
    ap (λ n. (n, x.1) ∷ xs) h.0 ∙ ap (λ l. (k, x.1) ∷ l) (numbered (suc k) xs h.1 ∙ ap (λ n. numbered_from n (map (λ site. site.1) xs)) (sym next))
