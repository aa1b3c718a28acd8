-- The sites of a plan, made list by list.
use Rattle.std.proofs.Common.{◌≡◌, ◌⊎◌, ⊎_elim, ℕ, ◌+◌, ◌<◌, List, [], ◌∷◌, ◌++◌, length, slice_get, slice_index, sym, ◌∙◌, ap, subst, arith}
use Rattle.std.proofs.lemmas.List.{length-append}
use Rattle.std.proofs.lemmas.Option.{get_or_from_slice_get, slice_get-get_or}
use Rattle.luo_finite.proofs.Places.{get_old, get_new, get_within, In_get}
use Rattle.luo_model.specs.Program.{Program, site_node}
use Rattle.luo_model.specs.Levels.{IsRank, IsLevel}
use Rattle.luo_model.specs.Invariant.{IsProgram}
use Rattle.luo_model.specs.View.{Held, plain_of}
use Rattle.luo_engine.specs.declared.sites.Laid.{Laid}
use Rattle.luo_engine.specs.inner.Filled.{IsOrderOf}
use Rattle.luo_engine.specs.inner.Listed.{IsSiteBefore}
use Rattle.luo_engine.specs.inner.Laying.{lay_all, recipes_of}
use Rattle.luo_engine.specs.inner.Plan.{Planned, IsPlan}
use Rattle.luo_engine.specs.inner.SiteLists.{AreSiteRanks, AreSiteLevels}
use Rattle.luo_engine.specs.inner.Starts.{HaveRoom}
use Rattle.luo_recipes.specs.Tasks.{jobs_of}
use Rattle.luo_engine.specs.inner.Totals.{ArePlanned}
use Rattle.luo_recipes.proofs.JobLemmas.{job_is, job_site, jobs_length}
use Rattle.luo_recipes.proofs.NodesThere.{job_node_there}
use Rattle.luo_engine.proofs.LinkedLemmas.{room_of_plan, sites_planned}

less_or_eq : (a b : ℕ) → a < b + 1 → (a < b) ⊎ (a ≡ b)
less_or_eq a b h = grind arith

old_at : (xs : List ℕ) (v i : ℕ) → i < length xs → slice_index (xs ++ v ∷ []) i ≡ slice_index xs i
old_at xs v i h = get_or_from_slice_get (xs ++ v ∷ []) i (slice_index xs i) 0 (get_old xs v i (slice_index xs i) (slice_get-get_or xs i 0 h))

new_at : (xs : List ℕ) (v i : ℕ) → i ≡ length xs → slice_index (xs ++ v ∷ []) i ≡ v
new_at xs v i e = get_or_from_slice_get (xs ++ v ∷ []) i v 0 (ap (slice_get (xs ++ v ∷ [])) e ∙ get_new xs v)

pub ranks_more : (h g : Held) (old new : List ℕ) (i y r : ℕ) → h ≡ g → AreSiteRanks (plain_of g) old i → new ≡ old ++ r ∷ [] → y ≡ site_node (plain_of g) i → IsRank (plain_of h) y r → AreSiteRanks (plain_of g) new (i + 1)
ranks_more h g old new i y r same a e n k = subst (λ (l : List ℕ). AreSiteRanks (plain_of g) l (i + 1)) (sym e) (record {
  wide = omega (arith, length-append old (r ∷ []), a.wide);
  ranked = λ j l. ⊎_elim (λ (m : j < i). subst (IsRank (plain_of g) (site_node (plain_of g) j)) (sym (old_at old r j (omega (arith, m, a.wide)))) (a.ranked j m))
      (λ (m : j ≡ i). subst (λ z. IsRank (plain_of g) (site_node (plain_of g) z) (slice_index (old ++ r ∷ []) z)) (sym m)
      (subst (IsRank (plain_of g) (site_node (plain_of g) i)) (sym (new_at old r i (sym a.wide))) (subst (λ z. IsRank (plain_of g) z r) n (subst (λ (z : Held). IsRank (plain_of z) y r) same k)))) (less_or_eq j i l);
})

pub levels_more : (h g : Held) (old new : List ℕ) (i r : ℕ) → h ≡ g → AreSiteLevels (plain_of g) old i → new ≡ old ++ r ∷ [] → IsLevel (plain_of h) i r → AreSiteLevels (plain_of g) new (i + 1)
levels_more h g old new i r same a e k = subst (λ (l : List ℕ). AreSiteLevels (plain_of g) l (i + 1)) (sym e) (record {
  wide = omega (arith, length-append old (r ∷ []), a.wide);
  levelled = λ j l. ⊎_elim (λ (m : j < i). subst (IsLevel (plain_of g) j) (sym (old_at old r j (omega (arith, m, a.wide)))) (a.levelled j m))
      (λ (m : j ≡ i). subst (λ z. IsLevel (plain_of g) z (slice_index (old ++ r ∷ []) z)) (sym m)
      (subst (IsLevel (plain_of g) i) (sym (new_at old r i (sym a.wide))) (subst (λ (z : Held). IsLevel (plain_of z) i r) same k))) (less_or_eq j i l);
})

-- the node of a site is there
pub site_node_there : (p : Program) → IsProgram p → (i : ℕ) → i < length p.sites → site_node p i < length p.nodes
site_node_there p q i h =
    let j = get_within (jobs_of p) i (omega (arith, jobs_length p q, h)) in
    let k = job_is p q j.0 (In_get (jobs_of p) i j.0 j.1) in
    subst (λ z. z < length p.nodes) (sym (ap (site_node p) (sym (job_site p q i j.0 j.1)) ∙ k.node_is)) (job_node_there p q j.0 (In_get (jobs_of p) i j.0 j.1))

pub node_within : (h g : Held) (i y : ℕ) → h ≡ g → IsProgram (plain_of g) → i < length g.sites → y ≡ site_node (plain_of g) i → y < length h.nodes
node_within h g i y same q l e = subst (λ (z : Held). y < length z.nodes) (sym same) (subst (λ z. z < length g.nodes) (sym e) (site_node_there (plain_of g) q i l))

pub room_there : (plan : Planned) (h : Held) (starts : List ℕ) → IsPlan plan → h ≡ plan.program → starts ≡ plan.starts → HaveRoom (plain_of h) starts
room_there plan h starts is e s = subst (λ (z : Held). HaveRoom (plain_of z) starts) (sym e) (subst (HaveRoom (plain_of plan.program)) (sym s) (room_of_plan plan is))

pub sites_made : (plan : Planned) → IsPlan plan → (ranks levels order rs ls starts : List ℕ) (h : Held) (laid : Laid) → AreSiteRanks (plain_of plan.program) ranks (length plan.program.sites) → AreSiteLevels (plain_of plan.program) levels (length plan.program.sites) → rs ≡ ranks → ls ≡ levels → h ≡ plan.program → starts ≡ plan.starts
    → IsOrderOf (length rs) (IsSiteBefore rs ls) order → laid ≡ lay_all starts (record { tasks = []; links = [] }) (recipes_of (plain_of h))
    → ArePlanned plan (record { ranks = ranks; levels = levels; order = order; tasks = laid.tasks; links = laid.links })
sites_made plan is ranks levels order rs ls starts h laid r l e g k s o m =
    sites_planned plan is ranks levels order laid r.wide l.wide r.ranked l.levelled (subst (λ (z : List ℕ). IsOrderOf (length ranks) (IsSiteBefore ranks z) order) g (subst (λ (z : List ℕ). IsOrderOf (length z) (IsSiteBefore z ls) order) e o))
    (m ∙ ap (λ (z : List ℕ). lay_all z (record { tasks = []; links = [] }) (recipes_of (plain_of h))) s ∙ ap (λ (z : Held). lay_all plan.starts (record { tasks = []; links = [] }) (recipes_of (plain_of z))) k)
