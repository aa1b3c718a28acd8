-- The tables of all walks before the first size.
use Rattle.std.proofs.Common.{◌≡◌, ◌⊎◌, ⊎_elim, ℕ, ◌+◌, ◌≤◌, ◌<◌, List, [], ◌∷◌, ◌++◌, length, slice_get, refl, sym, ◌∙◌, ap, subst, arith, Some, Option}
use Rattle.std.proofs.lemmas.Option.{slice_get_within}
use Rattle.luo_finite.proofs.Places.{get_old, get_new}
use Rattle.luo_model.specs.Program.{Program, site_node}
use Rattle.luo_model.specs.View.{plain_of}
use Rattle.luo_engine.specs.declared.tasks.Task.{Task}
use Rattle.luo_engine.specs.declared.tasks.Task.TheVariants.{Walk}
use Rattle.luo_engine.specs.declared.tasks.Sites.{Sites}
use Rattle.luo_engine.specs.inner.Plan.{Planned}
use Rattle.luo_engine.specs.inner.Asked.{Asked, AskedWalk, unasked_walk}
use Rattle.luo_engine.specs.inner.Collections.{table_at, HasTable, HasAsked, AreUnasked}
use Rattle.luo_engine.specs.inner.Walks.{IsWalk}
use Rattle.luo_engine.specs.inner.Totals.{ArePlanned, AreWalked}
use Rattle.luo_engine.specs.inner.WalkTables.{AreMadeBelow}
use Rattle.luo_engine.proofs.inner.CollectionLemmas.{collections_start}
use Rattle.luo_engine.proofs.inner.WalkLemmas.{walk_start}
use Rattle.luo_engine.proofs.inner.WalkingLemmas.{coll_there}
use Rattle.luo_engine.proofs.TotalPlan.{walk_is}

less_or_eq : (a b : ℕ) → a < b + 1 → (a < b) ⊎ (a ≡ b)
less_or_eq a b h = grind arith

module _ (plan : Planned) (s : Sites) (fixed : ArePlanned plan s) (tables : List (Option Asked)) (fresh : AreUnasked (plain_of plan.program) plan.reach tables (length plan.program.nodes)) where
  pub site_of_task : (i : ℕ) → i < length s.tasks → i < length plan.program.sites
  site_of_task i h = omega (arith, h, fixed.sites_are.tasks_wide)

  is_walk : (i collection body : ℕ) → slice_get s.tasks i ≡ Some (Walk collection body) → IsWalk (plain_of plan.program) i body
  is_walk i collection body w =
      let at = fixed.sites_are.ordered.complete i (site_of_task i (slice_get_within s.tasks i (Walk collection body) w)) in
      walk_is plan s fixed at.0 i at.1 collection body w

  -- the table of the collection hasn't been asked
  unasked_yet : (i body : ℕ) (walk : IsWalk (plain_of plan.program) i body) → HasAsked (plain_of plan.program) plan.reach tables (site_node (plain_of plan.program) i) walk.low walk.kind walk.part walk.high 0
  unasked_yet i body walk =
      let p = plain_of plan.program in
      let x = site_node p i in
      let at = fixed.plan_is.ordered.complete x (coll_there p x walk.low walk.kind walk.part walk.high walk.shape) in
      (collections_start p plan.reach plan.order tables fixed.plan_is.ordered.there fresh).to_ask at.0 x walk.low walk.kind walk.part walk.high (omega arith) at.1 walk.shape

  pub table_ready : (i collection body x : ℕ) → slice_get s.tasks i ≡ Some (Walk collection body) → x ≡ site_node (plain_of plan.program) i → HasTable tables x
  table_ready i collection body x w e = subst (HasTable tables) (sym e) (unasked_yet i body (is_walk i collection body w)).there

  pub walks_start : (walks : List (Option AskedWalk)) (i : ℕ) → AreMadeBelow (plain_of plan.program) s.tasks tables walks i → length s.tasks ≤ i → AreWalked (plain_of plan.program) plan.reach s walks 0 0
  walks_start walks n made end = record {
    asked = λ j i c b h o t. absurd (omega (arith, h));
    to_ask = λ j i c b h o t walk.
        walk_start (plain_of plan.program) i b walk plan.reach tables walks (unasked_yet i b walk) (made.made i c b (omega (arith, slice_get_within s.tasks i (Walk c b) t, end)) t);
  }

pub made_more : (p : Program) (tasks : List Task) (tables : List (Option Asked)) (walks new : List (Option AskedWalk)) (i : ℕ) (table : Option AskedWalk) → AreMadeBelow p tasks tables walks i → new ≡ walks ++ table ∷ []
    → ((c b : ℕ) → slice_get tasks i ≡ Some (Walk c b) → table ≡ Some (unasked_walk (table_at tables (site_node p i)))) → AreMadeBelow p tasks tables new (i + 1)
made_more p tasks tables walks new i table m e t = subst (λ (ws : List (Option AskedWalk)). AreMadeBelow p tasks tables ws (i + 1)) (sym e) (record {
  wide = omega (arith, m.wide, longer walks);
  made = λ j c b h w. ⊎_elim
      (λ (g : j < i). get_old walks table j (Some (unasked_walk (table_at tables (site_node p j)))) (m.made j c b g w))
      (λ (g : j ≡ i).
      ap (slice_get (walks ++ table ∷ [])) (g ∙ sym m.wide) ∙ get_new walks table ∙ ap Some (t c b (ap (slice_get tasks) (sym g) ∙ w) ∙ ap (λ z. Some (unasked_walk (table_at tables (site_node p z)))) (sym g)))
      (less_or_eq j i h);
})
  where
    longer : (xs : List (Option AskedWalk)) → length (xs ++ table ∷ []) ≡ length xs + 1
    longer [] = refl
    longer (x ∷ xs) = omega (arith, longer xs)
