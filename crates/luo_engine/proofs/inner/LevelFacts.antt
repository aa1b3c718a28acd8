-- Each site of a founded program has a level.
use Rattle.std.proofs.Common.{◌≡◌, ℕ, zero, suc, ◌<◌, List, [], ◌∷◌, inl, inr, refl, sym, ◌∙◌, ap, subst, arith, length, max, Some, slice_get}
use Rattle.std.proofs.lemmas.Option.{slice_get_within}
use Rattle.luo_finite.specs.Listing.{In}
use Rattle.luo_finite.specs.Walk.{Walk}
use Rattle.luo_finite.proofs.Places.{In_get, get_within, place_in, some_same}
use Rattle.luo_finite.proofs.Walks.{no_path, few_steps}
use Rattle.luo_model.specs.declared.program.Site.{Site}
use Rattle.luo_model.specs.Program.{Program, Procedure, Body, Does, Items, no_items, item, Item, Call, Case, Forall}
use Rattle.luo_model.specs.Charges.{Work, of_body, of_call, of_case, of_walk, works_of}
use Rattle.luo_model.specs.declared.program.Part.{Part}
use Rattle.luo_model.specs.Scopes.Fits.{FitsBody}
use Rattle.luo_model.specs.Invariant.{IsProgram}
use Rattle.luo_model.specs.Founded.{IsFounded, CallsAmong, CallsIn, OwnCall}
use Rattle.luo_model.specs.Levels.{ItemLevel, ItemsLevel, BodyLevel, LevelWithin, WholeLevel, WorkLevel, IsLevel}
use Rattle.luo_model.proofs.WorkLemmas.{WorkOn, works_length, work_at}
use Rattle.luo_founded.proofs.CallsGraph.{own_within, call_within}

-- where each whole that is called has a level, so have the items
module _ (R : ℕ → ℕ → Type 0) where
  items_level : (items : Items) → ((g : ℕ) → CallsAmong g items → (r : ℕ) × R g r) → (n : ℕ) × ItemsLevel R items n
  items_level no_items h = (0, refl)
  items_level (item (Call var callee site) is) h =
      let a = h callee (inl refl) in
      let b = items_level is (λ g c. h g (inr c)) in
      (max (suc a.0) b.0, (suc a.0, b.0, (a.0, a.1, refl), b.1, refl))
  items_level (item (Case var arms site) is) h = let b = items_level is h in (max 0 b.0, (0, b.0, refl, b.1, refl))
  items_level (item (Forall var body body_site site) is) h = let b = items_level is h in (max 0 b.0, (0, b.0, refl, b.1, refl))

  body_level : (body : Body) → ((g : ℕ) → CallsIn g body → (r : ℕ) × R g r) → (n : ℕ) × BodyLevel R body n
  body_level (Does own no_items) h = (0, refl)
  body_level (Does own (item i is)) h = let a = items_level (item i is) h in (suc a.0, (a.0, a.1, refl))

module _ (p : Program) (q : IsProgram p) (f : IsFounded p) where
  level_within : (k g : ℕ) → g < length p.procs → ((j h : ℕ) → Walk (OwnCall p) j g h → j < k) → (r : ℕ) × LevelWithin p.procs k g r
  level_within zero g h w = absurd (let c : 0 < 0 = w 0 g refl in omega arith)
  level_within (suc k) g h w =
      let P = get_within p.procs g h in
      let b = body_level (LevelWithin p.procs k) P.0.body (λ other c. level_within k other (own_within p q g other (P.0, P.1, c)) (λ j y v. let l : suc j < suc k = w (suc j) y (other, (P.0, P.1, c), v) in omega arith)) in
      (b.0, (P.0, P.1, b.1))

  whole_level : (g : ℕ) → g < length p.procs → (r : ℕ) × WholeLevel p g r
  whole_level g h =
      let r = level_within (suc (length p.procs)) g h (λ j y w. omega (arith, few_steps (OwnCall p) f.no_endless (length p.procs) (λ a b o. within a b o) j g y [] (no_path (OwnCall p) (length p.procs) g) w)) in
      (r.0, (suc (length p.procs), r.1))
    where
      within : (a b : ℕ) → OwnCall p a b → a < length p.procs
      within a b (P, there, c) = slice_get_within p.procs a P there

  work_level : (x : Part) (work : Work) → WorkOn p x work → (r : ℕ) × WorkLevel p work r
  work_level x (of_body (Does own items)) on = body_level (WholeLevel p) (Does own items) (λ g c. whole_level g (call_within p (x ∷ []) items g on.1 c))
  work_level x (of_call callee) on = let r = whole_level callee (slice_get_within p.procs callee on.0 on.1) in (suc r.0, (r.0, r.1, refl))
  work_level x (of_case arms) on = (0, refl)
  work_level x (of_walk body) on = (0, refl)

  pub level_exists : (i : ℕ) → i < length p.sites → (r : ℕ) × IsLevel p i r
  level_exists i h =
      let w = get_within (works_of p) i (omega (arith, h, works_length p q)) in
      let at = work_at p q i w.0 w.1 in
      let r = work_level at.3.0 w.0.1 at.3.2 in
      (r.0, (w.0.1, subst (λ s. In (s, w.0.1) (works_of p)) at.2 (In_get (works_of p) i w.0 w.1), r.1))
