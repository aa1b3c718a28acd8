-- Levels of wholes by rounds, and levels of sites from those of the wholes.
use Rattle.std.proofs.Common.{◌≡◌, ℕ, suc, ◌+◌, ◌≤◌, ◌<◌, List, [], ◌∷◌, inl, inr, ⊎_elim, length, map, refl, sym, ◌∙◌, ap, subst, arith, max, Option, Some, None, slice_get}
use Rattle.std.proofs.lemmas.Option.{slice_get_within}
use Rattle.luo_finite.specs.Listing.{In}
use Rattle.luo_finite.specs.Walk.{Walk, OnCircle}
use Rattle.luo_finite.proofs.Places.{In_get, get_within, get_map_back, length_map}
use Rattle.luo_finite.proofs.Walks.{no_path, few_steps}
use Rattle.luo_model.specs.declared.program.Proc.{Proc}
use Rattle.luo_model.specs.Program.{Program, Procedure, Body, Does, Items, no_items, item, Item, Call, Case, Forall}
use Rattle.luo_model.specs.Charges.{Work, of_body, of_call, of_case, of_walk, works_of}
use Rattle.luo_model.specs.View.{Held, plain_of, procedure_of, body_of}
use Rattle.luo_model.specs.declared.program.Part.{Part}
use Rattle.luo_model.specs.Scopes.Fits.{FitsBody}
use Rattle.luo_model.specs.Invariant.{IsProgram}
use Rattle.luo_model.specs.Founded.{CallsAmong, CallsIn, OwnCall}
use Rattle.luo_model.specs.Levels.{ItemLevel, ItemsLevel, BodyLevel, LevelWithin, WholeLevel, WorkLevel, IsLevel}
use Rattle.luo_model.proofs.WorkLemmas.{WorkOn, works_length, work_at}
use Rattle.luo_founded.specs.inner.Longest.{past, AreUpTo}
use Rattle.luo_founded.specs.inner.Wholes.{item_level, items_level, body_level, work_level, levels_of, AreWholes}
use Rattle.luo_founded.proofs.LongestLemmas.{AreZeros}
use Rattle.luo_founded.proofs.CallsGraph.{own_within, call_within}

-- where the levels of the wholes that are called are known, so is the level
module _ (R : ℕ → ℕ → Type 0) (wholes : List ℕ) where
  abbrev Known : ℕ → Type 0
  Known g = (r : ℕ) × (slice_get wholes g ≡ Some r) × R g r

  one_level : (i : Item) → ((g : ℕ) → CallsAmong g (item i no_items) → Known g) → ItemLevel R i (item_level wholes i)
  one_level (Call var callee site) h = let k = h callee (inl refl) in (k.0, k.2, ap past k.1)
  one_level (Case var arms site) h = refl
  one_level (Forall var body body_site site) h = refl

  first_call : (i : Item) (is : Items) (g : ℕ) → CallsAmong g (item i no_items) → CallsAmong g (item i is)
  first_call (Call var callee site) is g c = ⊎_elim (λ e. inl e) (λ d. absurd d) c
  first_call (Case var arms site) is g c = absurd c
  first_call (Forall var body body_site site) is g c = absurd c

  later_call : (i : Item) (is : Items) (g : ℕ) → CallsAmong g is → CallsAmong g (item i is)
  later_call (Call var callee site) is g c = inr c
  later_call (Case var arms site) is g c = c
  later_call (Forall var body body_site site) is g c = c

  all_level : (items : Items) → ((g : ℕ) → CallsAmong g items → Known g) → ItemsLevel R items (items_level wholes items)
  all_level no_items h = refl
  all_level (item i is) h = (
    item_level wholes i,
    items_level wholes is,
    one_level i (λ g c. h g (first_call i is g c)),
    all_level is (λ g c. h g (later_call i is g c)),
    refl,
  )

  pub level_known : (body : Body) → ((g : ℕ) → CallsIn g body → Known g) → BodyLevel R body (body_level wholes body)
  level_known (Does own no_items) h = refl
  level_known (Does own (item i is)) h = (items_level wholes (item i is), all_level (item i is) h, refl)

past_up_to : (wholes : List ℕ) (most : ℕ) → AreUpTo most wholes → (g : ℕ) → past (slice_get wholes g) ≤ most + 1
past_up_to wholes most h g = by_option (slice_get wholes g) (h g)
  where
    by_option : (o : Option ℕ) → ((r : ℕ) → o ≡ Some r → r ≤ most) → past o ≤ most + 1
    by_option None h = omega arith
    by_option (Some r) h = omega (arith, h r refl)

max_up_to : (a b c : ℕ) → a ≤ c → b ≤ c → max a b ≤ c
max_up_to a b c h k = grind arith

module _ (wholes : List ℕ) (most : ℕ) (h : AreUpTo most wholes) where
  item_up_to : (i : Item) → item_level wholes i ≤ most + 1
  item_up_to (Call var callee site) = past_up_to wholes most h callee
  item_up_to (Case var arms site) = omega arith
  item_up_to (Forall var body body_site site) = omega arith

  pub items_up_to : (items : Items) → items_level wholes items ≤ most + 1
  items_up_to no_items = omega arith
  items_up_to (item i is) = max_up_to (item_level wholes i) (items_level wholes is) (most + 1) (item_up_to i) (items_up_to is)

  pub body_up_to : (body : Body) → body_level wholes body ≤ most + 2
  body_up_to (Does own no_items) = omega arith
  body_up_to (Does own (item i is)) = omega (arith, items_up_to (item i is))

-- the wholes whose own calls go less than k deep have their levels
pub record AreWholesTo (p : Program) (k : ℕ) (wholes : List ℕ) : Type 0 where
  pub long : length wholes ≡ length p.procs
  pub up_to : AreUpTo (k + k) wholes
  pub each : (f r : ℕ) → slice_get wholes f ≡ Some r → ((j g : ℕ) → Walk (OwnCall p) j f g → j < k) → LevelWithin p.procs k f r

module _ (p : Program) (q : IsProgram p) where
  wholes_start : (wholes : List ℕ) → AreZeros (length p.procs) wholes → AreWholesTo p 0 wholes
  wholes_start wholes z = record {
    long = z.long;
    up_to = λ f r e. omega (arith, z.zeros f r e);
    each = λ f r e h. absurd (let c : 0 < 0 = h 0 f refl in omega arith);
  }

  wholes_next : (k : ℕ) (wholes : List ℕ) → AreWholesTo p k wholes → AreWholesTo p (k + 1) (map (λ (P : Procedure). body_level wholes P.body) p.procs)
  wholes_next k wholes a = record {
    long = length_map (λ (P : Procedure). body_level wholes P.body) p.procs;
    up_to = λ f r e. let x = get_map_back (λ (P : Procedure). body_level wholes P.body) p.procs f r e in omega (arith, body_up_to wholes (k + k) a.up_to x.0.body, x.2);
    each = λ f r e w.
        let x = get_map_back (λ (P : Procedure). body_level wholes P.body) p.procs f r e in
        subst (λ d. LevelWithin p.procs d f r) (let y : suc k ≡ k + 1 = omega arith in y)
        (x.0, x.1, subst (BodyLevel (LevelWithin p.procs k) x.0.body) x.2 (level_known (LevelWithin p.procs k) wholes x.0.body (λ g c. known f g (x.0, x.1, c) w)));
  }
    where
      known : (f g : ℕ) → OwnCall p f g → ((j y : ℕ) → Walk (OwnCall p) j f y → j < k + 1) → (r : ℕ) × (slice_get wholes g ≡ Some r) × LevelWithin p.procs k g r
      known f g o w =
          let r = get_within wholes g (omega (arith, own_within p q f g o, a.long)) in
          (r.0, r.1, a.each g r.0 r.1 (λ j y v. let b : suc j < k + 1 = w (suc j) y (g, o, v) in omega arith))

  wholes_end : (k : ℕ) (wholes : List ℕ) → ((f : ℕ) → OnCircle (OwnCall p) f → ⊥) → length p.procs + 1 ≤ k → AreWholesTo p k wholes → AreWholes p wholes
  wholes_end k wholes none h a = record {
    long = a.long;
    each = λ f r e. (
      k,
      a.each f r e (λ j g w. omega (arith, few_steps (OwnCall p) none (length p.procs) (λ x y o. slice_get_within p.procs x o.0 o.1) j f g [] (no_path (OwnCall p) (length p.procs) f) w)),
    );
  }

  -- each site has the level of what is done there
  work_right : (wholes : List ℕ) → AreWholes p wholes → (x : Part) (work : Work) → WorkOn p x work → WorkLevel p work (work_level wholes work)
  work_right wholes a x (of_body body) f = level_known (WholeLevel p) wholes body (λ g c. known g (called body (x ∷ []) f g c))
    where
      known : (g : ℕ) → g < length p.procs → (r : ℕ) × (slice_get wholes g ≡ Some r) × WholeLevel p g r
      known g h = let r = get_within wholes g (omega (arith, a.long)) in (r.0, r.1, a.each g r.0 r.1)

      called : (body : Body) (vars : List Part) → FitsBody p vars body → (g : ℕ) → CallsIn g body → g < length p.procs
      called (Does own items) vars f g c = call_within p vars items g f.1 c
  work_right wholes a x (of_call callee) f = let r = get_within wholes callee (omega (arith, a.long, slice_get_within p.procs callee f.0 f.1)) in (r.0, a.each callee r.0 r.1, ap past r.1)
  work_right wholes a x (of_case arms) f = refl
  work_right wholes a x (of_walk body) f = refl

  pub level_right : (wholes levels : List ℕ) → AreWholes p wholes → levels ≡ levels_of wholes (works_of p) → (site r : ℕ) → slice_get levels site ≡ Some r → IsLevel p site r
  level_right wholes levels a e site r g =
      let x = get_map_back (λ (w : ℕ × Work). work_level wholes w.1) (works_of p) site r (ap (λ l. slice_get l site) (sym e) ∙ g) in
      let i : In x.0 (works_of p) = In_get (works_of p) site x.0 x.1 in
      let at = work_at p q site x.0 x.1 in
      (x.0.1, subst (λ s. In (s, x.0.1) (works_of p)) at.2 i, subst (WorkLevel p x.0.1) x.2 (work_right wholes a at.3.0 x.0.1 at.3.2))

  pub levels_long : (wholes levels : List ℕ) → levels ≡ levels_of wholes (works_of p) → length levels ≡ length p.sites
  levels_long wholes levels e = ap length e ∙ length_map (λ (w : ℕ × Work). work_level wholes w.1) (works_of p) ∙ works_length p q

-- the same of the program that the code holds
module _ (p : Held) (q : IsProgram (plain_of p)) where
  by_code : (wholes : List ℕ) (procs : List Proc) → map (λ (P : Proc). body_level wholes (body_of P.body)) procs ≡ map (λ (P : Procedure). body_level wholes P.body) (map procedure_of procs)
  by_code wholes [] = refl
  by_code wholes (P ∷ procs) = ap (λ l. body_level wholes (body_of P.body) ∷ l) (by_code wholes procs)

  pub zeros_start : (procs : List Proc) (n : ℕ) (wholes : List ℕ) → procs ≡ p.procs → n ≡ length procs → AreZeros n wholes → AreWholesTo (plain_of p) 0 wholes
  zeros_start procs n wholes e l z =
      wholes_start (plain_of p) q wholes (subst (λ m. AreZeros m wholes) (l ∙ ap length e ∙ sym (length_map procedure_of p.procs)) z)

  pub round : (procs : List Proc) (k : ℕ) (wholes slice more : List ℕ) → procs ≡ p.procs → slice ≡ wholes → AreWholesTo (plain_of p) k wholes → more ≡ map (λ (P : Proc). body_level slice (body_of P.body)) procs → AreWholesTo (plain_of p) (k + 1) more
  round procs k wholes slice more e s a m = subst (AreWholesTo (plain_of p) (k + 1))
      (sym (m ∙ ap (λ l. map (λ (P : Proc). body_level slice (body_of P.body)) l) e ∙ ap (λ w. map (λ (P : Proc). body_level w (body_of P.body)) p.procs) s ∙ by_code wholes p.procs))
      (wholes_next (plain_of p) q k wholes a)

  pub rounds_end : (k : ℕ) (wholes : List ℕ) → ((f : ℕ) → OnCircle (OwnCall (plain_of p)) f → ⊥) → length p.procs + 1 ≤ k → AreWholesTo (plain_of p) k wholes → AreWholes (plain_of p) wholes
  rounds_end k wholes none h a = wholes_end (plain_of p) q k wholes none (omega (arith, length_map procedure_of p.procs)) a
