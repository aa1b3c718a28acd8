-- Of a well-founded program, the equations and the starting zeros determine the table.
use Rattle.std.proofs.Common.{◌≡◌, ℕ, zero, suc, ◌+◌, ◌<◌, ◌≤◌, refl, sym, ◌∙◌, ap, arith, subst, ℤ, pos, Option, Some, None, ◌⊎◌, inl, inr, ⊎_elim, List, [], ◌∷◌, length, slice_get}
use Rattle.luo_finite.specs.Listing.{In}
use Rattle.luo_finite.proofs.Membership.{In-append_left, In-append_right}
use Rattle.luo_model.specs.declared.program.Part.{Part}
use Rattle.luo_model.specs.declared.program.Def.{Def}
use Rattle.luo_model.specs.Program.{Program, Procedure, Body, Does, Items, no_items, item, Call, Case, Forall}
use Rattle.luo_model.specs.Scopes.Fits.{FitsBody, FitsItems}
use Rattle.luo_model.specs.Invariant.{IsProgram, IsPart}
use Rattle.luo_model.specs.Founded.{SameSize, OwnCall, CallsIn, CallsAmong, IsFounded}
use Rattle.luo_finite.proofs.Places.{some_same, none_some}
use Rattle.luo_equation.specs.Expr.{Expr, Table, coef}
use Rattle.luo_equation.proofs.UpTo.{coef-up}
use Rattle.luo_system.specs.System.{system, part_expr, descriptor, defs_from, procs_from}
use Rattle.luo_equation.specs.declared.equation.Left.TheVariants as left
use Rattle.luo_system.specs.Holding.{SidesAgree, HasZeroStart}
use Rattle.luo_system.proofs.Steps.{by_relation, by_size_and_step, call_there}
use Rattle.luo_system.proofs.Counts.{count_of, CZ}
use Rattle.luo_system.proofs.Definitions.{part_right, series_one}
use Rattle.luo_system.proofs.Descriptors.{Agree, AgreeBehind, AgreeFrom, ItemsNear, BodyNear, body_same, at_get}

-- ---- the equations by number
in_defs : (p : Program) (ds : List Def) (k j : ℕ) (d : Def) → slice_get ds j ≡ Some d → In (record { left = left.Series (k + j); right = part_expr p d.whole }) (defs_from p k ds)
in_defs p [] k j d e = absurd (none_some d e)
in_defs p (d ∷ ds) k zero c e = inl (λ i. record { left = left.Series ((let q : k + 0 ≡ k = omega arith in q) i); right = part_expr p (sym (some_same d c e) i).whole })
in_defs p (d ∷ ds) k (suc j) c e =
    inr (subst (λ m. In (record { left = left.Series m; right = part_expr p c.whole }) (defs_from p (suc k) ds)) (let q : suc k + j ≡ k + suc j = omega arith in q) (in_defs p ds (suc k) j c e))

in_procs : (p : Program) (Ps : List Procedure) (k j : ℕ) (P : Procedure) → slice_get Ps j ≡ Some P → In (record { left = left.Tau (k + j); right = descriptor p P }) (procs_from p k Ps)
in_procs p [] k j P e = absurd (none_some P e)
in_procs p (P ∷ Ps) k zero Q e = inl (λ i. record { left = left.Tau ((let q : k + 0 ≡ k = omega arith in q) i); right = descriptor p (sym (some_same P Q e) i) })
in_procs p (P ∷ Ps) k (suc j) Q e =
    inr (subst (λ m. In (record { left = left.Tau m; right = descriptor p Q }) (procs_from p (suc k) Ps)) (let q : suc k + j ≡ k + suc j = omega arith in q) (in_procs p Ps (suc k) j Q e))

module _ (p : Program) (N : ℕ) (t : Table) (all : SidesAgree p.universe (system p) N t) where
  pub series_hold : (i : ℕ) (d : Def) → slice_get p.defs i ≡ Some d → (n : ℕ) → n ≤ N → t.x i n ≡ coef p.universe t (part_expr p d.whole) n
  series_hold i d e n l =
      (all (record { left = left.Series i; right = part_expr p d.whole }) (In-append_left (record { left = left.Series i; right = part_expr p d.whole }) (defs_from p 0 p.defs) (procs_from p 0 p.procs)
      (subst (λ m. In (record { left = left.Series m; right = part_expr p d.whole }) (defs_from p 0 p.defs)) (let q : 0 + i ≡ i = omega arith in q) (in_defs p p.defs 0 i d e))) n l)

  pub taus_hold : (g : ℕ) (P : Procedure) → slice_get p.procs g ≡ Some P → (n : ℕ) → n ≤ N → t.y g n ≡ coef p.universe t (descriptor p P) n
  taus_hold g P e n l =
      (all (record { left = left.Tau g; right = descriptor p P }) (In-append_right (record { left = left.Tau g; right = descriptor p P }) (defs_from p 0 p.defs) (procs_from p 0 p.procs)
      (subst (λ m. In (record { left = left.Tau m; right = descriptor p P }) (procs_from p 0 p.procs)) (let q : 0 + g ≡ g = omega arith in q) (in_procs p p.procs 0 g P e))) n l)

module _ (p : Program) (q : IsProgram p) (f : IsFounded p) where
  -- the same table with the counts of the definitions at every size
  number_or : Option Def → ℕ → ℤ → ℤ
  number_or (Some d) m z = pos (count_of p q f d.whole.node m)
  number_or None m z = z

  pub counts_in : Table → Table
  counts_in t = record { x = λ i m. number_or (slice_get p.defs i) m (t.x i m); y = t.y }

  option_or : {A : Type 0} (o : Option A) → ((a : A) × (o ≡ Some a)) ⊎ (o ≡ None)
  option_or (Some a) = inl (a, refl)
  option_or None = inr refl

  module _ (N : ℕ) (t : Table) (right : (i : ℕ) (d : Def) → slice_get p.defs i ≡ Some d → (n : ℕ) → n ≤ N → t.x i n ≡ pos (count_of p q f d.whole.node n)) where
    pub counts_up : (e : Expr) (n : ℕ) → n ≤ N → coef p.universe t e n ≡ coef p.universe (counts_in t) e n
    unfolding counts_in number_or
    counts_up e n l = coef-up p.universe t (counts_in t) N
        (λ i m k. ⊎_elim (λ s. right i s.0 s.1 m k ∙ sym (ap (λ o. number_or o m (t.x i m)) s.1)) (λ o. sym (ap (λ o. number_or o m (t.x i m)) o)) (option_or (slice_get p.defs i)))
        (λ i m k. refl) e n l

  pub counts_right : (t : Table) (part : Part) → IsPart p part → (m : ℕ) → coef p.universe (counts_in t) (part_expr p part) m ≡ CZ p q f part m
  unfolding counts_in number_or
  counts_right t part h m = part_right p q f (counts_in t) m (λ i d e n l. ap (λ o. number_or o n (t.x i n)) e) part h m (omega arith)

  pub counts_y : (t : Table) (g m : ℕ) → (counts_in t).y g m ≡ t.y g m
  unfolding counts_in
  counts_y t g m = refl

  -- ---- two tables with the counts, of which the equations of procedures hold
  module _ (N : ℕ) (t v : Table) (tx : (part : Part) → IsPart p part → (m : ℕ) → coef p.universe t (part_expr p part) m ≡ CZ p q f part m)
      (vx : (part : Part) → IsPart p part → (m : ℕ) → coef p.universe v (part_expr p part) m ≡ CZ p q f part m)
      (ty : (g : ℕ) (P : Procedure) → slice_get p.procs g ≡ Some P → (n : ℕ) → n ≤ N → t.y g n ≡ coef p.universe t (descriptor p P) n)
      (vy : (g : ℕ) (P : Procedure) → slice_get p.procs g ≡ Some P → (n : ℕ) → n ≤ N → v.y g n ≡ coef p.universe v (descriptor p P) n) where
    abbrev IsOne : ℕ → ℕ → Type 0
    IsOne n x = n ≤ N → AgreeFrom p q f t v tx vx n x

    module _ (n x : ℕ) (l : n ≤ N) (known : (m y : ℕ) → m < n → IsOne m y) (same : (y : ℕ) → SameSize p x y → IsOne n y) where
      behind : AgreeBehind p q f t v tx vx n x
      behind zero w r = subst (λ z. Agree p q f t v tx vx n z) r.2 (same r.0 r.1 l).0
      behind (suc k) w r = (same r.0 r.1 l).1 k w r.2

      abbrev Own : ℕ → Type 0
      Own g = (P : Procedure) → slice_get p.procs g ≡ Some P → P.on.node ≡ x → t.y g n ≡ v.y g n

      lone : (P : Procedure) (var : ℕ) (y : Part) → slice_get (P.on ∷ []) var ≡ Some y → (P.on ≡ y) × (slice_get (P.on ∷ []) var ≡ Some P.on)
      lone P zero y e = (some_same P.on y e, refl)
      lone P (suc var) y e = absurd (none_some y e)

      own_items : (g : ℕ) (P : Procedure) → P.on.node ≡ x → ((h : ℕ) → CallsIn h P.body → Own h) → (is : Items) → ((h : ℕ) → CallsAmong h is → CallsIn h P.body) → FitsItems p
          (P.on ∷ []) is → ItemsNear p q f t v tx vx n (P.on ∷ []) is
      own_items g P e own no_items c w = tt
      own_items g P e own (item (Call var callee site) is) c w =
          let r = w.0 in
          (inl (own callee (c callee (inl refl)) w.0.0 w.0.2 (sym w.0.4 ∙ ap (λ (y : Part). y.node) (sym (lone P var w.0.1 w.0.3).0) ∙ e)), own_items g P e own is (λ h i. c h (inr i)) w.1)
      own_items g P e own (item (Case var arms site) is) c w =
          let r = w.0 in (
            inl (subst (λ (y : Part). AgreeBehind p q f t v tx vx n y.node) (sym (at_get (P.on ∷ []) var P.on (lone P var r.0 r.1).1))
                (subst (λ y. AgreeBehind p q f t v tx vx n y) (sym e) behind)),
            own_items g P e own is c w.1,
          )
      own_items g P e own (item (Forall var body body_site site) is) c w =
          let r = w.0 in (
            inl (subst (λ (y : Part). AgreeBehind p q f t v tx vx n y.node) (sym (at_get (P.on ∷ []) var P.on (lone P var r.0 r.1).1))
                (subst (λ y. AgreeBehind p q f t v tx vx n y) (sym e) behind)),
            own_items g P e own is c w.1,
          )

      own_body : (g : ℕ) (P : Procedure) → P.on.node ≡ x → (body : Body) → ((h : ℕ) → CallsIn h body → CallsIn h P.body) → ((h : ℕ) → CallsIn h P.body → Own h) → FitsBody p
          (P.on ∷ []) body → BodyNear p q f t v tx vx n (P.on ∷ []) body
      own_body g P e (Does own is) c o w = own_items g P e o is c w.1

      own_step : (g : ℕ) → ((h : ℕ) → OwnCall p g h → Own h) → Own g
      own_step g o P k e =
          let r = q.procedures g P k in
          let there : (part : Part) → In part (P.on ∷ []) → IsPart p part = λ part i. ⊎_elim (λ s. subst (IsPart p) (sym s) (r.0).0) (λ a. absurd a) i in
          ty g P k n l
          ∙ body_same p q f t v tx vx P.body (P.on ∷ []) (P.on ∷ []) there there r.1 n (λ m s h Q a. (known m Q.on.node s (omega (arith, l, s))).0 h Q a refl)
          (own_body g P e P.body (λ h c. c) (λ h c. o h (P, k, c)) r.1)
          ∙ sym (vy g P k n l)

      agree_here : Agree p q f t v tx vx n x
      agree_here g P k e = by_relation (OwnCall p) (length p.procs) f.no_endless (call_there p) Own own_step g P k e

    pub taus_one : (g : ℕ) (P : Procedure) → slice_get p.procs g ≡ Some P → (n : ℕ) → n ≤ N → t.y g n ≡ v.y g n
    taus_one g P k n l = (by_size_and_step p f IsOne (λ n x known same l. (agree_here n x l known same, behind n x l known same)) n P.on.node l).0 g P k refl

-- THE THEOREM: two tables of which the equations hold, and which start with zeros, agree
pub one_table : (p : Program) → IsProgram p → IsFounded p → (N : ℕ) (t v : Table) → SidesAgree p.universe (system p) N t → SidesAgree p.universe (system p) N v → HasZeroStart p t → HasZeroStart p v
    → ((i : ℕ) (d : Def) → slice_get p.defs i ≡ Some d → (n : ℕ) → n ≤ N → t.x i n ≡ v.x i n) × ((g : ℕ) (P : Procedure) → slice_get p.procs g ≡ Some P → (n : ℕ) → n ≤ N → t.y g n ≡ v.y g n)
one_table p q f N t v ht hv zt zv =
    let rt = series_one p q f t N (series_hold p N t ht) zt in
    let rv = series_one p q f v N (series_hold p N v hv) zv in
    let T : Table = counts_in p q f t in
    let V : Table = counts_in p q f v in (
      (λ i d e n l. rt i d e n l ∙ sym (rv i d e n l)),
      λ g P e n l. sym (counts_y p q f t g n)
          ∙ taus_one p q f N T V (counts_right p q f t) (counts_right p q f v)
          (λ h Q k m o. counts_y p q f t h m ∙ taus_hold p N t ht h Q k m o ∙ counts_up p q f N t rt (descriptor p Q) m o)
          (λ h Q k m o. counts_y p q f v h m ∙ taus_hold p N v hv h Q k m o ∙ counts_up p q f N v rv (descriptor p Q) m o) g P e n l
          ∙ counts_y p q f v g n,
    )
