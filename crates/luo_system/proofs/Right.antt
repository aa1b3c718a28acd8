-- The right table: it meets the equations, and is the only one that does.
use Rattle.std.proofs.Common.{◌≡◌, ℕ, zero, suc, ◌<◌, refl, sym, ◌∙◌, ap, arith, subst, ℤ, pos, Option, Some, None, inl, inr, [], ◌∷◌, length, slice_get, sum_by}
use Rattle.luo_model.specs.declared.program.Part.{Part}
use Rattle.luo_model.specs.declared.program.Def.{Def}
use Rattle.luo_model.specs.Program.{Program, Procedure, Body, Does, Items, no_items, item, Call, Case, Forall}
use Rattle.luo_model.specs.Structures.{labels_from}
use Rattle.luo_model.specs.Scopes.Fits.{FitsBody, FitsItems}
use Rattle.luo_model.specs.Invariant.{IsProgram, IsPart}
use Rattle.luo_model.specs.Founded.{SameSize, OwnCall, CallsIn, CallsAmong, IsFounded}
use Rattle.luo_finite.proofs.Places.{some_same, none_some}
use Rattle.luo_founded.proofs.Listed.{listing_exists}
use Rattle.luo_counting.proofs.Numbered.{room_of}
use Rattle.luo_equation.specs.Expr.{Table, coef}
use Rattle.luo_system.specs.System.{part_expr, descriptor}
use Rattle.luo_system.proofs.Steps.{by_relation, by_size_and_step, call_there}
use Rattle.luo_system.proofs.Counts.{count_of, CZ}
use Rattle.luo_system.proofs.Definitions.{part_right}
use Rattle.luo_system.proofs.Descriptors.{at_get}
use Rattle.luo_system.proofs.Charging.{body_charge, charge_of, charge_body}
use Rattle.luo_system.proofs.Scopes.{IsSum, sum-at, sum-same, sum-one, scoped_one}
use Rattle.luo_system.proofs.Totals.{Right, RightBehind, RightFrom, ItemsNear, BodyNear, body_sum}

module _ (p : Program) (q : IsProgram p) (f : IsFounded p) where
  -- the charges of procedure g over the structures of its parameter's node
  pub total_of : ℕ → Procedure → ℕ → ℕ
  total_of g P n = sum_by (charge_of p q f g) (listing_exists p q f P.on.node n).0

  pub total-one : (g : ℕ) (P : Procedure) (n : ℕ) (z : ℤ) → IsSum p q f P.on.node (charge_of p q f g) n z → pos (total_of g P n) ≡ z
  unfolding total_of
  total-one g P n z s = let l = listing_exists p q f P.on.node n in ap pos ((s.1 (labels_from 1 n) (room_of p.universe n)).each l.0 l.1) ∙ sym s.2

  series_or : Option Def → ℕ → ℤ → ℤ
  series_or (Some d) n z = pos (count_of p q f d.whole.node n)
  series_or None n z = z

  tau_or : Option Procedure → ℕ → ℕ → ℤ → ℤ
  tau_or (Some P) g n z = pos (total_of g P n)
  tau_or None g n z = z

  -- the right table; elsewhere it is t
  pub right_of : Table → Table
  right_of t = record { x = λ i n. series_or (slice_get p.defs i) n (t.x i n); y = λ g n. tau_or (slice_get p.procs g) g n (t.y g n) }

  module _ (t : Table) where
    pub right_series : (i : ℕ) (d : Def) → slice_get p.defs i ≡ Some d → (n : ℕ) → (right_of t).x i n ≡ pos (count_of p q f d.whole.node n)
    unfolding right_of series_or
    right_series i d e n = ap (λ o. series_or o n (t.x i n)) e

    pub right_tau : (g : ℕ) (P : Procedure) → slice_get p.procs g ≡ Some P → (n : ℕ) → (right_of t).y g n ≡ pos (total_of g P n)
    unfolding right_of tau_or
    right_tau g P e n = ap (λ o. tau_or o g n (t.y g n)) e

    -- elsewhere it is t
    pub other_series : (i n : ℕ) → slice_get p.defs i ≡ None → (right_of t).x i n ≡ t.x i n
    unfolding right_of series_or
    other_series i n e = ap (λ o. series_or o n (t.x i n)) e

    pub other_tau : (g n : ℕ) → slice_get p.procs g ≡ None → (right_of t).y g n ≡ t.y g n
    unfolding right_of tau_or
    other_tau g n e = ap (λ o. tau_or o g n (t.y g n)) e

    abbrev V : Table
    V = right_of t

    pub right_parts : (part : Part) → IsPart p part → (m : ℕ) → coef p.universe V (part_expr p part) m ≡ CZ p q f part m
    right_parts part h m = part_right p q f V m (λ i d e n l. right_series i d e n) part h m (omega arith)

    lone : (P : Procedure) (var : ℕ) (y : Part) → slice_get (P.on ∷ []) var ≡ Some y → (P.on ≡ y) × (slice_get (P.on ∷ []) var ≡ Some P.on)
    lone P zero y e = (some_same P.on y e, refl)
    lone P (suc var) y e = absurd (none_some y e)

    module _ (n x : ℕ) (known : (m y : ℕ) → m < n → RightFrom p q f V right_parts m y) (same : (y : ℕ) → SameSize p x y → RightFrom p q f V right_parts n y) where
      behind : RightBehind p q f V right_parts n x
      behind zero w r = subst (λ z. Right p q f V right_parts n z) r.2 (same r.0 r.1).0
      behind (suc k) w r = (same r.0 r.1).1 k w r.2

      abbrev Own : ℕ → Type 0
      Own g = (P : Procedure) → slice_get p.procs g ≡ Some P → P.on.node ≡ x → IsSum p q f x (charge_of p q f g) n (V.y g n)

      own_items : (P : Procedure) → P.on.node ≡ x → ((h : ℕ) → CallsIn h P.body → Own h) → (is : Items) → ((h : ℕ) → CallsAmong h is → CallsIn h P.body) → FitsItems p (P.on ∷ []) is
          → ItemsNear p q f V right_parts n (P.on ∷ []) is
      own_items P e own no_items c w = tt
      own_items P e own (item (Call var callee site) is) c w =
          let r = w.0 in
          let l = lone P var w.0.1 w.0.3 in (
            inl (subst (λ (y : Part). IsSum p q f y.node (charge_of p q f callee) n (V.y callee n)) (sym (at_get (P.on ∷ []) var P.on l.1))
                (subst (λ y. IsSum p q f y (charge_of p q f callee) n (V.y callee n)) (sym e) (own callee (c callee (inl refl)) w.0.0 w.0.2 (sym w.0.4 ∙ ap (λ (y : Part). y.node) (sym l.0) ∙ e)))),
            own_items P e own is (λ h i. c h (inr i)) w.1,
          )
      own_items P e own (item (Case var arms site) is) c w =
          let r = w.0 in (
            inl (subst (λ (y : Part). RightBehind p q f V right_parts n y.node) (sym (at_get (P.on ∷ []) var P.on (lone P var r.0 r.1).1))
                (subst (λ y. RightBehind p q f V right_parts n y) (sym e) behind)),
            own_items P e own is c w.1,
          )
      own_items P e own (item (Forall var body body_site site) is) c w =
          let r = w.0 in (
            inl (subst (λ (y : Part). RightBehind p q f V right_parts n y.node) (sym (at_get (P.on ∷ []) var P.on (lone P var r.0 r.1).1))
                (subst (λ y. RightBehind p q f V right_parts n y) (sym e) behind)),
            own_items P e own is c w.1,
          )

      own_body : (P : Procedure) → P.on.node ≡ x → (body : Body) → ((h : ℕ) → CallsIn h body → CallsIn h P.body) → ((h : ℕ) → CallsIn h P.body → Own h) → FitsBody p (P.on ∷ []) body
          → BodyNear p q f V right_parts n (P.on ∷ []) body
      own_body P e (Does own is) c o w = own_items P e o is c w.1

      whole_sum : (g : ℕ) (P : Procedure) → slice_get p.procs g ≡ Some P → P.on.node ≡ x → ((h : ℕ) → OwnCall p g h → Own h) → IsSum p q f P.on.node (charge_of p q f g) n
          (coef p.universe V (descriptor p P) n)
      whole_sum g P k e o =
          let r = q.procedures g P k in
          sum-same p q f P.on.node (λ s. body_charge (charge_of p q f) P.body (s ∷ [])) (charge_of p q f g) n (coef p.universe V (descriptor p P) n) (λ s m. sym (charge_body p q f g P k s m))
          (body_sum p q f V right_parts P.body P.on.node (λ s. s ∷ []) (P.on ∷ []) (P.on ∷ []) (scoped_one p q f P.on (r.0).0) r.1 n (λ m l z. (known m z l).0)
          (own_body P e P.body (λ h c. c) (λ h c. o h (P, k, c)) r.1))

      own_step : (g : ℕ) → ((h : ℕ) → OwnCall p g h → Own h) → Own g
      own_step g o P k e =
          let s = whole_sum g P k e o in
          let Z : ℤ = coef p.universe V (descriptor p P) n in
          subst (λ y. IsSum p q f y (charge_of p q f g) n (V.y g n)) e
          (sum-at p q f P.on.node (charge_of p q f g) n Z (V.y g n) (sym (right_tau g P k n ∙ total-one g P n Z s)) s)

      right_here : Right p q f V right_parts n x
      right_here g P k e = by_relation (OwnCall p) (length p.procs) f.no_endless (call_there p) Own own_step g P k e

    pub all_right : (n x : ℕ) → RightFrom p q f V right_parts n x
    all_right n x = by_size_and_step p f (λ n x. RightFrom p q f V right_parts n x) (λ n x known same. (right_here n x known same, behind n x known same)) n x

    -- THE LAW: the totals are the descriptors' coefficients
    pub taus_right : (g : ℕ) (P : Procedure) → slice_get p.procs g ≡ Some P → (n : ℕ) → V.y g n ≡ coef p.universe V (descriptor p P) n
    taus_right g P k n =
        sum-one p q f P.on.node (charge_of p q f g) n (V.y g n) (coef p.universe V (descriptor p P) n) ((all_right n P.on.node).0 g P k refl)
        (whole_sum n P.on.node (λ m y l. all_right m y) (λ y s. all_right n y) g P k refl (λ h c Q a e. (all_right n P.on.node).0 h Q a e))

    pub series_right : (i : ℕ) (d : Def) → slice_get p.defs i ≡ Some d → (n : ℕ) → V.x i n ≡ coef p.universe V (part_expr p d.whole) n
    series_right i d e n = right_series i d e n ∙ sym (right_parts d.whole (q.wholes_there i d e) n)
