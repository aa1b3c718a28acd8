-- THE THEOREMS: a right table meets the system, and a table that meets it and starts with zeros is right.
use Rattle.std.proofs.Common.{◌≡◌, ℕ, suc, ◌+◌, ◌≤◌, refl, sym, ◌∙◌, ap, arith, subst, pos, Option, Some, None, ◌⊎◌, inl, inr, ⊎_elim, List, [], ◌∷◌, length, slice_get}
use Rattle.std.proofs.lemmas.Int.{ints}
use Rattle.luo_finite.specs.Listing.{In, Sums, Totals}
use Rattle.luo_finite.proofs.Totals.{Totals-of}
use Rattle.luo_finite.proofs.Membership.{In-append_cases}
use Rattle.luo_model.specs.declared.program.Part.{Part}
use Rattle.luo_model.specs.declared.program.Def.{Def}
use Rattle.luo_model.specs.Tree.{Tree}
use Rattle.luo_model.specs.Program.{Program, Procedure}
use Rattle.luo_model.specs.Charges.{SiteCharges}
use Rattle.luo_model.specs.Structures.{IsStructure, labels_from}
use Rattle.luo_model.proofs.SiteLemmas.{wholes_charge}
use Rattle.luo_model.proofs.TableLemmas.{totals_are_single}
use Rattle.luo_counting.proofs.Numbered.{room_of}
use Rattle.luo_model.specs.Tables.{IsCount, IsTotal}
use Rattle.luo_finite.proofs.Sums.{Counts-unique}
use Rattle.luo_finite.proofs.Places.{some_same}
use Rattle.luo_model.specs.Invariant.{IsProgram, IsPart}
use Rattle.luo_model.specs.Founded.{IsFounded}
use Rattle.luo_equation.specs.Expr.{Table, coef, IsExact}
use Rattle.luo_equation.proofs.UpTo.{coef-up, exact-up}
use Rattle.luo_system.specs.System.{system, part_expr, descriptor, defs_from, procs_from}
use Rattle.luo_equation.specs.Equation.{Equation}
use Rattle.luo_equation.specs.declared.equation.Left.TheVariants as left
use Rattle.luo_system.specs.Holding.{Holds, SidesAgree, IsRight, HasZeroStart, left_number, Agree}
use Rattle.luo_system.proofs.Counts.{count_of, count_is, count_one}
use Rattle.luo_system.proofs.Unique.{one_table}
use Rattle.luo_system.proofs.Right.{total_of, right_of, right_series, right_tau, other_series, other_tau, right_parts, taus_right, series_right, all_right}
use Rattle.luo_system.proofs.Charging.{charge_of, charge_is}
use Rattle.luo_model.proofs.WholeSites.{whole_site}
use Rattle.luo_system.proofs.Sites.{sites_apart}
use Rattle.luo_system.specs.Truth.{RightTablesHold, RightTablesExist, HoldingTablesAreRight, SystemsDescribe, RightTablesHaveRows, RightTablesStartWithZeros, SystemsHaveTables}
use Rattle.luo_system.proofs.Exact.{part_exact, body_exact}

-- ---- each equation is that of a definition or of a procedure
abbrev IsDef : Program → Equation → ℕ → Type 0
IsDef p e k = (j : ℕ) × (d : Def) × (slice_get p.defs j ≡ Some d) × (e ≡ record { left = left.Series j; right = part_expr p d.whole })

defs_back : (p : Program) (ds : List Def) (k : ℕ) (e : Equation) → In e (defs_from p k ds) → (j : ℕ) × (d : Def) × (slice_get ds j ≡ Some d) ×
    (e ≡ record { left = left.Series (k + j); right = part_expr p d.whole })
defs_back p [] k e i = absurd i
defs_back p (d ∷ ds) k e (inl g) = (0, d, refl, g ∙ λ i. record { left = left.Series ((let z : k ≡ k + 0 = omega arith in z) i); right = part_expr p d.whole })
defs_back p (d ∷ ds) k e (inr i) =
    let r = defs_back p ds (suc k) e i in (suc r.0, r.1, r.2, r.3 ∙ λ i. record { left = left.Series ((let z : suc k + r.0 ≡ k + suc r.0 = omega arith in z) i); right = part_expr p r.1.whole })

procs_back : (p : Program) (Ps : List Procedure) (k : ℕ) (e : Equation) → In e (procs_from p k Ps) → (j : ℕ) × (P : Procedure) × (slice_get Ps j ≡ Some P) ×
    (e ≡ record { left = left.Tau (k + j); right = descriptor p P })
procs_back p [] k e i = absurd i
procs_back p (P ∷ Ps) k e (inl g) = (0, P, refl, g ∙ λ i. record { left = left.Tau ((let z : k ≡ k + 0 = omega arith in z) i); right = descriptor p P })
procs_back p (P ∷ Ps) k e (inr i) =
    let r = procs_back p Ps (suc k) e i in (suc r.0, r.1, r.2, r.3 ∙ λ i. record { left = left.Tau ((let z : suc k + r.0 ≡ k + suc r.0 = omega arith in z) i); right = descriptor p r.1 })

option_or : {A : Type 0} (o : Option A) → ((a : A) × (o ≡ Some a)) ⊎ (o ≡ None)
option_or (Some a) = inl (a, refl)
option_or None = inr refl

-- what has no structure of size 0 is counted by 0
length_none : (l : List Tree) → ((s : Tree) → In s l → ⊥) → length l ≡ 0
length_none [] h = refl
length_none (s ∷ l) h = absurd (h s (inl refl))

none_counted : (p : Program) (x c : ℕ) → IsCount p x 0 c → ((s : Tree) → IsStructure p x 0 s → ⊥) → c ≡ 0
none_counted p x c counted none =
    let l = counted.exists in
    sym (counted.each l.0 l.1) ∙ length_none l.0 (λ s i. none s (l.1.sound s i))

module _ (p : Program) (q : IsProgram p) (f : IsFounded p) where
  -- the numbers up to N are the counts and the totals
  pub record IsTrue (N : ℕ) (t : Table) : Type 0 where
    pub counts : (i : ℕ) (d : Def) → slice_get p.defs i ≡ Some d → (n : ℕ) → n ≤ N → t.x i n ≡ pos (count_of p q f d.whole.node n)
    pub totals : (g : ℕ) (P : Procedure) → slice_get p.procs g ≡ Some P → (n : ℕ) → n ≤ N → t.y g n ≡ pos (total_of p q f g P n)

  module _ (N : ℕ) (t : Table) (r : IsTrue N t) where
    abbrev V : Table
    V = right_of p q f t

    same_x : (i m : ℕ) → m ≤ N → V.x i m ≡ t.x i m
    same_x i m l = ⊎_elim (λ s. right_series p q f t i s.0 s.1 m ∙ sym (r.counts i s.0 s.1 m l)) (λ e. other_series p q f t i m e) (option_or (slice_get p.defs i))

    same_y : (g m : ℕ) → m ≤ N → V.y g m ≡ t.y g m
    same_y g m l = ⊎_elim (λ s. right_tau p q f t g s.0 s.1 m ∙ sym (r.totals g s.0 s.1 m l)) (λ e. other_tau p q f t g m e) (option_or (slice_get p.procs g))

    -- THE THEOREM: the equations hold in a right table
    pub equations_hold : Holds p.universe (system p) N t
    equations_hold e i n l = ⊎_elim
        (λ h.
        let d = defs_back p p.defs 0 e h in
        let k : e ≡ record { left = left.Series d.0; right = part_expr p d.1.whole } =
        d.3 ∙ (λ i. record { left = left.Series ((let z : 0 + d.0 ≡ d.0 = omega arith in z) i); right = part_expr p d.1.whole }) in
        subst (λ (y : Equation). (left_number t y.left n ≡ coef p.universe t y.right n) × IsExact p.universe t y.right n) (sym k) (
          sym (same_x d.0 n l) ∙ series_right p q f t d.0 d.1 d.2 n ∙ coef-up p.universe V t N same_x same_y (part_expr p d.1.whole) n l,
          exact-up p.universe V t N same_x same_y (part_expr p d.1.whole) n l (part_exact p q f V (right_series p q f t) d.1.whole (q.wholes_there d.0 d.1 d.2) n),
        ))
        (λ h.
        let d = procs_back p p.procs 0 e h in
        let k : e ≡ record { left = left.Tau d.0; right = descriptor p d.1 } = d.3 ∙ (λ i. record { left = left.Tau ((let z : 0 + d.0 ≡ d.0 = omega arith in z) i); right = descriptor p d.1 }) in
        let P = d.1 in
        let on : IsPart p P.on = (q.procedures d.0 P d.2).0.0 in
        let a : (part : Part) → In part (P.on ∷ []) → IsPart p part = λ part j. ⊎_elim (λ s. subst (IsPart p) (sym s) on) (λ z. absurd z) j in
        subst (λ (y : Equation). (left_number t y.left n ≡ coef p.universe t y.right n) × IsExact p.universe t y.right n) (sym k) (
          sym (same_y d.0 n l) ∙ taus_right p q f t d.0 P d.2 n ∙ coef-up p.universe V t N same_x same_y (descriptor p P) n l,
          exact-up p.universe V t N same_x same_y (descriptor p P) n l (body_exact p q f V (right_series p q f t) (right_parts p q f t) n P.body (P.on ∷ []) (P.on ∷ []) a a),
        ))
        (In-append_cases e (defs_from p 0 p.defs) (procs_from p 0 p.procs) i)

  -- ---- and back
  no_structure : (x : ℕ) → ((s : Tree) → IsStructure p x 0 s → ⊥) → count_of p q f x 0 ≡ 0
  no_structure x o = none_counted p x (count_of p q f x 0) (count_is p q f x 0) o

  right_is_true : (N : ℕ) (t : Table) → IsTrue N (right_of p q f t)
  right_is_true N t = record { counts = λ i d e n l. right_series p q f t i d e n; totals = λ g P e n l. right_tau p q f t g P e n }

  -- THE THEOREM: where the equations hold, and the table starts with zeros, it is right
  pub table_true : (N : ℕ) (t : Table) → SidesAgree p.universe (system p) N t → HasZeroStart p t → IsTrue N t
  table_true N t h z =
      let v : Table = right_of p q f t in
      let r = one_table p q f N t v h (λ e i n l. (equations_hold N v (right_is_true N t) e i n l).0) z (λ i d e o. right_series p q f t i d e 0 ∙ ap pos (no_structure d.whole.node o)) in
      record {
        counts = λ i d e n l. r.0 i d e n l ∙ right_series p q f t i d e n;
        totals = λ g P e n l. r.1 g P e n l ∙ right_tau p q f t g P e n;
      }

  -- a right table exists, with any numbers beside the definitions and procedures
  pub true_exists : (t : Table) × ((N : ℕ) → IsTrue N t)
  true_exists = let t : Table = record { x = λ i n. pos 0; y = λ g n. pos 0 } in (right_of p q f t, λ N. right_is_true N t)

  -- ---- in the words of counts and totals
  pub total_is : (g : ℕ) (P : Procedure) → slice_get p.procs g ≡ Some P → (n : ℕ) → IsTotal p P.site n (total_of p q f g P n)
  total_is g P e n =
      let t : Table = record { x = λ i n. pos 0; y = λ g n. pos 0 } in
      let s = (all_right p q f t n P.on.node).0 g P e refl in
      let k : s.0 ≡ total_of p q f g P n = omega (arith, ints, sym s.2 ∙ right_tau p q f t g P e n) in
      subst (λ (x : ℕ). Totals (IsStructure p x n) (SiteCharges p P.site) (total_of p q f g P n)) (sym (whole_site p q g P e))
      (Totals-of (IsStructure p P.on.node n) (SiteCharges p P.site) (charge_of p q f g) (total_of p q f g P n) (λ v m. wholes_charge p g P v (charge_of p q f g v) e (charge_is p q f g P e v m.0))
      (subst (Sums (IsStructure p P.on.node n) (charge_of p q f g)) k (s.1 (labels_from 1 n) (room_of p.universe n))))

  pub true_of_right : (N : ℕ) (t : Table) → IsRight p N t → IsTrue N t
  true_of_right N t r = record {
    counts = λ i d e n l. let c = r.counts i d e n l in c.2 ∙ ap pos (count_one p q f d.whole.node n c.0 c.1);
    totals = λ g P e n l. let c = r.totals g P e n l in c.2 ∙ ap pos (totals_are_single p (sites_apart p q) P.site n c.0 (total_of p q f g P n) c.1 (total_is g P e n));
  }

  pub right_of_true : (N : ℕ) (t : Table) → IsTrue N t → IsRight p N t
  right_of_true N t r = record {
    counts = λ i d e n l. (count_of p q f d.whole.node n, count_is p q f d.whole.node n, r.counts i d e n l);
    totals = λ g P e n l. (total_of p q f g P n, total_is g P e n, r.totals g P e n l);
  }

-- ---- THE LAWS
pub right-tables_hold : RightTablesHold
right-tables_hold p q f N t r = equations_hold p q f N t (true_of_right p q f N t r)

pub right-tables_exist : RightTablesExist
right-tables_exist p q f = let t = true_exists p q f in (t.0, λ N. right_of_true p q f N t.0 (t.1 N))

pub holding-tables_right : HoldingTablesAreRight
holding-tables_right p q f N t h z = right_of_true p q f N t (table_true p q f N t h z)

pub systems-describe : SystemsDescribe
systems-describe p q f es e = record {
  exist = right-tables_exist p q f;
  hold = λ N t r g i n l. right-tables_hold p q f N t r g (subst (In g) e i) n l;
  determine = λ N t h z. holding-tables_right p q f N t (λ g i n l. h g (subst (In g) (sym e) i) n l) z;
}

pub right-tables_start : RightTablesStartWithZeros
right-tables_start p N t r i d e none =
    let c = r.counts i d e 0 (omega arith) in
    c.2 ∙ ap pos (none_counted p d.whole.node c.0 c.1 none)

pub right-tables_rows : RightTablesHaveRows
right-tables_rows p q N t r f row w l =
    let P = w.0 in
    let c = r.totals f P w.1 row.n l in (
      c.2 ∙ ap pos (totals_are_single p (sites_apart p q) P.site row.n c.0 row.total c.1 w.3),
      λ i d Q e g o.
          let k = r.counts i d e row.n l in
          let s : P ≡ Q = some_same P Q (sym w.1 ∙ g) in
          let x : d.whole.node ≡ P.on.node = o ∙ ap (λ (y : Procedure). y.on.node) (sym s) in
          k.2 ∙ ap pos (Counts-unique (IsStructure p P.on.node row.n) k.0 row.count (subst (λ y. IsCount p y row.n k.0) x k.1) w.2),
    )

pub right-tables_agree : (p : Program) → IsProgram p → (N : ℕ) (t v : Table) → IsRight p N t → IsRight p N v → Agree p N t v
right-tables_agree p q N t v r s = record {
  counts = λ i d e n l.
      let a = r.counts i d e n l in
      let b = s.counts i d e n l in
      a.2 ∙ ap pos (Counts-unique (IsStructure p d.whole.node n) a.0 b.0 a.1 b.1) ∙ sym b.2;
  totals = λ f P e n l.
      let a = r.totals f P e n l in
      let b = s.totals f P e n l in
      a.2 ∙ ap pos (totals_are_single p (sites_apart p q) P.site n a.0 b.0 a.1 b.1) ∙ sym b.2;
}

pub systems-tables : SystemsHaveTables
systems-tables p q f es e =
    let d = systems-describe p q f es e in
    let t = d.exist in (
      t.0,
      record {
        right = t.1;
        holds = λ N. d.hold N t.0 (t.1 N);
        starts = right-tables_start p 0 t.0 (t.1 0);
        only = λ N v h z. right-tables_agree p q N v t.0 (d.determine N v h z) (t.1 N);
      },
    )
