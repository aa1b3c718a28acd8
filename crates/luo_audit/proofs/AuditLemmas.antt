-- Charges in the order of structures, totals, and what an audit answers.
use Rattle.std.proofs.Common.{◌≡◌, ◌⊎◌, ℕ, zero, suc, ◌<◌, ◌≤◌, List, [], ◌∷◌, inl, inr, ⊎_elim, length, sum, refl, sym, ◌∙◌, ap, subst, arith, Some, slice_get, Result, Ok, Err, IfOk, IfErr, MatchResult}
use Rattle.std.specs.List.{AllZip}
use Rattle.luo_num.specs.declared.limits.TheConstants.{WALKED_LIMIT}
use Rattle.luo_finite.specs.Listing.{Lists, Totals}
use Rattle.luo_finite.specs.Places.{IsPlace}
use Rattle.luo_finite.proofs.Decided.{Totals-by}
use Rattle.luo_finite.proofs.Falling.{IsOrder, falling_listing}
use Rattle.luo_finite.proofs.OrderedPlaces.{at_listed}
use Rattle.luo_finite.proofs.Places.{some_same, none_some, get_map}
use Rattle.luo_finite.proofs.Sums.{Counts-unique}
use Rattle.luo_finite.proofs.Totals.{AllZip-unique, Totals-into}
use Rattle.luo_model.specs.declared.program.Proc.{Proc}
use Rattle.luo_model.specs.View.{Held, plain_of, procedure_of}
use Rattle.luo_model.specs.Tree.{Tree}
use Rattle.luo_model.specs.Program.{Program, Procedure, site_node}
use Rattle.luo_model.specs.Order.{IsBefore}
use Rattle.luo_model.specs.Structures.{IsStructure, labels_from}
use Rattle.luo_model.specs.Charges.{Charges, SiteCharges}
use Rattle.luo_model.specs.Tables.{IsCount, IsTotal}
use Rattle.luo_model.specs.Founded.{IsFounded}
use Rattle.luo_model.specs.Invariant.{IsProgram}
use Rattle.luo_model.proofs.ChargeLemmas.{charges_one}
use Rattle.luo_model.proofs.Decisions.{structure_decided}
use Rattle.luo_model.proofs.SiteLemmas.{wholes_charge, wholes_charge_no_more}
use Rattle.luo_model.proofs.TableLemmas.{totals_are_single}
use Rattle.luo_model.proofs.WorkLemmas.{sites_are_apart}
use Rattle.luo_counting.proofs.Orders.{trees_ordered}
use Rattle.luo_founded.proofs.Charged.{charge_exists}
use Rattle.luo_founded.proofs.Listed.{listing_exists}
use Rattle.luo_audit.specs.Audit.{AreCharges, IsPieceSums, CountIs, TotalIs, AreFew, IsOver, IsAudit, Explains}
use Rattle.luo_audit.specs.inner.Answered.{Gathers}
use Rattle.luo_audit.specs.declared.auditing.Audited.{Audited}
use Rattle.luo_audit.specs.declared.auditing.AuditError.{AuditError}
use Rattle.luo_audit.specs.declared.auditing.AuditError.TheVariants.{TooMany, Over, NoMemory}
use Rattle.luo_audit.proofs.Cuts.{pieces_add_up}
use Rattle.luo_model.proofs.WholeSites.{whole_site}

zip_at : {A : Type 0} (R : A → ℕ → Type 0) (l : List A) (qs : List ℕ) (i : ℕ) (x : A) → AllZip R l qs → slice_get l i ≡ Some x → (q : ℕ) × (slice_get qs i ≡ Some q) × R x q
zip_at R [] qs i x z e = absurd (none_some x e)
zip_at R (y ∷ l) [] i x z e = absurd z
zip_at R (y ∷ l) (q ∷ qs) zero x z e = (q, refl, subst (λ v. R v q) (some_same y x e) z.0)
zip_at R (y ∷ l) (q ∷ qs) (suc i) x z e = zip_at R l qs i x z.1 e

zip_long : {A : Type 0} (R : A → ℕ → Type 0) (l : List A) (qs : List ℕ) → AllZip R l qs → length qs ≡ length l
zip_long R [] [] z = refl
zip_long R [] (q ∷ qs) z = absurd z
zip_long R (x ∷ l) [] z = absurd z
zip_long R (x ∷ l) (q ∷ qs) z = ap suc (zip_long R l qs z.1)

turned : IsOrder (λ x y. IsBefore y x)
turned = record {
  one_way = λ x y a b. trees_ordered.one_way y x a b;
  through = λ x y z a b. trees_ordered.through z y x b a;
  either = λ x y. ⊎_elim (λ a. inr (inr a)) (λ o. ⊎_elim (λ e. inr (inl e)) (λ a. inl a) o) (trees_ordered.either x y);
}

module _ (p : Program) (f n : ℕ) (P : Procedure) (e : slice_get p.procs f ≡ Some P) where
  -- the charge on the structure at a place is the one at that place
  pub charge_there : (charges : List ℕ) → AreCharges p f n charges → (place : ℕ) (t : Tree) → IsPlace (IsStructure p P.on.node n) IsBefore place t → (q : ℕ) → Charges p f t q → slice_get charges place ≡ Some q
  charge_there charges (Q, d, l, o, z) place t m q c =
      let same : P ≡ Q = some_same P Q (sym e ∙ d) in
      let at = at_listed (IsStructure p Q.on.node n) IsBefore trees_ordered.one_way l place t o.0 o.1 (subst (λ (Z : Procedure). IsPlace (IsStructure p Z.on.node n) IsBefore place t) same m) in
      let r = zip_at (Charges p f) l charges place t z at in
      r.1 ∙ ap Some (charges_one p f t r.0 q r.2 c)

  pub charges_long : (charges : List ℕ) → AreCharges p f n charges → (c : ℕ) → IsCount p P.on.node n c → length charges ≡ c
  charges_long charges (Q, d, l, o, z) c k =
      zip_long (Charges p f) l charges z ∙ k.each l (subst (λ (Z : Procedure). Lists (IsStructure p Z.on.node n) l) (some_same Q P (sym d ∙ e)) o.0)

  module _ (q : IsProgram p) where
    -- the sum of these charges is the total
    pub sum_is_total : (charges : List ℕ) → AreCharges p f n charges → (t : ℕ) → IsTotal p P.site n t → sum charges ≡ t
    sum_is_total charges (Q, d, l, o, z) t k =
        let h : Lists (IsStructure p (site_node p P.site) n) l =
        subst (λ x. Lists (IsStructure p x n) l) (ap (λ (Z : Procedure). Z.on.node) (some_same Q P (sym d ∙ e)) ∙ sym (whole_site p q f P e)) o.0 in
        let r = Totals-into (IsStructure p (site_node p P.site) n) (SiteCharges p P.site) (Charges p f) t (λ s a m c. wholes_charge_no_more p (sites_are_apart p q) f P s a e c) k in
        let v = r.each l h in
        ap sum (AllZip-unique (Charges p f) l charges v.0 (λ s a b i x y. charges_one p f s a b x y) z v.1) ∙ v.2

    module _ (w : IsFounded p) where
      -- the structures have charges, and these sum to the total
      pub charges_exist : (charges : List ℕ) × AreCharges p f n charges × IsTotal p P.site n (sum charges)
      charges_exist =
          let x : ℕ = P.on.node in
          let l = listing_exists p q w x n in
          let m = falling_listing (λ x y. IsBefore y x) turned (IsStructure p x n) l.0 l.1 in
          let t = Totals-by (IsStructure p x n) (Charges p f) (structure_decided p x (labels_from 1 n) n) (λ s i. charge_exists p q w.no_endless f P e s i.0) m.0 m.2 in
          let r = t.1.each m.0 m.2 in
          let sites = Totals-into (IsStructure p x n) (Charges p f) (SiteCharges p P.site) t.0 (λ s a i c. wholes_charge p f P s a e c) t.1 in
          (r.0, (P, e, m.0, (m.2, m.1), r.1), subst (IsTotal p P.site n) (sym r.2) (subst (λ y. Totals (IsStructure p y n) (SiteCharges p P.site) t.0) (sym (whole_site p q f P e)) sites))

      -- what is gathered is what an audit answers
      pub audit_right : (workers count : ℕ) → IsCount p P.on.node n count → count ≤ WALKED_LIMIT → (r : Result Audited AuditError)
          → IfOk r (λ a. (a.row.n ≡ n) × (a.row.count ≡ count)) → ((charges : List ℕ) → AreCharges p f n charges → Gathers charges workers r)
          → MatchResult r (IsAudit p f n workers) (Explains p f n)
      audit_right workers count c few (Ok a) row sums =
          let x = charges_exist in
          let g = sums x.0 x.1 in
          record {
            size = row.0;
            right = (
              P,
              e,
              subst (λ k. IsCount p P.on.node k a.row.count) (sym row.0) (subst (IsCount p P.on.node n) (sym row.1) c),
              subst (λ k. IsTotal p P.site k a.row.total) (sym row.0) (subst (IsTotal p P.site n) (sym g.1) x.2),
            );
            sums = record { exists = (x.0, x.1); each = λ charges m. (sums charges m).0 };
            few = omega (arith, row.1, few);
            small = omega (arith, g.1, g.2);
          }
      audit_right workers count c few (Err (TooMany k)) row sums = let x = charges_exist in absurd (sums x.0 x.1)
      audit_right workers count c few (Err Over) row sums = let x = charges_exist in ((count, (P, e, c), few), (sum x.0, (P, e, x.2), sums x.0 x.1))
      audit_right workers count c few (Err NoMemory) row sums = (count, (P, e, c), few)

module _ (p : Program) (f n : ℕ) where
  one_count : (c d : ℕ) → CountIs p f n c → CountIs p f n d → c ≡ d
  one_count c d (P, e, k) (Q, g, m) =
      Counts-unique (IsStructure p Q.on.node n) c d (subst (λ (Z : Procedure). IsCount p Z.on.node n c) (some_same P Q (sym e ∙ g)) k) m

  not_few : (c : ℕ) → CountIs p f n c → WALKED_LIMIT < c → AreFew p f n → ⊥
  not_few c k l (d, m, h) = let e = one_count c d k m in omega (arith, e, l, h)

  ok_few : (workers : ℕ) (a : Audited) → IsAudit p f n workers a → AreFew p f n
  ok_few workers a i = let (P, e, c, t) = i.right in (a.row.count, (P, e, subst (λ k. IsCount p P.on.node k a.row.count) i.size c), i.few)

  -- so each other answer is wrong where there are too many structures
  pub too_many : (workers : ℕ) (r : Result Audited AuditError) → MatchResult r (IsAudit p f n workers) (Explains p f n) → (c : ℕ) → CountIs p f n c → WALKED_LIMIT < c → r ≡ Err (TooMany c)
  too_many workers (Ok a) m c k l = absurd (not_few c k l (ok_few workers a m))
  too_many workers (Err (TooMany d)) m c k l = ap (λ z. Err (TooMany z)) (one_count d c m.0 k)
  too_many workers (Err Over) m c k l = absurd (not_few c k l m.0)
  too_many workers (Err NoMemory) m c k l = absurd (not_few c k l m)

  -- and where the total overflows
  pub over : IsProgram p → (workers : ℕ) (r : Result Audited AuditError) → MatchResult r (IsAudit p f n workers) (Explains p f n) → IsOver p f n → IfErr r (λ e. (e ≡ Over) ⊎ (e ≡ NoMemory))
  over q workers (Ok a) m (few, (t, (Q, g, k), l)) =
      let (P, e, c, s) = m.right in
      let h : IsTotal p Q.site n a.row.total = subst (λ (Z : Procedure). IsTotal p Z.site n a.row.total) (some_same P Q (sym e ∙ g)) (subst (λ k. IsTotal p P.site k a.row.total) m.size s) in
      let same = totals_are_single p (sites_are_apart p q) Q.site n a.row.total t h k in
      absurd (omega (arith, same, l, m.small))
  over q workers (Err (TooMany d)) m o = absurd (not_few d m.0 m.1 o.0)
  over q workers (Err Over) m o = inl refl
  over q workers (Err NoMemory) m o = inr refl

  pub rows_agree : IsProgram p → (v w : ℕ) (a b : Audited) → IsAudit p f n v a → IsAudit p f n w b → a.row ≡ b.row
  rows_agree q v w a b x y =
      let (P, e, c, s) = x.right in
      let (Q, g, d, t) = y.right in
      let same : Q ≡ P = some_same Q P (sym g ∙ e) in
      let size : a.row.n ≡ b.row.n = x.size ∙ sym y.size in
      let counts : a.row.count ≡ b.row.count =
      Counts-unique (IsStructure p P.on.node b.row.n) a.row.count b.row.count (subst (λ k. IsCount p P.on.node k a.row.count) size c)
      (subst (λ (Z : Procedure). IsCount p Z.on.node b.row.n b.row.count) same d) in
      let totals : a.row.total ≡ b.row.total =
      totals_are_single p (sites_are_apart p q) P.site b.row.n a.row.total b.row.total (subst (λ k. IsTotal p P.site k a.row.total) size s)
      (subst (λ (Z : Procedure). IsTotal p Z.site b.row.n b.row.total) same t) in
      λ i. record { n = size i; count = counts i; total = totals i }

  pub sums_add : IsProgram p → (workers : ℕ) (sums : List ℕ) (t : ℕ) → 0 < workers → IsPieceSums p f n workers sums → TotalIs p f n t → sum sums ≡ t
  sums_add q workers sums t l s (P, e, k) =
      let x = s.exists in
      ap sum (s.each x.0 x.1) ∙ pieces_add_up x.0 workers l ∙ sum_is_total p f n P e q x.0 x.1 t k

-- a procedure as the code holds it
module _ (h : Held) (procs : List Proc) (e : procs ≡ h.procs) (f : ℕ) (proc : Proc) (there : slice_get procs f ≡ Some proc) where
  pub plain_there : slice_get (plain_of h).procs f ≡ Some (procedure_of proc)
  plain_there = get_map procedure_of h.procs f proc (ap (λ (l : List Proc). slice_get l f) (sym e) ∙ there)

  pub node_there : IsProgram (plain_of h) → proc.on.node < length h.nodes
  node_there q = (q.procedures f (procedure_of proc) plain_there).0.0.0
