-- The sites of procedures' wholes, and what a site charges.
use Rattle.std.proofs.Common.{◌≡◌, ℕ, zero, suc, List, [], ◌∷◌, inl, inr, refl, sym, ◌∙◌, ap, subst, map, flat_map, Some, slice_get}
use Rattle.std.specs.Prelude.{IsTrue}
use Rattle.luo_finite.specs.Listing.{In, NoDouble}
use Rattle.luo_finite.proofs.Membership.{In-append_left, In-append_right}
use Rattle.luo_model.specs.Tree.{Tree}
use Rattle.luo_model.specs.Program.{Program, Procedure}
use Rattle.luo_model.specs.Charges.{Work, of_body, of_call, of_case, of_walk, EachCharges, BodyCharges, ChargesWithin, Charges, works_of_body, works_of_procedure, works_of, WorkCharges}
use Rattle.luo_model.specs.Laws.{ChargesAreSingle, ChargesAreLeast, SiteChargesAreSingle, ProceduresChargeTheirBodies, WholesCharge, WholesChargeNoMore}
use Rattle.luo_model.proofs.ChargeLemmas.{some_one, trees_one, charges_one, each_one, body_one, case_one}
use Rattle.luo_model.proofs.DepthLemmas.{body_wider, charges_by_body, within_charges, charges_least}

in_flat_map : {A B : Type 0} (g : A → List B) (xs : List A) (i : ℕ) (x : A) (y : B) → slice_get xs i ≡ Some x → In y (g x) → In y (flat_map g xs)
in_flat_map g [] i x y e h = absurd (cc)
in_flat_map g (z ∷ xs) zero x y e h = In-append_left y (g z) (flat_map g xs) (subst (λ t. In y (g t)) (sym (some_one z x e)) h)
in_flat_map g (z ∷ xs) (suc i) x y e h = In-append_right y (g z) (flat_map g xs) (in_flat_map g xs i x y e h)

-- where no two first parts are equal, a first part has one second
in_firsts : {B : Type 0} (l : List (ℕ × B)) (i : ℕ) (v : B) → In (i, v) l → In i (map (λ w. w.0) l)
in_firsts [] i v h = absurd h
in_firsts (w ∷ l) i v (inl e) = inl (ap (λ x. x.0) e)
in_firsts (w ∷ l) i v (inr h) = inr (in_firsts l i v h)

second_one : {B : Type 0} (l : List (ℕ × B)) → NoDouble (map (λ w. w.0) l) → (i : ℕ) (v w : B) → In (i, v) l → In (i, w) l → v ≡ w
second_one [] d i v w h k = absurd h
second_one (x ∷ l) d i v w (inl e) (inl g) = ap (λ z. z.1) (e ∙ sym g)
second_one (x ∷ l) d i v w (inl e) (inr k) = absurd (d.0 (subst (λ z. In z (map (λ w. w.0) l)) (ap (λ z. z.0) e) (in_firsts l i w k)))
second_one (x ∷ l) d i v w (inr h) (inl g) = absurd (d.0 (subst (λ z. In z (map (λ w. w.0) l)) (ap (λ z. z.0) g) (in_firsts l i v h)))
second_one (x ∷ l) d i v w (inr h) (inr k) = second_one l d.1 i v w h k

whole_in : (p : Program) (f : ℕ) (P : Procedure) → slice_get p.procs f ≡ Some P → In (P.site, of_body P.body) (works_of p)
whole_in p f P h = in_flat_map works_of_procedure p.procs f P (P.site, of_body P.body) h (In-append_right (P.site, of_body P.body) (works_of_body P.body) ((P.site, of_body P.body) ∷ []) (inl refl))

body_of_charges : (p : Program) (f : ℕ) (P : Procedure) (s : Tree) (q : ℕ) → slice_get p.procs f ≡ Some P → (d : ℕ) → ChargesWithin p.procs d f s q → BodyCharges (Charges p) P.body (s ∷ []) q
body_of_charges p f P s q h zero c = absurd c
body_of_charges p f P s q h (suc d) c =
    body_wider (ChargesWithin p.procs d) (Charges p) (within_charges p d) P.body (s ∷ []) q
    (subst (λ Q. BodyCharges (ChargesWithin p.procs d) Q.body (s ∷ []) q) (some_one c.0 P (sym c.1 ∙ h)) c.2)

pub procedures_charge_their_bodies : ProceduresChargeTheirBodies
procedures_charge_their_bodies p f P s q h = (λ c. body_of_charges p f P s q h c.0 c.1, λ c. charges_by_body p f P s q h c)

pub wholes_charge : WholesCharge
wholes_charge p f P s q h c = (of_body P.body, whole_in p f P h, body_of_charges p f P s q h c.0 c.1)

pub wholes_charge_no_more : WholesChargeNoMore
wholes_charge_no_more p d f P s q h c =
    let e : c.0 ≡ of_body P.body = second_one (works_of p) d P.site c.0 (of_body P.body) c.1 (whole_in p f P h) in
    charges_by_body p f P s q h (subst (λ w. WorkCharges p w s q) e c.2)

pub charges_are_single : ChargesAreSingle
charges_are_single = charges_one

pub charges_are_least : ChargesAreLeast
charges_are_least p test follows f s q c = charges_least p (λ g t r. IsTrue (test g t r)) follows c.0 f s q c.1

work_one : (p : Program) (w : Work) (s : Tree) (a b : ℕ) → WorkCharges p w s a → WorkCharges p w s b → a ≡ b
work_one p (of_body body) s a b x y = body_one (Charges p) (Charges p) (charges_one p) body (s ∷ []) a b x y
work_one p (of_call f) s a b x y = charges_one p f s a b x y
work_one p (of_case arms) s a b x y = case_one (Charges p) (Charges p) (charges_one p) arms s a b x y
work_one p (of_walk body) s a b x y =
    let e : y.0 ≡ x.0 = trees_one y.0 x.0 (sym y.1 ∙ x.1) in
    let P : Tree → ℕ → Type 0 = λ t. BodyCharges (Charges p) body (t ∷ []) in
    each_one (Charges p) (Charges p) (charges_one p) P P (λ t c d. body_one (Charges p) (Charges p) (charges_one p) body (t ∷ []) c d) x.0 a b x.2 (subst (λ ts. EachCharges P ts b) e y.2)

pub site_charges_are_single : SiteChargesAreSingle
site_charges_are_single p d i s a b x y =
    work_one p y.0 s a b (subst (λ w. WorkCharges p w s a) (second_one (works_of p) d i x.0 y.0 x.1 y.1) x.2) y.2
