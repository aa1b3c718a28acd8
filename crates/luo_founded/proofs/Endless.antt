-- A procedure that lies on a circle of calls charges nothing.
use Rattle.std.proofs.Common.{ℕ, zero, suc, List, [], ◌∷◌, ⊎_elim, sym, ◌∙◌, subst}
use Rattle.luo_model.specs.Tree.{Tree}
use Rattle.luo_model.specs.Program.{Program, Procedure, Body, Does, Items, no_items, item, Call, Case, Forall}
use Rattle.luo_model.specs.Charges.{BodyCharges, ItemsCharge, ChargesWithin, Charges}
use Rattle.luo_finite.specs.Walk.{Walk, OnCircle}
use Rattle.luo_model.specs.Founded.{CallsAmong, CallsIn, OwnCall}
use Rattle.luo_finite.proofs.Places.{some_same}
use Rattle.luo_finite.proofs.Walks.{walk_on}

module _ (R : ℕ → Tree → ℕ → Type 0) (g : ℕ) (vars : List Tree) where
  called_items : (items : Items) (q : ℕ) → CallsAmong g items → ItemsCharge R items vars q → (t : Tree) × (a : ℕ) × R g t a
  called_items no_items q c m = absurd c
  called_items (item (Call var callee site) is) q c m =
      ⊎_elim (λ e. (m.2.0, m.0, subst (λ f. R f m.2.0 m.0) e m.2.2)) (λ d. called_items is m.1 d m.3) c
  called_items (item (Case var arms site) is) q c m = called_items is m.1 c m.3
  called_items (item (Forall var body body_site site) is) q c m = called_items is m.1 c m.3

  called : (body : Body) (q : ℕ) → CallsIn g body → BodyCharges R body vars q → (t : Tree) × (a : ℕ) × R g t a
  called (Does own items) q c m = called_items items m.0 c m.1

endless : (p : Program) (d f : ℕ) (s : Tree) (q : ℕ) → OnCircle (OwnCall p) f → ChargesWithin p.procs d f s q → ⊥
endless p zero f s q c m = m
endless p (suc d) f s q c m =
    let k : ℕ = c.0 in
    let g : ℕ = c.1.0 in
    let o : OwnCall p f g = c.1.1 in
    let w : Walk (OwnCall p) k g f = c.1.2 in
    let r = called (ChargesWithin p.procs d) g (s ∷ []) m.0.body q (subst (λ (P : Procedure). CallsIn g P.body) (some_same o.0 m.0 (sym o.1 ∙ m.1)) o.2) m.2 in
    endless p d g r.0 r.1 (k, walk_on (OwnCall p) k g f g w o) r.2

pub endless_charges_nothing : (p : Program) (f : ℕ) (s : Tree) (q : ℕ) → OnCircle (OwnCall p) f → Charges p f s q → ⊥
endless_charges_nothing p f s q c m = endless p m.0 f s q c m.1
