-- A procedure charges at most one number on a structure.
use Rattle.std.proofs.Common.{◌≡◌, ℕ, zero, suc, List, [], ◌∷◌, sym, ◌∙◌, subst, arith, Some}
use Rattle.luo_model.specs.Tree.{Tree, Trees, Atom, Inj, Tup, Coll, none, more}
use Rattle.luo_model.specs.Program.{Program, Procedure, Body, Does, Items, no_items, item, Item, Call, Case, Forall, Arms, no_arms, arm}
use Rattle.luo_model.specs.Charges.{bound, EachCharges, BodyCharges, ItemsCharge, ItemCharges, CaseCharges, ChargesWithin, Charges}

pub some_one : {A : Type 0} (x y : A) → Some x ≡ Some y → x ≡ y
some_one x y e = cc

pub trees_one : (ss ts : Trees) → Coll ss ≡ Coll ts → ss ≡ ts
trees_one ss ts e = cc

-- what two relations of called procedures allow, each tree having one number by the first that is also its number by the second
module _ (R S : ℕ → Tree → ℕ → Type 0) (one : (f : ℕ) (t : Tree) (a b : ℕ) → R f t a → S f t b → a ≡ b) where
  pub each_one : (P Q : Tree → ℕ → Type 0) → ((t : Tree) (a b : ℕ) → P t a → Q t b → a ≡ b) → (ts : Trees) (a b : ℕ) → EachCharges P ts a → EachCharges Q ts b → a ≡ b
  each_one P Q h none a b p q = p ∙ sym q
  each_one P Q h (more t ts) a b p q = omega (arith, h t p.0 q.0 p.2 q.2, each_one P Q h ts p.1 q.1 p.3 q.3, p.4, q.4)

  mutual
    pub body_one : (body : Body) (vars : List Tree) (a b : ℕ) → BodyCharges R body vars a → BodyCharges S body vars b → a ≡ b
    body_one (Does own items) vars a b p q = omega (arith, items_one items vars p.0 q.0 p.1 q.1, p.2, q.2)

    items_one : (items : Items) (vars : List Tree) (a b : ℕ) → ItemsCharge R items vars a → ItemsCharge S items vars b → a ≡ b
    items_one no_items vars a b p q = p ∙ sym q
    items_one (item i is) vars a b p q = omega (arith, item_one i vars p.0 q.0 p.2 q.2, items_one is vars p.1 q.1 p.3 q.3, p.4, q.4)

    item_one : (i : Item) (vars : List Tree) (a b : ℕ) → ItemCharges R i vars a → ItemCharges S i vars b → a ≡ b
    item_one (Call var f site) vars a b p q = one f p.0 a b p.2 (subst (λ t. S f t b) (some_one q.0 p.0 (sym q.1 ∙ p.1)) q.2)
    item_one (Case var arms site) vars a b p q = case_one arms p.0 a b p.2 (subst (λ t. CaseCharges S arms t b) (some_one q.0 p.0 (sym q.1 ∙ p.1)) q.2)
    item_one (Forall var body body_site site) vars a b p q =
        let e : q.0 ≡ p.0 = trees_one q.0 p.0 (some_one (Coll q.0) (Coll p.0) (sym q.1 ∙ p.1)) in
        each_one (λ t. BodyCharges R body (t ∷ [])) (λ t. BodyCharges S body (t ∷ [])) (λ t c d x y. body_one body (t ∷ []) c d x y) p.0 a b p.2
        (subst (λ ts. EachCharges (λ t. BodyCharges S body (t ∷ [])) ts b) e q.2)

    pub case_one : (arms : Arms) (t : Tree) (a b : ℕ) → CaseCharges R arms t a → CaseCharges S arms t b → a ≡ b
    case_one no_arms (Atom w l) a b p q = absurd p
    case_one no_arms (Inj zero t) a b p q = absurd p
    case_one no_arms (Inj (suc zero) t) a b p q = absurd p
    case_one no_arms (Inj (suc (suc i)) t) a b p q = absurd p
    case_one no_arms (Tup ts) a b p q = absurd p
    case_one no_arms (Coll ts) a b p q = absurd p
    case_one (arm c body no_arms) (Tup ts) a b p q = body_one body (bound c (Tup ts)) a b p q
    case_one (arm c body (arm d other arms)) (Tup ts) a b p q = absurd p
    case_one (arm c body no_arms) (Inj zero t) a b p q = absurd p
    case_one (arm c body (arm d other arms)) (Inj zero t) a b p q = absurd p
    case_one (arm c body no_arms) (Inj (suc zero) t) a b p q = body_one body (bound c t) a b p q
    case_one (arm c body (arm d other arms)) (Inj (suc zero) t) a b p q = body_one body (bound c t) a b p q
    case_one (arm c body no_arms) (Inj (suc (suc i)) t) a b p q = case_one no_arms (Inj (suc i) t) a b p q
    case_one (arm c body (arm d other arms)) (Inj (suc (suc i)) t) a b p q = case_one (arm d other arms) (Inj (suc i) t) a b p q
    case_one (arm c body no_arms) (Atom w l) a b p q = absurd p
    case_one (arm c body (arm d other arms)) (Atom w l) a b p q = absurd p
    case_one (arm c body no_arms) (Coll ts) a b p q = absurd p
    case_one (arm c body (arm d other arms)) (Coll ts) a b p q = absurd p

pub within_one : (procs : List Procedure) (d e f : ℕ) (t : Tree) (a b : ℕ) → ChargesWithin procs d f t a → ChargesWithin procs e f t b → a ≡ b
within_one procs zero e f t a b p q = absurd p
within_one procs (suc d) zero f t a b p q = absurd q
within_one procs (suc d) (suc e) f t a b p q =
    body_one (ChargesWithin procs d) (ChargesWithin procs e) (within_one procs d e) p.0.body (t ∷ []) a b p.2
    (subst (λ P. BodyCharges (ChargesWithin procs e) P.body (t ∷ []) b) (some_one q.0 p.0 (sym q.1 ∙ p.1)) q.2)

pub charges_one : (p : Program) (f : ℕ) (s : Tree) (a b : ℕ) → Charges p f s a → Charges p f s b → a ≡ b
charges_one p f s a b x y = within_one p.procs x.0 y.0 f s a b x.1 y.1
