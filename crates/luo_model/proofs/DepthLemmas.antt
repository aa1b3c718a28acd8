-- Charges by calls of some depth, and by calls of any.
use Rattle.std.proofs.Common.{◌≡◌, ℕ, zero, suc, ◌+◌, ◌≤◌, List, [], ◌∷◌, arith, Some, slice_get}
use Rattle.luo_model.specs.Tree.{Tree, Trees, Atom, Inj, Tup, Coll, none, more}
use Rattle.luo_model.specs.Program.{Program, Procedure, Body, Does, Items, no_items, item, Item, Call, Case, Forall, Arms, no_arms, arm}
use Rattle.luo_model.specs.Charges.{bound, EachCharges, BodyCharges, ItemsCharge, ItemCharges, CaseCharges, ChargesWithin, Charges}

-- where called procedures charge more, so does what calls them
module _ (R S : ℕ → Tree → ℕ → Type 0) (wider : (f : ℕ) (t : Tree) (q : ℕ) → R f t q → S f t q) where
  each_wider : (P Q : Tree → ℕ → Type 0) → ((t : Tree) (q : ℕ) → P t q → Q t q) → (ts : Trees) (q : ℕ) → EachCharges P ts q → EachCharges Q ts q
  each_wider P Q h none q p = p
  each_wider P Q h (more t ts) q p = (p.0, p.1, h t p.0 p.2, each_wider P Q h ts p.1 p.3, p.4)

  mutual
    pub body_wider : (body : Body) (vars : List Tree) (q : ℕ) → BodyCharges R body vars q → BodyCharges S body vars q
    body_wider (Does own items) vars q p = (p.0, items_wider items vars p.0 p.1, p.2)

    items_wider : (items : Items) (vars : List Tree) (q : ℕ) → ItemsCharge R items vars q → ItemsCharge S items vars q
    items_wider no_items vars q p = p
    items_wider (item i is) vars q p = (p.0, p.1, item_wider i vars p.0 p.2, items_wider is vars p.1 p.3, p.4)

    item_wider : (i : Item) (vars : List Tree) (q : ℕ) → ItemCharges R i vars q → ItemCharges S i vars q
    item_wider (Call var f site) vars q p = (p.0, p.1, wider f p.0 q p.2)
    item_wider (Case var arms site) vars q p = (p.0, p.1, case_wider arms p.0 q p.2)
    item_wider (Forall var body body_site site) vars q p =
        (p.0, p.1, each_wider (λ t. BodyCharges R body (t ∷ [])) (λ t. BodyCharges S body (t ∷ [])) (λ t c x. body_wider body (t ∷ []) c x) p.0 q p.2)

    case_wider : (arms : Arms) (t : Tree) (q : ℕ) → CaseCharges R arms t q → CaseCharges S arms t q
    case_wider no_arms (Atom w l) q p = absurd p
    case_wider no_arms (Inj zero t) q p = absurd p
    case_wider no_arms (Inj (suc zero) t) q p = absurd p
    case_wider no_arms (Inj (suc (suc i)) t) q p = absurd p
    case_wider no_arms (Tup ts) q p = absurd p
    case_wider no_arms (Coll ts) q p = absurd p
    case_wider (arm c body no_arms) (Tup ts) q p = body_wider body (bound c (Tup ts)) q p
    case_wider (arm c body (arm d other arms)) (Tup ts) q p = absurd p
    case_wider (arm c body no_arms) (Inj zero t) q p = absurd p
    case_wider (arm c body (arm d other arms)) (Inj zero t) q p = absurd p
    case_wider (arm c body no_arms) (Inj (suc zero) t) q p = body_wider body (bound c t) q p
    case_wider (arm c body (arm d other arms)) (Inj (suc zero) t) q p = body_wider body (bound c t) q p
    case_wider (arm c body no_arms) (Inj (suc (suc i)) t) q p = case_wider no_arms (Inj (suc i) t) q p
    case_wider (arm c body (arm d other arms)) (Inj (suc (suc i)) t) q p = case_wider (arm d other arms) (Inj (suc i) t) q p
    case_wider (arm c body no_arms) (Atom w l) q p = absurd p
    case_wider (arm c body (arm d other arms)) (Atom w l) q p = absurd p
    case_wider (arm c body no_arms) (Coll ts) q p = absurd p
    case_wider (arm c body (arm d other arms)) (Coll ts) q p = absurd p

pub within_deeper : (procs : List Procedure) (d e : ℕ) → d ≤ e → (f : ℕ) (s : Tree) (q : ℕ) → ChargesWithin procs d f s q → ChargesWithin procs e f s q
within_deeper procs zero e h f s q p = absurd p
within_deeper procs (suc d) zero h f s q p = absurd (omega (arith, h))
within_deeper procs (suc d) (suc e) h f s q p =
    (p.0, p.1, body_wider (ChargesWithin procs d) (ChargesWithin procs e) (within_deeper procs d e (omega (arith, h))) p.0.body (s ∷ []) q p.2)

-- what calls of any depth charge, calls of some depth do
module _ (p : Program) where
  deeper : (d e : ℕ) → d ≤ e → (f : ℕ) (s : Tree) (q : ℕ) → ChargesWithin p.procs d f s q → ChargesWithin p.procs e f s q
  deeper d e h = within_deeper p.procs d e h

  each_depth : (body : Body) → ((t : Tree) (q : ℕ) → BodyCharges (Charges p) body (t ∷ []) q → (d : ℕ) × BodyCharges (ChargesWithin p.procs d) body (t ∷ []) q)
      → (ts : Trees) (q : ℕ) → EachCharges (λ t. BodyCharges (Charges p) body (t ∷ [])) ts q → (d : ℕ) × EachCharges (λ t. BodyCharges (ChargesWithin p.procs d) body (t ∷ [])) ts q
  each_depth body h none q c = (0, c)
  each_depth body h (more t ts) q c =
      let a = h t c.0 c.2 in
      let b = each_depth body h ts c.1 c.3 in
      let d = a.0 + b.0 in (
        d,
        (
          c.0,
          c.1,
          body_wider (ChargesWithin p.procs a.0) (ChargesWithin p.procs d) (deeper a.0 d (omega arith)) body (t ∷ []) c.0 a.1,
          each_wider (ChargesWithin p.procs b.0) (ChargesWithin p.procs d) (deeper b.0 d (omega arith))
              (λ u. BodyCharges (ChargesWithin p.procs b.0) body (u ∷ [])) (λ u. BodyCharges (ChargesWithin p.procs d) body (u ∷ []))
              (λ u k x. body_wider (ChargesWithin p.procs b.0) (ChargesWithin p.procs d) (deeper b.0 d (omega arith)) body (u ∷ []) k x) ts c.1 b.1,
          c.4,
        ),
      )

  mutual
    pub body_depth : (body : Body) (vars : List Tree) (q : ℕ) → BodyCharges (Charges p) body vars q → (d : ℕ) × BodyCharges (ChargesWithin p.procs d) body vars q
    body_depth (Does own items) vars q c = let r = items_depth items vars c.0 c.1 in (r.0, (c.0, r.1, c.2))

    items_depth : (items : Items) (vars : List Tree) (q : ℕ) → ItemsCharge (Charges p) items vars q → (d : ℕ) × ItemsCharge (ChargesWithin p.procs d) items vars q
    items_depth no_items vars q c = (0, c)
    items_depth (item i is) vars q c =
        let a = item_depth i vars c.0 c.2 in
        let b = items_depth is vars c.1 c.3 in
        let d = a.0 + b.0 in (
          d,
          (
            c.0,
            c.1,
            item_wider (ChargesWithin p.procs a.0) (ChargesWithin p.procs d) (deeper a.0 d (omega arith)) i vars c.0 a.1,
            items_wider (ChargesWithin p.procs b.0) (ChargesWithin p.procs d) (deeper b.0 d (omega arith)) is vars c.1 b.1,
            c.4,
          ),
        )

    item_depth : (i : Item) (vars : List Tree) (q : ℕ) → ItemCharges (Charges p) i vars q → (d : ℕ) × ItemCharges (ChargesWithin p.procs d) i vars q
    item_depth (Call var f site) vars q c = (c.2.0, (c.0, c.1, c.2.1))
    item_depth (Case var arms site) vars q c = let r = case_depth arms c.0 q c.2 in (r.0, (c.0, c.1, r.1))
    item_depth (Forall var body body_site site) vars q c =
        let r = each_depth body (λ t k x. body_depth body (t ∷ []) k x) c.0 q c.2 in (r.0, (c.0, c.1, r.1))

    case_depth : (arms : Arms) (t : Tree) (q : ℕ) → CaseCharges (Charges p) arms t q → (d : ℕ) × CaseCharges (ChargesWithin p.procs d) arms t q
    case_depth no_arms (Atom w l) q c = absurd c
    case_depth no_arms (Inj zero t) q c = absurd c
    case_depth no_arms (Inj (suc zero) t) q c = absurd c
    case_depth no_arms (Inj (suc (suc i)) t) q c = absurd c
    case_depth no_arms (Tup ts) q c = absurd c
    case_depth no_arms (Coll ts) q c = absurd c
    case_depth (arm b body no_arms) (Tup ts) q c = body_depth body (bound b (Tup ts)) q c
    case_depth (arm b body (arm d other arms)) (Tup ts) q c = absurd c
    case_depth (arm b body no_arms) (Inj zero t) q c = absurd c
    case_depth (arm b body (arm d other arms)) (Inj zero t) q c = absurd c
    case_depth (arm b body no_arms) (Inj (suc zero) t) q c = body_depth body (bound b t) q c
    case_depth (arm b body (arm d other arms)) (Inj (suc zero) t) q c = body_depth body (bound b t) q c
    case_depth (arm b body no_arms) (Inj (suc (suc i)) t) q c = case_depth no_arms (Inj (suc i) t) q c
    case_depth (arm b body (arm d other arms)) (Inj (suc (suc i)) t) q c = case_depth (arm d other arms) (Inj (suc i) t) q c
    case_depth (arm b body no_arms) (Atom w l) q c = absurd c
    case_depth (arm b body (arm d other arms)) (Atom w l) q c = absurd c
    case_depth (arm b body no_arms) (Coll ts) q c = absurd c
    case_depth (arm b body (arm d other arms)) (Coll ts) q c = absurd c

  -- a procedure charges what its body does, where what it calls may be of any depth
  pub charges_by_body : (f : ℕ) (P : Procedure) (s : Tree) (q : ℕ) → slice_get p.procs f ≡ Some P → BodyCharges (Charges p) P.body (s ∷ []) q → Charges p f s q
  charges_by_body f P s q h c = let r = body_depth P.body (s ∷ []) q c in (suc r.0, (P, h, r.1))

  pub within_charges : (d f : ℕ) (s : Tree) (q : ℕ) → ChargesWithin p.procs d f s q → Charges p f s q
  within_charges d f s q c = (d, c)

  -- no relation that follows the bodies holds less
  pub charges_least : (R : ℕ → Tree → ℕ → Type 0) → ((f : ℕ) (P : Procedure) (s : Tree) (q : ℕ) → slice_get p.procs f ≡ Some P → BodyCharges R P.body (s ∷ []) q → R f s q)
      → (d f : ℕ) (s : Tree) (q : ℕ) → ChargesWithin p.procs d f s q → R f s q
  charges_least R follows zero f s q c = absurd c
  charges_least R follows (suc d) f s q c = follows f c.0 s q c.1 (body_wider (ChargesWithin p.procs d) R (charges_least R follows d) c.0.body (s ∷ []) q c.2)
