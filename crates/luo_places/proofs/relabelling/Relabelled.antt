-- Structures with other labels: members stay members, and charges stay.
use Rattle.std.proofs.Common.{◌≡◌, ℕ, zero, suc, ◌≤◌, ◌<◌, inl, inr, List, [], ◌∷◌, map, length, refl, sym, ◌∙◌, ap, subst, arith}
use Rattle.luo_finite.specs.Each.{Each}
use Rattle.luo_finite.proofs.Membership.{In-map_back}
use Rattle.luo_finite.proofs.Pairwise.{Pairwise-into, Pairwise-map}
use Rattle.luo_finite.proofs.Places.{get_map, length_map}
use Rattle.luo_model.specs.declared.program.Universe.{Universe}
use Rattle.luo_model.specs.declared.program.Universe.TheVariants.{Unlabelled, Labelled}
use Rattle.luo_model.specs.declared.program.Kind.{Kind}
use Rattle.luo_model.specs.declared.program.Kind.TheVariants.{Sequence, Set, Cycle, Multiset, Powerset}
use Rattle.luo_model.specs.declared.program.Part.{Part}
use Rattle.luo_model.specs.declared.program.Shape.{Shape}
use Rattle.luo_model.specs.declared.program.Shape.TheVariants as shape
use Rattle.luo_model.specs.declared.body.Bind.{Bind}
use Rattle.luo_model.specs.declared.body.Bind.TheVariants.{Nothing, Whole, Parts}
use Rattle.luo_model.specs.Tree.{Tree, Trees, Atom, Inj, Tup, Coll, none, more, to_list, labels_of, all_labels_of, least_of, least_label}
use Rattle.luo_model.specs.Order.{IsBefore}
use Rattle.luo_model.specs.Standing.{StandAs}
use Rattle.luo_model.specs.Program.{Program, Procedure, Body, Does, Items, no_items, item, Item, Call, Case, Forall, Arms, no_arms, arm, shape_of}
use Rattle.luo_model.specs.Member.{Fits, FitAll, FitEach, Member, IsLabel, IsWithin, ComponentsStand}
use Rattle.luo_model.specs.Charges.{parts_of, bound, EachCharges, BodyCharges, ItemsCharge, ItemCharges, CaseCharges, ChargesWithin, Charges, Work, of_body, of_call, of_case, of_walk, WorkCharges, SiteCharges}
use Rattle.luo_places.specs.relabelling.Relabelling.{sent, relabelled, all_relabelled, Rises, IsAmong}
use Rattle.luo_places.proofs.relabelling.LabelLemmas.{Each-left, Each-right, Each-at, sent_rises, sent_le, least_among, least_sent, label_among, labels_sent, order_sent}

pub list_sent : (f : ℕ → ℕ) (ts : Trees) → to_list (all_relabelled f ts) ≡ map (relabelled f) (to_list ts)
list_sent f none = refl
list_sent f (more t ts) = ap (λ l. relabelled f t ∷ l) (list_sent f ts)

module _ (f : ℕ → ℕ) (D : List ℕ) (rises : Rises f D) where
  -- its labels are among those of D
  abbrev pub Known : Tree → Type 0
  Known t = Each (IsAmong D) (labels_of t)

  least_label_sent : (t : Tree) → Known t → least_label (relabelled f t) ≡ sent f (least_label t)
  least_label_sent t m = ap least_of (labels_sent f D rises t m) ∙ least_sent f D rises (labels_of t) m

  least_le : (s t : Tree) → Known s → Known t → least_label s ≤ least_label t → least_label (relabelled f s) ≤ least_label (relabelled f t)
  least_le s t m n h =
      omega (arith, sent_le f D rises (least_label s) (least_label t) (least_among f D rises (labels_of s) m) (least_among f D rises (labels_of t) n) h, least_label_sent s m, least_label_sent t n)

  least_less : (s t : Tree) → Known s → Known t → least_label s < least_label t → least_label (relabelled f s) < least_label (relabelled f t)
  least_less s t m n h =
      omega (arith, sent_rises f D rises (least_label s) (least_label t) (least_among f D rises (labels_of s) m) (least_among f D rises (labels_of t) n) h, least_label_sent s m, least_label_sent t n)

  stand_sent : (kind : Kind) (xs : List Tree) → Each Known xs → StandAs least_label IsBefore kind xs → StandAs least_label IsBefore kind (map (relabelled f) xs)
  stand_sent Sequence xs k s = tt
  stand_sent Set xs k s =
      Pairwise-map (λ x y. least_label x < least_label y) (relabelled f) xs
      (Pairwise-into (λ x y. least_label x < least_label y) (λ x y. least_label (relabelled f x) < least_label (relabelled f y)) xs
      (λ x y i j h. least_less x y (Each-at Known x xs k i) (Each-at Known y xs k j) h) s)
  stand_sent Cycle [] k s = tt
  stand_sent Cycle (x ∷ xs) k s = λ y i.
      let b = In-map_back (relabelled f) y xs i in
      subst (λ z. least_label (relabelled f x) ≤ least_label z) (sym b.2) (least_le x b.0 k.0 (Each-at Known b.0 xs k.1 b.1) (s b.0 b.1))
  stand_sent Multiset xs k s =
      Pairwise-map (λ x y. IsBefore x y → ⊥) (relabelled f) xs
      (Pairwise-into (λ x y. IsBefore x y → ⊥) (λ x y. IsBefore (relabelled f x) (relabelled f y) → ⊥) xs
      (λ x y i j h e. h (sym (order_sent f D rises x y (Each-at Known x xs k i) (Each-at Known y xs k j)) ∙ e)) s)
  stand_sent Powerset xs k s =
      Pairwise-map (λ x y. IsBefore y x) (relabelled f) xs
      (Pairwise-into (λ x y. IsBefore y x) (λ x y. IsBefore (relabelled f y) (relabelled f x)) xs
      (λ x y i j h. order_sent f D rises y x (Each-at Known y xs k j) (Each-at Known x xs k i) ∙ h) s)

  label_stays : (u : Universe) (w l : ℕ) → IsAmong D l → IsLabel u w l → IsLabel u w (sent f l)
  label_stays Unlabelled w l a e = ap (sent f) e
  label_stays Labelled w l a m = (λ e. sent_some l a (m.0 e), λ n. ap (sent f) (m.1 n))
    where
      sent_some : (l : ℕ) → IsAmong D l → 1 ≤ l → 1 ≤ sent f l
      sent_some zero a h = absurd (omega arith)
      sent_some (suc l) (inl e) h = absurd (omega (arith, e))
      sent_some (suc l) (inr i) h = rises.labels (suc l) i

  trees_known : (ts : Trees) → Each (IsAmong D) (all_labels_of ts) → Each Known (to_list ts)
  trees_known none m = tt
  trees_known (more t ts) m = (Each-left (IsAmong D) (labels_of t) (all_labels_of ts) m, trees_known ts (Each-right (IsAmong D) (labels_of t) (all_labels_of ts) m))

  module _ (p : Program) where
    mutual
      pub fits_sent : (t : Tree) (s : Shape) → Known t → Fits p s t → Fits p s (relabelled f t)
      fits_sent (Atom w l) (shape.Atom weight) k m = (m.0, label_stays p.universe w l (label_among f D rises l k) m.1)
      fits_sent (Inj zero t) (shape.Union parts) k m = absurd m
      fits_sent (Inj (suc i) t) (shape.Union parts) k m = (m.0, m.1, fits_sent t (shape_of p m.0.node) k m.2)
      fits_sent (Tup ts) (shape.Product parts) k m = all_sent ts parts k m
      fits_sent (Coll ts) (shape.Coll kind part low high) k m = (
        subst (IsWithin low high) (sym (ap length (list_sent f ts) ∙ length_map (relabelled f) (to_list ts))) m.0,
        each_sent ts part k m.1,
        subst (ComponentsStand kind) (sym (list_sent f ts)) (stand_sent kind (to_list ts) (trees_known ts k) m.2),
      )
      fits_sent t s k m = absurd m

      all_sent : (ts : Trees) (parts : List Part) → Each (IsAmong D) (all_labels_of ts) → FitAll p parts ts → FitAll p parts (all_relabelled f ts)
      all_sent none [] k m = tt
      all_sent none (part ∷ parts) k m = absurd m
      all_sent (more t ts) [] k m = absurd m
      all_sent (more t ts) (part ∷ parts) k m =
          (fits_sent t (shape_of p part.node) (Each-left (IsAmong D) (labels_of t) (all_labels_of ts) k) m.0, all_sent ts parts (Each-right (IsAmong D) (labels_of t) (all_labels_of ts) k) m.1)

      each_sent : (ts : Trees) (part : Part) → Each (IsAmong D) (all_labels_of ts) → FitEach p part ts → FitEach p part (all_relabelled f ts)
      each_sent none part k m = tt
      each_sent (more t ts) part k m =
          (fits_sent t (shape_of p part.node) (Each-left (IsAmong D) (labels_of t) (all_labels_of ts) k) m.0, each_sent ts part (Each-right (IsAmong D) (labels_of t) (all_labels_of ts) k) m.1)

    pub member_sent : (x : ℕ) (t : Tree) → Known t → Member p x t → Member p x (relabelled f t)
    member_sent x t k m = fits_sent t (shape_of p x) k m

-- charges look at no label
module _ (f : ℕ → ℕ) where
  parts_sent : (t : Tree) → map (relabelled f) (parts_of t) ≡ parts_of (relabelled f t)
  parts_sent (Atom w l) = refl
  parts_sent (Inj i t) = refl
  parts_sent (Tup ts) = sym (list_sent f ts)
  parts_sent (Coll ts) = refl

  bound_sent : (bind : Bind) (t : Tree) → map (relabelled f) (bound bind t) ≡ bound bind (relabelled f t)
  bound_sent Nothing t = refl
  bound_sent Whole t = refl
  bound_sent (Parts k) t = parts_sent t

  each_charges : (C D : Tree → ℕ → Type 0) → ((t : Tree) (q : ℕ) → C t q → D (relabelled f t) q) → (ts : Trees) (q : ℕ) → EachCharges C ts q → EachCharges D (all_relabelled f ts) q
  each_charges C D h none q c = c
  each_charges C D h (more t ts) q (a, b, x, y, e) = (a, b, h t a x, each_charges C D h ts b y, e)

  module _ (R S : ℕ → Tree → ℕ → Type 0) (sends : (g : ℕ) (t : Tree) (q : ℕ) → R g t q → S g (relabelled f t) q) where
    mutual
      pub body_sent : (b : Body) (vars : List Tree) (q : ℕ) → BodyCharges R b vars q → BodyCharges S b (map (relabelled f) vars) q
      body_sent (Does own is) vars q (r, c, e) = (r, items_sent is vars r c, e)

      items_sent : (is : Items) (vars : List Tree) (q : ℕ) → ItemsCharge R is vars q → ItemsCharge S is (map (relabelled f) vars) q
      items_sent no_items vars q c = c
      items_sent (item i is) vars q (a, b, x, y, e) = (a, b, item_sent i vars a x, items_sent is vars b y, e)

      item_sent : (i : Item) (vars : List Tree) (q : ℕ) → ItemCharges R i vars q → ItemCharges S i (map (relabelled f) vars) q
      item_sent (Call var callee site) vars q (t, g, c) = (relabelled f t, get_map (relabelled f) vars var t g, sends callee t q c)
      item_sent (Case var arms site) vars q (t, g, c) = (relabelled f t, get_map (relabelled f) vars var t g, case_sent arms t q c)
      item_sent (Forall var body body_site site) vars q (ts, g, c) = (
        all_relabelled f ts,
        get_map (relabelled f) vars var (Coll ts) g,
        each_charges (λ t. BodyCharges R body (t ∷ [])) (λ t. BodyCharges S body (t ∷ [])) (λ t a. body_sent body (t ∷ []) a) ts q c,
      )

      pub case_sent : (arms : Arms) (t : Tree) (q : ℕ) → CaseCharges R arms t q → CaseCharges S arms (relabelled f t) q
      case_sent (arm bind body arms) (Inj (suc zero) t) q c = subst (λ vs. BodyCharges S body vs q) (bound_sent bind t) (body_sent body (bound bind t) q c)
      case_sent (arm bind body arms) (Inj (suc (suc i)) t) q c = case_sent arms (Inj (suc i) t) q c
      case_sent (arm bind body no_arms) (Tup ts) q c = subst (λ vs. BodyCharges S body vs q) (bound_sent bind (Tup ts)) (body_sent body (bound bind (Tup ts)) q c)
      case_sent arms t q c = absurd c

  pub within_sent : (procs : List Procedure) (depth g : ℕ) (t : Tree) (q : ℕ) → ChargesWithin procs depth g t q → ChargesWithin procs depth g (relabelled f t) q
  within_sent procs zero g t q c = absurd c
  within_sent procs (suc depth) g t q (P, e, c) = (P, e, body_sent (ChargesWithin procs depth) (ChargesWithin procs depth) (within_sent procs depth) P.body (t ∷ []) q c)

  pub charges_sent : (p : Program) (g : ℕ) (t : Tree) (q : ℕ) → Charges p g t q → Charges p g (relabelled f t) q
  charges_sent p g t q (depth, c) = (depth, within_sent p.procs depth g t q c)

  work_sent : (p : Program) (work : Work) (t : Tree) (q : ℕ) → WorkCharges p work t q → WorkCharges p work (relabelled f t) q
  work_sent p (of_body body) t q c = body_sent (Charges p) (Charges p) (charges_sent p) body (t ∷ []) q c
  work_sent p (of_call callee) t q c = charges_sent p callee t q c
  work_sent p (of_case arms) t q c = case_sent (Charges p) (Charges p) (charges_sent p) arms t q c
  work_sent p (of_walk body) t q (ts, e, c) = (
    all_relabelled f ts,
    ap (relabelled f) e,
    each_charges (λ s. BodyCharges (Charges p) body (s ∷ [])) (λ s. BodyCharges (Charges p) body (s ∷ [])) (λ s a. body_sent (Charges p) (Charges p) (charges_sent p) body (s ∷ []) a) ts q c,
  )

  pub site_sent : (p : Program) (i : ℕ) (t : Tree) (q : ℕ) → SiteCharges p i t q → SiteCharges p i (relabelled f t) q
  site_sent p i t q (work, h, c) = (work, h, work_sent p work t q c)
