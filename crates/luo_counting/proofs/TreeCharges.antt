-- Totals of a body, a call, a case and a walk, from totals of their parts. What is charged is given as a function on the members.
use Rattle.std.proofs.Common.{◌≡◌, ℕ, zero, suc, ◌+◌, ◌*◌, ◌≤◌, ◌<◌, List, [], ◌∷◌, length, refl, sym, ◌∙◌, ap, subst, arith, Option, Some, None, slice_get}
use Rattle.std.proofs.Math.Nat.{zero-mul}
use Rattle.luo_finite.specs.Listing.{In, Sums}
use Rattle.luo_finite.specs.Range.{sum_below}
use Rattle.luo_finite.proofs.Sums.{Sums-add, Sums-same, Sums-constant, Sums-unique}
use Rattle.luo_finite.proofs.Totals.{Totals-of}
use Rattle.luo_finite.specs.Each.{total}
use Rattle.luo_model.specs.declared.body.Bind.{Bind}
use Rattle.luo_model.specs.declared.body.Bind.TheVariants.{Parts}
use Rattle.luo_model.specs.declared.program.Kind.{Kind}
use Rattle.luo_model.specs.declared.program.Part.{Part}
use Rattle.luo_model.specs.Tree.{Tree, Trees, Atom, Inj, Tup, Coll, none, more, to_list, size_of}
use Rattle.luo_model.specs.Program.{Program, Body, Does, Items, no_items, item, Arms, no_arms, arm, shape_of, site_node}
use Rattle.luo_model.specs.Member.{Fits, FitAll, FitEach, Member, IsWithin}
use Rattle.luo_model.specs.Structures.{IsStructureOn, IsStructure, labels_from}
use Rattle.luo_model.specs.Charges.{bound, parts_of, EachCharges, BodyCharges, ItemsCharge, ItemCharges, CaseCharges, Charges, Work, of_call, of_case, of_walk, works_of, WorkCharges, SiteCharges}
use Rattle.luo_model.specs.Tables.{IsTotal}
use Rattle.luo_model.specs.Numbered.{IsCollectionTotal, NumberedCollection, charged}
use Rattle.luo_model.specs.declared.program.Shape.TheVariants as shape
use Rattle.luo_counting.specs.Sharing.{IsRoom, products}
use Rattle.luo_counting.specs.Items.{Suits}
use Rattle.luo_counting.specs.Numbers.{coll_total}
use Rattle.luo_counting.specs.Laws.{WalksAreTotalled}
use Rattle.luo_counting.specs.Counted.{SumsAt, CountsAt, AreLight, over_trees, over_components}
use Rattle.luo_counting.proofs.Numbered.{room_of, coll_total_is}
use Rattle.luo_counting.proofs.TreeCollections.{node_known}
use Rattle.luo_counting.proofs.TreeParts.{Factor, parts_in, sums_in, times, times_of, AreBelow, AreAt, SumsAt-union, SumsAt-product}

-- a site: where what is done there charges w s on each member s, the sum of w is the total
pub total_of_site : (p : Program) (i n t : ℕ) (work : Work) (w : Tree → ℕ) → In (i, work) (works_of p) → ((s : Tree) → Member p (site_node p i) s → WorkCharges p work s (w s)) → SumsAt p (site_node p i) w n t → IsTotal p i n t
total_of_site p i n t work w there charges s =
    Totals-of (IsStructure p (site_node p i) n) (SiteCharges p i) w t (λ z m. (work, there, charges z m.0)) (s (labels_from 1 n) (room_of p.universe n))

-- ---- bodies

-- the numbers of the items, in a scope
abbrev pub sum_in : List (List Tree → ℕ) → List Tree → ℕ
sum_in [] vars = 0
sum_in (w ∷ ws) vars = w vars + sum_in ws vars

-- each item charges its number
abbrev pub HaveCharges : Program → Items → List (List Tree → ℕ) → List Tree → Type 0
HaveCharges p no_items [] vars = Unit {0}
HaveCharges p (item i is) (w ∷ ws) vars = ItemCharges (Charges p) i vars (w vars) × HaveCharges p is ws vars
HaveCharges p _ _ vars = ⊥

items_charge : (p : Program) (is : Items) (ws : List (List Tree → ℕ)) (vars : List Tree) → HaveCharges p is ws vars → ItemsCharge (Charges p) is vars (sum_in ws vars)
items_charge p no_items [] vars h = refl
items_charge p no_items (w ∷ ws) vars h = absurd h
items_charge p (item i is) [] vars h = absurd h
items_charge p (item i is) (w ∷ ws) vars h = (w vars, sum_in ws vars, h.0, items_charge p is ws vars h.1, refl)

pub body_charges : (p : Program) (own : ℕ) (is : Items) (ws : List (List Tree → ℕ)) (vars : List Tree) → HaveCharges p is ws vars → BodyCharges (Charges p) (Does own is) vars (own + sum_in ws vars)
body_charges p own is ws vars h = (sum_in ws vars, items_charge p is ws vars h, refl)

-- over P, with a scope for each structure, each item's numbers sum to its total
abbrev pub HaveTotals : (Tree → Type 0) → (Tree → List Tree) → List (List Tree → ℕ) → List ℕ → Type 0
HaveTotals P scope [] [] = Unit {0}
HaveTotals P scope (w ∷ ws) (t ∷ ts) = Sums P (λ s. w (scope s)) t × HaveTotals P scope ws ts
HaveTotals P scope _ _ = ⊥

abbrev pub all_of : List ℕ → ℕ
all_of [] = 0
all_of (t ∷ ts) = t + all_of ts

pub items_total : (P : Tree → Type 0) (scope : Tree → List Tree) (c : ℕ) (ws : List (List Tree → ℕ)) (ts : List ℕ) → Sums P (λ s. 1) c → HaveTotals P scope ws ts → Sums P (λ s. sum_in ws (scope s)) (all_of ts)
items_total P scope c [] [] k h = subst (Sums P (λ s. 0)) (zero-mul c) (Sums-constant P 0 c k)
items_total P scope c [] (t ∷ ts) k h = absurd h
items_total P scope c (w ∷ ws) [] k h = absurd h
items_total P scope c (w ∷ ws) (t ∷ ts) k h = Sums-add P (λ s. w (scope s)) (λ s. sum_in ws (scope s)) t (all_of ts) h.0 (items_total P scope c ws ts k h.1)

-- THE LAW of bodies: its own once for each structure, and the totals of its items
pub body_total : (P : Tree → Type 0) (scope : Tree → List Tree) (own c : ℕ) (ws : List (List Tree → ℕ)) (ts : List ℕ) → Sums P (λ s. 1) c → HaveTotals P scope ws ts → Sums P (λ s. own + sum_in ws (scope s)) (own * c + all_of ts)
body_total P scope own c ws ts k h = Sums-add P (λ s. own) (λ s. sum_in ws (scope s)) (own * c) (all_of ts) (Sums-constant P own c k) (items_total P scope c ws ts k h)

-- ---- cases

-- the arm of a branch, from 0
abbrev pub arm_at : Arms → ℕ → Option (Bind × Body)
arm_at no_arms i = None
arm_at (arm bind body arms) zero = Some (bind, body)
arm_at (arm bind body arms) (suc i) = arm_at arms i

pub case_charges : (p : Program) (arms : Arms) (i : ℕ) (bind : Bind) (body : Body) (t : Tree) (q : ℕ) → arm_at arms i ≡ Some (bind, body) → BodyCharges (Charges p) body (bound bind t) q → CaseCharges (Charges p) arms (Inj (suc i) t) q
case_charges p no_arms i bind body t q e h = absurd (cc)
case_charges p (arm b d arms) zero bind body t q e h = subst (λ (z : Bind × Body). BodyCharges (Charges p) z.1 (bound z.0 t) q) (let k : (bind, body) ≡ (b, d) = cc in k) h
case_charges p (arm b d arms) (suc i) bind body t q e h = case_charges p arms i bind body t q e h

-- the number of what is inside, by the branch
abbrev pub on_branch : (ℕ → Tree → ℕ) → Tree → ℕ
on_branch w (Inj (suc b) s) = w b s
on_branch w _ = 0

-- THE LAW of a case on a union: the totals of what its arms do, each on its branch
pub case_total : (p : Program) (i n : ℕ) (arms : Arms) (parts : List Part) (w : ℕ → Tree → ℕ) (t : ℕ → ℕ) → In (i, of_case arms) (works_of p) → shape_of p (site_node p i) ≡ shape.Union parts
    → ((b : ℕ) (part : Part) → slice_get parts b ≡ Some part → (bind : Bind) × (body : Body) × (arm_at arms b ≡ Some (bind, body)) × ((s : Tree) → Member p part.node s → BodyCharges (Charges p) body (bound bind s) (w b s)) × SumsAt p part.node (w b) n (t b))
    → IsTotal p i n (sum_below t (length parts))
case_total p i n arms parts w t there is h =
    total_of_site p i n (sum_below t (length parts)) (of_case arms) (on_branch w) there (λ s m. charges s (subst (λ z. Fits p z s) is m)) (SumsAt-union p (site_node p i) parts is n (on_branch w) t (λ b part e. (h b part e).4))
  where
    charges : (s : Tree) → Fits p (shape.Union parts) s → CaseCharges (Charges p) arms s (on_branch w s)
    charges (Atom v l) m = absurd m
    charges (Inj zero s) m = absurd m
    charges (Inj (suc b) s) m = let k = h b m.0 m.1 in case_charges p arms b k.0 k.1 s (w b s) k.2 (k.3 s m.2)
    charges (Tup ts) m = absurd m
    charges (Coll ts) m = absurd m

-- ---- a part of a tuple

abbrev pub plain : (Part → ℕ → ℕ) → List Part → List Factor
plain c [] = []
plain c (part ∷ parts) = record { part = part; weight = λ t. 1; sums = c part } ∷ plain c parts

-- the factors, with the weight w and its sums b at one place
abbrev pub place : (Part → ℕ → ℕ) → ℕ → (Tree → ℕ) → (ℕ → ℕ) → List Part → List Factor
place c j w b [] = []
place c zero w b (part ∷ parts) = record { part = part; weight = w; sums = b } ∷ plain c parts
place c (suc j) w b (part ∷ parts) = record { part = part; weight = λ t. 1; sums = c part } ∷ place c j w b parts

pub plain_parts : (c : Part → ℕ → ℕ) (parts : List Part) → parts_in (plain c parts) ≡ parts
plain_parts c [] = refl
plain_parts c (part ∷ parts) = ap (λ l. part ∷ l) (plain_parts c parts)

pub place_parts : (c : Part → ℕ → ℕ) (j : ℕ) (w : Tree → ℕ) (b : ℕ → ℕ) (parts : List Part) → parts_in (place c j w b parts) ≡ parts
place_parts c zero w b [] = refl
place_parts c (suc j) w b [] = refl
place_parts c zero w b (part ∷ parts) = ap (λ l. part ∷ l) (plain_parts c parts)
place_parts c (suc j) w b (part ∷ parts) = ap (λ l. part ∷ l) (place_parts c j w b parts)

pub plain_times : (p : Program) (c : Part → ℕ → ℕ) (parts : List Part) (ts : Trees) → FitAll p parts ts → times (plain c parts) ts ≡ 1
plain_times p c [] none m = refl
plain_times p c [] (more t ts) m = absurd m
plain_times p c (part ∷ parts) none m = absurd m
plain_times p c (part ∷ parts) (more t ts) m = omega (arith, plain_times p c parts ts m.1)

-- the count of a product: all weights are 1
pub CountsAt-product : (p : Program) (x : ℕ) (parts : List Part) (n : ℕ) (c : Part → ℕ → ℕ) → AreLight p → shape_of p x ≡ shape.Product parts → AreBelow p (plain c parts) n → AreAt p (plain c parts) n → CountsAt p x n (products p.universe (sums_in (plain c parts)) n)
CountsAt-product p x parts n c light is below at L r =
    Sums-same (IsStructureOn p x L n) (times_of p (plain c parts)) (λ s. 1) (products p.universe (sums_in (plain c parts)) n) (λ s m. same s (subst (λ z. Fits p z s) is m.0))
    (SumsAt-product p x (plain c parts) (is ∙ ap shape.Product (sym (plain_parts c parts))) n light below at L r)
  where
    same : (s : Tree) → Fits p (shape.Product parts) s → times_of p (plain c parts) s ≡ 1
    same (Atom v l) m = absurd m
    same (Inj i t) m = absurd m
    same (Tup ts) m = plain_times p c parts ts m
    same (Coll ts) m = absurd m

pub place_times : (p : Program) (c : Part → ℕ → ℕ) (j : ℕ) (w : Tree → ℕ) (b : ℕ → ℕ) (parts : List Part) (ts : Trees) (t : Tree) → FitAll p parts ts → slice_get (to_list ts) j ≡ Some t → times (place c j w b parts) ts ≡ w t
place_times p c j w b [] none t m e = absurd (cc)
place_times p c j w b [] (more u ts) t m e = absurd m
place_times p c zero w b (part ∷ parts) none t m e = absurd m
place_times p c (suc j) w b (part ∷ parts) none t m e = absurd m
place_times p c zero w b (part ∷ parts) (more u ts) t m e = let q : u ≡ t = cc in ap (λ i. w u * i) (plain_times p c parts ts m.1) ∙ omega (arith, ap w q)
place_times p c (suc j) w b (part ∷ parts) (more u ts) t m e = omega (arith, place_times p c j w b parts ts t m.1 e)

-- the number of a part of a tuple, at a place
abbrev pub at_part : ℕ → (Tree → ℕ) → List Tree → ℕ
at_part j w [] = 0
at_part zero w (t ∷ ts) = w t
at_part (suc j) w (t ∷ ts) = at_part j w ts

pub at_part-is : (j : ℕ) (w : Tree → ℕ) (ts : List Tree) → j < length ts → (t : Tree) × (slice_get ts j ≡ Some t) × (at_part j w ts ≡ w t)
at_part-is j w [] h = absurd (omega arith)
at_part-is zero w (t ∷ ts) h = (t, refl, refl)
at_part-is (suc j) w (t ∷ ts) h = at_part-is j w ts (omega arith)

pub fit_long : (p : Program) (parts : List Part) (ts : Trees) → FitAll p parts ts → length (to_list ts) ≡ length parts
fit_long p [] none m = refl
fit_long p [] (more t ts) m = absurd m
fit_long p (part ∷ parts) none m = absurd m
fit_long p (part ∷ parts) (more t ts) m = omega (arith, fit_long p parts ts m.1)

-- THE LAW of a call on a part: the product, with the sums of the part in place of its numbers
pub SumsAt-part : (p : Program) (x : ℕ) (parts : List Part) (j n : ℕ) (w : Tree → ℕ) (b : ℕ → ℕ) (c : Part → ℕ → ℕ) → AreLight p → shape_of p x ≡ shape.Product parts → j < length parts
    → AreBelow p (place c j w b parts) n → AreAt p (place c j w b parts) n → SumsAt p x (λ s. at_part j w (parts_of s)) n (products p.universe (sums_in (place c j w b parts)) n)
SumsAt-part p x parts j n w b c light is inside below at L r =
    Sums-same (IsStructureOn p x L n) (times_of p (place c j w b parts)) (λ s. at_part j w (parts_of s)) (products p.universe (sums_in (place c j w b parts)) n) (λ s m. same s (subst (λ z. Fits p z s) is m.0))
    (SumsAt-product p x (place c j w b parts) (is ∙ ap shape.Product (sym (place_parts c j w b parts))) n light below at L r)
  where
    same : (s : Tree) → Fits p (shape.Product parts) s → times_of p (place c j w b parts) s ≡ at_part j w (parts_of s)
    same (Atom v l) m = absurd m
    same (Inj i t) m = absurd m
    same (Tup ts) m =
        let k = at_part-is j w (to_list ts) (omega (arith, fit_long p parts ts m, inside)) in
        place_times p c j w b parts ts k.0 m k.1 ∙ sym k.2
    same (Coll ts) m = absurd m

-- THE LAW of a case on a product, with its parts bound: the body's own, and the totals of its items, each on its parts
pub tuple_total : (p : Program) (i n c k own : ℕ) (is : Items) (parts : List Part) (ws : List (List Tree → ℕ)) (ts : List ℕ) → In (i, of_case (arm (Parts k) (Does own is) no_arms)) (works_of p) → shape_of p (site_node p i) ≡ shape.Product parts
    → ((us : Trees) → FitAll p parts us → HaveCharges p is ws (to_list us)) → CountsAt p (site_node p i) n c → ((L : List ℕ) → IsRoom p.universe L n → HaveTotals (IsStructureOn p (site_node p i) L n) parts_of ws ts)
    → IsTotal p i n (own * c + all_of ts)
tuple_total p i n c k own is parts ws ts there shape_is have count totals =
    total_of_site p i n (own * c + all_of ts) (of_case (arm (Parts k) (Does own is) no_arms)) (λ s. own + sum_in ws (parts_of s)) there (λ s m. charges s (subst (λ z. Fits p z s) shape_is m))
    (λ L r. body_total (IsStructureOn p (site_node p i) L n) parts_of own c ws ts (count L r) (totals L r))
  where
    charges : (s : Tree) → Fits p (shape.Product parts) s → CaseCharges (Charges p) (arm (Parts k) (Does own is) no_arms) s (own + sum_in ws (parts_of s))
    charges (Atom v l) m = absurd m
    charges (Inj b t) m = absurd m
    charges (Tup us) m = body_charges p own is ws (to_list us) (have us m)
    charges (Coll us) m = absurd m

-- ---- walks

pub each_charges : (p : Program) (part : Part) (C : Tree → ℕ → Type 0) (w : Tree → ℕ) (ts : Trees) → FitEach p part ts → ((t : Tree) → Member p part.node t → C t (w t)) → EachCharges C ts (over_trees w ts)
each_charges p part C w none m h = refl
each_charges p part C w (more t ts) m h = (w t, over_trees w ts, h t m.0, each_charges p part C w ts m.1 h, refl)

-- THE LAW of a walk: the total of the collections over the counts and the body's totals
pub walk_total : (p : Program) (i n : ℕ) (body : Body) (kind : Kind) (part : Part) (low : ℕ) (high : Option ℕ) (w : Tree → ℕ) (a b : ℕ → ℕ) → In (i, of_walk body) (works_of p) → shape_of p (site_node p i) ≡ shape.Coll kind part low high
    → AreLight p → Suits p.universe kind low → ((t : Tree) → Member p part.node t → size_of t ≡ 0 → ⊥) → ((t : Tree) → Member p part.node t → BodyCharges (Charges p) body (t ∷ []) (w t)) → a 0 ≡ 0 → b 0 ≡ 0
    → ((m : ℕ) → 1 ≤ m → m < n → CountsAt p part.node m (a m) × SumsAt p part.node w m (b m)) → (IsWithin low high 1 → CountsAt p part.node n (a n) × SumsAt p part.node w n (b n)) → IsTotal p i n (coll_total p.universe kind a b low high n)
walk_total p i n body kind part low high w a b there is light suits solid charges z y h o =
    total_of_site p i n (coll_total p.universe kind a b low high n) (of_walk body) (over_components w) there (λ s m. walks s (subst (λ z. Fits p z s) is m))
    (λ L r. (node_known p (site_node p i) kind part low high is light suits solid w a b n z y h o L r).total)
  where
    walks : (s : Tree) → Fits p (shape.Coll kind part low high) s → WorkCharges p (of_walk body) s (over_components w s)
    walks (Atom v l) m = absurd m
    walks (Inj j t) m = absurd m
    walks (Tup ts) m = absurd m
    walks (Coll ts) m = (ts, refl, each_charges p part (λ t. BodyCharges (Charges p) body (t ∷ [])) w ts m.1 charges)

-- FROM NUMBERS TO TREES: the total of a walk is that of the numbered collections over the charges of its body, for every choice of charges with the body's sums
pub walk_total_is : (p : Program) (i n t : ℕ) (body : Body) (kind : Kind) (part : Part) (low : ℕ) (high : Option ℕ) (w : Tree → ℕ) (a b : ℕ → ℕ) (q : ℕ → ℕ → ℕ) → In (i, of_walk body) (works_of p)
    → shape_of p (site_node p i) ≡ shape.Coll kind part low high → AreLight p → Suits p.universe kind low → ((t : Tree) → Member p part.node t → size_of t ≡ 0 → ⊥)
    → ((t : Tree) → Member p part.node t → BodyCharges (Charges p) body (t ∷ []) (w t)) → a 0 ≡ 0 → b 0 ≡ 0 → ((m : ℕ) → 1 ≤ m → m < n → CountsAt p part.node m (a m) × SumsAt p part.node w m (b m))
    → (IsWithin low high 1 → CountsAt p part.node n (a n) × SumsAt p part.node w n (b n)) → ((m : ℕ) → sum_below (q m) (a m) ≡ b m) → IsCollectionTotal p.universe kind low high a q n t → IsTotal p i n t
walk_total_is p i n t body kind part low high w a b q there is light suits solid charges z y h o e k =
    subst (IsTotal p i n)
    (Sums-unique (NumberedCollection p.universe kind low high a n) (charged q) (coll_total p.universe kind a b low high n) t (coll_total_is p.universe kind low high a b q n suits z e).1 k)
    (walk_total p i n body kind part low high w a b there is light suits solid charges z y h o)

-- ---- calls

-- a call charges on the variable what the procedure does: its total is that of the procedure's whole on the same node
pub call_total : (p : Program) (i n t callee : ℕ) (w : Tree → ℕ) → In (i, of_call callee) (works_of p) → ((s : Tree) → Member p (site_node p i) s → Charges p callee s (w s)) → SumsAt p (site_node p i) w n t → IsTotal p i n t
call_total p i n t callee w there charges s = total_of_site p i n t (of_call callee) w there charges s

pub walks_totalled : WalksAreTotalled
walks_totalled p i n t body kind part low high w a b q there node charges z y known e total =
    walk_total_is p i n t body kind part low high w a b q there node.is node.light node.suits node.solid charges z y known.0 known.1 e total
