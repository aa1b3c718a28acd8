-- From one call to the next, over planes.
use Rattle.std.proofs.Common.{◌≡◌, ℕ, zero, suc, ◌+◌, ◌*◌, ◌-◌, ◌≤◌, ◌<◌, ◌⊎◌, ⊎_elim, List, [], ◌∷◌, ◌++◌, Option, Some, None, length, set, take, replicate, slice_index, nat_lt, if◌then◌else◌, refl, sym, ◌∙◌, ap, subst, arith}
use Rattle.std.specs.Prelude.{IfSome}
use Rattle.std.proofs.lemmas.List.{length-replicate, length-set, get_or-take, length-take, get_or-set_same, get_or-set_other}
use Rattle.std.proofs.lemmas.Bool.Decides.{nat_tests}
use Rattle.luo_num.specs.Mark.{capped}
use Rattle.luo_num.specs.declared.TheConstants.{MAX}
use Rattle.luo_num.specs.declared.limits.TheConstants.{SIZE_LIMIT}
use Rattle.luo_model.specs.declared.program.Universe.TheVariants.{Unlabelled}
use Rattle.luo_model.specs.declared.program.Kind.{Kind}
use Rattle.luo_model.specs.declared.program.Kind.TheVariants.{Sequence, Set, Cycle, Multiset, Powerset}
use Rattle.luo_model.specs.Numbered.{IsCollectionCount}
use Rattle.luo_counting.specs.Items.{Suits}
use Rattle.luo_counting.specs.Numbers.{plane, coll_count}
use Rattle.luo_counting.proofs.Numbered.{coll_count-needed, collections_counted}
use Rattle.luo_unlabelled.specs.Calls.{Calls, IsOfParts, up_to, numbers, ahead_of, IsAheadCounted}
use Rattle.luo_unlabelled.specs.inner.Planes.{with_size, count_put, AreWays, HoldsPlane, IsPut, alone, top_count, sum_from, last_of, IsParts}
use Rattle.luo_unlabelled.proofs.PartNumbers.{plane-same, count_step, count_ahead, top, number_by_planes}
use Rattle.luo_unlabelled.proofs.CallLemmas.{number_kept, number_below}
use Rattle.luo_unlabelled.proofs.PlaneLemmas.{place_in}

pub suits_parts : (kind : Kind) (low : ℕ) → IsOfParts kind → Suits Unlabelled kind low
suits_parts Multiset low h = tt
suits_parts Powerset low h = tt
suits_parts Sequence low h = absurd h
suits_parts Set low h = absurd h
suits_parts Cycle low h = absurd h

-- a plane with a size put in
pub put_holds : (kind : Kind) (a : ℕ → ℕ) (ways old new now : List ℕ) (deep deep' wide wide' d e : ℕ) → e ≡ suc d → wide' ≡ wide → deep' ≡ deep → now ≡ new → IsPut (count_put ways wide' e) wide' 0 deep' old new → AreWays kind (a e) e wide ways → HoldsPlane deep wide (plane kind a d) old → HoldsPlane deep wide (plane kind a e) now
put_holds kind a ways old new now deep deep' wide wide' d e ee ew ed en p w h = λ k m hk hm.
    ap (λ (l : List ℕ). slice_index l (k * wide + m)) en ∙ ap (λ x. slice_index new (k * x + m)) (sym ew) ∙ p.done k m (omega arith) (omega (arith, hk, ed)) (omega (arith, hm, ew))
    ∙ ap (λ x. capped (with_size ways old x e k m)) ew ∙ ap (λ x. capped (with_size ways old wide x k m)) ee
    ∙ count_step kind a ways old deep wide d k m hk hm (subst (λ x. AreWays kind (a x) x wide ways) ee w) h ∙ ap (λ x. capped (plane kind a x k m)) (sym ee)

pub kept_holds : (kind : Kind) (a : ℕ → ℕ) (old now : List ℕ) (deep wide d e : ℕ) → d ≡ e → now ≡ old → HoldsPlane deep wide (plane kind a d) old → HoldsPlane deep wide (plane kind a e) now
kept_holds kind a old now deep wide d e q en h = λ k m hk hm. ap (λ (l : List ℕ). slice_index l (k * wide + m)) en ∙ h k m hk hm ∙ ap (λ x. capped (plane kind a x k m)) q

pub last_below : (high : Option ℕ) (n n_max : ℕ) → n ≤ n_max → last_of high n < last_of high n_max + 1
last_below (Some h) n n_max l = omega arith
last_below None n n_max l = omega arith

top_small : (ways cells : List ℕ) (wide n here k : ℕ) → n < 2 → top_count ways cells wide n here k ≡ slice_index cells (k * wide + n) + alone here k
top_small ways cells wide n here k h = ap (λ (x : ℕ). x + alone here k) (pick (slice_index cells (k * wide + n)) (with_size ways cells wide (n - 1) k n) n h)
  where
    pick : (x y n : ℕ) → n < 2 → (if nat_lt n 2 then x else y) ≡ x
    pick x y n h = grind (arith, nat_tests)

top_large : (ways cells : List ℕ) (wide n here k : ℕ) → 2 ≤ n → top_count ways cells wide n here k ≡ with_size ways cells wide (n - 1) k n + alone here k
top_large ways cells wide n here k h = ap (λ (x : ℕ). x + alone here k) (pick (slice_index cells (k * wide + n)) (with_size ways cells wide (n - 1) k n) n h)
  where
    pick : (x y n : ℕ) → 2 ≤ n → (if nat_lt n 2 then x else y) ≡ y
    pick x y n h = grind (arith, nat_tests)

lt_or : (n : ℕ) → (n < 2) ⊎ (2 ≤ n)
lt_or n = grind arith

-- a cell of the answer
top_cell : (kind : Kind) (a : ℕ → ℕ) (ways cells : List ℕ) (deep wide n k : ℕ) → a 0 ≡ 0 → k < deep → n < wide → (2 ≤ n → AreWays kind (a (n - 1)) (n - 1) wide ways) → HoldsPlane deep wide (plane kind a (n - 2)) cells
    → capped (top_count ways cells wide n (a n) k) ≡ capped (plane kind a n k n)
top_cell kind a ways cells deep wide n k z hk hn w h = ⊎_elim
    (λ l.
    let e = top_small ways cells wide n (a n) k l in
    let c : slice_index cells (k * wide + n) ≡ capped (plane kind a (n - 1) k n) = h k n hk hn ∙ ap (λ x. capped (plane kind a x k n)) (let q : n - 2 ≡ n - 1 = omega (arith, l) in q) in
    let t = top kind a n k z in
    ap capped e ∙ joined (slice_index cells (k * wide + n)) (plane kind a (n - 1) k n) (alone (a n) k) (plane kind a n k n) (ap capped c) t)
    (λ l.
    let e = top_large ways cells wide n (a n) k l in
    let q : n - 1 ≡ suc (n - 2) = omega (arith, l) in
    let c : capped (with_size ways cells wide (n - 1) k n) ≡ capped (plane kind a (n - 1) k n) =
    ap (λ x. capped (with_size ways cells wide x k n)) q ∙ count_step kind a ways cells deep wide (n - 2) k n hk hn (subst (λ x. AreWays kind (a x) x wide ways) q (w l)) h ∙ ap (λ x. capped (plane kind a x k n)) (sym q) in
    let t = top kind a n k z in
    ap capped e ∙ joined (with_size ways cells wide (n - 1) k n) (plane kind a (n - 1) k n) (alone (a n) k) (plane kind a n k n) (c ∙ (let i : capped (plane kind a (n - 1) k n) ≡ capped (capped (plane kind a (n - 1) k n)) = omega arith in i)) t)
    (lt_or n)
  where
    joined : (x y o t : ℕ) → capped x ≡ capped (capped y) → t ≡ y + o → capped (x + o) ≡ capped t
    joined x y o t e q = omega (arith, e, q)

-- the answer of a call
pub count_answer : (kind : Kind) (a : ℕ → ℕ) (ways cells : List ℕ) (deep wide wide' n low last here r : ℕ) (high : Option ℕ) → IsOfParts kind → wide' ≡ wide → last ≡ last_of high n → here ≡ a n → a 0 ≡ 0 → last_of high n < deep → n < wide
    → (2 ≤ n → AreWays kind (a (n - 1)) (n - 1) wide ways) → HoldsPlane deep wide (plane kind a (n - 2)) cells → r ≡ capped (sum_from low (last + 1) (top_count ways cells wide' n here)) → r ≡ capped (coll_count Unlabelled kind a low high n)
count_answer kind a ways cells deep wide wide' n low last here r high p ew el eh z hl hn w h e =
    e ∙ ap (λ x. capped (sum_from low (last + 1) (top_count ways cells x n here))) ew ∙ ap (λ x. capped (sum_from low (x + 1) (top_count ways cells wide n here))) el ∙ ap (λ x. capped (sum_from low (last_of high n + 1) (top_count ways cells wide n x))) eh
    ∙ number_by_planes kind a (top_count ways cells wide n (a n)) low high n p (λ k l. top_cell kind a ways cells deep wide n k z (omega (arith, l, hl)) hn w h)

-- the first numbers that are kept stay
pub kept_first : (old new below : List ℕ) (here d x : ℕ) → ((m : ℕ) → suc m < length below → slice_index below m ≡ slice_index old m) → take (length below + 1) new ≡ below ++ here ∷ [] → slice_index old 0 ≡ 0 → slice_index new 0 ≡ 0 → d ≡ length below - 3 → x ≤ d → slice_index old x ≡ slice_index new x
kept_first old new below here d zero f e z y q l = z ∙ sym y
kept_first old new below here d (suc x) f e z y q l =
    sym (number_kept new below here (suc x) e (omega (arith, q, l)) ∙ number_below below here (suc x) (omega (arith, q, l)) ∙ f (suc x) (omega (arith, q, l)))

pub plane_next : (kind : Kind) (old new below cells : List ℕ) (here deep wide : ℕ) → ((m : ℕ) → suc m < length below → slice_index below m ≡ slice_index old m) → take (length below + 1) new ≡ below ++ here ∷ [] → slice_index old 0 ≡ 0 → slice_index new 0 ≡ 0
    → HoldsPlane deep wide (plane kind (slice_index old) (length below - 3)) cells → HoldsPlane deep wide (plane kind (slice_index new) (length below - 3)) cells
plane_next kind old new below cells here deep wide f e z y h = λ k m hk hm.
    h k m hk hm ∙ ap capped (plane-same kind (slice_index old) (slice_index new) (length below - 3) k m (λ i l. kept_first old new below here (length below - 3) i f e z y refl l))

pub parts_given : (kind : Kind) (low : ℕ) (high : Option ℕ) (new below : List ℕ) (here : ℕ) → IsOfParts kind → take (length below + 1) new ≡ below ++ here ∷ [] → slice_index new 0 ≡ 0
    → coll_count Unlabelled kind (slice_index new) low high (length below) ≡ coll_count Unlabelled kind (numbers below here) low high (length below)
parts_given kind low high new below here p e z =
    coll_count-needed Unlabelled kind low high (slice_index new) (numbers below here) (length below) (suits_parts kind low p) z (sym (number_kept new below here 0 e (omega arith)) ∙ z)
    (λ x q. number_kept new below here x e (omega (arith, q))) (λ w. number_kept new below here (length below) e (omega arith))

row_within : (high : Option ℕ) (k n_max : ℕ) → k ≤ n_max → IfSome high (λ h. k ≤ h) → k < last_of high n_max + 1
row_within (Some h) k n_max l b = omega (arith, l, b)
row_within None k n_max l b = omega (arith, l)

-- what a cell says of the numbers given
pub ahead_cell : (t : Calls) (kind : Kind) (low n_max calls : ℕ) (high : Option ℕ) (comp ways cells : List ℕ) (wide k m : ℕ) → IsParts kind low high n_max calls comp ways cells → kind ≡ t.kind → high ≡ t.high → n_max ≡ t.n_max → take calls comp ≡ t.given
    → 1 ≤ length t.given → m ≤ t.n_max → k ≤ t.n_max → IfSome t.high (λ h. k ≤ h) → wide ≡ n_max + 1 → slice_index cells (k * wide + m) ≡ capped (ahead_of t k m)
ahead_cell t kind low n_max calls high comp ways cells wide k m p ek eh en eg one hm hk hb ew =
    let l : length t.given ≡ calls = omega (arith, sym (ap length eg) ∙ length-take calls comp, p.reached, p.sizes) in
    ap (λ x. slice_index cells (k * x + m)) ew ∙ p.holds k m (row_within high k n_max (omega (arith, hk, en)) (subst (λ (o : Option ℕ). IfSome o (λ h. k ≤ h)) (sym eh) hb)) (omega (arith, hm, en))
    ∙ ap capped (plane-same kind (slice_index comp) (slice_index t.given) (calls - 3) k m (λ i b. sym (get_or-take calls comp i 0 (omega (arith, b, l, one))) ∙ ap (λ (g : List ℕ). slice_index g i) eg))
    ∙ ap (λ x. capped (plane kind (slice_index t.given) x k m)) (let q : calls - 3 ≡ length t.given - 3 = omega (arith, l) in q) ∙ ap (λ (x : Kind). capped (plane x (slice_index t.given) (length t.given - 3) k m)) ek

first_none : (calls : ℕ) (comp given : List ℕ) → take calls comp ≡ given → slice_index comp 0 ≡ 0 → slice_index given 0 ≡ 0
first_none zero comp given e z = sym (ap (λ (g : List ℕ). slice_index g 0) e)
first_none (suc n) comp given e z = sym (ap (λ (g : List ℕ). slice_index g 0) e) ∙ get_or-take (suc n) comp 0 0 (omega arith) ∙ z

cut_first : (d : ℕ) (a : ℕ → ℕ) → a 0 ≡ 0 → up_to d a 0 ≡ 0
cut_first d a z = grind (arith, nat_tests)

pub ahead_counted : (t : Calls) (calls k m : ℕ) (comp : List ℕ) → IsOfParts t.kind → take calls comp ≡ t.given → slice_index comp 0 ≡ 0 → IsAheadCounted t k m
ahead_counted t calls k m comp p e z =
    subst (λ (c : ℕ). IsCollectionCount Unlabelled t.kind k (Some k) (up_to (length t.given - 3) (slice_index t.given)) m c) (count_ahead t.kind (slice_index t.given) (length t.given - 3) k m p)
    (collections_counted Unlabelled t.kind k (Some k) (up_to (length t.given - 3) (slice_index t.given)) m (suits_parts t.kind k p) (cut_first (length t.given - 3) (slice_index t.given) (first_none calls comp t.given e z)))

-- before the first call the plane has the empty collection alone
pub nothing_at : (n i : ℕ) → slice_index (replicate n 0) i ≡ 0
nothing_at zero i = refl
nothing_at (suc n) zero = refl
nothing_at (suc n) (suc i) = nothing_at n i

pub empty_plane : (kind : Kind) (a : ℕ → ℕ) (cells : List ℕ) (deep wide n : ℕ) → cells ≡ replicate n 0 → 1 ≤ n → HoldsPlane deep wide (plane kind a 0) (set cells 0 1)
empty_plane kind a cells deep wide n e h zero zero hk hm = ap (slice_index (set cells 0 1)) (let q : 0 * wide + 0 ≡ 0 = omega arith in q) ∙ get_or-set_same cells 0 1 0 (omega (arith, h, ap length e ∙ long n)) ∙ (let q : 1 ≡ capped 1 = omega arith in q)
  where
    long : (n : ℕ) → length (replicate {A = ℕ} n 0) ≡ n
    long n = length-replicate n 0
empty_plane kind a cells deep wide n e h zero (suc m) hk hm =
    get_or-set_other cells 0 (0 * wide + suc m) 1 0 (λ q. omega (arith, q)) ∙ ap (λ (l : List ℕ). slice_index l (0 * wide + suc m)) e ∙ nothing_at n (0 * wide + suc m) ∙ (let q : 0 ≡ capped 0 = omega arith in q)
empty_plane kind a cells deep wide n e h (suc k) m hk hm =
    get_or-set_other cells 0 (suc k * wide + m) 1 0 (λ q. behind k wide m (omega (arith, hm)) q) ∙ ap (λ (l : List ℕ). slice_index l (suc k * wide + m)) e ∙ nothing_at n (suc k * wide + m) ∙ (let q : 0 ≡ capped 0 = omega arith in q)
  where
    behind : (k wide m : ℕ) → 1 ≤ wide → suc k * wide + m ≡ 0 → ⊥
    behind k zero m h q = omega (arith, h)
    behind k (suc w) m h q = grind (arith, q)

pub known_answer : (r v n : ℕ) → r ≡ v → v ≡ capped n → r ≤ MAX → (n ≤ MAX) × (r ≡ n)
known_answer r v n e q h = (omega (arith, e, q, h), omega (arith, e, q, h))

pub unknown_answer : (r v n : ℕ) → r ≡ v → v ≡ capped n → MAX < r → n ≤ MAX → ⊥
unknown_answer r v n e q h l = omega (arith, e, q, h, l)

pub one_at : (x y : ℕ) → 1 ≤ x → 1 ≤ y → 1 ≤ x * y
one_at x y h l = grind arith

pub plane_long : (x y deep wide : ℕ) → x ≡ deep → y ≡ wide → length (set (replicate {A = ℕ} (x * y) 0) 0 1) ≡ deep * wide
plane_long x y deep wide e f = length-set (replicate {A = ℕ} (x * y) 0) 0 1 ∙ length-replicate (x * y) 0 ∙ ap (λ i. i * y) e ∙ ap (λ i. deep * i) f

pub nothing_from : (l : List ℕ) (n : ℕ) → l ≡ replicate n 0 → slice_index l 0 ≡ 0
nothing_from l n e = ap (λ (l : List ℕ). slice_index l 0) e ∙ nothing_at n 0

-- the place of a cell that is asked for
pub ahead_place : (t : Calls) (kind : Kind) (low n_max calls : ℕ) (high : Option ℕ) (comp ways cells row : List ℕ) (wide k m : ℕ) → IsParts kind low high n_max calls comp ways cells → high ≡ t.high → n_max ≡ t.n_max
    → m ≤ t.n_max → k ≤ t.n_max → IfSome t.high (λ h. k ≤ h) → wide ≡ n_max + 1 → row ≡ cells → k * wide + m < length row
ahead_place t kind low n_max calls high comp ways cells row wide k m p eh en hm hk hb ew er =
    let r : k < last_of high n_max + 1 = row_within high k n_max (omega (arith, hk, en)) (subst (λ (o : Option ℕ). IfSome o (λ h. k ≤ h)) (sym eh) hb) in
    place_in (last_of high n_max) k m wide (length row) (omega (arith, ap length er, p.rows, ap (λ x. (last_of high n_max + 1) * x) ew)) (omega (arith, r)) (omega (arith, hm, en, ew))

pub deep_small : (high : Option ℕ) (n_max : ℕ) → n_max ≤ SIZE_LIMIT → last_of high n_max + 1 ≤ SIZE_LIMIT + 1
deep_small (Some h) n_max l = omega (arith, l)
deep_small None n_max l = omega (arith, l)
