-- From one call of a walk to the next, over planes.
use Rattle.std.proofs.Common.{◌≡◌, ℕ, zero, suc, ◌+◌, ◌*◌, ◌-◌, ◌≤◌, ◌<◌, List, Option, length, take, slice_index, sym, ◌∙◌, ap, arith}
use Rattle.std.proofs.lemmas.List.{get_or-take, length-take}
use Rattle.luo_num.specs.Mark.{capped}
use Rattle.luo_model.specs.declared.program.Kind.{Kind}
use Rattle.luo_counting.specs.Numbers.{chosen, plane, plane_totals}
use Rattle.luo_unlabelled.specs.Calls.{Calls, IsOfParts, numbers, total_of}
use Rattle.luo_unlabelled.specs.inner.Planes.{AreWays, HoldsPlane, last_of, sum_within, IsParts, IsPartsWalk}
use Rattle.luo_unlabelled.proofs.PartNumbers.{plane-same}
use Rattle.luo_unlabelled.proofs.PartTotals.{total_by_planes}
use Rattle.luo_unlabelled.proofs.CallLemmas.{number_below, number_here, given_at, starts, none_empty}

-- there were as many calls as numbers given
pub calls_by : (calls n_max n : ℕ) (kept given : List ℕ) → take calls kept ≡ given → length given ≡ suc n → calls ≤ n_max + 1 → length kept ≡ n_max + 1 → calls ≡ suc n
calls_by calls n_max n kept given e l r s = omega (arith, l, r, s, sym (ap length e) ∙ length-take calls kept)

-- the numbers below are those that are kept
pub below_at : (calls n x : ℕ) (kept given comp : List ℕ) → take calls kept ≡ given → length given ≡ suc n → comp ≡ take n given → x < n → slice_index kept x ≡ slice_index comp x
below_at calls n x kept given comp eg l ec h = given_at calls n x kept given eg l (omega (arith, h)) ∙ sym (ap (λ (g : List ℕ). slice_index g x) ec ∙ get_or-take n given x 0 h)

pub ways_serve : (kind kind' : Kind) (low n_max n_max' calls n : ℕ) (high : Option ℕ) (kept ways cells given comp row : List ℕ) → IsParts kind low high n_max calls kept ways cells → kind ≡ kind' → n_max ≡ n_max' → take calls kept ≡ given → length given ≡ suc n → comp ≡ take n given → row ≡ ways
    → 2 ≤ n → AreWays kind' (slice_index comp (n - 1)) (n - 1) (n_max' + 1) row
ways_serve kind kind' low n_max n_max' calls n high kept ways cells given comp row p ek en eg l ec er two j b =
    let c : calls ≡ suc n = calls_by calls n_max n kept given eg l p.reached p.sizes in
    let d : calls - 2 ≡ n - 1 = omega (arith, c) in
    ap (λ (g : List ℕ). slice_index g j) er ∙ p.known (omega (arith, c, two)) j (omega (arith, b, en, ap (λ x. j * x) d)) ∙ ap (λ x. capped (chosen kind (slice_index kept x) j)) d
    ∙ ap (λ x. capped (chosen kind x j)) (below_at calls n (n - 1) kept given comp eg l ec (omega (arith, two))) ∙ ap (λ (x : Kind). capped (chosen x (slice_index comp (n - 1)) j)) ek

pub plane_serves : (kind kind' : Kind) (low n_max n_max' calls n : ℕ) (high high' : Option ℕ) (kept ways cells given comp row : List ℕ) → IsParts kind low high n_max calls kept ways cells → kind ≡ kind' → high ≡ high' → n_max ≡ n_max' → take calls kept ≡ given → length given ≡ suc n → comp ≡ take n given → row ≡ cells
    → HoldsPlane (last_of high' n_max' + 1) (n_max' + 1) (plane kind' (slice_index comp) (n - 2)) row
plane_serves kind kind' low n_max n_max' calls n high high' kept ways cells given comp row p ek eh en eg l ec er k m hk hm =
    let c : calls ≡ suc n = calls_by calls n_max n kept given eg l p.reached p.sizes in
    let d : last_of high n_max ≡ last_of high' n_max' = ap (λ x. last_of high x) en ∙ ap (λ x. last_of x n_max') eh in
    ap (λ (g : List ℕ). slice_index g (k * (n_max' + 1) + m)) er ∙ ap (λ x. slice_index cells (k * (x + 1) + m)) (sym en) ∙ p.holds k m (omega (arith, hk, d)) (omega (arith, hm, en))
    ∙ ap (λ x. capped (plane kind (slice_index kept) x k m)) (let q : calls - 3 ≡ n - 2 = omega (arith, c) in q) ∙ ap capped (plane-same kind (slice_index kept) (slice_index comp) (n - 2) k m each)
    ∙ ap (λ (x : Kind). capped (plane x (slice_index comp) (n - 2) k m)) ek
  where
    each : (i : ℕ) → i ≤ n - 2 → slice_index kept i ≡ slice_index comp i
    each zero b = p.none_empty ∙ sym (starts n kept given comp calls p.none_empty eg l ec)
    each (suc i) b = below_at calls n (suc i) kept given comp eg l ec (omega (arith, b))

-- the sum within the bounds is that of the call's numbers
pub walk_total : (t : Calls) (kind : Kind) (low : ℕ) (high : Option ℕ) (comp body : List ℕ) (here v : ℕ) → IsOfParts t.kind → kind ≡ t.kind → low ≡ t.low → high ≡ t.high → length t.given ≡ suc (length body) → comp ≡ take (length body) t.given → slice_index t.given 0 ≡ 0 → slice_index comp 0 ≡ 0
    → slice_index body 0 ≡ 0 → (length body ≡ 0 → here ≡ 0) → ((m : ℕ) → slice_index t.given m ≡ 0 → numbers body here m ≡ 0) → v ≡ capped (sum_within low high kind (slice_index comp) (slice_index body) here (length body)) → v ≡ capped (total_of t body here)
walk_total t kind low high comp body here v p ek el eh l ec z y u o idle e =
    e ∙ ap (λ (x : Kind). capped (sum_within low high x (slice_index comp) (slice_index body) here (length body))) ek ∙ ap (λ x. capped (sum_within x high t.kind (slice_index comp) (slice_index body) here (length body))) el ∙ ap (λ x. capped (sum_within t.low x t.kind (slice_index comp) (slice_index body) here (length body))) eh
    ∙ ap capped (total_by_planes t.kind (slice_index comp) (slice_index body) (slice_index t.given) (numbers body here) t.low t.high (length body) here p (none_empty body here u o) (idle (length body)) (sym (number_here body here)) first second)
  where
    first : (i : ℕ) → i ≤ length body - 1 → slice_index comp i ≡ slice_index t.given i
    first zero b = y ∙ sym z
    first (suc i) b = ap (λ (g : List ℕ). slice_index g (suc i)) ec ∙ get_or-take (length body) t.given (suc i) 0 (omega (arith, b))

    second : (i : ℕ) → i ≤ length body - 1 → slice_index body i ≡ numbers body here i
    second zero b = u ∙ sym (none_empty body here u o)
    second (suc i) b = sym (number_below body here (suc i) (omega (arith, b)))

-- the table after a call
pub next_walk : (kind : Kind) (low : ℕ) (high : Option ℕ) (n_max calls n : ℕ) (comp body charges cells kept sums news put ncomp nbody ncharges ncells : List ℕ) → IsPartsWalk kind low high n_max calls comp body charges cells → calls ≡ n → n ≤ n_max
    → ncomp ≡ kept → nbody ≡ sums → ncharges ≡ news → ncells ≡ put → length kept ≡ length comp → length sums ≡ length body → length news ≡ length charges → length put ≡ length cells → slice_index kept 0 ≡ 0 → slice_index sums 0 ≡ 0
    → HoldsPlane (last_of high n_max + 1) (n_max + 1) (plane_totals kind (slice_index kept) (slice_index sums) (n + 1 - 2)) put → IsPartsWalk kind low high n_max (calls + 1) ncomp nbody ncharges ncells
next_walk kind low high n_max calls n comp body charges cells kept sums news put ncomp nbody ncharges ncells w ec r e f g h a b c d z y t = record {
  parts = w.parts;
  bounds = w.bounds;
  reached = omega (arith, ec, r);
  sizes = ap length e ∙ a ∙ w.sizes;
  sums = ap length f ∙ b ∙ w.sums;
  charges_long = ap length g ∙ c ∙ w.charges_long;
  rows = ap length h ∙ d ∙ w.rows;
  none_empty = ap (λ (l : List ℕ). slice_index l 0) e ∙ z;
  none_charged = ap (λ (l : List ℕ). slice_index l 0) f ∙ y;
  holds = λ k m hk hm. ap (λ (l : List ℕ). slice_index l (k * (n_max + 1) + m)) h ∙ t k m hk hm
      ∙ ap (λ (l : List ℕ). capped (plane_totals kind (slice_index l) (slice_index sums) (n + 1 - 2) k m)) (sym e) ∙ ap (λ (l : List ℕ). capped (plane_totals kind (slice_index ncomp) (slice_index l) (n + 1 - 2) k m)) (sym f)
      ∙ ap (λ x. capped (plane_totals kind (slice_index ncomp) (slice_index nbody) x k m)) (let q : n + 1 - 2 ≡ calls + 1 - 2 = omega (arith, ec) in q);
}
