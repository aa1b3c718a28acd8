-- Sums of weights, by the toolkit of sums of numbers, slot by slot.
use Rattle.std.proofs.Common.{◌≡◌, ℕ, ◌+◌, ◌*◌, ◌<◌, List, [], ◌∷◌, ◌⊎◌, inl, inr, refl, sym, ◌∙◌, ap, subst, arith}
use Rattle.std.proofs.Math.Nat.{mul-zero, zero-mul}
use Rattle.luo_finite.specs.Listing.{In, Sums}
use Rattle.luo_finite.specs.Range.{below, sum_below}
use Rattle.luo_finite.proofs.Sums.{Sums-iff, Sums-none, Sums-one, Sums-either, Sums-map, Sums-add, Sums-same, Sums-times}
use Rattle.luo_finite.proofs.Products.{Sums-pairs}
use Rattle.luo_finite.proofs.Ranges.{Sums-over_below}
use Rattle.luo_finite.specs.Each.{total}
use Rattle.luo_counting.specs.Weights.{Algebra, times, Measured}

abbrev pub nought : {I : Type 0} → I → ℕ
nought k = 0

pub Measured-iff : (K : Algebra) {A : Type 0} (P Q : A → Type 0) (W : A → K.Slot → ℕ) (r : K.Slot → ℕ) → ((x : A) → P x → Q x) → ((x : A) → Q x → P x) → Measured K P W r → Measured K Q W r
Measured-iff K P Q W r there back m = λ k. Sums-iff P Q (λ x. W x k) (r k) there back (m k)

pub Measured-at : (K : Algebra) {A : Type 0} (P : A → Type 0) (W : A → K.Slot → ℕ) (r q : K.Slot → ℕ) → ((k : K.Slot) → r k ≡ q k) → Measured K P W r → Measured K P W q
Measured-at K P W r q e m = λ k. subst (Sums P (λ x. W x k)) (e k) (m k)

pub Measured-none : (K : Algebra) {A : Type 0} (P : A → Type 0) (W : A → K.Slot → ℕ) (r : K.Slot → ℕ) → ((k : K.Slot) → r k ≡ 0) → ((x : A) → P x → ⊥) → Measured K P W r
Measured-none K P W r z h = λ k. subst (Sums P (λ x. W x k)) (sym (z k)) (Sums-none P (λ x. W x k) h)

pub Measured-one : (K : Algebra) {A : Type 0} (P : A → Type 0) (W : A → K.Slot → ℕ) (a : A) → P a → ((x : A) → P x → x ≡ a) → Measured K P W (W a)
Measured-one K P W a p h = λ k. Sums-one P (λ x. W x k) a p h

pub Measured-either : (K : Algebra) {A : Type 0} (P Q : A → Type 0) (W : A → K.Slot → ℕ) (r q : K.Slot → ℕ) → ((x : A) → P x → Q x → ⊥) → Measured K P W r → Measured K Q W q → Measured K (λ x. P x ⊎ Q x) W (λ k. r k + q k)
Measured-either K P Q W r q apart m n = λ k. Sums-either P Q (λ x. W x k) (r k) (q k) apart (m k) (n k)

pub Measured-map : (K : Algebra) {A B : Type 0} (P : A → Type 0) (f : A → B) (W : B → K.Slot → ℕ) (r : K.Slot → ℕ) → ((x y : A) → P x → P y → f x ≡ f y → x ≡ y) → Measured K P (λ x. W (f x)) r → Measured K (λ y. (x : A) × P x × (y ≡ f x)) W r
Measured-map K P f W r one m = λ k. Sums-map P f (λ y. W y k) (r k) one (m k)

pub Measured-over_below : (K : Algebra) {A : Type 0} (Q : ℕ → A → Type 0) (W : A → K.Slot → ℕ) (r : ℕ → K.Slot → ℕ) (n : ℕ) → ((i j : ℕ) (x : A) → Q i x → Q j x → i ≡ j) → ((i : ℕ) → i < n → Measured K (Q i) W (r i))
    → Measured K (λ x. (i : ℕ) × In i (below n) × Q i x) W (λ k. sum_below (λ i. r i k) n)
Measured-over_below K Q W r n one m = λ k. Sums-over_below Q (λ x. W x k) (λ i. r i k) n one (λ i h. m i h k)

pub Measured-same : (K : Algebra) {A : Type 0} (P : A → Type 0) (V W : A → K.Slot → ℕ) (r : K.Slot → ℕ) → ((x : A) → P x → (k : K.Slot) → V x k ≡ W x k) → Measured K P V r → Measured K P W r
Measured-same K P V W r e m = λ k. Sums-same P (λ x. V x k) (λ x. W x k) (r k) (λ x p. e x p k) (m k)

-- sums of 0
Sums-nought : {A : Type 0} (P : A → Type 0) (f : A → ℕ) (s : ℕ) → Sums P f s → Sums P (λ x. 0) 0
Sums-nought P f s m = subst (Sums P (λ x. 0)) (zero-mul s) (Sums-same P (λ x. 0 * f x) (λ x. 0) (0 * s) (λ x p. zero-mul (f x)) (Sums-times P f 0 s m))

-- the sum of the products is the product of the sums
pub Measured-pairs : (K : Algebra) {A B : Type 0} (P : A → Type 0) (R : B → Type 0) (W : A → K.Slot → ℕ) (V : B → K.Slot → ℕ) (a c : K.Slot → ℕ) → Measured K P W a → Measured K R V c
    → Measured K (λ (z : A × B). P z.0 × R z.1) (λ z. times K.table (W z.0) (V z.1)) (times K.table a c)
Measured-pairs K {A} {B} P R W V a c m n = λ k. along k (K.table k)
  where
    along : (k : K.Slot) (ts : List (K.Slot × K.Slot)) → Sums (λ (z : A × B). P z.0 × R z.1) (λ z. total (λ q. W z.0 q.0 * V z.1 q.1) ts) (total (λ q. a q.0 * c q.1) ts)
    along k [] = Sums-nought (λ (z : A × B). P z.0 × R z.1) (λ z. W z.0 k * V z.1 k) (a k * c k) (Sums-pairs P R (λ x. W x k) (λ y. V y k) (a k) (c k) (m k) (n k))
    along k (q ∷ ts) = Sums-add (λ (z : A × B). P z.0 × R z.1) (λ z. W z.0 q.0 * V z.1 q.1) (λ z. total (λ q. W z.0 q.0 * V z.1 q.1) ts) (a q.0 * c q.1) (total (λ q. a q.0 * c q.1) ts)
        (Sums-pairs P R (λ x. W x q.0) (λ y. V y q.1) (a q.0) (c q.1) (m q.0) (n q.1)) (along k ts)

-- a weight more in front
pub Measured-later : (K : Algebra) {A : Type 0} (P : A → Type 0) (v : K.Slot → ℕ) (W : A → K.Slot → ℕ) (r : K.Slot → ℕ) → Measured K P W r → Measured K P (λ x. times K.table v (W x)) (times K.table v r)
Measured-later K P v W r m = λ k. along k (K.table k)
  where
    along : (k : K.Slot) (ts : List (K.Slot × K.Slot)) → Sums P (λ x. total (λ q. v q.0 * W x q.1) ts) (total (λ q. v q.0 * r q.1) ts)
    along k [] = Sums-nought P (λ x. W x k) (r k) (m k)
    along k (q ∷ ts) = Sums-add P (λ x. v q.0 * W x q.1) (λ x. total (λ q. v q.0 * W x q.1) ts) (v q.0 * r q.1) (total (λ q. v q.0 * r q.1) ts) (Sums-times P (λ x. W x q.1) (v q.0) (r q.1) (m q.1)) (along k ts)

pub times-zero_left : {I : Type 0} (table : I → List (I × I)) (x y : I → ℕ) → ((k : I) → x k ≡ 0) → (k : I) → times table x y k ≡ 0
times-zero_left {I} table x y z k = along (table k)
  where
    along : (ts : List (I × I)) → total (λ q. x q.0 * y q.1) ts ≡ 0
    along [] = refl
    along (q ∷ ts) = omega (arith, along ts, ap (λ m. m * y q.1) (z q.0), zero-mul (y q.1))

pub times-zero_right : {I : Type 0} (table : I → List (I × I)) (x y : I → ℕ) → ((k : I) → y k ≡ 0) → (k : I) → times table x y k ≡ 0
times-zero_right {I} table x y z k = along (table k)
  where
    along : (ts : List (I × I)) → total (λ q. x q.0 * y q.1) ts ≡ 0
    along [] = refl
    along (q ∷ ts) = omega (arith, along ts, ap (λ m. x q.0 * m) (z q.1), mul-zero (x q.0))

pub times-same : {I : Type 0} (table : I → List (I × I)) (x v y w : I → ℕ) → ((k : I) → x k ≡ v k) → ((k : I) → y k ≡ w k) → (k : I) → times table x y k ≡ times table v w k
times-same table x v y w e f k = ap (λ m. times table m y k) (λ i j. e j i) ∙ ap (λ m. times table v m k) (λ i j. f j i)

-- there is none, and the numbers say so
pub record Nil (K : Algebra) {A : Type 0} (P : A → Type 0) (r : K.Slot → ℕ) : Type 0 where
  pub none : (x : A) → P x → ⊥
  pub no_number : (k : K.Slot) → r k ≡ 0

pub Nil-measured : (K : Algebra) {A : Type 0} (P : A → Type 0) (W : A → K.Slot → ℕ) (r : K.Slot → ℕ) → Nil K P r → Measured K P W r
Nil-measured K P W r n = Measured-none K P W r n.no_number n.none

-- pairs, where each of the two is known unless there is none of the other
pub Measured-needed : (K : Algebra) {A B : Type 0} (P : A → Type 0) (R : B → Type 0) (W : A → K.Slot → ℕ) (V : B → K.Slot → ℕ) (a c : K.Slot → ℕ) → Measured K P W a ⊎ Nil K R c → Measured K R V c ⊎ Nil K P a
    → Measured K (λ (z : A × B). P z.0 × R z.1) (λ z. times K.table (W z.0) (V z.1)) (times K.table a c)
Measured-needed K P R W V a c (inl m) (inl n) = Measured-pairs K P R W V a c m n
Measured-needed K {A} {B} P R W V a c (inr n) m = Measured-none K (λ (z : A × B). P z.0 × R z.1) (λ z. times K.table (W z.0) (V z.1)) (times K.table a c) (times-zero_right K.table a c n.no_number) (λ z p. n.none z.1 p.1)
Measured-needed K {A} {B} P R W V a c (inl m) (inr n) = Measured-none K (λ (z : A × B). P z.0 × R z.1) (λ z. times K.table (W z.0) (V z.1)) (times K.table a c) (times-zero_left K.table a c n.no_number) (λ z p. n.none z.0 p.0)
