-- Walks along a relation of numbers below a bound that has no circle.
use Rattle.std.proofs.Common.{◌≡◌, ℕ, zero, suc, ◌+◌, ◌≤◌, ◌<◌, List, [], ◌∷◌, ⊎_elim, length, refl, sym, subst, arith}
use Rattle.luo_finite.specs.Listing.{In, NoDouble}
use Rattle.luo_finite.specs.Walk.{Walk, OnCircle}
use Rattle.luo_finite.proofs.Pigeonhole.{few_below}

module _ (R : ℕ → ℕ → Type 0) where
  pub walk_on : (k x y z : ℕ) → Walk R k x y → R y z → Walk R (suc k) x z
  walk_on zero x y z w r = (z, subst (λ v. R v z) (sym w) r, refl)
  walk_on (suc k) x y z w r = (w.0, w.1, walk_on k w.0 y z w.2 r)

  pub walk_join : (j k x y z : ℕ) → Walk R j x y → Walk R k y z → Walk R (j + k) x z
  walk_join zero k x y z v w = subst (λ m. Walk R m x z) (let e : k ≡ 0 + k = omega arith in e) (subst (λ u. Walk R k u z) (sym v) w)
  walk_join (suc j) k x y z v w = subst (λ m. Walk R m x z) (let e : suc (j + k) ≡ suc j + k = omega arith in e) (v.0, v.1, walk_join j k v.0 y z v.2 w)

  -- nodes below n, all different, from each of which x is reached
  pub record LeadsTo (n : ℕ) (path : List ℕ) (x : ℕ) : Type 0 where
    pub single : NoDouble path
    pub there : (y : ℕ) → In y path → y < n
    pub reach : (y : ℕ) → In y path → (k : ℕ) × Walk R (suc k) y x

  pub no_path : (n x : ℕ) → LeadsTo n [] x
  no_path n x = record { single = tt; there = λ y i. absurd i; reach = λ y i. absurd i }

  module _ (none : (x : ℕ) → OnCircle R x → ⊥) where
    pub longer_path : (n : ℕ) (path : List ℕ) (x y : ℕ) → LeadsTo n path x → x < n → R x y → LeadsTo n (x ∷ path) y
    longer_path n path x y h l r = record {
      single = (λ i. none x (h.reach x i), h.single);
      there = λ z i. ⊎_elim (λ e. subst (λ w. w < n) (sym e) l) (λ j. h.there z j) i;
      reach = λ z i. ⊎_elim (λ e. (0, (y, subst (λ w. R w y) (sym e) r, refl))) (λ j. let w = h.reach z j in (suc w.0, walk_on (suc w.0) z x y w.1 r)) i;
    }

    -- x is not on its path, so the path is shorter than n
    pub short_path : (n : ℕ) (path : List ℕ) (x : ℕ) → LeadsTo n path x → x < n → length path < n
    short_path n path x h l =
        let q : length (x ∷ path) ≤ n = few_below n (x ∷ path) (λ i. none x (h.reach x i), h.single) (λ z i. ⊎_elim (λ e. subst (λ w. w < n) (sym e) l) (λ j. h.there z j) i) in
        omega arith

    -- no walk has more steps than there are numbers
    pub few_steps : (n : ℕ) → ((x y : ℕ) → R x y → x < n) → (k x y : ℕ) (path : List ℕ) → LeadsTo n path x → Walk R k x y → k + length path ≤ n
    few_steps n within zero x y path h w = omega (arith, few_below n path h.single h.there)
    few_steps n within (suc k) x y path h w = omega (arith, few_steps n within k w.0 y (x ∷ path) (longer_path n path x w.0 h (within x w.0 w.1) w.1) w.2)
