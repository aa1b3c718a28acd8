-- The table of choices: sums of products of two sums, over multisets and subsets of j of some things.
use Rattle.std.proofs.Common.{◌≡◌, ℕ, zero, suc, ◌+◌, ◌*◌, List, [], ◌∷◌, refl, sym, ◌∙◌, ap, subst, map, sum_by, arith}
use Rattle.std.proofs.lemmas.List.Sums.{sum_by-cons}
use Rattle.std.proofs.Math.Nat.{mul-zero, zero-mul}
use Rattle.luo_finite.specs.Binomial.{choose}
use Rattle.luo_model.specs.declared.program.Kind.{Kind}
use Rattle.luo_model.specs.declared.program.Kind.TheVariants.{Sequence, Set, Cycle, Multiset, Powerset}
use Rattle.luo_counting.specs.Numbers.{repeats, repeat_totals, subset_totals}
use Rattle.luo_counting.specs.Weights.{times}
use Rattle.luo_counting.specs.WeightNumbers.{repeats_in, subsets_in}
use Rattle.luo_counting.specs.Fours.{Four, Place, plain, left, right, both, four, point, repeat_pairs, subset_pairs, chosen_four}
use Rattle.luo_counting.proofs.Collections.{Closes}

-- multisets, one thing more: the identities
again-totals : (a t v j : ℕ) → t * repeats (suc a) j + (v * repeats (suc a) j + repeat_totals (suc a) (v + t) j) ≡ (v + t) * repeats (suc (suc a)) j
again-totals a t v zero = omega arith
again-totals a t v (suc j) = by_parts (repeats (suc a) (suc j)) (repeats (suc (suc a)) j)
  where
    by_parts : (p q : ℕ) → t * p + (v * p + (v + t) * q) ≡ (v + t) * (p + q)
    by_parts p q = grind arith

again-pairs : (a s t u v w j : ℕ)
    → repeat_pairs a s t u (suc j) + (v * w * repeats (suc a) j + (v * repeat_totals (suc a) (w + t) j + (w * repeat_totals (suc a) (v + s) j + (1 * repeat_pairs (suc a) (v + s) (w + t) (v * w + u) j + 0))))
    ≡ repeat_pairs (suc a) (v + s) (w + t) (v * w + u) (suc j)
again-pairs a s t u v w zero = omega arith
again-pairs a s t u v w (suc zero) = by_parts (repeats (suc a) 1)
  where
    by_parts : (p : ℕ) → u * (p + 1) + s * t * 1 + (v * w * p + (v * ((w + t) * 1) + (w * ((v + s) * 1) + (1 * (v * w + u) + 0)))) ≡ (v * w + u) * (p + 1 + 1) + (v + s) * (w + t) * 1
    by_parts p = grind arith
again-pairs a s t u v w (suc (suc j)) = by_parts (repeats (suc a) (suc (suc j))) (repeats (suc (suc a)) (suc j)) (repeats (suc (suc (suc a))) j)
  where
    by_parts : (p q r : ℕ) → u * (p + q) + s * t * q + (v * w * p + (v * ((w + t) * q) + (w * ((v + s) * q) + (1 * ((v * w + u) * (q + r) + (v + s) * (w + t) * r) + 0)))) ≡ (v * w + u) * (p + q + (q + r)) + (v + s) * (w + t) * (q + r)
    by_parts p q r = grind arith

-- subsets, one thing more
once-totals : (a t v j : ℕ) → (a ≡ 0 → t ≡ 0) → subset_totals a t (suc j) + (v * choose a j + subset_totals a t j) ≡ (v + t) * choose a j
once-totals zero t v j z = omega (arith, ap (λ m. m * choose 0 j) (let e : v ≡ v + t = omega (arith, z refl) in e))
once-totals (suc a) t v zero z = omega arith
once-totals (suc a) t v (suc j) z = by_parts (choose a j) (choose a (suc j))
  where
    by_parts : (p q : ℕ) → t * q + (v * (p + q) + t * p) ≡ (v + t) * (p + q)
    by_parts p q = grind arith

once-pairs : (a s t u v w j : ℕ) → (a ≡ 0 → u ≡ 0) → (a ≡ 1 → u ≡ s * t)
    → subset_pairs a s t u (suc j) + (v * w * choose a j + (v * subset_totals a t j + (w * subset_totals a s j + (1 * subset_pairs a s t u j + 0)))) ≡ subset_pairs (suc a) (v + s) (w + t) (v * w + u) (suc j)
once-pairs zero s t u v w zero z o = omega (arith, z refl)
once-pairs zero s t u v w (suc j) z o = omega arith
once-pairs (suc zero) s t u v w zero z o = omega arith
once-pairs (suc zero) s t u v w (suc zero) z o = subst (λ u. 0 + (v * w * 1 + (v * (t * 1) + (w * (s * 1) + (1 * u + 0)))) ≡ (v * w + u) * 0 + (v + s) * (w + t) * 1) (sym (o refl)) by_parts
  where
    by_parts : 0 + (v * w * 1 + (v * (t * 1) + (w * (s * 1) + (1 * (s * t) + 0)))) ≡ (v * w + s * t) * 0 + (v + s) * (w + t) * 1
    by_parts = grind arith
once-pairs (suc zero) s t u v w (suc (suc j)) z o = omega (arith, mul-zero (v * w), mul-zero t, mul-zero s, mul-zero v, mul-zero w, mul-zero (v * w + u), mul-zero ((v + s) * (w + t)))
once-pairs (suc (suc a)) s t u v w zero z o = omega arith
once-pairs (suc (suc a)) s t u v w (suc zero) z o = by_parts (choose a 1)
  where
    by_parts : (p : ℕ) → u * p + s * t * 1 + (v * w * (1 + (1 + p)) + (v * (t * 1) + (w * (s * 1) + (1 * u + 0)))) ≡ (v * w + u) * (1 + p) + (v + s) * (w + t) * 1
    by_parts p = grind arith
once-pairs (suc (suc a)) s t u v w (suc (suc j)) z o = by_parts (choose a j) (choose a (suc j)) (choose a (suc (suc j)))
  where
    by_parts : (p q r : ℕ) → u * r + s * t * q + (v * w * (p + q + (q + r)) + (v * (t * (p + q)) + (w * (s * (p + q)) + (1 * (u * q + s * t * p) + 0)))) ≡ (v * w + u) * (q + r) + (v + s) * (w + t) * (p + q)
    by_parts p q r = grind arith

repeats-start : (a : ℕ) → repeats a 0 ≡ 1
repeats-start zero = refl
repeats-start (suc a) = refl

subset_totals-start : (a t : ℕ) → subset_totals a t 0 ≡ 0
subset_totals-start zero t = refl
subset_totals-start (suc a) t = refl

four-start : (kind : Kind) (x : Place → ℕ) (k : Place) → chosen_four kind x 0 k ≡ four 1 0 0 0 k
four-start Sequence x plain = repeats-start (x plain)
four-start Set x plain = repeats-start (x plain)
four-start Cycle x plain = repeats-start (x plain)
four-start Multiset x plain = repeats-start (x plain)
four-start Powerset x plain = refl
four-start Powerset x left = subset_totals-start (x plain) (x left)
four-start Powerset x right = subset_totals-start (x plain) (x right)
four-start Sequence x left = refl
four-start Sequence x right = refl
four-start Set x left = refl
four-start Set x right = refl
four-start Cycle x left = refl
four-start Cycle x right = refl
four-start Multiset x left = refl
four-start Multiset x right = refl
four-start Powerset x both = refl
four-start Sequence x both = refl
four-start Set x both = refl
four-start Cycle x both = refl
four-start Multiset x both = refl

module _ {A : Type 0} (v w : A → ℕ) where
  -- the weights of a list, summed
  abbrev summed : List A → Place → ℕ
  summed l i = sum_by (λ x. point v w x i) l

  -- with one thing more
  abbrev more : A → (Place → ℕ) → Place → ℕ
  more x y i = four (suc (y plain)) (v x + y left) (w x + y right) (v x * w x + y both) i

  summed-cons_at : (x : A) (l : List A) (k : Place) → summed (x ∷ l) k ≡ more x (summed l) k
  summed-cons_at x l plain = omega (arith, sum_by-cons (λ x. point v w x plain) x l)
  summed-cons_at x l left = sum_by-cons (λ x. point v w x left) x l
  summed-cons_at x l right = sum_by-cons (λ x. point v w x right) x l
  summed-cons_at x l both = sum_by-cons (λ x. point v w x both) x l

  summed-cons : (x : A) (l : List A) → summed (x ∷ l) ≡ more x (summed l)
  summed-cons x l = λ i k. summed-cons_at x l k i

  one_more : (x : A) (y : Place → ℕ) (j : ℕ) (k : Place) → chosen_four Multiset y (suc j) k + times Four.table (point v w x) (chosen_four Multiset (more x y) j) k ≡ chosen_four Multiset (more x y) (suc j) k
  one_more x y j plain = omega arith
  one_more x y j left = omega (arith, again-totals (y plain) (y left) (v x) j)
  one_more x y j right = omega (arith, again-totals (y plain) (y right) (w x) j)
  one_more x y j both = again-pairs (y plain) (y left) (y right) (y both) (v x) (w x) j

  repeats-closed : (l : List A) (j : ℕ) (k : Place) → repeats_in Four (map (point v w) l) j k ≡ chosen_four Multiset (summed l) j k
  repeats-closed [] zero k = sym (four-start Multiset (summed []) k)
  repeats-closed [] (suc j) plain = refl
  repeats-closed [] (suc j) left = sym (zero-mul (repeats 1 j))
  repeats-closed [] (suc j) right = sym (zero-mul (repeats 1 j))
  repeats-closed [] (suc j) both = none j
    where
      none : (j : ℕ) → 0 ≡ repeat_pairs 0 0 0 0 (suc j)
      none zero = refl
      none (suc j) = omega arith
  repeats-closed (x ∷ l) zero k = sym (four-start Multiset (summed (x ∷ l)) k)
  repeats-closed (x ∷ l) (suc j) k =
      ap (λ (m : ℕ). m + times Four.table (point v w x) (repeats_in Four (map (point v w) (x ∷ l)) j) k) (repeats-closed l (suc j) k)
      ∙ ap (λ (f : Place → ℕ). chosen_four Multiset (summed l) (suc j) k + times Four.table (point v w x) f k) (λ i q. (repeats-closed (x ∷ l) j q ∙ ap (λ (y : Place → ℕ). chosen_four Multiset y j q) (summed-cons x l)) i)
      ∙ one_more x (summed l) j k
      ∙ ap (λ (y : Place → ℕ). chosen_four Multiset y (suc j) k) (sym (summed-cons x l))

  -- of none or of one thing
  small_none : (l : List A) → summed l plain ≡ 0 → (i : Place) → summed l i ≡ 0
  small_none [] e i = refl
  small_none (x ∷ l) e i = absurd (omega (arith, e, sum_by-cons (λ x. point v w x plain) x l))

  small_one : (l : List A) → summed l plain ≡ 1 → summed l both ≡ summed l left * summed l right
  small_one [] e = absurd (omega (arith, e))
  small_one (x ∷ l) e =
      let n = small_none l (let q : summed l plain ≡ 0 = omega (arith, e, sum_by-cons (λ x. point v w x plain) x l) in q) in
      let a : summed (x ∷ l) left ≡ v x = omega (arith, sum_by-cons (λ x. point v w x left) x l, n left) in
      let b : summed (x ∷ l) right ≡ w x = omega (arith, sum_by-cons (λ x. point v w x right) x l, n right) in
      let c : summed (x ∷ l) both ≡ v x * w x = omega (arith, sum_by-cons (λ x. point v w x both) x l, n both) in
      c ∙ sym (ap (λ m. m * summed (x ∷ l) right) a ∙ ap (λ m. v x * m) b)

  one_once : (x : A) (y : Place → ℕ) → (y plain ≡ 0 → (i : Place) → y i ≡ 0) → (y plain ≡ 1 → y both ≡ y left * y right) → (j : ℕ) (k : Place)
      → chosen_four Powerset y (suc j) k + times Four.table (point v w x) (chosen_four Powerset y j) k ≡ chosen_four Powerset (more x y) (suc j) k
  one_once x y z o j plain = omega arith
  one_once x y z o j left = omega (arith, once-totals (y plain) (y left) (v x) j (λ e. z e left))
  one_once x y z o j right = omega (arith, once-totals (y plain) (y right) (w x) j (λ e. z e right))
  one_once x y z o j both = once-pairs (y plain) (y left) (y right) (y both) (v x) (w x) j (λ e. z e both) o

  subsets-closed : (l : List A) (j : ℕ) (k : Place) → subsets_in Four (map (point v w) l) j k ≡ chosen_four Powerset (summed l) j k
  subsets-closed l zero k = sym (four-start Powerset (summed l) k)
  subsets-closed [] (suc j) plain = refl
  subsets-closed [] (suc j) left = refl
  subsets-closed [] (suc j) right = refl
  subsets-closed [] (suc j) both = refl
  subsets-closed (x ∷ l) (suc j) k =
      ap (λ (m : ℕ). m + times Four.table (point v w x) (subsets_in Four (map (point v w) l) j) k) (subsets-closed l (suc j) k)
      ∙ ap (λ (f : Place → ℕ). chosen_four Powerset (summed l) (suc j) k + times Four.table (point v w x) f k) (λ i q. subsets-closed l j q i)
      ∙ one_once x (summed l) (small_none l) (small_one l) j k
      ∙ ap (λ (y : Place → ℕ). chosen_four Powerset y (suc j) k) (sym (summed-cons x l))

  -- THE TABLE of choices
  pub four_closes : Closes Four (point v w) chosen_four
  four_closes = record { start = four-start; repeats = repeats-closed; subsets = subsets-closed }
