-- Longest walks by rounds.
use Rattle.std.proofs.Common.{◌≡◌, ℕ, zero, suc, ◌+◌, ◌≤◌, ◌<◌, List, [], ◌∷◌, ◌++◌, ◌⊎◌, inl, inr, ⊎_elim, length, refl, sym, ◌∙◌, ap, subst, arith, get_or, max, Some, slice_get}
use Rattle.std.proofs.lemmas.Option.{slice_get_within, slice_get-get_or}
use Rattle.luo_finite.specs.Listing.{In}
use Rattle.luo_finite.proofs.Membership.{In-at}
use Rattle.luo_founded.specs.inner.Graph.{Edge}
use Rattle.luo_founded.specs.inner.Longest.{past, IsMost, IsLongestTo, AreLongestTo, AreLongest}
use Rattle.luo_finite.specs.Walk.{Walk, OnCircle}
use Rattle.luo_finite.proofs.Places.{some_same, none_some, place_in, get_within, get_last, one_longer, less_or_same}
use Rattle.luo_finite.proofs.Walks.{no_path, few_steps}

-- the greatest before place n
pub record IsMostBefore (targets ranks : List ℕ) (n r : ℕ) : Type 0 where
  pub most : (k y : ℕ) → k < n → slice_get targets k ≡ Some y → past (slice_get ranks y) ≤ r
  pub one : (r ≡ 0) ⊎ ((y : ℕ) × In y targets × (r ≡ past (slice_get ranks y)))

pub most_none : (targets ranks : List ℕ) → IsMostBefore targets ranks 0 0
most_none targets ranks = record { most = λ k y h e. absurd (omega arith); one = inl refl }

max_cases : (a b : ℕ) → (a ≤ max a b) × (b ≤ max a b) × ((max a b ≡ a) ⊎ (max a b ≡ b))
max_cases a b = (grind arith, grind arith, grind arith)

pub most_next : (targets ranks : List ℕ) (n d r v new : ℕ) → n < length targets → v ≡ past (slice_get ranks (get_or targets n d)) → new ≡ max r v → IsMostBefore targets ranks n r → IsMostBefore targets ranks (n + 1) new
most_next targets ranks n d r v new l e is h =
    let m = max_cases r v in record {
      most = λ k y a g. ⊎_elim
          (λ (b : k < n). omega (arith, h.most k y b g, m.0, is))
          (λ (b : k ≡ n).
          let same : get_or targets n d ≡ y = some_same (get_or targets n d) y (sym (slice_get-get_or targets n d l) ∙ ap (slice_get targets) (sym b) ∙ g) in
          omega (arith, ap (λ z. past (slice_get ranks z)) same, e, m.1, is))
          (less_or_same k n (omega arith));
      one = ⊎_elim
          (λ a. ⊎_elim (λ z. inl (is ∙ a ∙ z)) (λ z. inr (z.0, z.1, is ∙ a ∙ z.2)) h.one)
          (λ b. inr (get_or targets n d, In-at targets n d l, is ∙ b ∙ e)) m.2;
    }

pub most_end : (targets ranks : List ℕ) (n r : ℕ) → length targets ≤ n → IsMostBefore targets ranks n r → IsMost targets ranks r
most_end targets ranks n r l h = record { most = λ y i. let p = place_in y targets i in h.most p.0 y (omega (arith, slice_get_within targets p.0 y p.1)) p.1; one = h.one }

-- the greatest for each number before place n
pub record AreMost (edges : List (List ℕ)) (ranks : List ℕ) (n : ℕ) (more : List ℕ) : Type 0 where
  pub long : length more ≡ n
  pub each : (x r : ℕ) (targets : List ℕ) → slice_get edges x ≡ Some targets → slice_get more x ≡ Some r → IsMost targets ranks r

pub are_most_none : (edges : List (List ℕ)) (ranks more : List ℕ) → more ≡ [] → AreMost edges ranks 0 more
are_most_none edges ranks more e = record { long = ap length e; each = λ x r targets a b. absurd (none_some r (sym (ap (λ l. slice_get l x) e) ∙ b)) }

pub are_most_next : (edges : List (List ℕ)) (ranks : List ℕ) (n : ℕ) (d slice : List ℕ) (r : ℕ) (more new : List ℕ) → n < length edges → slice ≡ get_or edges n d → IsMost slice ranks r → new ≡ more ++ r ∷ [] → AreMost edges ranks n more → AreMost edges ranks (n + 1) new
are_most_next edges ranks n d slice r more new l same m is h = subst (AreMost edges ranks (n + 1)) (sym is) (record {
  long = one_longer more r ∙ ap (λ k. k + 1) h.long;
  each = λ x s targets a b. ⊎_elim
      (λ o. h.each x s targets a o)
      (λ o.
      let at : x ≡ n = o.0 ∙ h.long in
      let t : slice ≡ targets = same ∙ some_same (get_or edges n d) targets (sym (slice_get-get_or edges n d l) ∙ ap (slice_get edges) (sym at) ∙ a) in
      subst (IsMost targets ranks) o.1 (subst (λ z. IsMost z ranks r) t m))
      (get_last more r x s b);
})

-- all are 0
pub record AreZeros (n : ℕ) (ranks : List ℕ) : Type 0 where
  pub long : length ranks ≡ n
  pub zeros : (x r : ℕ) → slice_get ranks x ≡ Some r → r ≡ 0

pub zeros_none : (ranks : List ℕ) → ranks ≡ [] → AreZeros 0 ranks
zeros_none ranks e = record { long = ap length e; zeros = λ x r b. absurd (none_some r (sym (ap (λ l. slice_get l x) e) ∙ b)) }

pub zeros_next : (n : ℕ) (ranks more : List ℕ) → more ≡ ranks ++ 0 ∷ [] → AreZeros n ranks → AreZeros (n + 1) more
zeros_next n ranks more e h = subst (AreZeros (n + 1)) (sym e) (record {
  long = one_longer ranks 0 ∙ ap (λ k. k + 1) h.long;
  zeros = λ x r b. ⊎_elim (λ o. h.zeros x r o) (λ o. sym o.1) (get_last ranks 0 x r b);
})

module _ (edges : List (List ℕ)) where
  pub longest_start : (n : ℕ) (ranks : List ℕ) → n ≡ length edges → AreZeros n ranks → AreLongestTo edges 0 ranks
  longest_start n ranks e h = record {
    long = h.long ∙ e;
    each = λ x r g. let z : r ≡ 0 = h.zeros x r g in record {
      few = omega (arith, z);
      walk = (x, subst (λ k. Walk (Edge edges) k x x) (sym z) refl);
      longest = λ j y a w. omega (arith, a);
    };
  }

  past_some : (ranks : List ℕ) (y r : ℕ) → slice_get ranks y ≡ Some r → past (slice_get ranks y) ≡ suc r
  past_some ranks y r e = ap past e

  pub longest_next : (k : ℕ) (ranks slice more : List ℕ) → ((x y : ℕ) → Edge edges x y → y < length edges) → slice ≡ ranks → length more ≡ length edges
      → ((x r : ℕ) (targets : List ℕ) → slice_get edges x ≡ Some targets → slice_get more x ≡ Some r → IsMost targets slice r) → AreLongestTo edges k ranks → AreLongestTo edges (k + 1) more
  longest_next k ranks slice more within same long h a = record { long = long; each = one }
    where
      rank : (y : ℕ) → y < length edges → (r : ℕ) × (slice_get slice y ≡ Some r) × IsLongestTo edges k y r
      rank y l = let g = get_within ranks y (omega (arith, a.long)) in (g.0, ap (λ z. slice_get z y) same ∙ g.1, a.each y g.0 g.1)

      one : (x r : ℕ) → slice_get more x ≡ Some r → IsLongestTo edges (k + 1) x r
      one x r g =
          let t = get_within edges x (omega (arith, slice_get_within more x r g, long)) in
          let m = h x r t.0 t.1 g in record {
            few = ⊎_elim (λ z. omega (arith, z))
                (λ z. let s = rank z.0 (within x z.0 (t.0, t.1, z.1)) in omega (arith, z.2, past_some slice z.0 s.0 s.1, s.2.few)) m.one;
            walk = ⊎_elim (λ z. (x, subst (λ j. Walk (Edge edges) j x x) (sym z) refl))
                (λ z.
                let s = rank z.0 (within x z.0 (t.0, t.1, z.1)) in
                let w = s.2.walk in
                (w.0, subst (λ j. Walk (Edge edges) j x w.0) (sym (z.2 ∙ past_some slice z.0 s.0 s.1)) (z.0, (t.0, t.1, z.1), w.1))) m.one;
            longest = bound x r t.0 t.1 m;
          }
        where
          bound : (x r : ℕ) (targets : List ℕ) → slice_get edges x ≡ Some targets → IsMost targets slice r → (j y : ℕ) → j ≤ k + 1 → Walk (Edge edges) j x y → j ≤ r
          bound x r targets e m zero y b w = omega arith
          bound x r targets e m (suc j) y b w =
              let s = rank w.0 (within x w.0 w.1) in
              let i : In w.0 targets = subst (In w.0) (some_same w.1.0 targets (sym w.1.1 ∙ e)) w.1.2 in
              omega (arith, s.2.longest j y (omega arith) w.2, m.most w.0 i, past_some slice w.0 s.0 s.1)

  pub longest_end : (k : ℕ) (ranks : List ℕ) → ((x : ℕ) → OnCircle (Edge edges) x → ⊥) → length edges ≤ k → AreLongestTo edges k ranks → AreLongest edges ranks
  longest_end k ranks none l a = record {
    long = a.long;
    each = λ x r g. let h = a.each x r g in (h.walk, λ j y w. h.longest j y (omega (arith, few_steps (Edge edges) none (length edges) (λ a b e. slice_get_within edges a e.0 e.1) j x y [] (no_path (Edge edges) (length edges) x) w)) w);
  }
