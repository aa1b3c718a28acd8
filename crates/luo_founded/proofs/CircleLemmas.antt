-- Short circles, and the first of the shortest ones.
use Rattle.std.proofs.Common.{◌≡◌, ℕ, zero, suc, ◌≤◌, ◌<◌, List, [], ◌∷◌, ◌⊎◌, inl, inr, ⊎_elim, length, refl, sym, ◌∙◌, ap, subst, arith}
use Rattle.luo_finite.specs.Listing.{In, NoDouble, Neighbours}
use Rattle.luo_founded.specs.inner.Graph.{IsWay, IsFirstWay}
use Rattle.luo_finite.specs.Walk.{Walk, OnCircle, EndsWith, IsCircle, IsNotAfter, IsNamedCircle}
use Rattle.luo_finite.proofs.Pigeonhole.{few_below}
use Rattle.luo_finite.proofs.Decided.{In_decided, same_number}
use Rattle.luo_finite.proofs.Places.{less_or_same}

module _ (R : ℕ → ℕ → Type 0) where
  -- a walk with the starts of its steps
  abbrev Along : List ℕ → ℕ → ℕ → Type 0
  Along [] x y = x ≡ y
  Along (a ∷ path) x y = (a ≡ x) × ((z : ℕ) × R x z × Along path z y)

  along_walk : (path : List ℕ) (x y : ℕ) → Along path x y → Walk R (length path) x y
  along_walk [] x y h = h
  along_walk (a ∷ path) x y h = (h.1.0, h.1.1, along_walk path h.1.0 y h.1.2)

  along_within : (n : ℕ) → ((x y : ℕ) → R x y → x < n) → (path : List ℕ) (x y : ℕ) → Along path x y → (a : ℕ) → In a path → a < n
  along_within n w [] x y h a i = absurd i
  along_within n w (b ∷ path) x y h a i = ⊎_elim (λ e. subst (λ c. c < n) (sym (e ∙ h.0)) (w x h.1.0 h.1.1)) (λ j. along_within n w path h.1.0 y h.1.2 a j) i

  -- from a start on
  cut : (path : List ℕ) (x y a : ℕ) → Along path x y → NoDouble path → In a path → (rest : List ℕ) × Along rest a y × NoDouble rest
  cut [] x y a h d i = absurd i
  cut (b ∷ path) x y a h d i = ⊎_elim
      (λ e. (b ∷ path, subst (λ z. Along (b ∷ path) z y) (sym h.0 ∙ sym e) h, d))
      (λ j. cut path h.1.0 y a h.1.2 d.1 j) i

  -- a walk without a number that comes twice
  simple : (k x y : ℕ) → Walk R k x y → (path : List ℕ) × Along path x y × NoDouble path
  simple zero x y w = ([], w, tt)
  simple (suc k) x y w =
      let r = simple k w.0 y w.2 in
      let path : List ℕ = r.0 in
      let h : Along path w.0 y = r.1 in
      let d : NoDouble path = r.2 in
      ⊎_elim (λ (i : In x path). cut path w.0 y x h d i) (λ (n : In x path → ⊥). (x ∷ path, (refl, (w.0, w.1, h)), (n, d))) (In_decided same_number x path)

  -- below n a circle has one of at most n + 1 steps
  pub short_circle : (n : ℕ) → ((x y : ℕ) → R x y → x < n) → (x : ℕ) → OnCircle R x → (j : ℕ) × (j ≤ n) × Walk R (suc j) x x
  short_circle n w x c =
      let r = simple c.0 c.1.0 x c.1.2 in
      let path : List ℕ = r.0 in
      let h : Along path c.1.0 x = r.1 in
      (length path, few_below n path r.2 (along_within n w path c.1.0 x h), (c.1.0, c.1.1, along_walk path c.1.0 x h))

  module _ (home : ℕ) where
    way_walk : (k at : ℕ) (way : List ℕ) → IsWay R home k at way → Walk R k at home
    way_walk zero at way h = h.0
    way_walk (suc k) at [] h = absurd h
    way_walk (suc k) at (x ∷ rest) h = (h.1.0, h.1.1, way_walk k h.1.0 rest h.1.2)

    way_length : (k at : ℕ) (way : List ℕ) → IsWay R home k at way → length way ≡ suc k
    way_length zero at way h = ap length h.1
    way_length (suc k) at [] h = absurd h
    way_length (suc k) at (x ∷ rest) h = omega (arith, way_length k h.1.0 rest h.1.2)

    pub first_is_way : (k at : ℕ) (way : List ℕ) → IsFirstWay R home k at way → IsWay R home k at way
    first_is_way zero at way h = h
    first_is_way (suc k) at [] h = absurd h
    first_is_way (suc k) at (x ∷ rest) h = (h.0, (h.1.0, h.1.1, first_is_way k h.1.0 rest h.1.3))

    -- a chain from at to home is a way, and back
    chain_way : (at z : ℕ) (rest : List ℕ) → Neighbours R (at ∷ (z ∷ rest)) → EndsWith home (z ∷ rest) → IsWay R home (suc (length rest)) at (at ∷ (z ∷ rest))
    chain_way at z [] n e = (refl, (z, n.0, (e, refl)))
    chain_way at z (w ∷ rest) n e = (refl, (z, n.0, chain_way z w rest n.1 e))

    way_head : (k at x : ℕ) (rest : List ℕ) → IsWay R home k at (x ∷ rest) → x ≡ at
    way_head zero at x rest h = let e : x ≡ at = let d = h.1 in cc in e
    way_head (suc k) at x rest h = h.0

    way_chain : (k at x y : ℕ) (rest : List ℕ) → IsWay R home (suc k) at (x ∷ (y ∷ rest)) → Neighbours R (x ∷ (y ∷ rest)) × EndsWith home (y ∷ rest)
    way_chain zero at x y [] h =
        let e : y ≡ h.1.0 = way_head zero h.1.0 y [] h.1.2 in
        ((subst (λ z. R x z) (sym e) (subst (λ z. R z h.1.0) (sym h.0) h.1.1), tt), e ∙ h.1.2.0)
    way_chain zero at x y (w ∷ rest) h = absurd (let d : y ∷ (w ∷ rest) ≡ h.1.0 ∷ [] = h.1.2.1 in cc)
    way_chain (suc k) at x y [] h = absurd (omega (arith, way_length (suc k) h.1.0 (y ∷ []) h.1.2))
    way_chain (suc k) at x y (w ∷ rest) h =
        let e : y ≡ h.1.0 = way_head (suc k) h.1.0 y (w ∷ rest) h.1.2 in
        let r = way_chain k h.1.0 y w rest h.1.2 in
        ((subst (λ z. R x z) (sym e) (subst (λ z. R z h.1.0) (sym h.0) h.1.1), r.0), r.1)

    way_circle : (k : ℕ) (way : List ℕ) → IsWay R home (suc k) home way → IsCircle R home way
    way_circle k [] h = absurd h
    way_circle k (x ∷ []) h = absurd (omega (arith, way_length (suc k) home (x ∷ []) h))
    way_circle k (x ∷ (y ∷ rest)) h = let r = way_chain k home x y rest h in (h.0, r.0, r.1)

    circle_way : (chain : List ℕ) → IsCircle R home chain → (k : ℕ) × IsWay R home (suc k) home chain
    circle_way [] c = absurd c
    circle_way (x ∷ []) c = absurd c
    circle_way (x ∷ (y ∷ rest)) c = (length rest, subst (λ z. IsWay R home (suc (length rest)) z (x ∷ (y ∷ rest))) c.0 (chain_way x y rest c.1 c.2))

    later : (k a b : ℕ) (way other : List ℕ) → IsWay R home k a way → IsWay R home k b other → (a < b) ⊎ (a ≡ b) → (a ≡ b → IsNotAfter way other) → IsNotAfter way other
    later k a b [] other v w (inl l) same = tt
    later k a b (x ∷ way) [] v w (inl l) same = absurd (omega (arith, way_length k b [] w))
    later k a b (x ∷ way) (y ∷ other) v w (inl l) same = inl (omega (arith, way_head k a x way v, way_head k b y other w))
    later k a b way other v w (inr e) same = same e

    -- no other way of its length comes before the first way
    not_after : (k at : ℕ) (way other : List ℕ) → IsFirstWay R home k at way → IsWay R home k at other → IsNotAfter way other
    not_after zero at way other h o = subst (λ v. IsNotAfter v other) (sym h.1) (subst (λ v. IsNotAfter (at ∷ []) v) (sym o.1) (inr (refl, tt)))
    not_after (suc k) at [] other h o = absurd h
    not_after (suc k) at (x ∷ way) [] h o = absurd o
    not_after (suc k) at (x ∷ way) (y ∷ other) h o = inr (
      h.0 ∙ sym o.0,
      later k h.1.0 o.1.0 way other (first_is_way k h.1.0 way h.1.3) o.1.2 (less_or_same h.1.0 o.1.0 (h.1.2 o.1.0 o.1.1 (way_walk k o.1.0 other o.1.2)))
          (λ e. not_after k h.1.0 way other h.1.3 (subst (λ z. IsWay R home k z other) (sym e) o.1.2)),
    )

    -- a circle that is listed is one
    pub circle_on : (chain : List ℕ) → IsCircle R home chain → OnCircle R home
    circle_on chain c = let r = circle_way chain c in (r.0, way_walk (suc r.0) home chain r.1)

    -- THE LAW: a first way of the fewest steps is the chain that is named
    pub named_circle : (k : ℕ) (chain : List ℕ) → IsFirstWay R home (suc k) home chain → ((j : ℕ) → j < k → Walk R (suc j) home home → ⊥) → ((y : ℕ) → y < home → OnCircle R y → ⊥) → IsNamedCircle R home chain
    named_circle k chain h fewest least = record {
      circle = way_circle k chain (first_is_way (suc k) home chain h);
      least = λ y c. not_less home y (λ l. least y l c);
      shortest = λ other c.
          let r = circle_way other c in
          let s : k ≤ r.0 = not_less k r.0 (λ l. fewest r.0 l (way_walk (suc r.0) home other r.1)) in
          omega (arith, s, way_length (suc k) home chain (first_is_way (suc k) home chain h), way_length (suc r.0) home other r.1);
      first = λ other c e.
          let r = circle_way other c in
          let s : r.0 ≡ k = omega (arith, e, way_length (suc k) home chain (first_is_way (suc k) home chain h), way_length (suc r.0) home other r.1) in
          not_after (suc k) home chain other h (subst (λ j. IsWay R home (suc j) home other) s r.1);
    }
      where
        not_less : (a b : ℕ) → (b < a → ⊥) → a ≤ b
        not_less a b h = grind arith

  -- one circle is named
  pub named_once : (x y : ℕ) (c d : List ℕ) → IsNamedCircle R x c → IsNamedCircle R y d → c ≡ d
  named_once x y c d m n =
      let l : x ≤ y = m.least y (circle_on y d n.circle) in
      let g : y ≤ x = n.least x (circle_on x c m.circle) in
      let s : y ≡ x = omega (arith, l, g) in
      let p : IsCircle R x d = subst (λ z. IsCircle R z d) s n.circle in
      let q : IsCircle R y c = subst (λ z. IsCircle R z c) (sym s) m.circle in
      let e : length c ≡ length d = omega (arith, m.shortest d p, n.shortest c q) in
      same_list c d e (m.first d p e) (n.first c q (sym e))
    where
      same_list : (c d : List ℕ) → length c ≡ length d → IsNotAfter c d → IsNotAfter d c → c ≡ d
      same_list [] [] e a b = refl
      same_list [] (y ∷ d) e a b = absurd (omega (arith, e))
      same_list (x ∷ c) [] e a b = absurd (omega (arith, e))
      same_list (x ∷ c) (y ∷ d) e (inl l) (inl g) = absurd (omega arith)
      same_list (x ∷ c) (y ∷ d) e (inl l) (inr g) = absurd (omega (arith, g.0))
      same_list (x ∷ c) (y ∷ d) e (inr l) (inl g) = absurd (omega (arith, l.0))
      same_list (x ∷ c) (y ∷ d) e (inr l) (inr g) = ap (λ z. z ∷ c) l.0 ∙ ap (λ z. y ∷ z) (same_list c d (omega (arith, e)) l.1 g.1)
