-- Rows of charged products.
use Rattle.std.proofs.Common.{◌≡◌, ◌⊎◌, ℕ, zero, suc, ◌+◌, ◌*◌, ◌<◌, inl, inr, List, [], ◌∷◌, length, get_or, slice_get, slice_index, drop, sum_by, refl, sym, ◌∙◌, ap, subst, arith, Some, None, Option}
use Rattle.std.proofs.lemmas.List.Sums.{sum_by-cons}
use Rattle.std.proofs.lemmas.Option.{slice_get-get_or, get_or_from_slice_get, slice_get_within}
use Rattle.luo_num.specs.Mark.{capped}
use Rattle.luo_finite.specs.Listing.{In}
use Rattle.luo_model.specs.declared.program.Universe.{Universe}
use Rattle.luo_counting.specs.Sharing.{shares}
use Rattle.luo_engine.specs.declared.points.Link.{Link}
use Rattle.luo_recipes.specs.Shares.{inner, tail_of}
use Rattle.luo_engine.specs.inner.Grid.{row_of, entry_of}
use Rattle.luo_engine.specs.inner.Partial.{closing}
use Rattle.luo_engine.specs.inner.Points.{point_of, open_point, IsLink, ArePointsBelow}
use Rattle.luo_recipes.proofs.ShareLemmas.{shares-first, shares-inner}
use Rattle.luo_engine.proofs.inner.MarkLemmas.{capped-capped, alike-times, alike-plus, alike-inner}
use Rattle.luo_engine.proofs.inner.RowLemmas.{drop-at}

pub alike-sum_by : {X : Type 0} (f g : X → ℕ) (xs : List X) → ((x : X) → In x xs → capped (f x) ≡ capped (g x)) → capped (sum_by f xs) ≡ capped (sum_by g xs)
alike-sum_by f g [] h = refl
alike-sum_by f g (x ∷ xs) h =
    ap capped (sum_by-cons f x xs) ∙ alike-plus (f x) (sum_by f xs) (g x) (sum_by g xs) (h x (inl refl)) (alike-sum_by f g xs (λ y i. h y (inr i))) ∙ ap capped (sym (sum_by-cons g x xs))

sum_by-add : {X : Type 0} (f g h : X → ℕ) (xs : List X) → ((x : X) → h x ≡ f x + g x) → sum_by h xs ≡ sum_by f xs + sum_by g xs
sum_by-add f g h [] e = refl
sum_by-add f g h (x ∷ xs) e = omega (arith, sum_by-cons h x xs, sum_by-cons f x xs, sum_by-cons g x xs, e x, sum_by-add f g h xs e)

alike-closing : (a b d : ℕ → ℕ) (n w v : ℕ) → (0 < n → capped (b 0) ≡ capped (d 0)) → capped w ≡ capped v → capped (closing 0 a b n w) ≡ capped (closing 0 a d n v)
alike-closing a b d zero w v h e = alike-times (a 0) w (a 0) v refl e
alike-closing a b d (suc m) w v h e =
    alike-plus 0 (a 0 * w + a (suc m) * b 0) 0 (a 0 * v + a (suc m) * d 0) refl
    (alike-plus (a 0 * w) (a (suc m) * b 0) (a 0 * v) (a (suc m) * d 0) (alike-times (a 0) w (a 0) v refl e) (alike-times (a (suc m)) (b 0) (a (suc m)) (d 0) refl (h (omega arith))))

inner-first : (u : Universe) (a b : ℕ → ℕ) → inner u a b 0 ≡ 0
unfolding inner
inner-first u a b = refl

-- each gets some, or one gets all
shares-ends : (u : Universe) (a b : ℕ → ℕ) (n : ℕ) → shares u a b n ≡ inner u a b n + closing 0 a b n (b n)
shares-ends u a b zero = omega (arith, shares-first u a b, inner-first u a b)
shares-ends u a b (suc m) = omega (arith, shares-inner u a b m)

module _ (u : Universe) (counts totals : List (List ℕ)) (factors : List (Option ℕ)) (partials : List (List ℕ)) (links : List (Option Link)) (points : List (List ℕ)) (n r : ℕ) (l : Link) (d : Option Link) (row : r < length links) (is : get_or links r d ≡ Some l) where
  found : slice_get links r ≡ Some (Some l)
  found = slice_get-get_or links r d row ∙ ap Some is

  pub link_there : ArePointsBelow u counts totals factors partials links points n → IsLink counts totals factors links r l
  link_there b = b.links_there r l found

  pub next_reaches : ArePointsBelow u counts totals factors partials links points n → (next : List ℕ) → next ≡ row_of points (r + 1) → n < length next
  next_reaches b next e = omega (arith, ap length e, b.points_reach (r + 1) (omega (arith, b.wide, (link_there b).next)))

  P : ℕ → ℕ
  P = tail_of u (entry_of counts) (drop l.behind factors)

  D : ℕ → ℕ
  D = point_of u (entry_of counts) (entry_of totals) factors (drop (r + 1) links)

  module _ (b : ArePointsBelow u counts totals factors partials links points n) (next : List ℕ) (e : next ≡ row_of points (r + 1)) where
    shared_is : (k : ℕ) → k < n + 1 → capped (entry_of partials l.behind k) ≡ capped (P k)
    unfolding P
    shared_is k h = ap capped (closed_at (last_or k n h)) ∙ capped-capped (P k)
      where
        last_or : (k n : ℕ) → k < n + 1 → (k ≡ n) ⊎ (k < n)
        last_or k n h = grind arith

        closed_at : (k ≡ n) ⊎ (k < n) → entry_of partials l.behind k ≡ capped (tail_of u (entry_of counts) (drop l.behind factors) k)
        closed_at (inl q) = subst (λ j. entry_of partials l.behind j ≡ capped (tail_of u (entry_of counts) (drop l.behind factors) j)) (sym q) (b.products.closed_rows l.behind (omega arith) (link_there b).behind)
        closed_at (inr g) = b.products.before.below.closed l.behind k (link_there b).behind g

    next_is : (k : ℕ) → k < n → capped (slice_index next k) ≡ capped (D k)
    unfolding D
    next_is k h = ap (λ (row : List ℕ). capped (slice_index row k)) e ∙ ap capped (b.closed (r + 1) k (link_there b).next h) ∙ capped-capped (D k)

    pub open_point_row : (value : ℕ) → value ≡ capped (sum_by (λ s. inner u (entry_of totals s) (entry_of partials l.behind) n) l.sites + inner u (entry_of counts l.node) (slice_index next) n)
        → value ≡ capped (open_point u (entry_of counts) (entry_of totals) factors (drop r links) n)
    unfolding P D
    open_point_row value v =
        v
        ∙ alike-plus (sum_by (λ s. inner u (entry_of totals s) (entry_of partials l.behind) n) l.sites) (inner u (entry_of counts l.node) (slice_index next) n) (sum_by (λ s. inner u (entry_of totals s) P n) l.sites) (inner u (entry_of counts l.node) D n)
        (alike-sum_by (λ s. inner u (entry_of totals s) (entry_of partials l.behind) n) (λ s. inner u (entry_of totals s) P n) l.sites
        (λ s i. alike-inner u (entry_of totals s) (entry_of partials l.behind) (entry_of totals s) P n (λ k h. refl) (λ k h. shared_is k (omega arith))))
        (alike-inner u (entry_of counts l.node) (slice_index next) (entry_of counts l.node) D n (λ k h. refl) next_is)
        ∙ ap (λ (ls : List (Option Link)). capped (open_point u (entry_of counts) (entry_of totals) factors ls n)) (sym (drop-at links r d (Some l) row is))

    pub closed_point_row : (opened whole ends value : ℕ) → opened ≡ capped (open_point u (entry_of counts) (entry_of totals) factors (drop r links) n) → whole ≡ capped (point_of u (entry_of counts) (entry_of totals) factors (drop (r + 1) links) n)
        → ends ≡ capped (sum_by (λ s. closing 0 (entry_of totals s) (entry_of partials l.behind) n (entry_of partials l.behind n)) l.sites + closing 0 (entry_of counts l.node) (slice_index next) n whole)
        → value ≡ capped (opened + ends) → value ≡ capped (point_of u (entry_of counts) (entry_of totals) factors (drop r links) n)
    unfolding P D
    closed_point_row opened whole ends value o w g v =
        let T : ℕ → ℕ → ℕ = entry_of totals in
        let A : ℕ → ℕ = entry_of counts l.node in
        let SI : ℕ = sum_by (λ s. inner u (T s) P n) l.sites in
        let SE : ℕ = sum_by (λ s. closing 0 (T s) P n (P n)) l.sites in
        let o2 : capped opened ≡ capped (SI + inner u A D n) = ap capped (o ∙ ap (λ (ls : List (Option Link)). capped (open_point u (entry_of counts) (entry_of totals) factors ls n)) (drop-at links r d (Some l) row is)) ∙ capped-capped (SI + inner u A D n) in
        let g2 : capped ends ≡ capped (SE + closing 0 A D n (D n)) =
        ap capped g ∙ capped-capped (sum_by (λ s. closing 0 (T s) (entry_of partials l.behind) n (entry_of partials l.behind n)) l.sites + closing 0 A (slice_index next) n whole)
        ∙ alike-plus (sum_by (λ s. closing 0 (T s) (entry_of partials l.behind) n (entry_of partials l.behind n)) l.sites) (closing 0 A (slice_index next) n whole) SE (closing 0 A D n (D n))
        (alike-sum_by (λ s. closing 0 (T s) (entry_of partials l.behind) n (entry_of partials l.behind n)) (λ s. closing 0 (T s) P n (P n)) l.sites
        (λ s i. alike-closing (T s) (entry_of partials l.behind) P n (entry_of partials l.behind n) (P n) (λ h. shared_is 0 (omega arith)) (shared_is n (omega arith))))
        (alike-closing A (slice_index next) D n whole (D n) (next_is 0) (ap capped w ∙ capped-capped (D n))) in
        let sums : sum_by (λ s. shares u (T s) P n) l.sites ≡ SI + SE = sum_by-add (λ s. inner u (T s) P n) (λ s. closing 0 (T s) P n (P n)) (λ s. shares u (T s) P n) l.sites (λ s. shares-ends u (T s) P n) in
        let all : (SI + inner u A D n) + (SE + closing 0 A D n (D n)) ≡ sum_by (λ s. shares u (T s) P n) l.sites + shares u A D n = omega (arith, sums, shares-ends u A D n) in
        v ∙ alike-plus opened ends (SI + inner u A D n) (SE + closing 0 A D n (D n)) o2 g2 ∙ ap capped all
        ∙ ap (λ (ls : List (Option Link)). capped (point_of u (entry_of counts) (entry_of totals) factors ls n)) (sym (drop-at links r d (Some l) row is))

-- the row that ends a charged product
pub end_point : (u : Universe) (counts totals : ℕ → ℕ → ℕ) (factors : List (Option ℕ)) (links : List (Option Link)) (r n : ℕ) → slice_get links r ≡ Some None → point_of u counts totals factors (drop r links) n ≡ 0
end_point u counts totals factors links r n e =
    ap (λ (ls : List (Option Link)). point_of u counts totals factors ls n) (drop-at links r None None (slice_get_within links r None e) (get_or_from_slice_get links r None None e))
