-- What the tables give to a scope is its number, where all that it names comes before its site.
use Rattle.std.proofs.Common.{◌≡◌, ◌⊎◌, ℕ, ◌+◌, ◌*◌, ◌<◌, inl, inr, ⊎_elim, List, [], ◌∷◌, ◌++◌, length, map, sum_by, drop, slice_get, refl, sym, ◌∙◌, ap, subst, arith, Some, None, Option, append_assoc}
use Rattle.std.proofs.lemmas.List.Sums.{sum_by-cons}
use Rattle.luo_finite.specs.Listing.{In}
use Rattle.luo_finite.proofs.Membership.{In-append_right, In-append_cases}
use Rattle.luo_model.specs.declared.program.Universe.{Universe}
use Rattle.luo_model.specs.Program.{Program}
use Rattle.luo_model.specs.Tables.{IsTotal}
use Rattle.luo_counting.specs.Sharing.{shares, products}
use Rattle.luo_engine.specs.declared.points.Link.{Link}
use Rattle.luo_engine.specs.declared.tasks.Scope.{Scope}
use Rattle.luo_engine.specs.inner.Grid.{entry_of}
use Rattle.luo_recipes.specs.Shares.{tail_of, point_all, HasNone, AreCharged}
use Rattle.luo_engine.specs.inner.Points.{point_of}
use Rattle.luo_engine.specs.inner.Filled.{IsOrderOf, AreFilled}
use Rattle.luo_engine.specs.inner.Laid.{laid_number, factor_of, IsScope, AreScopes}
use Rattle.luo_recipes.specs.Tasks.{FactorSites, factor_counts, factor_totals, scope_number}
use Rattle.luo_recipes.specs.Tasks as plain
use Rattle.luo_recipes.proofs.ShareLemmas.{shares-same}
use Rattle.luo_recipes.proofs.ReadLemmas.{reads-point, point_all-both}
use Rattle.luo_engine.proofs.inner.RowLemmas.{tail-product}
use Rattle.luo_engine.proofs.inner.EntryLemmas.{find_none, sum_by-same}
use Rattle.luo_engine.proofs.inner.FillLemmas.{placed_before}
use Rattle.luo_recipes.proofs.PointSums.{shares-plus_left, shares-none_left}

-- sharing a sum is the sum of sharings
shares-sum : {X : Type 0} (u : Universe) (f : X → ℕ → ℕ) (b : ℕ → ℕ) (xs : List X) (n : ℕ) → sum_by (λ x. shares u (f x) b n) xs ≡ shares u (λ k. sum_by (λ x. f x k) xs) b n
shares-sum u f b [] n = sym (shares-none_left u (λ k. 0) b n (λ k. refl))
shares-sum u f b (x ∷ xs) n =
    sum_by-cons (λ y. shares u (f y) b n) x xs ∙ ap (λ s. shares u (f x) b n + s) (shares-sum u f b xs n) ∙ sym (shares-plus_left u (f x) (λ k. sum_by (λ y. f y k) xs) b n)
    ∙ shares-same u (λ k. f x k + sum_by (λ y. f y k) xs) b (λ k. sum_by (λ y. f y k) (x ∷ xs)) b n (λ k h. sym (sum_by-cons (λ y. f y k) x xs)) (λ k h. refl)

-- behind each link stand the factors behind it
Behind : List (Option ℕ) → List Link → Type 0
Behind factors ls = (before after : List Link) (l : Link) → ls ≡ before ++ (l ∷ after) → (rest : List (Option ℕ)) × (drop l.behind factors ≡ map (λ m. Some m.node) after ++ (None ∷ rest))

both : (a b c d : ℕ) → a ≡ c → b ≡ d → a + b ≡ c + d
both a b c d e f = cc

factors_same : (u : Universe) (counts : ℕ → ℕ → ℕ) (ls : List Link) → products u (map (λ (m : Link). counts m.node) ls) ≡ products u (map (factor_counts counts) (map factor_of ls))
factors_same u counts ls = ap (products u) (same ls)
  where
    same : (ls : List Link) → map (λ (m : Link). counts m.node) ls ≡ map (factor_counts counts) (map factor_of ls)
    same [] = refl
    same (l ∷ ls) = ap (λ fs. counts l.node ∷ fs) (same ls)

-- the rows of a charged product
point-row : (u : Universe) (counts totals : ℕ → ℕ → ℕ) (factors : List (Option ℕ)) (ls : List Link) (rest : List (Option Link)) (n : ℕ) → Behind factors ls
    → point_of u counts totals factors (map (λ l. Some l) ls ++ (None ∷ rest)) n ≡ point_all u (factor_counts counts) (factor_totals totals) (map factor_of ls) n
unfolding Behind
point-row u counts totals factors [] rest n b = refl
point-row u counts totals factors (l ∷ ls) rest n b =
    let t = b [] ls l refl in
    let tail : (k : ℕ) → tail_of u counts (drop l.behind factors) k ≡ products u (map (factor_counts counts) (map factor_of ls)) k =
    λ k. ap (λ (fs : List (Option ℕ)). tail_of u counts fs k) t.1 ∙ tail-product u counts (λ (m : Link). m.node) ls t.0 k ∙ ap (λ (g : ℕ → ℕ). g k) (factors_same u counts ls) in
    both (sum_by (λ s. shares u (totals s) (tail_of u counts (drop l.behind factors)) n) l.sites) (shares u (counts l.node) (point_of u counts totals factors (map (λ l. Some l) ls ++ (None ∷ rest))) n)
    (shares u (factor_totals totals (factor_of l)) (products u (map (factor_counts counts) (map factor_of ls))) n) (shares u (counts l.node) (point_all u (factor_counts counts) (factor_totals totals) (map factor_of ls)) n)
    (shares-sum u totals (tail_of u counts (drop l.behind factors)) l.sites n
    ∙ shares-same u (factor_totals totals (factor_of l)) (tail_of u counts (drop l.behind factors)) (factor_totals totals (factor_of l)) (products u (map (factor_counts counts) (map factor_of ls))) n (λ k h. refl) (λ k h. tail k))
    (shares-same u (counts l.node) (point_of u counts totals factors (map (λ l. Some l) ls ++ (None ∷ rest))) (counts l.node) (point_all u (factor_counts counts) (factor_totals totals) (map factor_of ls)) n (λ k h. refl)
    (λ k h. point-row u counts totals factors ls rest k (λ before after m e. b (l ∷ before) after m (ap (λ (ms : List Link). l ∷ ms) e))))

-- some other factor, before or behind, has nothing of size 0
abbrev pub OtherFactorHasNone : (ℕ → ℕ → ℕ) → List FactorSites → List FactorSites → Type 0
OtherFactorHasNone counts before after = (other : FactorSites) × In other (before ++ after) × (counts other.node 0 ≡ 0)

-- what a scope names is there and comes before site i, of its factors those to which a same-size step leads
pub record ScopeFalls (nodes width : ℕ) (Before : ℕ → ℕ → Type 0) (counts : ℕ → ℕ → ℕ) (S : plain.Scope) (i : ℕ) : Type 0 where
  pub node : S.node < nodes
  pub sites_there : (s : ℕ) → In s S.sites → s < width
  pub parts_there : (F : FactorSites) → In F S.parts → F.node < nodes
  pub part_sites_there : (F : FactorSites) (s : ℕ) → In F S.parts → In s F.sites → s < width
  pub sites_fall : (s : ℕ) → In s S.sites → Before s i
  pub parts_fall : (before after : List FactorSites) (F : FactorSites) (s : ℕ) → S.parts ≡ before ++ (F ∷ after) → (OtherFactorHasNone counts before after → ⊥) → In s F.sites → Before s i

module _ (p : Program) (Before : ℕ → ℕ → Type 0) (order : List ℕ) (C T : ℕ → ℕ → ℕ) (counts totals : List (List ℕ)) (n k i : ℕ) (place : slice_get order k ≡ Some i)
    (counted : (x m : ℕ) → x < length p.nodes → m < n + 1 → entry_of counts x m ≡ C x m)
    (known : (s m : ℕ) → s < length p.sites → IsTotal p s m (T s m)) (unique : (s m a b : ℕ) → s < length p.sites → IsTotal p s m a → IsTotal p s m b → a ≡ b)
    (ordered : IsOrderOf (length p.sites) Before order) (one_way : (x y : ℕ) → Before y x → Before x y → ⊥)
    (filled : AreFilled (IsTotal p) (length p.sites) order totals n k) where
  U : ℕ → ℕ → ℕ
  U s = entry_of totals s

  below_is : (s m : ℕ) → s < length p.sites → m < n → U s m ≡ T s m
  unfolding U
  below_is s m h l = unique s m (entry_of totals s m) (T s m) h (filled.below s m h l).0 (known s m h)

  pub filled_is : (s : ℕ) → s < length p.sites → Before s i → entry_of totals s n ≡ T s n
  filled_is s h b =
      let at = ordered.complete s h in
      unique s n (entry_of totals s n) (T s n) h (filled.done at.0 s (placed_before (length p.sites) Before one_way order ordered k i place at.0 s at.1 b) at.1).0 (known s n h)

  module _ (S : plain.Scope) (falls : ScopeFalls (length p.nodes) (length p.sites) Before C S i) where
    A : FactorSites → ℕ → ℕ
    A = factor_counts C

    -- the charges on a factor are all there, or another factor has nothing of size 0
    charged : (Z : Type 0) (before ls : List FactorSites) → (HasNone A before → Z) → S.parts ≡ before ++ ls → AreCharged A (factor_totals T) (factor_totals U) n Z ls
    unfolding A U
    charged Z before [] z e = tt
    charged Z before (l ∷ ls) z e =
        let i : In l S.parts = subst (In l) (sym e) (In-append_right l before (l ∷ ls) (inl refl)) in (
          ⊎_elim (λ h. inr (inl (z h)))
              (λ nb. ⊎_elim (λ h. inr (inr h))
              (λ na. inl (sum_by-same (λ s. entry_of totals s n) (λ s. T s n) l.sites
              (λ s j. filled_is s (falls.part_sites_there l s i j) (falls.parts_fall before ls l s e (λ o. ⊎_elim (λ q. nb (o.0, q, o.2)) (λ q. na (o.0, q, o.2)) (In-append_cases o.0 before ls o.1)) j))))
              (find_none A ls))
              (find_none A before),
          charged (Z ⊎ (A l 0 ≡ 0)) (before ++ (l ∷ [])) ls
              (λ h. ⊎_elim (λ j. inl (z (h.0, j, h.2))) (λ j. ⊎_elim (λ q. inr (ap (λ (y : FactorSites). A y 0) (sym q) ∙ h.2)) (λ a. absurd a) j) (In-append_cases h.0 before (l ∷ []) h.1))
              (e ∙ sym (append_assoc before (l ∷ []) ls)),
        )

    point_is : (u : Universe) → point_all u (factor_counts (entry_of counts)) (factor_totals U) S.parts n ≡ point_all u A (factor_totals T) S.parts n
    unfolding A U
    point_is u =
        point_all-both u (factor_counts (entry_of counts)) A (factor_totals U) S.parts n (λ l j m h. counted l.node m (falls.parts_there l j) (omega arith))
        ∙ reads-point u A (factor_totals T) (factor_totals U) n ⊥ S.parts (λ z. z)
        (λ l j m h. sum_by-same (λ s. entry_of totals s m) (λ s. T s m) l.sites (λ s q. below_is s m (falls.part_sites_there l s j q) h))
        (charged ⊥ [] S.parts (λ h. h.1) refl)

    pub scope_reads : (u : Universe) (factors : List (Option ℕ)) (links : List (Option Link)) (Z : Scope) → IsScope factors links S Z
        → laid_number u (entry_of counts) (entry_of totals) factors links n Z ≡ scope_number u C T S n
    unfolding A U Behind
    scope_reads u factors links Z is =
        both (Z.own * entry_of counts Z.node n) (sum_by (λ s. entry_of totals s n) Z.sites + point_of u (entry_of counts) (entry_of totals) factors (drop Z.start links) n)
        (S.own * C S.node n) (sum_by (λ s. T s n) S.sites + point_all u (factor_counts C) (factor_totals T) S.parts n)
        (ap (λ a. a * entry_of counts Z.node n) is.own ∙ ap (λ x. S.own * entry_of counts x n) is.node ∙ ap (λ m. S.own * m) (counted S.node n falls.node (omega arith)))
        (both (sum_by (λ s. entry_of totals s n) Z.sites) (point_of u (entry_of counts) (entry_of totals) factors (drop Z.start links) n) (sum_by (λ s. T s n) S.sites) (point_all u (factor_counts C) (factor_totals T) S.parts n)
        (ap (λ (l : List ℕ). sum_by (λ s. entry_of totals s n) l) is.sites ∙ sum_by-same (λ s. entry_of totals s n) (λ s. T s n) S.sites (λ s j. filled_is s (falls.sites_there s j) (falls.sites_fall s j)))
        (ap (λ (ls : List (Option Link)). point_of u (entry_of counts) (entry_of totals) factors ls n) is.laid.1
        ∙ point-row u (entry_of counts) (entry_of totals) factors is.row is.laid.0 n is.behind
        ∙ ap (λ (fs : List FactorSites). point_all u (factor_counts (entry_of counts)) (factor_totals (entry_of totals)) fs n) is.parts
        ∙ point_is u))

  pub scopes_read : (u : Universe) (factors : List (Option ℕ)) (links : List (Option Link)) (Ss : List plain.Scope) (Zs : List Scope) → ((S : plain.Scope) → In S Ss → ScopeFalls (length p.nodes) (length p.sites) Before C S i)
      → AreScopes factors links Ss Zs → sum_by (laid_number u (entry_of counts) (entry_of totals) factors links n) Zs ≡ sum_by (λ S. scope_number u C T S n) Ss
  scopes_read u factors links [] [] f a = refl
  scopes_read u factors links [] (Z ∷ Zs) f a = absurd a
  scopes_read u factors links (S ∷ Ss) [] f a = absurd a
  scopes_read u factors links (S ∷ Ss) (Z ∷ Zs) f a =
      sum_by-cons (laid_number u (entry_of counts) (entry_of totals) factors links n) Z Zs
      ∙ both (laid_number u (entry_of counts) (entry_of totals) factors links n Z) (sum_by (laid_number u (entry_of counts) (entry_of totals) factors links n) Zs) (scope_number u C T S n) (sum_by (λ S. scope_number u C T S n) Ss)
      (scope_reads S (f S (inl refl)) u factors links Z a.0) (scopes_read u factors links Ss Zs (λ R j. f R (inr j)) a.1)
      ∙ sym (sum_by-cons (λ S. scope_number u C T S n) S Ss)
