-- Charged products, one item at a time.
use Rattle.std.proofs.Common.{◌≡◌, ℕ, zero, suc, ◌+◌, ◌*◌, ◌<◌, ◌==◌, Bool, true, false, if◌then◌else◌, List, [], ◌∷◌, length, map, sum_by, refl, sym, ◌∙◌, ap, arith}
use Rattle.std.proofs.lemmas.Bool.{eq-eqb, eqb-true}
use Rattle.std.proofs.lemmas.List.Sums.{sum_by-cons}
use Rattle.std.proofs.Math.Nat.{add-mul, mul-add}
use Rattle.luo_model.specs.declared.program.Universe.{Universe}
use Rattle.luo_model.specs.declared.program.Part.{Part}
use Rattle.luo_model.specs.Tree.{Tree}
use Rattle.luo_model.specs.Program.{Items, no_items, item, Item}
use Rattle.luo_counting.specs.Sharing.{shares, products}
use Rattle.luo_counting.proofs.Two.{over_shares-add, over_shares-same}
use Rattle.luo_counting.proofs.TreeParts.{sums_in}
use Rattle.luo_counting.proofs.TreeCharges.{plain, place}
use Rattle.luo_recipes.specs.Shares.{point_all}
use Rattle.luo_recipes.specs.Tasks.{FactorSites, var_in, site_in, sites_on, factors_from, factor_counts, factor_totals}
use Rattle.luo_recipes.proofs.ShareLemmas.{shares-same}

times_sum : (a b c : ℕ) → (a + b) * c ≡ a * c + b * c
times_sum a b c = add-mul a b c

sum_times : (a b c : ℕ) → a * (b + c) ≡ a * b + a * c
sum_times a b c = mul-add a b c

pub shares-plus_left : (u : Universe) (f g b : ℕ → ℕ) (n : ℕ) → shares u (λ k. f k + g k) b n ≡ shares u f b n + shares u g b n
shares-plus_left u f g b n = over_shares-same u (λ i j. (f i + g i) * b j) (λ i j. f i * b j + g i * b j) n (λ i j e. times_sum (f i) (g i) (b j)) ∙ over_shares-add u (λ i j. f i * b j) (λ i j. g i * b j) n

pub shares-plus_right : (u : Universe) (a f g : ℕ → ℕ) (n : ℕ) → shares u a (λ k. f k + g k) n ≡ shares u a f n + shares u a g n
shares-plus_right u a f g n = over_shares-same u (λ i j. a i * (f j + g j)) (λ i j. a i * f j + a i * g j) n (λ i j e. sum_times (a i) (f j) (g j)) ∙ over_shares-add u (λ i j. a i * f j) (λ i j. a i * g j) n

twice : (x : ℕ) → x ≡ x + x → x ≡ 0
twice x e = omega (arith, e)

pub shares-none_left : (u : Universe) (a b : ℕ → ℕ) (n : ℕ) → ((k : ℕ) → a k ≡ 0) → shares u a b n ≡ 0
shares-none_left u a b n h =
    twice (shares u a b n) (shares-same u a b (λ k. a k + a k) b n (λ k l. omega (arith, h k)) (λ k l. refl) ∙ shares-plus_left u a a b n)

pub shares-none_right : (u : Universe) (a b : ℕ → ℕ) (n : ℕ) → ((k : ℕ) → b k ≡ 0) → shares u a b n ≡ 0
shares-none_right u a b n h =
    twice (shares u a b n) (shares-same u a b a (λ k. b k + b k) n (λ k l. refl) (λ k l. omega (arith, h k)) ∙ shares-plus_right u a b b n)

not_equal : (a b : ℕ) → (a ≡ b → ⊥) → (a == b) ≡ false
not_equal a b n = by (a == b) refl
  where
    by : (t : Bool) → (a == b) ≡ t → t ≡ false
    by true e = absurd (n (eqb-true a b e))
    by false e = refl

-- an item on another variable, and one on this
sites_other : (i : Item) (is : Items) (j : ℕ) → (var_in i ≡ j → ⊥) → sites_on j (item i is) ≡ sites_on j is
sites_other i is j n = ap (λ (t : Bool). if t then site_in i ∷ sites_on j is else sites_on j is) (not_equal (var_in i) j n)

pub sites_here : (i : Item) (is : Items) (j : ℕ) → var_in i ≡ j → sites_on j (item i is) ≡ site_in i ∷ sites_on j is
sites_here i is j e = ap (λ (t : Bool). if t then site_in i ∷ sites_on j is else sites_on j is) (eq-eqb (var_in i) j e)

-- an item on a variable before these
factors_before : (i : Item) (is : Items) (j : ℕ) (ys : List Part) → var_in i < j → factors_from (item i is) j ys ≡ factors_from is j ys
factors_before i is j [] h = refl
factors_before i is j (y ∷ ys) h =
    ap (λ (s : List ℕ). record { node = y.node; sites = s } ∷ factors_from (item i is) (suc j) ys) (sites_other i is j (λ e. absurd (omega (arith, e, h))))
    ∙ ap (λ (fs : List FactorSites). record { node = y.node; sites = sites_on j is } ∷ fs) (factors_before i is (suc j) ys (omega arith))

part_node : Part → ℕ
part_node part = part.node

module _ (u : Universe) (counts totals : ℕ → ℕ → ℕ) where
  abbrev pub column : Part → ℕ → ℕ
  column part = counts part.node

  plain_counts : (is : Items) (j : ℕ) (ps : List Part) → map (factor_counts counts) (factors_from is j ps) ≡ sums_in (plain column ps)
  plain_counts is j [] = refl
  plain_counts is j (part ∷ ps) = ap (λ l. counts part.node ∷ l) (plain_counts is (suc j) ps)

  -- the charged products of the factors from a variable on
  abbrev pub pointed : Items → ℕ → List Part → ℕ → ℕ
  pointed is j ps n = point_all u (factor_counts counts) (factor_totals totals) (factors_from is j ps) n

  pointed_before : (i : Item) (is : Items) (j : ℕ) (ps : List Part) (n : ℕ) → var_in i < j → pointed (item i is) j ps n ≡ pointed is j ps n
  pointed_before i is j ps n h = ap (λ (fs : List FactorSites). point_all u (factor_counts counts) (factor_totals totals) fs n) (factors_before i is j ps h)

  abbrev site_sum : List ℕ → ℕ → ℕ
  site_sum sites k = sum_by (λ s. totals s k) sites

  rest : Items → ℕ → List Part → ℕ → ℕ
  rest is j ps = products u (map (factor_counts counts) (factors_from is j ps))

  pointed_cons : (is : Items) (j : ℕ) (part : Part) (ps : List Part) (n : ℕ) → pointed is j (part ∷ ps) n ≡ shares u (site_sum (sites_on j is)) (rest is (suc j) ps) n + shares u (counts part.node) (pointed is (suc j) ps) n
  unfolding rest
  pointed_cons is j part ps n = refl

  rest_is : (is : Items) (j : ℕ) (ps : List Part) → rest is j ps ≡ products u (sums_in (plain column ps))
  unfolding rest
  rest_is is j ps = ap (products u) (plain_counts is j ps)

  pub point_more : (i : Item) (is : Items) (j d : ℕ) (w : Tree → ℕ) (ps : List Part) (n : ℕ) → var_in i ≡ j + d → d < length ps
      → pointed (item i is) j ps n ≡ products u (sums_in (place column d w (totals (site_in i)) ps)) n + pointed is j ps n
  point_more i is j d w [] n e h = absurd (omega arith)
  point_more i is j zero w (part ∷ ps) n e h =
      let A : ℕ → ℕ = products u (sums_in (plain column ps)) in
      let b : ℕ → ℕ = totals (site_in i) in
      let old : ℕ → ℕ = site_sum (sites_on j is) in
      let new : ℕ → ℕ = site_sum (sites_on j (item i is)) in
      let k1 : shares u new (rest (item i is) (suc j) ps) n ≡ shares u b A n + shares u old A n =
      ap (λ (r : ℕ → ℕ). shares u new r n) (rest_is (item i is) (suc j) ps)
      ∙ shares-same u new A (λ k. b k + old k) A n (λ k l. ap (λ (s : List ℕ). site_sum s k) (sites_here i is j (omega (arith, e))) ∙ sum_by-cons (λ s. totals s k) (site_in i) (sites_on j is)) (λ k l. refl)
      ∙ shares-plus_left u b old A n in
      let k2 : shares u (counts part.node) (pointed (item i is) (suc j) ps) n ≡ shares u (counts part.node) (pointed is (suc j) ps) n =
      shares-same u (counts part.node) (pointed (item i is) (suc j) ps) (counts part.node) (pointed is (suc j) ps) n (λ k l. refl) (λ k l. pointed_before i is (suc j) ps k (omega (arith, e))) in
      let k3 : shares u old (rest is (suc j) ps) n ≡ shares u old A n = ap (λ (r : ℕ → ℕ). shares u old r n) (rest_is is (suc j) ps) in
      omega (arith, pointed_cons (item i is) j part ps n, pointed_cons is j part ps n, k1, k2, k3)
  point_more i is j (suc d) w (part ∷ ps) n e h =
      let P : ℕ → ℕ = products u (sums_in (place column d w (totals (site_in i)) ps)) in
      let old : ℕ → ℕ = site_sum (sites_on j is) in
      let new : ℕ → ℕ = site_sum (sites_on j (item i is)) in
      let k1 : shares u new (rest (item i is) (suc j) ps) n ≡ shares u old (rest is (suc j) ps) n =
      ap (λ (r : ℕ → ℕ). shares u new r n) (rest_is (item i is) (suc j) ps ∙ sym (rest_is is (suc j) ps))
      ∙ ap (λ (s : List ℕ). shares u (site_sum s) (rest is (suc j) ps) n) (sites_other i is j (λ g. absurd (omega (arith, e, g)))) in
      let k2 : shares u (counts part.node) (pointed (item i is) (suc j) ps) n ≡ shares u (counts part.node) P n + shares u (counts part.node) (pointed is (suc j) ps) n =
      shares-same u (counts part.node) (pointed (item i is) (suc j) ps) (counts part.node) (λ k. P k + pointed is (suc j) ps k) n (λ k l. refl) (λ k l. point_more i is (suc j) d w ps k (omega (arith, e)) (omega arith))
      ∙ shares-plus_right u (counts part.node) P (pointed is (suc j) ps) n in
      omega (arith, pointed_cons (item i is) j part ps n, pointed_cons is j part ps n, k1, k2)

  -- without items nothing is charged
  pub point_none : (j : ℕ) (ps : List Part) (n : ℕ) → pointed no_items j ps n ≡ 0
  point_none j [] n = refl
  point_none j (part ∷ ps) n =
      omega (arith, pointed_cons no_items j part ps n, shares-none_left u (site_sum []) (rest no_items (suc j) ps) n (λ k. refl), shares-none_right u (counts part.node) (pointed no_items (suc j) ps) n (λ k. point_none (suc j) ps k))
