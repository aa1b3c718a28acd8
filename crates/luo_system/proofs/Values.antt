-- The value of a construct over values of its parts, and where it looks.
use Rattle.std.proofs.Common.{◌≡◌, ℕ, zero, suc, ◌<◌, ◌≤◌, refl, sym, ◌∙◌, ap, arith, subst, ℤ, pos, ◌+ℤ◌, ◌*ℤ◌, Option, ◌⊎◌, inl, inr, ⊎_elim, List, [], ◌∷◌, ◌++◌, append_assoc}
use Rattle.std.proofs.lemmas.Int.{ints}
use Rattle.std.proofs.Math.IntN.{zero-*ℤ, *ℤ-zero}
use Rattle.luo_finite.specs.Listing.{In}
use Rattle.luo_finite.proofs.Membership.{In-append_cases, In-append_right}
use Rattle.luo_model.specs.declared.program.Universe.{Universe}
use Rattle.luo_model.specs.declared.program.Kind.{Kind}
use Rattle.luo_model.specs.declared.program.Part.{Part}
use Rattle.luo_model.specs.declared.program.Shape.{Shape}
use Rattle.luo_model.specs.declared.program.Shape.TheVariants as shape
use Rattle.luo_model.specs.Invariant.{inner_parts}
use Rattle.luo_model.specs.Founded.{KeepsSize}
use Rattle.luo_founded.proofs.OtherParts.{others_by_place}
use Rattle.luo_equation.specs.Series.{only_at, times, coll}
use Rattle.luo_equation.specs.Expr.{Expr, Table, coef, sum_of_coefs, product_of_coefs}
use Rattle.luo_equation.proofs.SeriesLemmas.{over_shares_z-zero}
use Rattle.luo_equation.proofs.Local.{times-same, coll-same}
use Rattle.luo_system.specs.System.{atom_expr, exprs_of, shape_expr}
use Rattle.luo_system.proofs.PlainLaws.{coef-sum, coef-product}

abbrev pub sums_in : (Part → ℕ → ℤ) → List Part → ℕ → ℤ
sums_in F [] n = pos 0
sums_in F (part ∷ parts) n = F part n +ℤ sums_in F parts n

abbrev pub products_in : Universe → (Part → ℕ → ℤ) → List Part → ℕ → ℤ
products_in u F [] n = only_at 0 (pos 1) n
products_in u F (part ∷ parts) n = times u (F part) (products_in u F parts) n

abbrev pub shape_value : Universe → (Part → ℕ → ℤ) → Shape → ℕ → ℤ
shape_value u F (shape.Atom weight) n = only_at weight (pos 1) n
shape_value u F (shape.Union parts) n = sums_in F parts n
shape_value u F (shape.Product parts) n = products_in u F parts n
shape_value u F (shape.Coll kind part low high) n = coll u kind (F part) low high n

-- ---- the expression of a construct has its value
module _ (u : Universe) (t : Table) (e : Part → Expr) where
  abbrev F : Part → ℕ → ℤ
  F part n = coef u t (e part) n

  sums-exprs : (parts : List Part) (n : ℕ) → sum_of_coefs u t (exprs_of e parts) n ≡ sums_in F parts n
  sums-exprs [] n = refl
  sums-exprs (part ∷ parts) n = ap (λ z. F part n +ℤ z) (sums-exprs parts n)

  pub products-exprs : (parts : List Part) (n : ℕ) → product_of_coefs u t (exprs_of e parts) n ≡ products_in u F parts n
  products-exprs [] n = refl
  products-exprs (part ∷ parts) n = ap (λ (f : ℕ → ℤ). times u (F part) f n) (λ i m. products-exprs parts m i)

  atom-value : (weight n : ℕ) → coef u t (atom_expr weight) n ≡ only_at weight (pos 1) n
  atom-value zero n = refl
  atom-value (suc weight) n = refl

  pub shape-exprs : (s : Shape) (n : ℕ) → coef u t (shape_expr e s) n ≡ shape_value u F s n
  shape-exprs (shape.Atom weight) n = atom-value weight n
  shape-exprs (shape.Union parts) n = coef-sum u t (exprs_of e parts) n ∙ sums-exprs parts n
  shape-exprs (shape.Product parts) n = coef-product u t (exprs_of e parts) n ∙ products-exprs parts n
  shape-exprs (shape.Coll kind part low high) n = refl

-- ---- locality
module _ (u : Universe) (Z : ℕ → Type 0) (F G : Part → ℕ → ℤ) where
  -- both are 0 at size 0
  abbrev pub StartZero : Part → Type 0
  StartZero part = (F part 0 ≡ pos 0) × (G part 0 ≡ pos 0)

  abbrev pub SomeStartsZero : List Part → Type 0
  SomeStartsZero parts = (part : Part) × In part parts × StartZero part

  pub products-low : (parts : List Part) → SomeStartsZero parts → (products_in u F parts 0 ≡ pos 0) × (products_in u G parts 0 ≡ pos 0)
  products-low [] s = absurd s.1
  products-low (q ∷ parts) s = ⊎_elim
      (λ e. (low F q parts (ap (λ v. F v 0) (sym e) ∙ s.2.0), low G q parts (ap (λ v. G v 0) (sym e) ∙ s.2.1)))
      (λ i. let r = products-low parts (s.0, i, s.2) in (rest F q parts r.0, rest G q parts r.1))
      s.1
    where
      low : (H : Part → ℕ → ℤ) (q : Part) (parts : List Part) → H q 0 ≡ pos 0 → products_in u H (q ∷ parts) 0 ≡ pos 0
      low H q parts e = over_shares_z-zero u (λ i j. H q i *ℤ products_in u H parts j) ∙ ap (λ v. v *ℤ products_in u H parts 0) e ∙ zero-*ℤ (products_in u H parts 0)

      rest : (H : Part → ℕ → ℤ) (q : Part) (parts : List Part) → products_in u H parts 0 ≡ pos 0 → products_in u H (q ∷ parts) 0 ≡ pos 0
      rest H q parts e = over_shares_z-zero u (λ i j. H q i *ℤ products_in u H parts j) ∙ ap (λ v. H q 0 *ℤ v) e ∙ *ℤ-zero (H q 0)

  sums-same : (parts : List Part) (n : ℕ) → ((part : Part) → In part parts → F part n ≡ G part n) → sums_in F parts n ≡ sums_in G parts n
  sums-same [] n h = refl
  sums-same (part ∷ parts) n h = omega (arith, ints, h part (inl refl), sums-same parts n (λ q i. h q (inr i)))

  pub products-all : (parts : List Part) (n : ℕ) → ((part : Part) → In part parts → (m : ℕ) → m ≤ n → F part m ≡ G part m) → products_in u F parts n ≡ products_in u G parts n
  products-all [] n h = refl
  products-all (part ∷ parts) n h =
      times-same u (F part) (G part) (products_in u F parts) (products_in u G parts) n (λ m l. h part (inl refl) m (omega arith)) (λ m l. products-all parts m (λ q i j k. h q (inr i) j (omega arith)))
      (inl (h part (inl refl) n (omega arith))) (inl (products-all parts n (λ q i j k. h q (inr i) j k)))

  -- each factor is known at n, unless another starts with 0
  abbrev AtAll : List Part → ℕ → Type 0
  AtAll [] n = Unit {0}
  AtAll (part ∷ parts) n = ((F part n ≡ G part n) ⊎ SomeStartsZero parts) × (AtAll parts n ⊎ StartZero part)

  products-same : (parts : List Part) (n : ℕ) → ((part : Part) → In part parts → (m : ℕ) → m < n → F part m ≡ G part m) → AtAll parts n → products_in u F parts n ≡ products_in u G parts n
  products-same [] n h k = refl
  products-same (part ∷ parts) n h k =
      times-same u (F part) (G part) (products_in u F parts) (products_in u G parts) n (λ m l. h part (inl refl) m l) (λ m l. products-all parts m (λ q i j b. h q (inr i) j (omega arith)))
      (⊎_elim (λ e. inl e) (λ s. inr (products-low parts s)) k.0)
      (⊎_elim (λ a. inl (products-same parts n (λ q i j b. h q (inr i) j b) a)) (λ z. inr z) k.1)

  -- what is known of the parts of a construct for its value at n
  pub record AreNear (s : Shape) (n : ℕ) : Type 0 where
    pub below : (part : Part) → In part (inner_parts s) → (m : ℕ) → m < n → F part m ≡ G part m
    pub same : (part : Part) → In part (inner_parts s) → KeepsSize Z s part.node → F part n ≡ G part n
    pub start : (part : Part) → In part (inner_parts s) → Z part.node ⊎ StartZero part
    pub solid : (kind : Kind) (part : Part) (low : ℕ) (high : Option ℕ) → s ≡ shape.Coll kind part low high → StartZero part

  all_or_some : (parts : List Part) → ((part : Part) → In part parts → Z part.node ⊎ StartZero part) → ((part : Part) → In part parts → Z part.node) ⊎ SomeStartsZero parts
  all_or_some [] h = inl (λ part i. absurd i)
  all_or_some (q ∷ parts) h = ⊎_elim
      (λ z. ⊎_elim (λ a. inl (λ part i. ⊎_elim (λ e. subst (λ (v : Part). Z v.node) (sym e) z) (λ j. a part j) i)) (λ s. inr (s.0, inr s.1, s.2)) (all_or_some parts (λ part i. h part (inr i))))
      (λ z. inr (q, inl refl, z)) (h q (inl refl))

  module _ (all : List Part) (n : ℕ) (near : AreNear (shape.Product all) n) where
    at_all : (before parts : List Part) → all ≡ before ++ parts → ((part : Part) → In part before → Z part.node) → AtAll parts n
    at_all before [] is b = tt
    at_all before (part ∷ parts) is b =
        let here : In part all = subst (λ l. In part l) (sym is) (In-append_right part before (part ∷ parts) (inl refl)) in
        let there : (q : Part) → In q parts → In q all = λ q i. subst (λ l. In q l) (sym is) (In-append_right q before (part ∷ parts) (inr i)) in (
          ⊎_elim (λ z. inl (near.same part here (others_by_place Z all before part parts is b z))) (λ s. inr s) (all_or_some parts (λ q i. near.start q (there q i))),
          ⊎_elim
              (λ z. inl (at_all (before ++ part ∷ []) parts (is ∙ sym (append_assoc before (part ∷ []) parts))
              (λ q i. ⊎_elim (λ j. b q j) (λ j. ⊎_elim (λ e. subst (λ (v : Part). Z v.node) (sym e) z) (λ k. absurd k) j) (In-append_cases q before (part ∷ []) i))))
              (λ z. inr z) (near.start part here),
        )

  -- THE LAW of locality
  pub shape-same : (s : Shape) (n : ℕ) → AreNear s n → shape_value u F s n ≡ shape_value u G s n
  shape-same (shape.Atom weight) n near = refl
  shape-same (shape.Union parts) n near = sums-same parts n (λ part i. near.same part i (part, i, refl))
  shape-same (shape.Product parts) n near = products-same parts n (λ part i m l. near.below part i m l) (at_all parts n near [] parts refl (λ part i. absurd i))
  shape-same (shape.Coll kind part low high) n near =
      let z = near.solid kind part low high refl in
      coll-same u kind (F part) (G part) low high n z.0 z.1 (λ m l. near.below part (inl refl) m l) (λ w. near.same part (inl refl) (refl, w))
