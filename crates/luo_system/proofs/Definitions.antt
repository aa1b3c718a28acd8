-- The equations of the definitions: counts meet them, and nothing else does.
use Rattle.std.proofs.Common.{◌≡◌, ℕ, zero, suc, ◌+◌, ◌*◌, ◌<◌, ◌≤◌, refl, sym, ◌∙◌, ap, arith, subst, ℤ}
use Rattle.std.proofs.Common.{pos, Option, Some, None, IfSome, ◌⊎◌, inl, inr, ⊎_elim, List, [], ◌∷◌, length, slice_get, sum_by}
use Rattle.std.proofs.lemmas.Int.{ints}
use Rattle.std.proofs.lemmas.Option.{slice_get_within}
use Rattle.std.proofs.lemmas.List.Sums.{sum_by-cons}
use Rattle.std.proofs.Math.Nat.{mul-pos}
use Rattle.luo_finite.specs.Listing.{In}
use Rattle.luo_model.specs.declared.program.Part.{Part}
use Rattle.luo_model.specs.declared.program.Def.{Def}
use Rattle.luo_model.specs.declared.program.Shape.{Shape}
use Rattle.luo_model.specs.declared.program.Shape.TheVariants as shape
use Rattle.luo_model.specs.Tree.{Tree}
use Rattle.luo_model.specs.Program.{Program, shape_of}
use Rattle.luo_model.specs.Structures.{IsStructure}
use Rattle.luo_model.specs.Invariant.{IsProgram, IsPart, inner_parts, bare, NamingEnds, at_construct, at_name}
use Rattle.luo_model.specs.Founded.{HasZero, SameSize, IsFounded}
use Rattle.luo_model.proofs.NodeLemmas.{node_at_place}
use Rattle.luo_finite.proofs.Places.{some_same}
use Rattle.luo_counting.specs.Sharing.{products}
use Rattle.luo_counting.proofs.Rows.{over_shares-zero}
use Rattle.luo_counting.proofs.TreeParts as numbers
use Rattle.luo_counting.proofs.TreeCharges.{plain}
use Rattle.luo_equation.specs.Expr.{Expr, Table, coef}
use Rattle.luo_equation.proofs.Local.{coll-low}
use Rattle.luo_system.specs.System.{named, node_expr, part_expr}
use Rattle.luo_system.specs.Holding.{HasZeroStart}
use Rattle.luo_system.proofs.Steps.{by_size_and_step}
use Rattle.luo_system.proofs.Values.{sums_in, shape_value, shape-exprs, shape-same, products-low}
use Rattle.luo_system.proofs.Counts.{count_of, count_is, zero_or_none, solid_part, CZ, C, node_value, sums-pos, products-pos}

module _ (p : Program) (q : IsProgram p) where
  -- the parts of a node are there, and those by themselves stand behind it
  pub part_there : (x : ℕ) (s : Shape) → shape_of p x ≡ s → (part : Part) → In part (inner_parts s) → IsPart p part × (part.name ≡ None → x < part.node)
  part_there x s is part i = ⊎_elim
      (λ n.
      let j : In part (inner_parts n.0.shape) = subst (λ v. In part (inner_parts v)) (sym is ∙ n.2) i in
      (q.parts_there x n.0 n.1 part j, λ e. (q.bare_held x part.node n.0 n.1 (subst (λ (v : Part). In v (inner_parts n.0.shape)) (by_name part.node part.name e) j)).behind))
      (λ e. absurd (subst (λ v. In part (inner_parts v)) (sym is ∙ e) i)) (node_at_place p x)
    where
      by_name : (node : ℕ) (name : Option ℕ) → name ≡ None → record { node = node; name = name } ≡ bare node
      by_name node name e = λ i. record { node = node; name = e i }

  name_there : (part : Part) → IsPart p part → (i : ℕ) → part.name ≡ Some i → (d : Def) × (slice_get p.defs i ≡ Some d) × (part.node ≡ d.whole.node)
  name_there part h i e = subst (λ o. IfSome o (λ i. (d : Def) × (slice_get p.defs i ≡ Some d) × (part.node ≡ d.whole.node))) e h.1

module _ (p : Program) (q : IsProgram p) (f : IsFounded p) (t : Table) (N : ℕ) where
  -- ---- the counts meet the equations
  module _ (right : (i : ℕ) (d : Def) → slice_get p.defs i ≡ Some d → (n : ℕ) → n ≤ N → t.x i n ≡ pos (count_of p q f d.whole.node n)) where
    pub part_holds : (part : Part) → IsPart p part → (m : ℕ) → m ≤ N → (E : Expr) → (part.name ≡ None → coef p.universe t E m ≡ pos (count_of p q f part.node m)) → (name : Option ℕ) → part.name ≡ name
        → coef p.universe t (named name E) m ≡ pos (count_of p q f part.node m)
    part_holds part h m l E g (Some i) e = let r = name_there p q part h i e in right i r.0 r.1 m l ∙ ap (λ y. pos (count_of p q f y m)) (sym r.2)
    part_holds part h m l E g None e = g e

    pub node_holds : (rounds x : ℕ) → x < length p.nodes → length p.nodes ≤ rounds + x → (n : ℕ) → n ≤ N → coef p.universe t (node_expr p rounds x) n ≡ pos (count_of p q f x n)
    node_holds zero x l b n k = absurd (omega (arith, l, b))
    node_holds (suc r) x l b n k =
        let u = p.universe in
        let e : Part → Expr = λ part. named part.name (node_expr p r part.node) in
        let G : Part → ℕ → ℤ = λ part m. coef u t (e part) m in
        let s : Shape = shape_of p x in
        let holds : (part : Part) → In part (inner_parts s) → (m : ℕ) → m ≤ n → G part m ≡ CZ p q f part m = λ part i m h.
        let w = part_there p q x s refl part i in
        part_holds part w.0 m (omega arith) (node_expr p r part.node) (λ v. let a = w.1 v in let c = w.0.0 in node_holds r part.node c (omega (arith, b, a)) m (omega arith)) part.name refl in
        shape-exprs u t e s n
        ∙ shape-same u (λ y. Unit {0}) G (CZ p q f) s n (record {
          below = λ part i m h. holds part i m (omega arith);
          same = λ part i v. holds part i n (omega arith);
          start = λ part i. inl tt;
          solid = λ kind part low high is.
              let z : CZ p q f part 0 ≡ pos 0 = ap pos (solid_part p q f x kind part low high is).1 in
              (holds part (subst (λ v. In part (inner_parts v)) (sym is) (inl refl)) 0 (omega arith) ∙ z, z);
        })
        ∙ node_value p q f x n s refl

    pub part_right : (part : Part) → IsPart p part → (n : ℕ) → n ≤ N → coef p.universe t (part_expr p part) n ≡ pos (count_of p q f part.node n)
    part_right part h n k = part_holds part h n k (node_expr p (length p.nodes) part.node) (λ v. node_holds (length p.nodes) part.node h.0 (omega arith) n k) part.name refl

  -- ---- and nothing else does
  module _ (hold : (i : ℕ) (d : Def) → slice_get p.defs i ≡ Some d → (n : ℕ) → n ≤ N → t.x i n ≡ coef p.universe t (part_expr p d.whole) n) (starts : HasZeroStart p t) where
    -- a name has the number of its definition's node
    name_value : (i : ℕ) → NamingEnds p i → (d : Def) → slice_get p.defs i ≡ Some d → (n : ℕ) → n ≤ N → t.x i n ≡ coef p.universe t (node_expr p (length p.nodes) d.whole.node) n
    name_value i (at_construct e g h) d k n l =
        let same : e ≡ d = some_same e d (sym g ∙ k) in
        hold i d k n l ∙ ap (λ o. coef p.universe t (named o (node_expr p (length p.nodes) d.whole.node)) n) (ap (λ (v : Def). v.whole.name) (sym same) ∙ h)
    name_value i (at_name e j g h ends) d k n l =
        let same : e ≡ d = some_same e d (sym g ∙ k) in
        let name : d.whole.name ≡ Some j = ap (λ (v : Def). v.whole.name) (sym same) ∙ h in
        let r = name_there p q d.whole (q.wholes_there i d k) j name in
        hold i d k n l ∙ ap (λ o. coef p.universe t (named o (node_expr p (length p.nodes) d.whole.node)) n) name
        ∙ name_value j ends r.0 r.1 n l ∙ ap (λ y. coef p.universe t (node_expr p (length p.nodes) y) n) (sym r.2)

    no_structure : (x : ℕ) → count_of p q f x 0 ≡ 0 → (s : Tree) → IsStructure p x 0 s → ⊥
    no_structure x z s m = let c = count_is p q f x 0 in let l = c.exists in nothing l.0 (c.each l.0 l.1 ∙ z) (l.1.complete s m)
      where
        nothing : (l : List Tree) → length l ≡ 0 → In s l → ⊥
        nothing [] e i = i
        nothing (y ∷ l) e i = omega (arith, e)

    one_zero : (a b : ℕ) → a * b ≡ 0 → (a ≡ 0) ⊎ (b ≡ 0)
    one_zero zero b e = inl refl
    one_zero (suc a) zero e = inr refl
    one_zero (suc a) (suc b) e = absurd (omega (arith, e, mul-pos (let h : 0 < suc a = omega arith in h) (let h : 0 < suc b = omega arith in h)))

    some_zero : (parts : List Part) → products p.universe (numbers.sums_in (plain (C p q f) parts)) 0 ≡ 0 → (part : Part) × In part parts × (count_of p q f part.node 0 ≡ 0)
    some_zero [] e = absurd (omega (arith, e))
    some_zero (part ∷ parts) e = ⊎_elim (λ z. (part, inl refl, z)) (λ z. let r = some_zero parts z in (r.0, inr r.1, r.2))
        (one_zero (count_of p q f part.node 0) (products p.universe (numbers.sums_in (plain (C p q f) parts)) 0)
        (sym (over_shares-zero p.universe (λ i j. count_of p q f part.node i * products p.universe (numbers.sums_in (plain (C p q f) parts)) j)) ∙ e))

    all_zero : (parts : List Part) → sum_by (λ (part : Part). count_of p q f part.node 0) parts ≡ 0 → (part : Part) → In part parts → count_of p q f part.node 0 ≡ 0
    all_zero [] e part i = absurd i
    all_zero (v ∷ parts) e part i =
        let c = sum_by-cons (λ (part : Part). count_of p q f part.node 0) v parts in
        ⊎_elim (λ g. ap (λ (w : Part). count_of p q f w.node 0) g ∙ (let z : count_of p q f v.node 0 ≡ 0 = omega (arith, e, c) in z)) (λ j. all_zero parts (omega (arith, e, c)) part j) i

    sums-low : (G : Part → ℕ → ℤ) (parts : List Part) → ((part : Part) → In part parts → G part 0 ≡ pos 0) → sums_in G parts 0 ≡ pos 0
    sums-low G [] h = refl
    sums-low G (part ∷ parts) h = omega (arith, ints, h part (inl refl), sums-low G parts (λ v i. h v (inr i)))

    -- at size 0, what has no structure has the number 0
    part_zero : (part : Part) → IsPart p part → count_of p q f part.node 0 ≡ 0 → (E : Expr) → (part.name ≡ None → coef p.universe t E 0 ≡ pos 0) → (name : Option ℕ) → part.name ≡ name
        → coef p.universe t (named name E) 0 ≡ pos 0
    part_zero part h z E g (Some i) e = let r = name_there p q part h i e in starts i r.0 r.1 (no_structure r.0.whole.node (ap (λ y. count_of p q f y 0) (sym r.2) ∙ z))
    part_zero part h z E g None e = g e

    shape_zero : (x : ℕ) (s : Shape) → shape_of p x ≡ s → count_of p q f x 0 ≡ 0 → (G : Part → ℕ → ℤ) →
        ((part : Part) → In part (inner_parts s) → count_of p q f part.node 0 ≡ 0 → G part 0 ≡ pos 0) → shape_value p.universe G s 0 ≡ pos 0
    shape_zero x (shape.Atom weight) is z G h = node_value p q f x 0 (shape.Atom weight) is ∙ ap pos z
    shape_zero x (shape.Union parts) is z G h =
        let e : pos (sum_by (λ (part : Part). count_of p q f part.node 0) parts) ≡ pos 0 = sym (sums-pos p q f parts 0) ∙ node_value p q f x 0 (shape.Union parts) is ∙ ap pos z in
        sums-low G parts (λ part i. h part i (all_zero parts (omega (arith, ints, e)) part i))
    shape_zero x (shape.Product parts) is z G h =
        let e : pos (products p.universe (numbers.sums_in (plain (C p q f) parts)) 0) ≡ pos 0 = sym (products-pos p q f parts 0) ∙ node_value p q f x 0 (shape.Product parts) is ∙ ap pos z in
        let r = some_zero parts (omega (arith, ints, e)) in
        let g = h r.0 r.1 r.2 in
        (products-low p.universe (λ y. Unit {0}) G G parts (r.0, r.1, (g, g))).0
    shape_zero x (shape.Coll kind part low high) is z G h = coll-low p.universe kind (G part) (CZ p q f part) low high ∙ node_value p q f x 0 (shape.Coll kind part low high) is ∙ ap pos z

    node_zero : (rounds x : ℕ) → x < length p.nodes → length p.nodes ≤ rounds + x → count_of p q f x 0 ≡ 0 → coef p.universe t (node_expr p rounds x) 0 ≡ pos 0
    node_zero zero x l b z = absurd (omega (arith, l, b))
    node_zero (suc r) x l b z =
        let e : Part → Expr = λ part. named part.name (node_expr p r part.node) in
        shape-exprs p.universe t e (shape_of p x) 0
        ∙ shape_zero x (shape_of p x) refl z (λ part m. coef p.universe t (e part) m) (λ part i y.
        let w = part_there p q x (shape_of p x) refl part i in
        part_zero part w.0 y (node_expr p r part.node) (λ v. let a = w.1 v in let c = w.0.0 in node_zero r part.node c (omega (arith, b, a)) y) part.name refl)

    -- the number of a node, written with any number of rounds that is enough
    abbrev IsOne : ℕ → ℕ → Type 0
    IsOne n x = n ≤ N → x < length p.nodes → (rounds : ℕ) → length p.nodes ≤ rounds + x → coef p.universe t (node_expr p rounds x) n ≡ pos (count_of p q f x n)

    part_one : (part : Part) → IsPart p part → (n : ℕ) → n ≤ N → IsOne n part.node → (r : ℕ) → (part.name ≡ None → length p.nodes ≤ r + part.node) → (name : Option ℕ) → part.name ≡ name
        → coef p.universe t (named name (node_expr p r part.node)) n ≡ pos (count_of p q f part.node n)
    part_one part h n l one r b (Some i) e =
        let d = name_there p q part h i e in
        name_value i (q.naming_ends i (slice_get_within p.defs i d.0 d.1)) d.0 d.1 n l
        ∙ ap (λ y. coef p.universe t (node_expr p (length p.nodes) y) n) (sym d.2)
        ∙ one l h.0 (length p.nodes) (omega arith)
    part_one part h n l one r b None e = one l h.0 r (b e)

    node_one : (n x : ℕ) → IsOne n x
    node_one n x = by_size_and_step p f IsOne step n x
      where
        step : (n x : ℕ) → ((m y : ℕ) → m < n → IsOne m y) → ((y : ℕ) → SameSize p x y → IsOne n y) → IsOne n x
        step n x known same k l zero b = absurd (omega (arith, l, b))
        step n x known same k l (suc r) b =
            let u = p.universe in
            let e : Part → Expr = λ part. named part.name (node_expr p r part.node) in
            let G : Part → ℕ → ℤ = λ part m. coef u t (e part) m in
            let s : Shape = shape_of p x in
            let there : (part : Part) → In part (inner_parts s) → IsPart p part × (part.name ≡ None → x < part.node) = part_there p q x s refl in
            let far : (part : Part) → In part (inner_parts s) → part.name ≡ None → length p.nodes ≤ r + part.node = λ part i v. let a = (there part i).1 v in omega (arith, b, a) in
            let start : (part : Part) → In part (inner_parts s) → count_of p q f part.node 0 ≡ 0 → (G part 0 ≡ pos 0) × (CZ p q f part 0 ≡ pos 0) = λ part i z.
            (part_zero part (there part i).0 z (node_expr p r part.node) (λ v. node_zero r part.node ((there part i).0).0 (far part i v) z) part.name refl, ap pos z) in
            shape-exprs u t e s n
            ∙ shape-same u (HasZero p) G (CZ p q f) s n (record {
              below = λ part i m h. part_one part (there part i).0 m (omega arith) (known m part.node h) r (far part i) part.name refl;
              same = λ part i v. part_one part (there part i).0 n k (same part.node v) r (far part i) part.name refl;
              start = λ part i. ⊎_elim (λ z. inl z) (λ o. inr (start part i o.1)) (zero_or_none p q f part.node);
              solid = λ kind part low high is. start part (subst (λ v. In part (inner_parts v)) (sym is) (inl refl)) (solid_part p q f x kind part low high is).1;
            })
            ∙ node_value p q f x n s refl

    -- THE LAW: the equations of the definitions have the counts alone
    pub series_one : (i : ℕ) (d : Def) → slice_get p.defs i ≡ Some d → (n : ℕ) → n ≤ N → t.x i n ≡ pos (count_of p q f d.whole.node n)
    series_one i d k n l =
        name_value i (q.naming_ends i (slice_get_within p.defs i d k)) d k n l ∙ node_one n d.whole.node l (q.wholes_there i d k).0 (length p.nodes) (omega arith)
