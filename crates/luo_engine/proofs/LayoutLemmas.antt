-- Nodes are laid out one behind the other.
use Rattle.std.proofs.Common.{◌≡◌, ◌⊎◌, ⊎_elim, inl, inr, ℕ, zero, suc, ◌+◌, ◌≤◌, ◌<◌, List, [], ◌∷◌, ◌++◌, length, map, drop, slice_index, slice_get, refl, sym, ◌∙◌, ap, subst, arith, Some, None, Option, append_assoc}
use Rattle.std.proofs.Math.Seq.{drop-append_seam, get_or-append_seam}
use Rattle.std.proofs.lemmas.List.{drop-append-le, get_or_append_left, length-append, length-map}
use Rattle.luo_num.specs.declared.limits.TheConstants.{PART_LIMIT}
use Rattle.luo_finite.specs.Listing.{In}
use Rattle.luo_model.specs.declared.program.Part.{Part}
use Rattle.luo_model.specs.declared.program.Shape.{Shape}
use Rattle.luo_model.specs.declared.program.Shape.TheVariants.{Atom, Union, Product, Coll}
use Rattle.luo_model.specs.Program.{Program, shape_of}
use Rattle.luo_model.specs.Levels.{IsRank}
use Rattle.luo_model.specs.Invariant.{IsProgram, IsAllowed, inner_parts}
use Rattle.luo_model.proofs.NodeLemmas.{node_at_place}
use Rattle.luo_engine.specs.declared.layout.Layout.{Layout}
use Rattle.luo_engine.specs.inner.Filled.{AreRanks, IsLaid}
use Rattle.luo_engine.specs.inner.Layout.{rows_of_parts, laid_behind, AreLaidBelow, AreRanksBelow}
use Rattle.luo_engine.proofs.inner.RowLemmas.{room-there}
use Rattle.luo_engine.proofs.inner.PlanLemmas.{parts_of_program}

less_or_eq : (a b : ℕ) → a < b + 1 → (a < b) ⊎ (a ≡ b)
less_or_eq a b h = grind arith

some_one : {A : Type 0} (x y : A) → Some x ≡ Some y → x ≡ y
some_one x y e = cc

-- an element of one list behind another
get_split : {A : Type 0} (xs ys : List A) (r : ℕ) (v : A) → slice_get (xs ++ ys) r ≡ Some v → ((slice_get xs r ≡ Some v) × (r < length xs)) ⊎ ((k : ℕ) × (r ≡ length xs + k) × (slice_get ys k ≡ Some v))
get_split [] ys r v e = inr (r, omega arith, e)
get_split (x ∷ xs) ys zero v e = inl (e, omega arith)
get_split (x ∷ xs) ys (suc r) v e = ⊎_elim (λ h. inl (h.0, omega (arith, h.1))) (λ h. inr (h.0, omega (arith, h.1), h.2)) (get_split xs ys r v e)

rows_long : (parts : List Part) → length (rows_of_parts parts) ≡ length parts + 1
rows_long parts = omega (arith, length-append (map (λ (part : Part). Some part.node) parts) (None ∷ []), length-map parts (λ (part : Part). Some part.node))

row_links : (parts : List Part) (r y : ℕ) → slice_get (rows_of_parts parts) r ≡ Some (Some y) → ((part : Part) × In part parts × (part.node ≡ y)) × (r + 1 < length (rows_of_parts parts))
row_links [] zero y e = absurd (cc)
row_links [] (suc r) y e = absurd (cc)
row_links (part ∷ parts) zero y e = ((part, inl refl, some_one part.node y (some_one (Some part.node) (Some y) e)), omega (arith, rows_long parts))
row_links (part ∷ parts) (suc r) y e = let h = row_links parts r y e in ((h.0.0, inr h.0.1, h.0.2), omega (arith, h.1))

module _ (p : Program) (q : IsProgram p) (l : Layout) (x : ℕ) (b : AreLaidBelow p l x) where
  start_old : (s y : ℕ) → y < x → slice_index (l.starts ++ s ∷ []) y ≡ slice_index l.starts y
  start_old s y h = get_or_append_left l.starts (s ∷ []) 0 y (omega (arith, h, b.wide))

  start_new : (s : ℕ) → slice_index (l.starts ++ s ∷ []) x ≡ s
  start_new s = ap (slice_index (l.starts ++ s ∷ [])) (sym b.wide) ∙ get_or-append_seam l.starts s [] 0

  one_more : (s : ℕ) → length (l.starts ++ s ∷ []) ≡ x + 1
  one_more s = omega (arith, length-append l.starts (s ∷ []), b.wide)

  parts_few : (parts : List Part) → shape_of p x ≡ Product parts → length parts ≤ PART_LIMIT
  parts_few parts is = ⊎_elim
      (λ n. let a : IsAllowed p.universe (Product parts) = subst (IsAllowed p.universe) (sym n.2 ∙ is) (q.allowed x n.0 n.1) in a.1)
      (λ o. absurd (never (sym o ∙ is))) (node_at_place p x)
    where
      never : Union [] ≡ Product parts → ⊥
      never e = absurd (cc)

  -- the rows of a product that stand, with more behind them
  old_rows : (s y : ℕ) (parts : List Part) (more : List (Option ℕ)) → y < x → shape_of p y ≡ Product parts
      → (rest : List (Option ℕ)) × (drop (slice_index (l.starts ++ s ∷ []) y) (l.factors ++ more) ≡ map (λ part. Some part.node) parts ++ (None ∷ rest))
  old_rows s y parts more h e =
      let r = b.products y parts h e in
      let room = room-there (λ (part : Part). part.node) parts r.0 l.factors (slice_index l.starts y) r.1 in (
        r.0 ++ more,
        ap (λ i. drop i (l.factors ++ more)) (start_old s y h)
            ∙ drop-append-le (slice_index l.starts y) l.factors more (omega (arith, room))
            ∙ ap (λ (fs : List (Option ℕ)). fs ++ more) r.1
            ∙ append_assoc (map (λ (part : Part). Some part.node) parts) (None ∷ r.0) more,
      )

  laid_product : (parts : List Part) → shape_of p x ≡ Product parts → AreLaidBelow p (laid_behind l (Product parts)) (x + 1)
  laid_product parts is = record {
    wide = one_more (length l.factors);
    links = λ r y e. ⊎_elim
        (λ h. let k = b.links r y h.0 in (k.0, omega (arith, k.1, length-append l.factors (rows_of_parts parts))))
        (λ h. let k = row_links parts h.0 y h.2 in (
          omega (arith, parts_of_program p q x k.0.0 (subst (λ (s : Shape). In k.0.0 (inner_parts s)) (sym is) k.0.1), k.0.2),
          omega (arith, k.1, h.1, length-append l.factors (rows_of_parts parts)),
        ))
        (get_split l.factors (rows_of_parts parts) r (Some y) e);
    few = omega (arith, b.few, length-append l.factors (rows_of_parts parts), rows_long parts, parts_few parts is);
    products = λ y others h e. ⊎_elim
        (λ (g : y < x). old_rows (length l.factors) y others (rows_of_parts parts) g e)
        (λ (g : y ≡ x). (
          [],
          ap (λ i. drop (slice_index (l.starts ++ length l.factors ∷ []) i) (l.factors ++ rows_of_parts parts)) g
              ∙ ap (λ i. drop i (l.factors ++ rows_of_parts parts)) (start_new (length l.factors))
              ∙ drop-append_seam l.factors (rows_of_parts parts)
              ∙ ap rows_of_parts (same_parts parts others (sym is ∙ ap (shape_of p) (sym g) ∙ e)),
        ))
        (less_or_eq y x h);
  }
    where
      same_parts : (xs ys : List Part) → Product xs ≡ Product ys → xs ≡ ys
      same_parts xs ys e = cc

  laid_other : ((parts : List Part) → shape_of p x ≡ Product parts → ⊥) → AreLaidBelow p (record { starts = l.starts ++ 0 ∷ []; factors = l.factors }) (x + 1)
  laid_other other = record {
    wide = one_more 0;
    links = b.links;
    few = omega (arith, b.few);
    products = λ y parts h e. ⊎_elim
        (λ (g : y < x). let r = b.products y parts g e in (r.0, ap (λ i. drop i l.factors) (start_old 0 y g) ∙ r.1))
        (λ (g : y ≡ x). absurd (other parts (ap (shape_of p) (sym g) ∙ e)))
        (less_or_eq y x h);
  }

  laid_by : (shape : Shape) → shape_of p x ≡ shape → AreLaidBelow p (laid_behind l shape) (x + 1)
  laid_by (Product parts) is = laid_product parts is
  laid_by (Atom weight) is = laid_other (λ parts e. never parts (sym is ∙ e))
    where
      never : (parts : List Part) → Atom weight ≡ Product parts → ⊥
      never parts e = absurd (cc)
  laid_by (Union branches) is = laid_other (λ parts e. never parts (sym is ∙ e))
    where
      never : (parts : List Part) → Union branches ≡ Product parts → ⊥
      never parts e = absurd (cc)
  laid_by (Coll kind part low high) is = laid_other (λ parts e. never parts (sym is ∙ e))
    where
      never : (parts : List Part) → Coll kind part low high ≡ Product parts → ⊥
      never parts e = absurd (cc)

  -- with node x behind the nodes before it
  pub laid_more : (new : Layout) (shape : Shape) → shape_of p x ≡ shape → new ≡ laid_behind l shape → AreLaidBelow p new (x + 1)
  laid_more new shape is e = subst (λ (m : Layout). AreLaidBelow p m (x + 1)) (sym e) (laid_by shape is)

pub laid_none : (p : Program) → AreLaidBelow p (record { starts = []; factors = [] }) 0
laid_none p = record { wide = refl; links = λ r y e. absurd (cc); few = omega arith; products = λ y parts h e. absurd (omega (arith, h)) }

pub laid_all : (p : Program) (l : Layout) → AreLaidBelow p l (length p.nodes) → IsLaid p l.starts l.factors
laid_all p l b = record { links = b.links; wide = b.wide; products = b.products }

-- one more rank
pub ranks_more : (p : Program) (ranks new : List ℕ) (x r : ℕ) → AreRanksBelow p ranks x → new ≡ ranks ++ r ∷ [] → IsRank p x r → AreRanksBelow p new (x + 1)
ranks_more p ranks new x r b e is = subst (λ (rs : List ℕ). AreRanksBelow p rs (x + 1)) (sym e) (record {
  wide = omega (arith, length-append ranks (r ∷ []), b.wide);
  ranked = λ y h. ⊎_elim
      (λ (g : y < x). subst (IsRank p y) (sym (get_or_append_left ranks (r ∷ []) 0 y (omega (arith, g, b.wide)))) (b.ranked y g))
      (λ (g : y ≡ x). subst (λ z. IsRank p z (slice_index (ranks ++ r ∷ []) z)) (sym g) (subst (IsRank p x) (sym (ap (slice_index (ranks ++ r ∷ [])) (sym b.wide) ∙ get_or-append_seam ranks r [] 0)) is))
      (less_or_eq y x h);
})

pub ranks_none : (p : Program) → AreRanksBelow p [] 0
ranks_none p = record { wide = refl; ranked = λ y h. absurd (omega (arith, h)) }

pub ranks_all : (p : Program) (ranks : List ℕ) (x : ℕ) → AreRanksBelow p ranks x → x ≡ length p.nodes → AreRanks p ranks
ranks_all p ranks x b e = record { wide = b.wide ∙ e; ranked = λ y h. b.ranked y (omega (arith, h, e)) }
