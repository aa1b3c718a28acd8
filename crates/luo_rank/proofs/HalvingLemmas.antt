-- The place of a structure, by halving.
use Rattle.std.proofs.Common.{◌≡◌, ℕ, zero, suc, ◌+◌, ◌-◌, ◌^◌, ◌≤◌, ◌<◌, List, [], ◌∷◌, ◌⊎◌, inl, inr, ⊎_elim, length, refl, sym, ◌∙◌, ap, subst, arith, Bool, true, false, IsTrue, ◌↔◌}
use Rattle.std.specs.declared.cmp.Ordering.{Ordering}
use Rattle.std.specs.declared.cmp.Ordering.TheVariants.{Less}
use Rattle.luo_finite.specs.Listing.{In}
use Rattle.luo_finite.specs.Places.{IsPlace}
use Rattle.luo_finite.proofs.Membership.{In-append_cases}
use Rattle.luo_finite.proofs.Places.{place_in}
use Rattle.luo_finite.proofs.Sums.{Counts-to}
use Rattle.luo_finite.proofs.Falling.{IsOrder, falling_listing}
use Rattle.luo_finite.proofs.PlacesExist.{place_below}
use Rattle.luo_finite.proofs.OrderedPlaces.{listed_at, place_rises, before_by_place}
use Rattle.luo_model.specs.declared.program.Universe.{Universe}
use Rattle.luo_model.specs.declared.program.Universe.TheVariants.{Unlabelled, Labelled}
use Rattle.luo_model.specs.declared.program.Part.{Part}
use Rattle.luo_model.specs.declared.program.Shape.{Shape}
use Rattle.luo_model.specs.declared.program.Shape.TheVariants as shape
use Rattle.luo_model.specs.Tree.{Tree, Trees, Atom, Inj, Tup, Coll, none, more, size_of, label_list, labels_of, all_labels_of}
use Rattle.luo_model.specs.Order.{IsBefore, order_of}
use Rattle.luo_model.specs.Program.{Program, shape_of}
use Rattle.luo_model.specs.Member.{Fits, FitAll, FitEach, Member, IsLabel}
use Rattle.luo_model.specs.Structures.{IsStructure}
use Rattle.luo_model.specs.Tables.{IsCount}
use Rattle.luo_model.proofs.Unlabelled.{no_labels, nothing_in}
use Rattle.luo_counting.specs.Counted.{AreLight}
use Rattle.luo_counting.proofs.Orders.{trees_ordered}
use Rattle.luo_counting.proofs.Two.{IsSized}
use Rattle.luo_counting.proofs.TreeCollections.{members_sized}
use Rattle.luo_struct.specs.Small.{IsSmall}
use Rattle.luo_rank.specs.inner.Halving.{IsWithin, IsHalf}
use Rattle.luo_rank.proofs.ListLemmas.{le_or}

-- SMALL structures
pub small_structure : (p : Program) → AreLight p → (x n : ℕ) (s : Tree) → n ≤ 40 → IsStructure p x n s → IsSmall s
small_structure p light x n s l m = (omega (arith, m.1, l), by p.universe refl)
  where
    by : (u : Universe) → p.universe ≡ u → length (labels_of s) < 2 ^ 64 - 1
    by Unlabelled e = let q : length (labels_of s) ≡ 0 = ap length (nothing_in (labels_of s) (no_labels p e s (shape_of p x) m.0)) in omega (arith, q)
    by Labelled e =
        let sized : IsSized Labelled (Member p x) size_of labels_of = subst (λ (u : Universe). IsSized u (Member p x) size_of labels_of) e (members_sized p light x) in
        let q : size_of s ≡ length (labels_of s) = sized s m.0 in
        omega (arith, q, m.1, l)

-- HALVING
module _ (p : Program) (x n : ℕ) where
  turned : IsOrder (λ a b. IsBefore b a)
  turned = record {
    one_way = λ a b h k. trees_ordered.one_way b a h k;
    through = λ a b c h k. trees_ordered.through c b a k h;
    either = λ a b. ⊎_elim (λ h. inr (inr h)) (λ o. ⊎_elim (λ e. inr (inl e)) (λ h. inl h) o) (trees_ordered.either a b);
  }

  never : (s : Tree) → IsBefore s s → ⊥
  never s h = trees_ordered.one_way s s h h

  -- each structure has a place
  has_place : (c : ℕ) (s : Tree) → IsCount p x n c → IsStructure p x n s → (r : ℕ) × IsPlace (IsStructure p x n) IsBefore r s
  has_place c s h m =
      let sums = Counts-to (IsStructure p x n) c h in
      let o = falling_listing (λ a b. IsBefore b a) turned (IsStructure p x n) sums.exists.0 sums.exists.1 in
      let i = place_in s o.0 (o.2.complete s m) in
      (i.0, listed_at (IsStructure p x n) IsBefore trees_ordered.one_way o.0 i.0 s o.2 o.1 i.1)

  pub some_count : (c : ℕ) (s : Tree) → IsCount p x n c → IsStructure p x n s → 0 < c
  some_count c s h m = let r = has_place c s h m in let l : r.0 < c = place_below (IsStructure p x n) IsBefore trees_ordered c (Counts-to (IsStructure p x n) c h) r.0 s r.1 in omega (arith, l)

  pub within_all : (c : ℕ) (s : Tree) → IsCount p x n c → IsWithin p x n s 0 c
  within_all c s h = λ r m. ((let q : 0 ≤ r = omega arith in q), place_below (IsStructure p x n) IsBefore trees_ordered c (Counts-to (IsStructure p x n) c h) r s m)

  pub half_left : (s t : Tree) (low middle high : ℕ) → low < middle → middle < high → IsPlace (IsStructure p x n) IsBefore middle t → IsBefore s t → IsHalf p x n s low high low middle
  half_left s t low middle high a b k h = record {
    some = a;
    inside = omega (arith, b);
    shorter = omega (arith, a, b);
    kept = λ w r m. ((w r m).0, place_rises (IsStructure p x n) IsBefore r middle s t never trees_ordered.through m k h);
  }

  pub half_right : (s t : Tree) (low middle high : ℕ) → low < middle → middle < high → IsPlace (IsStructure p x n) IsBefore middle t → (IsBefore s t → ⊥) → IsHalf p x n s low high middle high
  half_right s t low middle high a b k h = record {
    some = b;
    inside = omega arith;
    shorter = omega (arith, a, b);
    kept = λ w r m. (⊎_elim (λ l. l) (λ l. absurd (h (before_by_place (IsStructure p x n) IsBefore r middle s t never trees_ordered.through trees_ordered.either m k l))) (le_or middle r), (w r m).1);
  }

  pub within_one : (c : ℕ) (s : Tree) (low high : ℕ) → IsCount p x n c → IsStructure p x n s → high ≤ low + 1 → IsWithin p x n s low high → IsPlace (IsStructure p x n) IsBefore low s
  within_one c s low high h m l w =
      let r = has_place c s h m in
      let b = w r.0 r.1 in
      subst (λ i. IsPlace (IsStructure p x n) IsBefore i s) (let q : r.0 ≡ low = omega (arith, b.0, b.1, l) in q) r.1

-- what a comparison tells
pub less_told : (o : Ordering) (s t : Tree) → o ≡ order_of s t → o ≡ Less → IsTrue true ↔ IsBefore s t
less_told o s t e q = ((λ h. sym e ∙ q), λ h. refl)

pub other_told : (o : Ordering) (s t : Tree) → o ≡ order_of s t → (o ≡ Less → ⊥) → IsTrue false ↔ IsBefore s t
other_told o s t e q = ((λ h. absurd (cc)), λ h. absurd (q (e ∙ h)))
