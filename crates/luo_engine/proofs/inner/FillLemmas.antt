-- One more entry of the counts is filled in, or is the first that overflows.
use Rattle.std.proofs.Common.{◌≡◌, ◌⊎◌, ℕ, ◌+◌, ◌≤◌, ◌<◌, inl, inr, ⊎_elim, List, [], ◌∷◌, length, drop, slice_get, refl, sym, ◌∙◌, ap, subst, arith, Some, None, Option}
use Rattle.luo_num.specs.declared.TheConstants.{MAX}
use Rattle.luo_num.specs.Mark.{capped}
use Rattle.luo_num.proofs.Capped.{capped-past}
use Rattle.luo_finite.proofs.Sums.{Counts-unique}
use Rattle.luo_model.specs.declared.program.Universe.{Universe}
use Rattle.luo_model.specs.Program.{Program}
use Rattle.luo_model.specs.Structures.{IsStructure}
use Rattle.luo_model.specs.Tables.{IsCount}
use Rattle.luo_engine.specs.inner.Grid.{entry_of, Reaches, IsSet, SameShape}
use Rattle.luo_recipes.specs.Shares.{tail_of, open_of}
use Rattle.luo_engine.specs.inner.Partial.{AreLinks, AreOpenBefore}
use Rattle.luo_engine.specs.inner.Filled.{IsBefore, IsOrder, IsOrderOf, IsRightOf, AreFilled, NumbersTo, IsFirstPastOf, AreCounted, CountsTo, IsFirstPast}
use Rattle.luo_recipes.proofs.ShareLemmas.{shares-same, inner-same}

less_or_eq : (a b : ℕ) → a < b + 1 → (a < b) ⊎ (a ≡ b)
less_or_eq a b h = grind arith

three_ways : (a b : ℕ) → (a < b) ⊎ ((a ≡ b) ⊎ (b < a))
three_ways a b = grind arith

some_one : {A : Type 0} (x y : A) → Some x ≡ Some y → x ≡ y
some_one x y e = cc

-- rows read no further than their size
pub tail-same : (u : Universe) (f g : ℕ → ℕ → ℕ) (factors : List (Option ℕ)) (n : ℕ) → ((y k : ℕ) → k ≤ n → f y k ≡ g y k) → tail_of u f factors n ≡ tail_of u g factors n
tail-same u f g [] n h = refl
tail-same u f g (None ∷ factors) n h = refl
tail-same u f g (Some y ∷ factors) n h = shares-same u (f y) (tail_of u f factors) (g y) (tail_of u g factors) n (h y) (λ k l. tail-same u f g factors k (λ z j m. h z j (omega arith)))

open-same : (u : Universe) (f g : ℕ → ℕ → ℕ) (factors : List (Option ℕ)) (n : ℕ) → ((y k : ℕ) → k < n → f y k ≡ g y k) → open_of u f factors n ≡ open_of u g factors n
open-same u f g [] n h = refl
open-same u f g (None ∷ factors) n h = refl
open-same u f g (Some y ∷ factors) n h = inner-same u (f y) (tail_of u f factors) (g y) (tail_of u g factors) n (h y) (λ k l. tail-same u f g factors k (λ z j m. h z j (omega arith)))

module _ (old new : List (List ℕ)) (x n value : ℕ) (set : IsSet old new x n value) where
  reach_kept : Reaches n old → Reaches n new
  reach_kept r y h = omega (arith, r y (omega (arith, h, set.wide)), set.long y)

  same_below : (y m : ℕ) → m < n → entry_of new y m ≡ entry_of old y m
  same_below y m h = set.other_size y m (λ e. absurd (omega arith))

  pub open_kept : (u : Universe) (factors : List (Option ℕ)) (partials : List (List ℕ)) (r : ℕ) → AreOpenBefore u old factors partials n r → AreOpenBefore u new factors partials n r
  open_kept u factors partials r o = record {
    below = record {
      links = subst (AreLinks factors) (sym set.wide) o.below.links;
      wide = o.below.wide;
      counts_reach = reach_kept o.below.counts_reach;
      partials_reach = o.below.partials_reach;
      closed = λ q m h l. o.below.closed q m h l ∙ ap capped (tail-same u (entry_of old) (entry_of new) (drop q factors) m (λ y k g. sym (same_below y k (omega arith))));
    };
    open_rows = λ q h. o.open_rows q h ∙ ap capped (open-same u (entry_of old) (entry_of new) (drop q factors) n (λ y k g. sym (same_below y k g)));
  }

  module _ (Is : ℕ → ℕ → ℕ → Type 0) (size : ℕ) (Before : ℕ → ℕ → Type 0) (itself : (y : ℕ) → Before y y → ⊥) (order : List ℕ) (ordered : IsOrderOf size Before order) (k : ℕ) (place : slice_get order k ≡ Some x) where
    -- another place holds another number
    apart : (j y : ℕ) → slice_get order j ≡ Some y → (j ≡ k → ⊥) → y ≡ x → ⊥
    apart j y e d q =
        let s : slice_get order j ≡ Some x = e ∙ ap Some q in
        ⊎_elim (λ (h : j < k). itself x (ordered.rising j k x x h s place)) (λ r. ⊎_elim (λ i. d i) (λ (h : k < j). itself x (ordered.rising k j x x h place s)) r) (three_ways j k)

    right_by : (y m : ℕ) → entry_of new y m ≡ entry_of old y m → IsRightOf Is old y m → IsRightOf Is new y m
    right_by y m e r = (subst (Is y m) (sym e) r.0, omega (arith, e, r.1))

    pub filled_more : AreFilled Is size order old n k → NumbersTo Is x n value → value ≤ MAX → AreFilled Is size order new n (k + 1)
    filled_more c v small = record {
      wide = set.wide ∙ c.wide;
      reach = reach_kept c.reach;
      below = λ y m h l. right_by y m (same_below y m l) (c.below y m h l);
      done = λ j y h e. ⊎_elim
          (λ (l : j < k). right_by y n (set.other_row y n (apart j y e (λ q. absurd (omega arith)))) (c.done j y l e))
          (λ (q : j ≡ k).
          let s : x ≡ y = some_one x y (sym place ∙ ap (slice_get order) (sym q) ∙ e) in
          let w : entry_of new x n ≡ v.number = set.here ∙ value_is v small in
          subst (λ z. IsRightOf Is new z n) s (subst (Is x n) (sym w) v.is_number, omega (arith, set.here, small)))
          (less_or_eq j k h);
      waiting = λ j y h e. set.other_row y n (apart j y e (λ q. absurd (omega arith))) ∙ c.waiting j y (omega arith) e;
      ahead = λ y m h. set.other_size y m (λ e. absurd (omega arith)) ∙ c.ahead y m h;
    }
      where
        value_is : (v : NumbersTo Is x n value) → value ≤ MAX → value ≡ v.number
        value_is v small = omega (arith, v.marked, small)

module _ (Is : ℕ → ℕ → ℕ → Type 0) (size : ℕ) (Before : ℕ → ℕ → Type 0) (one_way : (x y : ℕ) → Before y x → Before x y → ⊥) (unique : (y m c d : ℕ) → y < size → Is y m c → Is y m d → c ≡ d) (order : List ℕ) (ordered : IsOrderOf size Before order)
    (table : List (List ℕ)) (n k x : ℕ) (place : slice_get order k ≡ Some x) where
  earlier : (j y : ℕ) → slice_get order j ≡ Some y → Before y x → j < k
  earlier j y e b =
      ⊎_elim (λ h. h) (λ r. ⊎_elim
      (λ (q : j ≡ k). let s : y ≡ x = some_one y x (sym e ∙ ap (slice_get order) q ∙ place) in let b2 = subst (λ z. Before z x) s b in absurd (one_way x x b2 b2))
      (λ (h : k < j). absurd (one_way x y b (ordered.rising k j x y h place e))) r) (three_ways j k)

  within : (y m c : ℕ) → y < size → IsRightOf Is table y m → Is y m c → c ≤ MAX
  within y m c h r i = omega (arith, unique y m (entry_of table y m) c h r.0 i, r.1)

  pub past_first : (value : ℕ) → AreFilled Is size order table n k → NumbersTo Is x n value → MAX < value → IsFirstPastOf Is size Before n x
  past_first value c v past = record {
    there = ordered.there k x place;
    past = (v.number, v.is_number, (capped-past v.number).0 (omega (arith, v.marked, past)));
    smaller = λ y m d h l i. within y m d h (c.below y m h l) i;
    before = λ y d h b i. let at = ordered.complete y h in within y n d h (c.done at.0 y (earlier at.0 y at.1 b) at.1) i;
  }

-- what comes before x stands before it in the order
pub placed_before : (size : ℕ) (Before : ℕ → ℕ → Type 0) (one_way : (x y : ℕ) → Before y x → Before x y → ⊥) (order : List ℕ) (ordered : IsOrderOf size Before order) (k x : ℕ) → slice_get order k ≡ Some x → (j y : ℕ) → slice_get order j ≡ Some y → Before y x → j < k
placed_before size Before one_way order ordered k x place j y e b =
    ⊎_elim (λ h. h) (λ r. ⊎_elim
    (λ (q : j ≡ k). let s : y ≡ x = some_one y x (sym e ∙ ap (slice_get order) q ∙ place) in let b2 = subst (λ z. Before z x) s b in absurd (one_way x x b2 b2))
    (λ (h : k < j). absurd (one_way x y b (ordered.rising k j x y h place e))) r) (three_ways j k)

-- the order of nodes
not_itself : (ranks : List ℕ) (x : ℕ) → IsBefore ranks x x → ⊥
not_itself ranks x (inl a) = absurd (omega arith)
not_itself ranks x (inr b) = absurd (omega (arith, b.1))

pub one_way_nodes : (ranks : List ℕ) (x y : ℕ) → IsBefore ranks y x → IsBefore ranks x y → ⊥
one_way_nodes ranks x y (inl a) (inl b) = absurd (omega arith)
one_way_nodes ranks x y (inl a) (inr b) = absurd (omega (arith, b.0))
one_way_nodes ranks x y (inr a) (inl b) = absurd (omega (arith, a.0))
one_way_nodes ranks x y (inr a) (inr b) = absurd (omega (arith, a.1, b.1))

pub counted_more : (old new : List (List ℕ)) (x n value : ℕ) → IsSet old new x n value → (p : Program) (ranks order : List ℕ) → IsOrder p ranks order → (k : ℕ) → slice_get order k ≡ Some x
    → AreCounted p order old n k → CountsTo p x n value → value ≤ MAX → AreCounted p order new n (k + 1)
counted_more old new x n value set p ranks order ordered k place = filled_more old new x n value set (IsCount p) (length p.nodes) (IsBefore ranks) (not_itself ranks) order ordered k place

pub first_past : (p : Program) (ranks order : List ℕ) → IsOrder p ranks order → (counts : List (List ℕ)) (n k x : ℕ) → slice_get order k ≡ Some x → (value : ℕ) → AreCounted p order counts n k → CountsTo p x n value → MAX < value → IsFirstPast p ranks n x
first_past p ranks order ordered counts n k x place =
    past_first (IsCount p) (length p.nodes) (IsBefore ranks) (one_way_nodes ranks) (λ y m c d h. Counts-unique (IsStructure p y m) c d) order ordered counts n k x place

pub shape_kept : (first old new : List (List ℕ)) (x n value : ℕ) → IsSet old new x n value → SameShape first old → SameShape first new
shape_kept first old new x n value set s = record { wide = set.wide ∙ s.wide; long = λ y. set.long y ∙ s.long y }
