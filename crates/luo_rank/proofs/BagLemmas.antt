-- The first component of a multiset or a powerset.
use Rattle.std.proofs.Common.{◌≡◌, ℕ, zero, suc, ◌+◌, ◌-◌, ◌≤◌, ◌<◌, refl, sym, ◌∙◌, ap, subst, arith, Option, length}
use Rattle.luo_num.specs.declared.TheConstants.{MAX}
use Rattle.luo_num.specs.Mark.{capped}
use Rattle.luo_model.specs.declared.program.Universe.{Universe}
use Rattle.luo_model.specs.declared.program.Universe.TheVariants.{Unlabelled, Labelled}
use Rattle.luo_model.specs.declared.program.Kind.{Kind}
use Rattle.luo_model.specs.declared.program.Kind.TheVariants.{Sequence, Set, Cycle, Multiset, Powerset}
use Rattle.luo_model.specs.Structures.{labels_from}
use Rattle.luo_model.specs.View.{plain_of}
use Rattle.luo_counting.specs.Items.{Suits}
use Rattle.luo_counting.specs.Numbers.{coll_count}
use Rattle.luo_counting.proofs.Numbered.{room_of}
use Rattle.luo_places.specs.Numbers.{cut}
use Rattle.luo_places.specs.Tails.{Tail, factors, items, first_node, tail_count, IsThere, IsBag, IsFirst}
use Rattle.luo_places.proofs.BagPlaces.{cut-join, cut-whole, cut-none}
use Rattle.luo_places.proofs.Tails.{bag_first}
use Rattle.luo_rank.specs.inner.Lookup.{Looked, IsCounted, entry_of, tail_at, left_count, IsFirstOf, IsBagTail, below_in, below_of}
use Rattle.luo_rank.proofs.LookupLemmas.{goes_on}
use Rattle.luo_rank.proofs.StepLemmas.{is_there}

-- nothing is before the first place of size 1
none_in : (a : ℕ → ℕ → ℕ) (tail : Tail) (n : ℕ) → IsBagTail tail → 1 ≤ n → below_in a tail n 1 0 ≡ 0
none_in a (factors parts) n b g = refl
none_in a (items Multiset y low high) zero b g = absurd (omega (arith, g))
none_in a (items Powerset y low high) zero b g = absurd (omega (arith, g))
none_in a (items Multiset y low high) (suc n) b g = (cut-none (a y) low high n).0
none_in a (items Powerset y low high) (suc n) b g = (cut-none (a y) low high n).1
none_in a (items Sequence y low high) n b g = absurd b
none_in a (items Set y low high) n b g = absurd b
none_in a (items Cycle y low high) n b g = absurd b

-- before the next size is all of this one
join_in : (a : ℕ → ℕ → ℕ) (tail : Tail) (n d : ℕ) → below_in a tail n (suc d) 0 ≡ below_in a tail n d (a (first_node tail) d)
join_in a (factors parts) n d = refl
join_in a (items kind y low high) n d = ap (λ (c : ℕ → ℕ). coll_count Unlabelled kind c low high n) (cut-join (a y) d)

-- before all is the whole
whole_in : (u : Universe) (a : ℕ → ℕ → ℕ) (kind : Kind) (y low : ℕ) (high : Option ℕ) (n : ℕ) → IsBag kind → Suits u kind low → below_in a (items kind y low high) n n (a y n) ≡ tail_count u a (items kind y low high) n
whole_in Unlabelled a Multiset y low high n b s = (cut-whole (a y) low high n).0
whole_in Unlabelled a Powerset y low high n b s = (cut-whole (a y) low high n).1
whole_in Labelled a Multiset y low high n b s = absurd s
whole_in Labelled a Powerset y low high n b s = absurd s
whole_in u a Sequence y low high n b s = absurd b
whole_in u a Set y low high n b s = absurd b
whole_in u a Cycle y low high n b s = absurd b

module _ (t : Looked) (k : IsCounted t) (x f n rank : ℕ) (bag : IsBagTail (tail_at (plain_of t.program) x f)) (within : n ≤ t.last) (some : 1 ≤ n) (below : rank < left_count t x f n) where
  pub none_below : below_of t x f n 1 0 ≤ rank
  none_below = omega (arith, none_in (entry_of t.counts) (tail_at (plain_of t.program) x f) n bag some)

  pub next_size : (d : ℕ) → rank < below_of t x f n (d + 1) 0 → rank < below_of t x f n d (entry_of t.counts (first_node (tail_at (plain_of t.program) x f)) d)
  next_size d h = subst (λ v. rank < v) (ap (λ e. below_of t x f n e 0) (let q : d + 1 ≡ suc d = omega arith in q) ∙ join_in (entry_of t.counts) (tail_at (plain_of t.program) x f) n d) h

  pub last_size : (d : ℕ) → d ≡ n → rank < below_of t x f n d (entry_of t.counts (first_node (tail_at (plain_of t.program) x f)) d)
  last_size d e = subst (λ m. rank < below_of t x f n m (entry_of t.counts (first_node (tail_at (plain_of t.program) x f)) m)) (sym e) (by (tail_at (plain_of t.program) x f) bag (is_there t k x f) below)
    where
      by : (tail : Tail) → IsBagTail tail → IsThere (plain_of t.program) (length t.program.nodes) tail → rank < tail_count t.program.universe (entry_of t.counts) tail n → rank < below_in (entry_of t.counts) tail n n (entry_of t.counts (first_node tail) n)
      by (factors parts) b there h = absurd b
      by (items kind y low high) b there h = subst (λ v. rank < v) (sym (whole_in t.program.universe (entry_of t.counts) kind y low high n b there.1)) h

  pub bag_is_first : (d i : ℕ) → d ≤ n → i < entry_of t.counts (first_node (tail_at (plain_of t.program) x f)) d → below_of t x f n d i ≤ rank → rank < below_of t x f n d (i + 1) → IsFirstOf t x f n rank d 0 i (rank - below_of t x f n d i)
  bag_is_first d i l h from to = by (tail_at (plain_of t.program) x f) bag (is_there t k x f) below h from to
    where
      by : (tail : Tail) → IsBagTail tail → IsThere (plain_of t.program) (length t.program.nodes) tail → rank < tail_count t.program.universe (entry_of t.counts) tail n → i < entry_of t.counts (first_node tail) d
          → below_in (entry_of t.counts) tail n d i ≤ rank → rank < below_in (entry_of t.counts) tail n d (i + 1) → IsFirst (plain_of t.program) (entry_of t.counts) tail n rank d 0 i (rank - below_in (entry_of t.counts) tail n d i)
      by (factors parts) b there g h from to = absurd b
      by (items kind y low high) b there g h from to =
          let goes = goes_on (plain_of t.program) (length t.program.nodes) t.last (entry_of t.counts) k.numbers kind y low high n rank (labels_from 1 n) there within (room_of t.program.universe n) some g in
          bag_first (plain_of t.program) (length t.program.nodes) t.last (entry_of t.counts) k.numbers kind y low high n d i rank there b goes.1 within l h from
          (subst (λ j. rank < coll_count Unlabelled kind (cut (entry_of t.counts y) d j) low high n) (let q : i + 1 ≡ suc i = omega arith in q) to)

-- what is marked past a number is past it
pub past_marked : (m c rank : ℕ) → c ≡ capped m → rank < c → rank < m
past_marked m c rank e h = omega (arith, e, h)

pub exact_below : (m c rank : ℕ) → c ≡ capped m → m ≤ rank → rank ≤ MAX → c ≡ m
exact_below m c rank e h l = omega (arith, e, h, l)
