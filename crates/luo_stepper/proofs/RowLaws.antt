-- The parts that are left: a first and a rest, and what comes behind them.
use Rattle.std.proofs.Common.{◌≡◌, ℕ, zero, suc, ◌+◌, ◌-◌, ◌≤◌, ◌<◌, List, [], ◌∷◌, length, flat_map, refl, sym, subst, arith, Some, None}
use Rattle.luo_model.specs.declared.program.Universe.{Universe}
use Rattle.luo_model.specs.declared.program.Universe.TheVariants.{Unlabelled, Labelled}
use Rattle.luo_model.specs.Tree.{Tree, Trees, none, more, size_of, labels_of, all_labels_of, to_list}
use Rattle.luo_model.specs.Order.{IsBefore}
use Rattle.luo_model.specs.Program.{Program}
use Rattle.luo_model.specs.Collections.{Bears}
use Rattle.luo_model.specs.View.{plain_of}
use Rattle.luo_places.specs.Numbers.{PartsBefore}
use Rattle.luo_places.specs.Tails.{Tail, factors, items, behind_first, first_node, TailOn, tail_count, IsThere, IsSpread, GoesOn, Ends}
use Rattle.luo_places.proofs.Tails.{tail_counted}
use Rattle.luo_places.specs.steps.Next.{IsNext, IsFirst, IsLast}
use Rattle.luo_places.specs.steps.Rooms.{IsShare, HasLabels}
use Rattle.luo_places.specs.steps.Laws.{GoesOnBy}
use Rattle.luo_places.proofs.steps.Pairs.{of_some}
use Rattle.luo_places.proofs.steps.Tails.{tails_go_on, tails_part, tails_end}
use Rattle.luo_rank.specs.inner.Lookup.{Looked, IsCounted, entry_of, tail_at, IsLeft, left_count}
use Rattle.luo_rank.proofs.StepLemmas.{is_there, first_there, next_stands}
use Rattle.luo_stepper.specs.inner.Stepping.{AreLabels, Here, Left, IsHere, AreHere, Fills, IsNextRoom, IsLastRoom, IsRoomOf}
use Rattle.luo_stepper.proofs.LabelLaws.{labels_room, share_first, share_rest}

pub next_is : (f : ℕ) → suc f ≡ f + 1
next_is f = omega arith

positive : (v : ℕ) → (v ≡ 0 → ⊥) → 1 ≤ v
positive zero e = absurd (e refl)
positive (suc v) e = omega arith

left_of : (tail : Tail) (n : ℕ) → GoesOn tail n → IsLeft tail n
left_of (factors []) n g = g
left_of (factors (part ∷ parts)) n g = tt
left_of (items kind y low high) n g = g.0

-- where something stands, something may
going : (p : Program) (nodes : ℕ) (tail : Tail) → IsThere p nodes tail → (L : List ℕ) (n : ℕ) (s : Tree) (ts : Trees) → TailOn p tail L n (more s ts) → GoesOn tail n
going p nodes (factors []) there L n s ts m = absurd m.0
going p nodes (factors (part ∷ parts)) there L n s ts m = tt
going p nodes (items kind y low (Some high)) there L n s ts m = (let q : 1 ≤ size_of s = positive (size_of s) (λ e. there.2 s m.1.0 e) in omega (arith, q, m.3), omega (arith, (m.0).1))
going p nodes (items kind y low None) there L n s ts m = (let q : 1 ≤ size_of s = positive (size_of s) (λ e. there.2 s m.1.0 e) in omega (arith, q, m.3), tt)

-- without labels
borne : (u : Universe) → u ≡ Unlabelled → (L l : List ℕ) → Bears u L l
borne Unlabelled e L l = tt
borne Labelled e L l = absurd (cc)

pub other_labels : (p : Program) → p.universe ≡ Unlabelled → (tail : Tail) (L M : List ℕ) (n : ℕ) (ts : Trees) → TailOn p tail L n ts → TailOn p tail M n ts
other_labels p e (factors parts) L M n ts m = (m.0, m.1, borne p.universe e M (all_labels_of ts))
other_labels p e (items kind y low high) L M n ts m = (m.0, m.1, m.2, m.3, borne p.universe e M (flat_map labels_of (to_list ts)))

-- the labels of the rest
rest_labels : (p : Program) (u : Universe) → u ≡ p.universe → (tail : Tail) (L C T : List ℕ) (n i : ℕ) (ts : Trees) → AreLabels u L n → IsShare u L i C T → TailOn p tail T (n - i) ts → (U : List ℕ) × AreLabels u U (n - i) × IsShare u L i C U × TailOn p tail U (n - i) ts
rest_labels p Unlabelled e tail L C T n i ts l s m = ([], refl, s, other_labels p (sym e) tail T [] (n - i) ts m)
rest_labels p Labelled e tail L C T n i ts l s m = (T, share_rest L C T n i l s, s, m)

-- a first of size i on the labels C, and a rest of size j on the labels T
pub record Parted (t : Looked) (x f : ℕ) (L : List ℕ) (n : ℕ) (s : Tree) (ts : Trees) (C T : List ℕ) (i j : ℕ) : Type 0 where
  pub sum : i + j ≡ n
  pub share : IsShare t.program.universe L i C T
  pub having : HasLabels (plain_of t.program) (tail_at (plain_of t.program) x f) L i C
  pub own : IsHere t (first_node (tail_at (plain_of t.program) x f)) C i s
  pub rest : AreHere t x (f + 1) T j ts
  pub left : IsLeft (tail_at (plain_of t.program) x f) n
  pub goes : GoesOn (tail_at (plain_of t.program) x f) n
  pub there : first_node (tail_at (plain_of t.program) x f) < length t.program.nodes
  pub some : 1 ≤ entry_of t.counts (first_node (tail_at (plain_of t.program) x f)) i
  pub rest_some : 1 ≤ left_count t x (f + 1) j

module _ (t : Looked) (k : IsCounted t) (x f : ℕ) (spread : IsSpread (tail_at (plain_of t.program) x f)) (L : List ℕ) (n : ℕ) where
  abbrev p : Program
  p = plain_of t.program

  abbrev tail : Tail
  tail = tail_at p x f

  abbrev node : ℕ
  node = first_node tail

  pub parted : (s : Tree) (ts : Trees) → AreHere t x f L n (more s ts) → (C T : List ℕ) × Parted t x f L n s ts C T (size_of s) (n - size_of s)
  parted s ts h =
      let i = size_of s in
      let g = going p (length t.program.nodes) tail (is_there t k x f) L n s ts h.are in
      let left = left_of tail n g in
      let q = tails_part p (length t.program.nodes) tail L n k.numbers.light (is_there t k x f) spread g (labels_room t.program.universe L n h.labels) s ts h.are in
      let r = rest_labels p t.program.universe refl (behind_first tail) L q.0 q.1 n i ts h.labels q.3 q.6 in
      let inside : i ≤ n = omega (arith, q.2) in
      let first = share_first t.program.universe L q.0 q.1 n i h.labels q.3 in
      let there = first_there t k x f n h.stands left in
      let some = of_some (Here t node q.0 i) (entry_of t.counts node i) s (k.numbers.right node i there (omega (arith, inside, h.within)) q.0 (labels_room t.program.universe q.0 i first)) q.5 in (
        q.0,
        r.0,
        record {
          sum = q.2;
          share = r.2;
          having = q.4;
          own = record { labels = first; within = omega (arith, inside, h.within); is = q.5 };
          rest = record {
            labels = r.1;
            within = omega (arith, h.within);
            stands = next_stands t k x f n i 0 h.stands left inside (omega (arith, some));
            are = subst (λ g. Left t x g r.0 (n - i) ts) (next_is f) r.3;
          };
          left = left;
          goes = g;
          there = there;
          some = some;
          rest_some =
              subst (λ g. 1 ≤ left_count t x g (n - i)) (next_is f)
              (of_some (Left t x (suc f) r.0 (n - i)) (tail_count t.program.universe (entry_of t.counts) (behind_first tail) (n - i)) ts
              (tail_counted p (length t.program.nodes) t.last (entry_of t.counts) k.numbers (behind_first tail) (is_there t k x (suc f)) (n - i) (omega (arith, h.within)) r.0 (labels_room t.program.universe r.0 (n - i) r.1)) r.3);
        },
      )

  module _ (s : Tree) (ts : Trees) (h : AreHere t x f L n (more s ts)) (C T : List ℕ) (i j : ℕ) (q : Parted t x f L n s ts C T i j) where
    law : GoesOnBy p (entry_of t.counts) tail L n
    law = tails_go_on p (length t.program.nodes) t.last (entry_of t.counts) k.numbers tail L n (is_there t k x f) spread h.within q.goes (labels_room t.program.universe L n h.labels)

    pub row_rest : (us : Trees) → IsNext (Left t x (f + 1) T j) PartsBefore ts us → IsNext (Left t x f L n) PartsBefore (more s ts) (more s us)
    row_rest us m = (law).rest i j C T q.sum q.share q.having.1 s ts us q.own.is (subst (λ g. IsNext (Left t x g T j) PartsBefore ts us) (sym (next_is f)) m)

    pub row_first : (v : Tree) (us : Trees) → IsNext (Here t node C i) IsBefore s v → IsLast (Left t x (f + 1) T j) PartsBefore ts → IsFirst (Left t x (f + 1) T j) PartsBefore us
        → IsNext (Left t x f L n) PartsBefore (more s ts) (more v us)
    row_first v us m l g =
        (law).first i j C T q.sum q.share q.having.1 s v ts us m (subst (λ g. IsLast (Left t x g T j) PartsBefore ts) (sym (next_is f)) l) (subst (λ g. IsFirst (Left t x g T j) PartsBefore us) (sym (next_is f)) g)

    pub row_fills : Fills t x f n i
    row_fills = (
      omega (arith, q.sum),
      q.some,
      subst (λ m. 1 ≤ tail_count t.program.universe (entry_of t.counts) (behind_first tail) m) (let e : j ≡ n - i = omega (arith, q.sum) in e) (subst (λ g. 1 ≤ left_count t x g j) (sym (next_is f)) q.rest_some),
    )

    pub row_room : IsRoomOf t x f L n i C
    row_room = record { labels = h.labels; within = omega (arith, q.sum); fills = row_fills; own = q.having }

    pub row_turned : (m : ℕ) (D U : List ℕ) (v : Tree) (us : Trees) → IsNextRoom t x f L n i C m D U → IsLast (Here t node C i) IsBefore s → IsLast (Left t x (f + 1) T j) PartsBefore ts
        → IsFirst (Here t node D m) IsBefore v → IsFirst (Left t x (f + 1) U (n - m)) PartsBefore us → IsNext (Left t x f L n) PartsBefore (more s ts) (more v us)
    row_turned m D U v us r a b c d =
        (law).room i j m (n - m) C T D U q.sum q.share (omega (arith, r.parts.within)) r.parts.share s v ts us a (subst (λ g. IsLast (Left t x g T j) PartsBefore ts) (sym (next_is f)) b) r.next c
        (subst (λ g. IsFirst (Left t x g U (n - m)) PartsBefore us) (sym (next_is f)) d)

    pub row_ended : IsLastRoom t x f L n i C → IsLast (Here t node C i) IsBefore s → IsLast (Left t x (f + 1) T j) PartsBefore ts → IsLast (Left t x f L n) PartsBefore (more s ts)
    row_ended r a b = (law).end i j C T q.sum q.share s ts r a (subst (λ g. IsLast (Left t x g T j) PartsBefore ts) (sym (next_is f)) b)

  -- nothing stands
  none_ends : (tail : Tail) → TailOn p tail L n none → (n ≡ 0) × Ends tail n
  none_ends (factors []) m = (omega (arith, m.1), tt)
  none_ends (factors (part ∷ parts)) m = absurd m.0
  none_ends (items kind y low high) m = (omega (arith, m.3), omega (arith, m.3))

  no_labels : (u : Universe) (L : List ℕ) (n : ℕ) → AreLabels u L n → n ≡ 0 → [] ≡ L
  no_labels Unlabelled L n e z = sym e
  no_labels Labelled [] n r z = refl
  no_labels Labelled (l ∷ L) n r z = absurd (omega (arith, r.1, z))

  pub row_none : AreHere t x f L n none → (0 ≡ n) × ([] ≡ L) × IsLast (Left t x f L n) PartsBefore none
  row_none h =
      let e = none_ends tail h.are in
      (sym e.0, no_labels t.program.universe L n h.labels e.0, (tails_end p (length t.program.nodes) tail L n (is_there t k x f) e.1 h.are).1)
