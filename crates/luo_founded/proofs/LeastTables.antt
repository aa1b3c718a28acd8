-- Tables of least sizes.
use Rattle.std.proofs.Common.{◌≡◌, ℕ, zero, suc, ◌+◌, ◌≤◌, ◌<◌, List, [], ◌∷◌, ◌++◌, ◌⊎◌, inl, inr, ⊎_elim, length, min, refl, sym, ◌∙◌, ap, subst, arith, get_or, Option, Some, None, MatchOption, slice_get, slice_set}
use Rattle.std.proofs.lemmas.Option.{slice_get_within, slice_get-get_or, slice_get_read}
use Rattle.luo_finite.proofs.Loops.{AllBefore, all_more, all_end}
use Rattle.luo_finite.specs.Listing.{In}
use Rattle.luo_finite.proofs.Membership.{In-at}
use Rattle.luo_num.specs.declared.limits.TheConstants.{SIZE_LIMIT}
use Rattle.luo_model.specs.declared.program.Node.{Node}
use Rattle.luo_model.specs.declared.program.Part.{Part}
use Rattle.luo_model.specs.Program.{Program, shape_of}
use Rattle.luo_model.specs.Invariant.{IsProgram}
use Rattle.luo_founded.specs.inner.Least.{past_last, least_part, least_by, IsSettled, or_past, size_at, IsCapped, IsLess, NoneLess, IsLesser, AreLeast}
use Rattle.luo_founded.proofs.Grown.{Grown, least_backed, least_sizes}
use Rattle.luo_model.specs.Founded.{IsFounded}
use Rattle.luo_finite.proofs.Places.{some_same, none_some, place_in, get_last, one_longer, less_or_same}
use Rattle.luo_model.proofs.NodeLemmas.{node_at_place, shape_there}

-- the least before place n
pub record IsLeastBefore (parts : List Part) (table : List ℕ) (n r : ℕ) : Type 0 where
  pub capped : r ≤ past_last
  pub low : (k : ℕ) (part : Part) → k < n → slice_get parts k ≡ Some part → r ≤ size_at table part.node
  pub one : (r ≡ past_last) ⊎ ((part : Part) × In part parts × (r ≡ size_at table part.node))

pub least_none : (parts : List Part) (table : List ℕ) → IsLeastBefore parts table 0 past_last
least_none parts table = record { capped = omega arith; low = λ k part h e. absurd (omega arith); one = inl refl }

min_cases : (a b : ℕ) → (min a b ≤ a) × (min a b ≤ b) × ((min a b ≡ a) ⊎ (min a b ≡ b))
min_cases a b = (grind arith, grind arith, grind arith)

pub least_next : (parts : List Part) (table : List ℕ) (n : ℕ) (d : Part) (r v new : ℕ) → n < length parts → v ≡ size_at table (get_or parts n d).node → new ≡ min r v → IsLeastBefore parts table n r → IsLeastBefore parts table (n + 1) new
least_next parts table n d r v new l e is h =
    let m = min_cases r v in record {
      capped = omega (arith, is, m.0, h.capped);
      low = λ k part a g. ⊎_elim
          (λ (b : k < n). omega (arith, h.low k part b g, m.0, is))
          (λ (b : k ≡ n).
          let same : get_or parts n d ≡ part = some_same (get_or parts n d) part (sym (slice_get-get_or parts n d l) ∙ ap (slice_get parts) (sym b) ∙ g) in
          omega (arith, ap (λ (z : Part). size_at table z.node) same, e, m.1, is))
          (less_or_same k n (omega arith));
      one = ⊎_elim
          (λ a. ⊎_elim (λ z. inl (is ∙ a ∙ z)) (λ z. inr (z.0, z.1, is ∙ a ∙ z.2)) h.one)
          (λ b. inr (get_or parts n d, In-at parts n d l, is ∙ b ∙ e)) m.2;
    }

least_part_low : (T : ℕ → ℕ) (parts : List Part) → least_part T parts ≤ past_last
least_part_low T [] = omega arith
least_part_low T (part ∷ parts) = let m = min_cases (T part.node) (least_part T parts) in omega (arith, m.1, least_part_low T parts)

least_part_le : (T : ℕ → ℕ) (parts : List Part) (part : Part) → In part parts → least_part T parts ≤ T part.node
least_part_le T [] part i = absurd i
least_part_le T (first ∷ parts) part i =
    let m = min_cases (T first.node) (least_part T parts) in
    ⊎_elim (λ e. omega (arith, m.0, ap (λ (q : Part). T q.node) e)) (λ j. omega (arith, m.1, least_part_le T parts part j)) i

least_part_over : (T : ℕ → ℕ) (parts : List Part) (r : ℕ) → r ≤ past_last → ((part : Part) → In part parts → r ≤ T part.node) → r ≤ least_part T parts
least_part_over T [] r c h = c
least_part_over T (first ∷ parts) r c h =
    ⊎_elim (λ a. omega (arith, a, h first (inl refl))) (λ b. omega (arith, b, least_part_over T parts r c (λ part i. h part (inr i)))) (min_cases (T first.node) (least_part T parts)).2

pub least_end : (parts : List Part) (table : List ℕ) (n r : ℕ) → length parts ≤ n → IsLeastBefore parts table n r → r ≡ least_part (size_at table) parts
least_end parts table n r l h =
    let a : r ≤ least_part (size_at table) parts = least_part_over (size_at table) parts r h.capped (λ part i. let p = place_in part parts i in h.low p.0 part (omega (arith, slice_get_within parts p.0 part p.1)) p.1) in
    ⊎_elim (λ z. omega (arith, z, least_part_low (size_at table) parts)) (λ z. omega (arith, z.2, least_part_le (size_at table) parts z.0 z.1)) h.one

-- all are past the last
abbrev pub AllPast : ℕ → List ℕ → Type 0
AllPast n table = (length table ≡ n) × ((x r : ℕ) → slice_get table x ≡ Some r → r ≡ past_last)

pub past_none : (table : List ℕ) → table ≡ [] → AllPast 0 table
past_none table e = (ap length e, λ x r b. absurd (none_some r (sym (ap (λ l. slice_get l x) e) ∙ b)))

pub past_next : (n : ℕ) (table more : List ℕ) → more ≡ table ++ past_last ∷ [] → AllPast n table → AllPast (n + 1) more
past_next n table more e h = subst (AllPast (n + 1)) (sym e) (one_longer table past_last ∙ ap (λ k. k + 1) h.0, λ x r b. ⊎_elim (λ o. h.1 x r o) (λ o. sym o.1) (get_last table past_last x r b))

-- structures back the numbers of the table
pub record IsBackedTable (p : Program) (table : List ℕ) : Type 0 where
  pub long : length table ≡ length p.nodes
  pub capped : IsCapped table
  pub backed : (x : ℕ) → size_at table x ≤ SIZE_LIMIT → Grown p (shape_of p x) (size_at table x)

by_option : (P : ℕ → Type 0) (o : Option ℕ) → P past_last → ((n : ℕ) → o ≡ Some n → P n) → P (or_past o)
by_option P None a b = a
by_option P (Some n) a b = b n refl

pub backed_start : (p : Program) (n : ℕ) (table : List ℕ) → n ≡ length p.nodes → AllPast n table → IsBackedTable p table
backed_start p n table e h = record {
  long = h.0 ∙ e;
  capped = λ x r g. omega (arith, h.1 x r g);
  backed = λ x l. absurd (let q : size_at table x ≡ past_last = by_option (λ k. k ≡ past_last) (slice_get table x) refl (λ r g. h.1 x r g) in omega arith);
}

set_cases : (table : List ℕ) (x n y r : ℕ) → slice_get (slice_set table x n) y ≡ Some r → ((y ≡ x) × (r ≡ n)) ⊎ (slice_get table y ≡ Some r)
set_cases [] x n y r g = inr g
set_cases (a ∷ table) zero n zero r g = inl (refl, sym (some_same n r g))
set_cases (a ∷ table) zero n (suc y) r g = inr g
set_cases (a ∷ table) (suc x) n zero r g = inr g
set_cases (a ∷ table) (suc x) n (suc y) r g = ⊎_elim (λ o. inl (ap suc o.0, o.1)) (λ o. inr o) (set_cases table x n y r g)

set_long : (table : List ℕ) (x n : ℕ) → length (slice_set table x n) ≡ length table
set_long [] x n = refl
set_long (a ∷ table) zero n = refl
set_long (a ∷ table) (suc x) n = omega (arith, set_long table x n)

abbrev pub sum_of : List ℕ → ℕ
sum_of [] = 0
sum_of (a ∷ table) = a + sum_of table

pub sum_falls : (table : List ℕ) (x n : ℕ) → x < length table → n < size_at table x → sum_of (slice_set table x n) < sum_of table
sum_falls [] x n h l = absurd (omega arith)
sum_falls (a ∷ table) zero n h l = omega arith
sum_falls (a ∷ table) (suc x) n h l = omega (arith, sum_falls table x n (omega arith) l)

module _ (p : Program) (q : IsProgram p) (f : IsFounded p) where
  pub backed_next : (nodes : List Node) (table slice new : List ℕ) (r : ℕ × ℕ) → nodes ≡ p.nodes → slice ≡ table → IsLess nodes slice r → new ≡ slice_set table r.0 r.1 → IsBackedTable p table → IsBackedTable p new
  backed_next nodes table slice new r d e less is b = subst (IsBackedTable p) (sym is) (record {
    long = set_long table r.0 r.1 ∙ b.long;
    capped = λ y k g. ⊎_elim (λ o. omega (arith, o.1, small)) (λ o. b.capped y k o) (set_cases table r.0 r.1 y k g);
    backed = λ y l. by_option (λ k. k ≤ SIZE_LIMIT → Grown p (shape_of p y) k) (slice_get (slice_set table r.0 r.1) y) (λ c. absurd (omega arith))
        (λ k g c. ⊎_elim
        (λ o. subst (λ z. Grown p (shape_of p z) k) (sym o.0) (subst (Grown p (shape_of p r.0)) (sym o.1) (here (omega (arith, o.1)))))
        (λ o. subst (Grown p (shape_of p y)) (ap or_past o) (b.backed y (omega (arith, ap or_past o))))
        (set_cases table r.0 r.1 y k g)) l;
  })
    where
      l : IsLess p.nodes table r
      l = subst (λ t. IsLess p.nodes t r) e (subst (λ ns. IsLess ns slice r) d less)

      small : r.1 ≤ past_last
      small = omega (arith, l.3, (min_cases past_last (least_by (size_at table) l.0.shape)).0)

      at : shape_of p r.0 ≡ l.0.shape
      at = shape_there p r.0 l.0 l.1

      here : r.1 ≤ SIZE_LIMIT → Grown p (shape_of p r.0) r.1
      here c =
          let same : r.1 ≡ least_by (size_at table) l.0.shape = ⊎_elim (λ z. absurd (omega (arith, z, l.3))) (λ z. l.3 ∙ z) (min_cases past_last (least_by (size_at table) l.0.shape)).2 in
          subst (λ s. Grown p s r.1) (sym at) (subst (Grown p l.0.shape) (sym same) (least_backed p q f (size_at table) b.backed r.0 l.0.shape at (omega (arith, same))))

  pub sizes_fall : (nodes : List Node) (table slice new : List ℕ) (r : ℕ × ℕ) → nodes ≡ p.nodes → slice ≡ table → IsLess nodes slice r → new ≡ slice_set table r.0 r.1 → IsBackedTable p table → sum_of new < sum_of table
  sizes_fall nodes table slice new r d e less is b =
      let l : IsLess p.nodes table r = subst (λ t. IsLess p.nodes t r) e (subst (λ ns. IsLess ns slice r) d less) in
      subst (λ t. sum_of t < sum_of table) (sym is) (sum_falls table r.0 r.1 (omega (arith, slice_get_within p.nodes r.0 l.0 l.1, b.long)) l.2)

  pub sizes_end : (nodes : List Node) (table slice : List ℕ) → nodes ≡ p.nodes → slice ≡ table → NoneLess nodes slice → IsBackedTable p table → AreLeast p table
  sizes_end nodes table slice d e none b = record { long = b.long; capped = b.capped; each = least_sizes p q f (size_at table) settled b.backed }
    where
      none_less : NoneLess p.nodes table
      none_less = subst (NoneLess p.nodes) e (subst (λ ns. NoneLess ns slice) d none)

      settled : IsSettled p (size_at table)
      settled x = ⊎_elim
          (λ a. subst (λ s. size_at table x ≤ least_by (size_at table) s) (sym a.2) (none_less x a.0 a.1))
          (λ u. subst (λ s. size_at table x ≤ least_by (size_at table) s) (sym u) (by_option (λ k. k ≤ past_last) (slice_get table x) (omega arith) (λ r g. b.capped x r g)))
          (node_at_place p x)

-- of the first n nodes that are made of less than the table has, one of the least, or there is none
abbrev pub LeastSoFar : List Node → List ℕ → ℕ → Option (ℕ × ℕ) → Type 0
LeastSoFar nodes table n next = MatchOption next (AllBefore (λ x (node : Node). size_at table x ≤ least_by (size_at table) node.shape) nodes n) (IsLess nodes table)

pub less_next : (nodes : List Node) (table : List ℕ) (n : ℕ) (node : Node) (size old : ℕ) (next new : Option (ℕ × ℕ)) → IsCapped table → n < length nodes → node ≡ get_or nodes n node → size ≡ min past_last (least_by (size_at table) node.shape) → old ≡ size_at table n
    → IsLesser next (n, size) old new → LeastSoFar nodes table n next → LeastSoFar nodes table (n + 1) new
less_next nodes table n node size old None None c l at s o h so =
    all_more (λ x (node : Node). size_at table x ≤ least_by (size_at table) node.shape) nodes n node at so (omega (arith, h.1, s, o, (min_cases past_last (least_by (size_at table) node.shape)).1))
less_next nodes table n node size old (Some r) None c l at s o h so = absurd (some_none r h.0)
  where
    some_none : (r : ℕ × ℕ) → Some r ≡ None → ⊥
    some_none r e = cc
less_next nodes table n node size old next (Some r) c l at s o h so = ⊎_elim
    (λ e. subst (λ z. LeastSoFar nodes table n z) e so)
    (λ z. subst (IsLess nodes table) (sym z.0) (node, slice_get_read nodes (length nodes) n node refl l at, omega (arith, z.1, o), s))
    h

pub less_end : (nodes : List Node) (table : List ℕ) (n : ℕ) (next : Option (ℕ × ℕ)) → length nodes ≤ n → LeastSoFar nodes table n next → MatchOption next (NoneLess nodes table) (IsLess nodes table)
less_end nodes table n None l so = all_end (λ x (node : Node). size_at table x ≤ least_by (size_at table) node.shape) nodes n l so
less_end nodes table n (Some r) l so = so
