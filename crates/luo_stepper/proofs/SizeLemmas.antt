-- The sizes that a first can have, by what the tables hold; and the first of what is left.
use Rattle.std.proofs.Common.{◌≡◌, ℕ, zero, suc, ◌+◌, ◌-◌, ◌*◌, ◌≤◌, ◌<◌, List, length, refl, sym, ◌∙◌, ap, subst, arith, Option, Ok, Err, IfOk, OnOk, Result}
use Rattle.std.proofs.Math.Nat.{mul-le-mul_right}
use Rattle.luo_num.specs.Mark.{capped}
use Rattle.luo_model.specs.Tree.{Trees, none, more, size_of, sizes_of, to_list}
use Rattle.luo_model.specs.Program.{Program, shape_of}
use Rattle.luo_model.specs.declared.program.Kind.{Kind}
use Rattle.luo_model.specs.declared.program.Shape.{Shape}
use Rattle.luo_model.specs.declared.program.Shape.TheVariants as shape
use Rattle.luo_model.specs.View.{plain_of}
use Rattle.luo_rank.proofs.TailLemmas.{bounds_at, parts_more}
use Rattle.luo_places.specs.Numbers.{PartsBefore}
use Rattle.luo_places.specs.Tails.{Tail, factors, items, TailOn, first_node, behind_first, behind_some, tail_of, tail_count}
use Rattle.luo_places.proofs.steps.Next.{first_at}
use Rattle.luo_finite.specs.Each.{total}
use Rattle.luo_rank.specs.inner.Lookup.{Looked, IsCounted, IsLeft, Stands, IsLess, IsUnder, Tailed, entry_of, tail_at, left_count, rank_in, work}
use Rattle.luo_stepper.specs.inner.Stepping.{Fills, Left, Began}
use Rattle.luo_stepper.proofs.RowLaws.{next_is}

-- the rest stands, behind a first of size k
left_one : (kind : Kind) (y low : ℕ) (high : Option ℕ) (f n : ℕ) → IsLeft (behind_some (items kind y low high) f) n → 1 ≤ n
left_one kind y low high f n l = let b = bounds_at kind y low high f in subst (λ v. IsLeft v n) b.tail l

pub next_stands_by : (q : Program) (x f n k last : ℕ) → Stands (shape_of q x) last f n → IsLeft (tail_at q x f) n → 1 ≤ k → k ≤ n → Stands (shape_of q x) last (f + 1) (n - k)
next_stands_by q x f n k last s l one w = by (shape_of q x) s l
  where
    by : (h : Shape) → Stands h last f n → IsLeft (behind_some (tail_of h) f) n → Stands h last (f + 1) (n - k)
    by (shape.Atom weight) s l = absurd s
    by (shape.Union parts) s l = absurd s
    by (shape.Product parts) s l = omega (arith, parts_more parts f n s l)
    by (shape.Coll kind part low high) s l = omega (arith, s, one, w)

positive : (v : ℕ) → (v ≡ 0 → ⊥) → 1 ≤ v
positive zero e = absurd (e refl)
positive (suc v) e = omega arith

-- the first and the rest have structures
module _ (t : Looked) (x f n node k entry v : ℕ) (first : node ≡ first_node (tail_at (plain_of t.program) x f)) (l : k ≤ n) (is : v ≡ capped (left_count t x (f + 1) (n - k))) where
  same : tail_count t.program.universe (entry_of t.counts) (behind_first (tail_at (plain_of t.program) x f)) (n - k) ≡ left_count t x (f + 1) (n - k)
  same = ap (λ g. left_count t x g (n - k)) (next_is f)

  capped_some : (c : ℕ) → 1 ≤ capped c → 1 ≤ c
  capped_some c h = omega (arith, h)

  some_capped : (c : ℕ) → 1 ≤ c → 1 ≤ capped c
  some_capped c h = omega (arith, h)

  pub fills_told : entry ≡ entry_of t.counts node k → (entry ≡ 0 → ⊥) → (v ≡ 0 → ⊥) → Fills t x f n k
  fills_told e some rest = (
    l,
    subst (λ y. 1 ≤ entry_of t.counts y k) first (let q : 1 ≤ entry = positive entry some in omega (arith, q, e)),
    subst (λ m. 1 ≤ m) (sym same) (capped_some (left_count t x (f + 1) (n - k)) (subst (λ m. 1 ≤ m) is (positive v rest))),
  )

  pub none_fills : v ≡ 0 → Fills t x f n k → ⊥
  none_fills z h =
      let q : 1 ≤ v = subst (λ m. 1 ≤ m) (sym is) (some_capped (left_count t x (f + 1) (n - k)) (subst (λ m. 1 ≤ m) same h.2)) in
      omega (arith, q, z)

-- whatever is left is less work than a size past the last
module _ (t : Looked) (k : IsCounted t) (x : ℕ) where
  abbrev most : ℕ
  most = work (plain_of t.program) (rank_in t.ranks) x (t.last + 1)

  less_work : (y n : ℕ) → n ≤ t.last → work (plain_of t.program) (rank_in t.ranks) y n < most
  less_work y n l =
      let r : rank_in t.ranks y ≤ length (plain_of t.program).nodes = k.ranked.below y in
      lighter n t.last (length (plain_of t.program).nodes) (rank_in t.ranks y) (rank_in t.ranks x) l r
    where
      lighter : (n last nodes a b : ℕ) → n ≤ last → a ≤ nodes → n * suc nodes + a < (last + 1) * suc nodes + b
      lighter n last nodes a b l r =
          let q : n * suc nodes ≤ last * suc nodes = mul-le-mul_right (suc nodes) l in
          let s : (last + 1) * suc nodes ≡ last * suc nodes + suc nodes = by_one last (suc nodes) in
          omega (arith, q, s, r)
        where
          by_one : (a c : ℕ) → (a + 1) * c ≡ a * c + c
          by_one a c = omega arith

  all_less : (tail : Tail) (ts : Trees) → sizes_of ts ≤ t.last → IsLess (plain_of t.program) (rank_in t.ranks) most tail ts
  all_less tail none l = tt
  all_less tail (more s ts) l = (less_work (first_node tail) (size_of s) (omega (arith, l)), all_less (behind_first tail) ts (omega (arith, l)))

  sizes_are : (tail : Tail) (L : List ℕ) (n : ℕ) (ts : Trees) → TailOn (plain_of t.program) tail L n ts → sizes_of ts ≡ n
  sizes_are (factors parts) L n ts m = m.1
  sizes_are (items kind y low high) L n ts m = list_size ts ∙ m.3
    where
      list_size : (ts : Trees) → sizes_of ts ≡ total size_of (to_list ts)
      list_size none = refl
      list_size (more s ts) = ap (λ m. size_of s + m) (list_size ts)

  pub begin_under : (f : ℕ) (L : List ℕ) (n r top : ℕ) → top ≡ t.last + 1 → n ≤ t.last → IsUnder (plain_of t.program) (rank_in t.ranks) (work (plain_of t.program) (rank_in t.ranks) x top) (tail_at (plain_of t.program) x f) L n r
  begin_under f L n r top e l = λ ts m. subst (λ v. IsLess (plain_of t.program) (rank_in t.ranks) (work (plain_of t.program) (rank_in t.ranks) x v) (tail_at (plain_of t.program) x f) ts) (sym e)
      (all_less (tail_at (plain_of t.program) x f) ts (omega (arith, sizes_are (tail_at (plain_of t.program) x f) L n ts m.there, l)))

-- what stands at place 0 begins
pub began : (t : Looked) (x f : ℕ) (L : List ℕ) (n : ℕ) (old new : Trees) → Tailed (plain_of t.program) x f L n 0 old new → Began t x f L n old new
began t x f L n old new (us, m, e) = (us, first_at (Left t x f L n) PartsBefore us m, e)

pub if_ok_into : {A E : Type 0} (r : Result A E) (P Q : A → Type 0) → ((a : A) → P a → Q a) → IfOk r P → IfOk r Q
if_ok_into (Ok a) P Q f h = f a h
if_ok_into (Err e) P Q f h = h

pub on_ok_into : {A E : Type 0} (r : Result A E) (P Q : Type 0) → (P → Q) → OnOk r P → OnOk r Q
on_ok_into (Ok a) P Q f h = f h
on_ok_into (Err e) P Q f h = h
