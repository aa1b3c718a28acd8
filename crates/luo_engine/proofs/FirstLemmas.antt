-- The first entry that overflows.
use Rattle.std.proofs.Common.{◌≡◌, ◌⊎◌, ℕ, ◌+◌, ◌≤◌, ◌<◌, inl, inr, ⊎_elim, List, length, sym, ap, subst, arith}
use Rattle.luo_num.specs.declared.TheConstants.{MAX}
use Rattle.luo_model.specs.declared.table.Entry.{Entry}
use Rattle.luo_model.specs.declared.table.Entry.TheVariants.{Count, Total}
use Rattle.luo_model.specs.declared.table.Fill.{Fill}
use Rattle.luo_model.specs.declared.table.Fill.TheVariants.{Counts, All}
use Rattle.luo_model.specs.Program.{Program, site_node}
use Rattle.luo_model.specs.Invariant.{IsProgram}
use Rattle.luo_model.specs.Tables.{IsCount, IsTotal}
use Rattle.luo_model.specs.Levels.{IsRank, IsLevel}
use Rattle.luo_engine.specs.Entries.{IsThere, Has, IsNumber, Precedes, IsEarlier, IsFirstOver, NoneOver}
use Rattle.luo_engine.specs.inner.Filled.{rank_of, AreRanks, IsBefore, IsFirstPast, IsFirstPastOf}
use Rattle.luo_engine.specs.inner.Listed.{IsSiteBefore}
use Rattle.luo_engine.proofs.inner.RankFacts.{rank_one}
use Rattle.luo_engine.proofs.inner.LevelLemmas.{level_one}

-- of two counts, which comes before the other
pub count_before : (p : Program) (ranks : List ℕ) → AreRanks p ranks → (x y : ℕ) → x < length p.nodes → y < length p.nodes → Precedes p (Count x) (Count y) → IsBefore ranks x y
count_before p ranks a x y h k (r, q, ir, iq, l) =
    let e : r ≡ rank_of ranks x = rank_one p x r (rank_of ranks x) ir (a.ranked x h) in
    let f : q ≡ rank_of ranks y = rank_one p y q (rank_of ranks y) iq (a.ranked y k) in
    ⊎_elim (λ c. inl (omega (arith, c, e, f))) (λ c. inr (omega (arith, c.0, e, f), c.1)) l

-- a count that overflows is the first entry that does, where the totals of smaller sizes don't
pub count_over : (p : Program) (ranks : List ℕ) → AreRanks p ranks → (last filled : ℕ) (fill : Fill) (x : ℕ) → filled ≤ last
    → (fill ≡ All → (i m v : ℕ) → i < length p.sites → m < filled → IsTotal p i m v → v ≤ MAX) → IsFirstPast p ranks filled x → IsFirstOver p last fill (Count x) filled
count_over p ranks ranked last filled fill x room totals f = record { there = f.there; had = tt; within = room; over = f.past; earlier = earlier }
  where
    earlier : (other : Entry) (m v : ℕ) → IsThere p other → Has fill other → IsEarlier p other m (Count x) filled → IsNumber p other m v → v ≤ MAX
    earlier (Count y) m v h has (inl l) e = f.smaller y m v h l e
    earlier (Count y) m v h has (inr b) e = f.before y v h (count_before p ranks ranked y x h f.there b.1) (subst (λ k. IsCount p y k v) b.0 e)
    earlier (Total i) m v h has (inl l) e = totals has i m v h l e
    earlier (Total i) m v h has (inr b) e = absurd b.1

pub no_first : (p : Program) (last : ℕ) (fill : Fill) → ((n : ℕ) → n ≤ last → NoneOver p fill n) → (e : Entry) (n : ℕ) → IsFirstOver p last fill e n → ⊥
no_first p last fill none e n f = let v = none n f.within e f.over.0 f.there f.had f.over.1 in absurd (omega (arith, v, f.over.2))

-- of two totals, which comes before the other
pub total_before : (p : Program) → IsProgram p → (ranks levels : List ℕ) (i j : ℕ) → IsRank p (site_node p i) (rank_of ranks i) → IsRank p (site_node p j) (rank_of ranks j) → IsLevel p i (rank_of levels i) → IsLevel p j (rank_of levels j)
    → Precedes p (Total i) (Total j) → IsSiteBefore ranks levels i j
total_before p c ranks levels i j ri rj li lj (r, q, l, m, ir, iq, il, im, b) =
    let e : r ≡ rank_of ranks i = rank_one p (site_node p i) r (rank_of ranks i) ir ri in
    let f : q ≡ rank_of ranks j = rank_one p (site_node p j) q (rank_of ranks j) iq rj in
    let g : l ≡ rank_of levels i = level_one p c i l (rank_of levels i) il li in
    let h : m ≡ rank_of levels j = level_one p c j m (rank_of levels j) im lj in
    ⊎_elim (λ a. inl (omega (arith, a, e, f))) (λ a. inr (omega (arith, a.0, e, f), ⊎_elim (λ d. inl (omega (arith, d, g, h))) (λ d. inr (omega (arith, d.0, g, h), d.1)) a.1)) b

-- a total that overflows is the first entry that does, where no count of its size does
pub total_over : (p : Program) → IsProgram p → (ranks levels : List ℕ) → ((i : ℕ) → i < length p.sites → IsRank p (site_node p i) (rank_of ranks i) × IsLevel p i (rank_of levels i))
    → (last filled : ℕ) (fill : Fill) (i : ℕ) → filled ≤ last → fill ≡ All → ((x m v : ℕ) → x < length p.nodes → m < filled + 1 → IsCount p x m v → v ≤ MAX)
    → IsFirstPastOf (IsTotal p) (length p.sites) (IsSiteBefore ranks levels) filled i → IsFirstOver p last fill (Total i) filled
total_over p c ranks levels ranked last filled fill i room all counts f = record { there = f.there; had = all; within = room; over = f.past; earlier = earlier }
  where
    earlier : (other : Entry) (m v : ℕ) → IsThere p other → Has fill other → IsEarlier p other m (Total i) filled → IsNumber p other m v → v ≤ MAX
    earlier (Count y) m v h has (inl l) e = counts y m v h (omega (arith, l)) e
    earlier (Count y) m v h has (inr b) e = counts y m v h (omega (arith, b.0)) e
    earlier (Total j) m v h has (inl l) e = f.smaller j m v h l e
    earlier (Total j) m v h has (inr b) e =
        f.before j v h (total_before p c ranks levels j i (ranked j h).0 (ranked i f.there).0 (ranked j h).1 (ranked i f.there).1 b.1) (subst (λ k. IsTotal p j k v) b.0 e)

pub counts_not_all : Counts ≡ All → ⊥
counts_not_all e = absurd (cc)

-- where no count of the size overflows, and no total where there are totals, no entry does
pub none_over : (p : Program) (fill : Fill) (n : ℕ) → ((x v : ℕ) → x < length p.nodes → IsCount p x n v → v ≤ MAX) → (fill ≡ All → (i v : ℕ) → i < length p.sites → IsTotal p i n v → v ≤ MAX) → NoneOver p fill n
none_over p fill n counts totals (Count x) v h has e = counts x v h e
none_over p fill n counts totals (Total i) v h has e = totals has i v h e
