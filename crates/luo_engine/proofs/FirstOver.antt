-- At most one entry is the first that overflows, and where none is, none does.
use Rattle.std.proofs.Common.{◌≡◌, ℕ, ◌<◌, ◌≤◌, inl, inr, sym, subst, arith, length}
use Rattle.luo_num.specs.declared.TheConstants.{MAX}
use Rattle.luo_model.specs.declared.table.Entry.{Entry}
use Rattle.luo_model.specs.declared.table.Entry.TheVariants.{Count, Total}
use Rattle.luo_model.specs.declared.table.Fill.{Fill}
use Rattle.luo_model.specs.Program.{Program, site_node}
use Rattle.luo_model.specs.Invariant.{IsProgram}
use Rattle.luo_model.specs.Founded.{IsFounded}
use Rattle.luo_model.specs.Levels.{IsRank, IsLevel}
use Rattle.luo_model.specs.Tables.{IsCount, IsTotal}
use Rattle.luo_engine.specs.Entries.{IsThere, Has, IsNumber, LessOr, Precedes, IsEarlier, IsFirstOver, NoneOver}
use Rattle.luo_engine.specs.FirstOver.{FirstOverIsOne, NoneOrFirst}
use Rattle.luo_engine.proofs.inner.RankFacts.{not_less, rank_comes, rank_one}
use Rattle.luo_engine.proofs.inner.LevelFacts.{level_exists}
use Rattle.luo_engine.proofs.inner.LevelLemmas.{level_one}
use Rattle.luo_engine.proofs.EntryOrder.{equal_first, entries_equal, precedes_either, by_less, by_pairs, by_triples}

past : (v : ℕ) → MAX < v → v ≤ MAX → ⊥
past v h k = omega (arith, h, k)

not_earlier : (p : Program) (last : ℕ) (fill : Fill) (a b : Entry) (m n : ℕ) → IsFirstOver p last fill a m → IsFirstOver p last fill b n → IsEarlier p a m b n → ⊥
not_earlier p last fill a b m n x y l = let (v, is, over) = x.over in past v over (y.earlier a m v x.there x.had l is)

pub first_over_is_one : FirstOverIsOne
first_over_is_one p q f last fill a b m n x y =
    let e : m ≡ n = equal_first m n _ _ (not_earlier p last fill a b m n x y) (not_earlier p last fill b a n m y x) in
    (entries_equal a b (precedes_either p q f a b x.there y.there (λ l. not_earlier p last fill a b m n x y (inr (e, l))) (λ l. not_earlier p last fill b a n m y x (inr (sym e, l)))), e)

module _ (p : Program) (q : IsProgram p) (f : IsFounded p) (last : ℕ) (fill : Fill) (none : (entry : Entry) (n : ℕ) → IsFirstOver p last fill entry n → ⊥) where
  abbrev AllBefore : Entry → ℕ → Type 0
  AllBefore entry n = (other : Entry) (m w : ℕ) → IsThere p other → Has fill other → IsEarlier p other m entry n → IsNumber p other m w → w ≤ MAX

  -- an entry whose earlier ones don't overflow doesn't either
  small : (entry : Entry) (n v : ℕ) → n ≤ last → IsThere p entry → Has fill entry → IsNumber p entry n v → AllBefore entry n → v ≤ MAX
  small entry n v h there had is earlier = not_less v MAX (λ over. none entry n (record { there = there; had = had; within = h; over = (v, is, over); earlier = earlier }))

  module _ (n : ℕ) (before : (m : ℕ) → m < n → NoneOver p fill m) (h : n ≤ last) where
    abbrev SmallCount : ℕ → ℕ → Type 0
    SmallCount r x = IsRank p x r → x < length p.nodes → (v : ℕ) → IsCount p x n v → v ≤ MAX

    before_count : (r x : ℕ) → IsRank p x r → ((s y : ℕ) → LessOr s r (y < x) → SmallCount s y) → AllBefore (Count x) n
    before_count r x R earlier other m w there had (inl l) is = before m l other w there had is
    before_count r x R earlier (Count y) m w there had (inr (e, (s, k, S, K, l))) is =
        earlier s y (subst (λ z. LessOr s z (y < x)) (rank_one p x k r K R) l) S there w (subst (λ z. IsCount p y z w) e is)
    before_count r x R earlier (Total j) m w there had (inr (e, l)) is = absurd l

    counts_small : (r x : ℕ) → SmallCount r x
    counts_small = by_pairs SmallCount (λ r x earlier R there v is. small (Count x) n v h there tt is (before_count r x R earlier))

    count_small : (x v : ℕ) → x < length p.nodes → IsCount p x n v → v ≤ MAX
    count_small x v there is = not_less v MAX (λ over. rank_comes p q f x (λ r R. past v over (counts_small r x R there v is)))

    abbrev SmallTotal : ℕ → ℕ → ℕ → Type 0
    SmallTotal r l i = IsRank p (site_node p i) r → IsLevel p i l → i < length p.sites → Has fill (Total i) → (v : ℕ) → IsTotal p i n v → v ≤ MAX

    before_total : (r l i : ℕ) → IsRank p (site_node p i) r → IsLevel p i l → ((s m j : ℕ) → LessOr s r (LessOr m l (j < i)) → SmallTotal s m j) → AllBefore (Total i) n
    before_total r l i R L earlier other m w there had (inl less) is = before m less other w there had is
    before_total r l i R L earlier (Count y) m w there had (inr (e, less)) is = count_small y w there (subst (λ z. IsCount p y z w) e is)
    before_total r l i R L earlier (Total j) m w there had (inr (e, (s, k, t, u, S, K, T, U, less))) is =
        let same : LessOr s r (LessOr t u (j < i)) = subst (λ z. LessOr s z (LessOr t u (j < i))) (rank_one p (site_node p i) k r K R) less in
        earlier s t j (subst (λ z. LessOr s r (LessOr t z (j < i))) (level_one p q i u l U L) same) S T there had w (subst (λ z. IsTotal p j z w) e is)

    totals_small : (r l i : ℕ) → SmallTotal r l i
    totals_small = by_triples SmallTotal (λ r l i earlier R L there had v is. small (Total i) n v h there had is (before_total r l i R L earlier))

    none_over : NoneOver p fill n
    none_over (Count x) v there had is = count_small x v there is
    none_over (Total i) v there had is =
        let l = level_exists p q f i there in
        not_less v MAX (λ over. rank_comes p q f (site_node p i) (λ r R. past v over (totals_small r l.0 i R l.1 there had v is)))

  none_at : (n : ℕ) → n ≤ last → NoneOver p fill n
  none_at = by_less (λ n. n ≤ last → NoneOver p fill n) (λ n before h. none_over n (λ m l. before m l (omega (arith, l, h))) h)

pub none_or_first : NoneOrFirst
none_or_first = none_at
